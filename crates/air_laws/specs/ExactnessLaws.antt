-- Laws of what a receiver has of the airing on air.
use Rattle.std.specs.Prelude.{◌≡◌, ℕ, ◌*◌, ◌<◌, List, ◌∷◌, ◌++◌, true, map, slice_range, Some}
use Rattle.std.specs.List.{AllByRecursion}
use Rattle.section_codec.specs.declared.table.Key.{Key}
use Rattle.section_codec.specs.Contents.{Content}
use Rattle.version_book.specs.Airings.{AiredTables, content_at}
use Rattle.ts_packets.specs.Bytes.{bytes_of_packet}
use Rattle.section_codec.specs.Tables.{is_counted}
use Rattle.guide_receiver.specs.Dones.{counted_heard}
use Rattle.guide_receiver.specs.Guides.{view_of}
use Rattle.guide_screen.specs.Holding.{content_in}
use Rattle.air_model.specs.Air.{Aired, air}
use Rattle.air_model.specs.Repeating.{IsRepeatingAirOf}
use Rattle.air_laws.specs.Counting.{CanBeHeard}
use Rattle.air_laws.specs.Exact.{StaysOnAir, HaveOneEach, TellOffsetsOf, HasOnAir}

-- Where all packets of a cycle are heard, and its sub-tables stay on air, the content that is heard last of each key that it carries is the
-- one that it carries, whatever was heard before.
abbrev pub ContentsAreHeard : Type 0
ContentsAreHeard =
    (airings : List AiredTables) (before : List Aired) (x : Aired) (after : List Aired) → IsRepeatingAirOf airings (before ++ x ∷ after) → AllByRecursion CanBeHeard airings
    → (join end : ℕ) → StaysOnAir join end before x after → (k : Key) → is_counted k.pid k.table ≡ true → (c : Content) → content_at k x.airing ≡ Some c
    → content_in (counted_heard (map bytes_of_packet (slice_range (air (before ++ x ∷ after)) join end))) k ≡ Some c

-- So a receiver has what is on air, where of the tables that come once all airings have the same, describe the same other streams, and tell
-- the same offsets: the contents, the keys, those of the SDTs of these streams, a moment, and the offsets.
abbrev pub OnAirIsHeard : Type 0
OnAirIsHeard =
    (airings : List AiredTables) (before : List Aired) (x : Aired) (after : List Aired) → IsRepeatingAirOf airings (before ++ x ∷ after) → AllByRecursion CanBeHeard airings
    → (join end : ℕ) → StaysOnAir join end before x after → x.airing.moment < 65536 * 86400 → (pat nit sdt : Key) (others : List Key)
    → HaveOneEach airings x.airing pat nit sdt others → TellOffsetsOf x.airing airings
    → HasOnAir x.airing pat nit sdt others (view_of (map bytes_of_packet (slice_range (air (before ++ x ∷ after)) join end)))
