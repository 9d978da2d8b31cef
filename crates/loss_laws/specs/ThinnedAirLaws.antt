-- Laws of what is heard of an air from which packets were lost.
use Rattle.std.specs.Prelude.{◌≡◌, ℕ, ◌*◌, ◌<◌, List, ◌∷◌, ◌++◌, true, map, Some}
use Rattle.std.specs.List.{AllByRecursion}
use Rattle.section_codec.specs.declared.table.Key.{Key}
use Rattle.section_codec.specs.Contents.{Content}
use Rattle.version_book.specs.Airings.{AiredTables, content_at}
use Rattle.ts_packets.specs.Bytes.{Packet, bytes_of_packet}
use Rattle.section_codec.specs.Tables.{is_counted}
use Rattle.sub_collect.specs.Marks.{completions_over, content_over}
use Rattle.strict_receiver.specs.Strict.{taken_of, strict_dones_by, strict_view}
use Rattle.strict_receiver.specs.Laws.{IsHeardAlike}
use Rattle.air_model.specs.Air.{Aired, air}
use Rattle.air_model.specs.Repeating.{IsRepeatingAirOf}
use Rattle.air_laws.specs.Counting.{CanBeHeard}
use Rattle.air_laws.specs.Exact.{HaveOneEach, TellOffsetsOf, HasOnAir}
use Rattle.loss_laws.specs.Thinned.{Fate, bytes_that_came, IsThinnedAir, IsAiredAmong, IsDoneAmong, CameWhole}

-- Whatever is completed of any key of a thinned air is the content of one airing, of whose cycle a packet came.
abbrev pub ThinnedAirIsCoherent : Type 0
ThinnedAirIsCoherent =
    (airings : List AiredTables) (xs : List Aired) → IsRepeatingAirOf airings xs → AllByRecursion CanBeHeard airings → (fates : List Fate) → IsThinnedAir xs fates
    → (k : Key) → AllByRecursion (IsAiredAmong fates xs) (completions_over k (taken_of (bytes_that_came fates)))

-- So is each completion that one of its packets shows.
abbrev pub ThinnedDonesAreAired : Type 0
ThinnedDonesAreAired =
    (airings : List AiredTables) (xs : List Aired) → IsRepeatingAirOf airings xs → AllByRecursion CanBeHeard airings
    → (fates : List Fate) → IsThinnedAir xs fates
    → (past rest : List (List ℕ)) (packet : List ℕ) → bytes_that_came fates ≡ past ++ packet ∷ rest
    → AllByRecursion (IsDoneAmong fates xs) (strict_dones_by past packet)

-- A part of an air without losses has no break, so a strict receiver hears it as any receiver does.
abbrev pub PartOfAirIsHeardAlike : Type 0
PartOfAirIsHeardAlike =
    (airings : List AiredTables) (xs : List Aired) → IsRepeatingAirOf airings xs
    → (front part back : List Packet) → air xs ≡ front ++ (part ++ back) → IsHeardAlike (map bytes_of_packet part)

-- Where a whole cycle came, and its sub-tables stay on air, the content that is completed last of each key that it carries is the one that it
-- carries, whatever was lost before.
abbrev pub ThinnedContentsAreHeard : Type 0
ThinnedContentsAreHeard =
    (airings : List AiredTables) (before : List Aired) (x : Aired) (after : List Aired) → IsRepeatingAirOf airings (before ++ x ∷ after) → AllByRecursion CanBeHeard airings
    → (fates : List Fate) → IsThinnedAir (before ++ x ∷ after) fates → CameWhole fates before x after
    → (k : Key) → is_counted k.pid k.table ≡ true → (c : Content) → content_at k x.airing ≡ Some c
    → content_over (taken_of (bytes_that_came fates)) k ≡ Some c

-- So a receiver has what is on air, where of the tables that come once all airings have the same, describe the same other streams, and tell
-- the same offsets: the contents, the keys, those of the SDTs of these streams, a moment, and the offsets.
abbrev pub ThinnedOnAirIsHeard : Type 0
ThinnedOnAirIsHeard =
    (airings : List AiredTables) (before : List Aired) (x : Aired) (after : List Aired) → IsRepeatingAirOf airings (before ++ x ∷ after) → AllByRecursion CanBeHeard airings
    → (fates : List Fate) → IsThinnedAir (before ++ x ∷ after) fates → CameWhole fates before x after
    → x.airing.moment < 65536 * 86400 → (pat nit sdt : Key) (others : List Key)
    → HaveOneEach airings x.airing pat nit sdt others → TellOffsetsOf x.airing airings
    → HasOnAir x.airing pat nit sdt others (strict_view (bytes_that_came fates))
