-- Laws of what a receiver shows of an air of publications.
use Rattle.std.specs.Prelude.{ℕ, ◌*◌, ◌<◌, List, ◌∷◌, ◌++◌, length, map, slice_range}
use Rattle.std.specs.List.{AllByRecursion}
use Rattle.guide_model.specs.declared.guide.Guide.{Guide}
use Rattle.mux_model.specs.declared.mux.Mux.{Mux}
use Rattle.mux_model.specs.Sound.{IsSoundWithIds}
use Rattle.version_book.specs.Airings.{AiredTables}
use Rattle.ts_packets.specs.Bytes.{bytes_of_packet}
use Rattle.air_model.specs.Air.{Aired, air}
use Rattle.air_model.specs.Repeating.{IsRepeatingAirOf}
use Rattle.air_laws.specs.Counting.{CanBeHeard}
use Rattle.journal_air.specs.Published.{CanBePublished, ArePublished, HaveOffsetsOf, number_at, StaysPublished, AreShown}

-- Where a publication stays on air, the packets heard show its guide, with the offsets of the multiplex.
abbrev pub PublishedIsShown : Type 0
PublishedIsShown =
    (mux : Mux) (guides : ℕ → Guide) (numbers : List ℕ) (airings : List AiredTables) → IsSoundWithIds mux → ((n : ℕ) → CanBePublished mux (guides n))
    → ArePublished mux guides numbers airings → HaveOffsetsOf mux airings → AllByRecursion CanBeHeard airings → (before : List Aired) (x : Aired) (after : List Aired)
    → IsRepeatingAirOf airings (before ++ x ∷ after) → x.airing.moment < 65536 * 86400 → (join end : ℕ) → StaysPublished numbers join end before x after
    → AreShown mux (guides (number_at numbers (length before))) (map bytes_of_packet (slice_range (air (before ++ x ∷ after)) join end))
