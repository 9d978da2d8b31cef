-- Laws of what is shown of the air of a journal.
use Rattle.std.specs.Prelude.{◌≡◌, ℕ, List, ◌++◌, take, drop, Option, Some}
use Rattle.std.specs.Io.KnownBytes.{Appends}
use Rattle.mux_model.specs.declared.mux.Mux.{Mux}
use Rattle.version_book.specs.Airings.{AiredTables}
use Rattle.journal_model.specs.declared.step.Entry.{Entry}
use Rattle.desk_core.specs.Journal.{Legal}
use Rattle.ts_packets.specs.WholePackets.{whole_packets}
use Rattle.air_model.specs.Air.{Aired, airings_of, air_bytes}
use Rattle.air_model.specs.Repeating.{IsRepeatingAirOf}
use Rattle.cycle_player.specs.Sent.{SentOf, packets_sent}
use Rattle.guide_screen.specs.declared.need.Heard.{Heard}
use Rattle.guide_receiver.specs.Guides.{guide_of}
use Rattle.journal_air.specs.Air.{airings}
use Rattle.journal_air.specs.JournalScreenShown.{IsAsRead, IsExact}
use Rattle.journal_air.specs.Last.{EndsPublished, IsShownLast}
use Rattle.cycle_player.specs.Airs.{IsAirAt}

-- The air of a legal journal, or of its first airings, is exact, and so are its first bytes alone.
abbrev pub JournalsAreShown : Type 0
JournalsAreShown =
    (mux : Mux) (journal : List Entry) → IsAsRead mux journal → Legal mux journal → (cycles : List Aired) (others : List AiredTables)
    → airings mux journal ≡ airings_of cycles ++ others → IsRepeatingAirOf (airings_of cycles) cycles
    → (n : ℕ) → IsExact mux journal cycles (whole_packets (take n (air_bytes cycles)))

-- So is what was sent of it.
abbrev pub SentIsShown : Type 0
SentIsShown =
    (mux : Mux) (journal : List Entry) → IsAsRead mux journal → Legal mux journal → (before now : Option (List ℕ))
    → (sent : SentOf mux.rate (airings mux journal) before now) → IsExact mux journal sent.cycles (packets_sent sent)

-- And where a journal ends with a publish and two swaps, its air ends with the screen of all accepted edits.
abbrev pub JournalsEndShown : Type 0
JournalsEndShown =
    (who join : ℕ) (mux : Mux) (journal : List Entry) → IsAsRead mux journal → Legal mux journal → EndsPublished who journal → (cycles : List Aired)
    → IsAirAt mux.rate (airings mux journal) cycles → (before now : Option (List ℕ)) → Appends before now (air_bytes cycles) → (heard : Option Heard)
    → heard ≡ Some (guide_of (drop join (whole_packets (air_bytes cycles)))) → IsShownLast join mux journal before now heard
