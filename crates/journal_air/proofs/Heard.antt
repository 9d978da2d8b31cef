-- How an air of a journal is heard.
use Rattle.std.proofs.Common.{◌≡◌, ◌*◌, ◌/◌, List, [], length, take, refl, sym, ◌∙◌, subst, arith, map, append-nil}
use Rattle.std.proofs.lemmas.List.{length-map, take_all}
use Rattle.version_book.specs.Airings.{AiredTables}
use Rattle.ts_packets.specs.Bytes.{bytes_of_packet}
use Rattle.ts_packets.specs.WholePackets.{whole_packets}
use Rattle.air_model.specs.Air.{Aired, air, air_bytes, airings_of}
use Rattle.air_model.specs.Repeating.{IsRepeatingAirOf}
use Rattle.cycle_player.specs.Airs.{IsAirAt}
use Rattle.cycle_player.proofs.Airs.{air_repeats}
use Rattle.air_laws.specs.Coherence.{IsCoherent}
use Rattle.air_laws.proofs.Coherent.{front_is_coherent, front_packets}
use Rattle.mux_model.specs.declared.mux.Mux.{Mux}
use Rattle.journal_model.specs.declared.step.Entry.{Entry}
use Rattle.desk_core.specs.Journal.{Legal}
use Rattle.journal_air.specs.Air.{airings}
use Rattle.journal_air.proofs.CarryFacts.{airings_heard}
use Rattle.journal_air.specs.JournalScreenShown.{IsAsRead, IsExact}
use Rattle.journal_air.specs.Heard.{IsHeardAs}
use Rattle.journal_air.proofs.JournalScreenShown.{journals_shown}

all_packets : (aired : List AiredTables) (cycles : List Aired) → IsRepeatingAirOf aired cycles → whole_packets (take (188 * length (air cycles)) (air_bytes cycles)) ≡ map bytes_of_packet (air cycles)
all_packets aired cycles is =
    let n = 188 * length (air cycles) in
    let count : n / 188 ≡ length (air cycles) = omega arith in
    front_packets aired cycles is n ∙ take_all (n / 188) (map bytes_of_packet (air cycles)) (omega (arith, count, length-map (air cycles) bytes_of_packet))

-- an air of a legal journal that lines give
pub airs_heard : (mux : Mux) (journal : List Entry) (cycles : List Aired) → IsAsRead mux journal → Legal mux journal → IsAirAt mux.rate (airings mux journal) cycles
    → IsHeardAs mux journal (map bytes_of_packet (air cycles))
airs_heard mux journal cycles read legal is =
    let aired = airings mux journal in
    let n = 188 * length (air cycles) in
    let repeating : IsRepeatingAirOf aired cycles = air_repeats mux.rate aired cycles is in
    let all = all_packets aired cycles repeating in
    let own =
    subst (λ (l : List AiredTables). IsRepeatingAirOf l cycles) (sym repeating.airings_are) repeating in
    record {
      cycles = cycles;
      is_air = is;
      packets_are = refl;
      coherent = subst (IsCoherent cycles) all (front_is_coherent aired cycles repeating (airings_heard mux journal read.sound read.edits legal) n);
      exact = subst (IsExact mux journal cycles) all (journals_shown mux journal read legal cycles [] (sym repeating.airings_are ∙ sym (append-nil (airings_of cycles))) own n);
    }
