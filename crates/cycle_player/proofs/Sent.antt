-- What was sent of an air, however it ended.
use Rattle.std.proofs.Common.{◌≡◌, ℕ, ◌+◌, List, [], ◌∷◌, ◌++◌, Option, length, take, refl, sym, ap, ◌∙◌, subst, arith, append-nil}
use Rattle.std.specs.Prelude.{flat_map}
use Rattle.std.specs.List.{AllByRecursion}
use Rattle.std.specs.Io.KnownBytes.{Appends}
use Rattle.std.proofs.lemmas.List.{take_all}
use Rattle.std.proofs.Math.Seq.{take-append-add}
use Rattle.si_lists.proofs.Lists.{all_front}
use Rattle.ts_packets.specs.Bytes.{bytes_of_packet}
use Rattle.version_book.specs.Airings.{AiredTables}
use Rattle.air_model.specs.Air.{Aired, airings_of, air_bytes}
use Rattle.air_model.specs.Repeating.{IsRepeatingAirOf}
use Rattle.air_model.proofs.Airs.{air_bytes-push}
use Rattle.cycle_player.specs.Airs.{AreMadeAt, IsAirAt}
use Rattle.cycle_player.specs.Sent.{SentOf, IsSentWhole}
use Rattle.cycle_player.proofs.Airs.{air_repeats, airings_are, own_airings}

module _ (rate : Option ℕ) (airings : List AiredTables) (before now : Option (List ℕ)) where
  -- whole cycles of the first of some airings
  pub cycles_sent : (others : List AiredTables) (cycles : List Aired) → airings ≡ airings_of cycles ++ others → IsAirAt rate (airings_of cycles) cycles → AreMadeAt rate [] cycles
      → Appends before now (air_bytes cycles) → SentOf rate airings before now
  cycles_sent others cycles are is made bytes = record {
    cycles = cycles;
    others = others;
    airings_are = are;
    is_air = is;
    made = made;
    size = length (air_bytes cycles);
    bytes = subst (Appends before now) (sym (take_all (length (air_bytes cycles)) (air_bytes cycles) (omega arith))) bytes;
  }

  all_of : (cycles : List Aired) → IsAirAt rate airings cycles → airings ≡ airings_of cycles ++ []
  all_of cycles is = sym (airings_are rate airings cycles is) ∙ sym (append-nil (airings_of cycles))

  -- the whole air
  pub whole_sent : (cycles : List Aired) → IsAirAt rate airings cycles → AreMadeAt rate [] cycles → Appends before now (air_bytes cycles)
      → (sent : SentOf rate airings before now) × IsSentWhole sent
  unfolding cycles_sent
  whole_sent cycles is made bytes = (cycles_sent [] cycles (all_of cycles is) (own_airings rate airings cycles is) made bytes, (refl, refl))

  -- whole cycles, and a part of the last
  pub cut_sent : (whole : List Aired) (cut : Aired) (taken : ℕ) → IsAirAt rate airings (whole ++ cut ∷ []) → AreMadeAt rate [] (whole ++ cut ∷ [])
      → Appends before now (air_bytes whole ++ take taken (flat_map bytes_of_packet cut.packets)) → SentOf rate airings before now
  cut_sent whole cut taken is made bytes =
      let cycles : List Aired = whole ++ cut ∷ [] in
      let size : ℕ = length (air_bytes whole) + taken in
      let are : take size (air_bytes cycles) ≡ air_bytes whole ++ take taken (flat_map bytes_of_packet cut.packets) =
      ap (take size) (air_bytes-push whole cut) ∙ take-append-add (air_bytes whole) (flat_map bytes_of_packet cut.packets) taken in
      record {
        cycles = cycles;
        others = [];
        airings_are = all_of cycles is;
        is_air = own_airings rate airings cycles is;
        made = made;
        size = size;
        bytes = subst (Appends before now) (sym are) bytes;
      }

  module _ (sent : SentOf rate airings before now) where
    pub sent_repeats : IsRepeatingAirOf (airings_of sent.cycles) sent.cycles
    sent_repeats = air_repeats rate (airings_of sent.cycles) sent.cycles sent.is_air

    -- what holds of all airings holds of those that were sent
    pub each_sent : (P : AiredTables → Type 0) → AllByRecursion P airings → AllByRecursion P (airings_of sent.cycles)
    each_sent P all = all_front P (airings_of sent.cycles) sent.others (subst (AllByRecursion P) sent.airings_are all)
