-- What was sent behind earlier cycles is coherent, exact and spaced with them.
use Rattle.std.proofs.Common.{◌≡◌, ◌<◌, ℕ, List, [], ◌∷◌, ◌++◌, length, take, sym, ap, ◌∙◌, subst, append_assoc}
use Rattle.std.specs.Prelude.{flat_map, Some, Ok, Err}
use Rattle.std.proofs.lemmas.List.Concat.{flat_map-append}
use Rattle.ts_packets.specs.Bytes.{bytes_of_packet}
use Rattle.air_model.specs.Air.{Aired, air, air_bytes}
use Rattle.cycle_player.specs.Airs.{AreMadeAt, IsAirAt}
use Rattle.cycle_player.proofs.Airs.{made_join}
use Rattle.mux_model.specs.declared.mux.Mux.{Mux}
use Rattle.journal_model.specs.declared.step.Entry.{Entry}
use Rattle.desk_core.specs.Journal.{Legal}
use Rattle.journal_air.specs.Air.{airings}
use Rattle.journal_air.specs.JournalScreenShown.{IsAsRead}
use Rattle.journal_air.specs.declared.send.SendStop.TheVariants as send
use Rattle.journal_air.specs.OnAir.{cycle_bytes}
use Rattle.journal_air.proofs.Sent.{air_sent}
use Rattle.epg_play.specs.Behind.{IsSentBehind}

bytes_join : (xs ys : List Aired) → air_bytes (xs ++ ys) ≡ air_bytes xs ++ air_bytes ys
bytes_join xs ys =
    ap (flat_map bytes_of_packet) (flat_map-append (λ (x : Aired). x.packets) xs ys)
    ∙ flat_map-append bytes_of_packet (air xs) (air ys)

module _ (mux : Mux) (journal : List Entry) (earlier : List Aired) (read : IsAsRead mux journal) (legal : Legal mux journal) where
  -- whole cycles
  pub whole_sent_behind : (cycles : List Aired) → IsAirAt mux.rate (airings mux journal) (earlier ++ cycles) → AreMadeAt mux.rate earlier cycles → IsSentBehind mux journal earlier (air_bytes cycles)
  whole_sent_behind cycles is made = λ first.
      air_sent mux journal (Some []) (Some (air_bytes earlier ++ air_bytes cycles)) (Ok tt) read legal
      (record { cycles = earlier ++ cycles; is_air = is; made = made_join mux.rate [] earlier cycles first made; bytes = sym (bytes_join earlier cycles) })

  -- whole cycles, and a front of another
  pub cut_sent_behind : (whole : List Aired) (cut : Aired) (taken : ℕ) → IsAirAt mux.rate (airings mux journal) (earlier ++ (whole ++ cut ∷ [])) → AreMadeAt mux.rate earlier (whole ++ cut ∷ []) → taken < length (cycle_bytes cut)
      → IsSentBehind mux journal earlier (air_bytes whole ++ take taken (cycle_bytes cut))
  cut_sent_behind whole cut taken is made proper = λ first.
      let all : earlier ++ (whole ++ cut ∷ []) ≡ (earlier ++ whole) ++ cut ∷ [] = sym (append_assoc earlier whole (cut ∷ [])) in
      air_sent mux journal (Some []) (Some (air_bytes earlier ++ (air_bytes whole ++ take taken (cycle_bytes cut)))) (Err send.Air) read legal
      (record {
        whole = earlier ++ whole;
        cut = cut;
        is_air = subst (IsAirAt mux.rate (airings mux journal)) all is;
        made = subst (AreMadeAt mux.rate []) all (made_join mux.rate [] earlier (whole ++ cut ∷ []) first made);
        taken = taken;
        proper = proper;
        bytes = sym (append_assoc (air_bytes earlier) (air_bytes whole) (take taken (cycle_bytes cut)))
            ∙ ap (λ (l : List ℕ). l ++ take taken (cycle_bytes cut)) (sym (bytes_join earlier whole));
      })
