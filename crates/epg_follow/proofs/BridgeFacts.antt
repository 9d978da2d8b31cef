-- A run that goes on after what stood when another was killed.
use Rattle.std.proofs.Common.{◌≡◌, ℕ, List, ◌++◌, length, ap, ◌∙◌, subst}
use Rattle.std.proofs.lemmas.List.Concat.{flat_map-append}
use Rattle.si_lists.proofs.Lists.{all_behind}
use Rattle.ts_packets.specs.Bytes.{Packet, bytes_of_packet}
use Rattle.ts_packets.specs.Counting.{Count, loads_on}
use Rattle.air_model.specs.Air.{Aired, air}
use Rattle.air_model.proofs.Airs.{repeating-whole}
use Rattle.cycle_player.proofs.Airs.{air_repeats, made_join}
use Rattle.journal_air.specs.Air.{airings}
use Rattle.journal_model.specs.declared.step.Entry.{Entry}
use Rattle.mux_model.specs.declared.mux.Mux.{Mux}
use Rattle.script_notes.specs.Pieces.{Piece}
use Rattle.epg_follow.specs.Bridges.{GoesOn, IsAllButLost, IsBridged, KillsAreBridged}
use Rattle.epg_follow.specs.Stands.{Stands, standing}
use Rattle.epg_follow.proofs.LostFacts.{AreWholePackets, all_but_lost}
use Rattle.epg_follow.proofs.NearFacts.{versions_differ}

pub air_joined : (xs ys : List Aired) → air (xs ++ ys) ≡ air xs ++ air ys
air_joined xs ys = flat_map-append (λ (x : Aired). x.packets) xs ys

module _ (mux : Mux) (before : List Entry) (earlier : List Aired) (pieces : List Piece) (taken report : List ℕ)
    (stands : Stands mux before earlier pieces taken report) where
  abbrev journal : List Entry
  journal = before ++ standing stands

  whole_packets : AreWholePackets (air stands.cycles)
  whole_packets =
      let all = repeating-whole (airings mux journal) (earlier ++ stands.cycles) (air_repeats mux.rate (airings mux journal) (earlier ++ stands.cycles) stands.is_air) in
      all_behind (λ (p : Packet). length (bytes_of_packet p) ≡ 188) (air earlier) (air stands.cycles) (subst AreWholePackets (air_joined earlier stands.cycles) all)

  was_sent : IsAllButLost (standing stands) stands.cycles taken
  was_sent = all_but_lost (standing stands) stands.cycles taken whole_packets stands.air_is

  bridged : (more : List Entry) (cycles : List Aired) (then_taken : List ℕ)
      → GoesOn mux journal more (earlier ++ stands.cycles) cycles then_taken → IsBridged mux before earlier pieces taken report stands more cycles
  bridged more cycles then_taken goes =
      let all = (earlier ++ stands.cycles) ++ cycles in
      let repeats = air_repeats mux.rate (airings mux (journal ++ more)) all goes.is_air in
      let packets : air all ≡ (air earlier ++ (was_sent.sent ++ was_sent.lost)) ++ air cycles =
      air_joined (earlier ++ stands.cycles) cycles
      ∙ ap (λ (l : List Packet). l ++ air cycles) (air_joined earlier stands.cycles ∙ ap (λ (l : List Packet). air earlier ++ l) was_sent.packets_are) in
      record {
        legal = goes.legal;
        is_air = goes.is_air;
        made = made_join mux.rate earlier stands.cycles cycles stands.made goes.made;
        sent = was_sent;
        counted = λ pid. subst (λ (l : List Packet). Count 0 (loads_on pid l)) packets (repeats.counted pid);
        versions = versions_differ (airings mux (journal ++ more));
      }

pub kills_are_bridged : KillsAreBridged
kills_are_bridged mux before earlier pieces taken report stands more cycles then_taken goes =
    bridged mux before earlier pieces taken report stands more cycles then_taken goes
