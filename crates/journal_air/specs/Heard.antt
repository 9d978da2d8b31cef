-- How an air of a journal is heard, whoever made it.
use Rattle.std.specs.Prelude.{◌≡◌, ℕ, List, map}
use Rattle.ts_packets.specs.Bytes.{bytes_of_packet}
use Rattle.air_model.specs.Air.{Aired, air}
use Rattle.air_laws.specs.Coherence.{IsCoherent}
use Rattle.mux_model.specs.declared.mux.Mux.{Mux}
use Rattle.journal_model.specs.declared.step.Entry.{Entry}
use Rattle.journal_air.specs.Air.{airings}
use Rattle.journal_air.specs.JournalScreenShown.{IsExact}
use Rattle.cycle_player.specs.Airs.{IsAirAt}

-- These packets are an air of a journal, whoever made it: whatever is completed of a part of it is the content of one airing, and once a
-- cycle was heard whole, the guide is that of its publication, as long as that stays on air.
pub record IsHeardAs (mux : Mux) (journal : List Entry) (packets : List (List ℕ)) : Type 0 where
  pub cycles : List Aired
  pub is_air : IsAirAt mux.rate (airings mux journal) cycles
  pub packets_are : map bytes_of_packet (air cycles) ≡ packets
  pub coherent : IsCoherent cycles packets
  pub exact : IsExact mux journal cycles packets
