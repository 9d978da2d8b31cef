-- Runs one after another, of which the first was killed, make one air.
use Rattle.std.specs.Prelude.{◌≡◌, ◌⊎◌, ◌<◌, ℕ, List, [], ◌∷◌, ◌++◌, flat_map, take}
use Rattle.air_model.specs.Air.{Aired, air}
use Rattle.cycle_player.specs.Airs.{AreMadeAt, IsAirAt}
use Rattle.desk_core.specs.Journal.{Legal}
use Rattle.journal_air.specs.Air.{airings}
use Rattle.journal_model.specs.declared.step.Entry.{Entry}
use Rattle.mux_model.specs.declared.mux.Mux.{Mux}
use Rattle.ts_packets.specs.Bytes.{Packet, bytes_of_packet}
use Rattle.ts_packets.specs.Counting.{Count, loads_on}
use Rattle.script_notes.specs.Pieces.{Piece}
use Rattle.epg_follow.specs.Near.{NearVersionsDiffer}
use Rattle.epg_follow.specs.Stands.{EndsWithSwap, IsCutLast, Stands, standing}

-- ---- a run that goes on

-- A run went on after a journal and its cycles: it did these entries, and made these cycles for
-- them. The air took them whole, or the last of them in part.
pub record GoesOn (mux : Mux) (journal more : List Entry) (earlier cycles : List Aired)
    (taken : List ℕ) : Type 0 where
  pub legal : Legal mux (journal ++ more)
  pub is_air : IsAirAt mux.rate (airings mux (journal ++ more)) (earlier ++ cycles)
  pub made : AreMadeAt mux.rate earlier cycles
  pub air_is : IsCutLast more cycles taken

-- ---- what a kill took away

-- These are the last packets of the last cycle, which the last entry put on air.
pub record AreOfLastCycle (entries : List Entry) (cycles : List Aired) (lost : List Packet) :
    Type 0 where
  pub ends : EndsWithSwap entries
  pub whole : List Aired
  pub cut : Aired
  pub cycles_are : cycles ≡ whole ++ cut ∷ []
  pub kept : List Packet
  pub packets_are : cut.packets ≡ kept ++ lost

-- The air took all packets of these cycles but the last ones, and not all bytes of the first of
-- those. Where some are lost, they are of the cycle of a last swap.
pub record IsAllButLost (entries : List Entry) (cycles : List Aired) (taken : List ℕ) : Type 0 where
  pub sent : List Packet
  pub lost : List Packet
  pub packets_are : air cycles ≡ sent ++ lost
  pub part : ℕ
  pub part_of_one : part < 188
  pub bytes : taken ≡ flat_map bytes_of_packet sent ++ take part (flat_map bytes_of_packet lost)
  pub lost_are : (lost ≡ []) ⊎ AreOfLastCycle entries cycles lost

-- ---- both together

-- A run was killed when this stood, and another went on after it with these entries and cycles.
pub record IsBridged (mux : Mux) (before : List Entry) (earlier : List Aired) (pieces : List Piece)
    (taken report : List ℕ) (stands : Stands mux before earlier pieces taken report)
    (more : List Entry) (cycles : List Aired) : Type 0 where
  -- all entries are one legal journal, and all cycles are an air of it
  pub legal : Legal mux ((before ++ standing stands) ++ more)
  pub is_air : IsAirAt mux.rate (airings mux ((before ++ standing stands) ++ more))
      ((earlier ++ stands.cycles) ++ cycles)
  pub made : AreMadeAt mux.rate earlier (stands.cycles ++ cycles)
  -- all packets before the kill were sent, except for the last ones of a cut cycle
  pub sent : IsAllButLost (standing stands) stands.cycles taken
  -- and with those that are lost the counters of each PID count on over the kill
  pub counted : (pid : ℕ)
      → Count 0 (loads_on pid ((air earlier ++ (sent.sent ++ sent.lost)) ++ air cycles))
  -- no version has two contents within 31 airings, also over the kill
  pub versions : NearVersionsDiffer (airings mux ((before ++ standing stands) ++ more))

abbrev pub KillsAreBridged : Type 0
KillsAreBridged =
    (mux : Mux) (before : List Entry) (earlier : List Aired) (pieces : List Piece)
    (taken report : List ℕ) (stands : Stands mux before earlier pieces taken report)
    (more : List Entry) (cycles : List Aired) (then_taken : List ℕ)
    → GoesOn mux (before ++ standing stands) more (earlier ++ stands.cycles) cycles then_taken
    → IsBridged mux before earlier pieces taken report stands more cycles
