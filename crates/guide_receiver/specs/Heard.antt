-- A receiver, and the packets for which it stands.
use Rattle.std.specs.Prelude.{ℕ, List, [], ◌++◌, Option, Some, ◌≡◌}
use Rattle.ts_demux.specs.declared.section.RawSection.{RawSection}
use Rattle.ts_demux.specs.Keeping.{PidState, DemuxStandsFor}
use Rattle.ts_demux.specs.Sections.{ended_by, heard_all}
use Rattle.sub_collect.specs.Runs.{Counted}
use Rattle.sub_collect.specs.Marks.{Taken, all_took}
use Rattle.sub_collect.specs.Collectors.{KeysHeard, CollectorStandsOver, IsRepeated}
use Rattle.si_time.specs.declared.moment.Moment.{Moment}
use Rattle.guide_model.specs.declared.offset.Offset.{Offset}
use Rattle.guide_receiver.specs.Counting.{counted_in, counted_among}
use Rattle.guide_receiver.specs.Latest.{LatestKept, keys_shown_over, AreLatest, IsClock, offsets_heard}
use Rattle.guide_receiver.specs.Dones.{counted_heard}

-- what a receiver keeps: its demultiplexer, its collector, the keys that were completed last, and the moment and the offsets that it heard
-- last
pub record Hearing : Type 0 where
  pub demux : List (Option PidState)
  pub collector : KeysHeard
  pub latest : LatestKept
  pub clock : Option Moment
  pub offsets : List Offset

-- the sections that a packet ends after others, and that count
abbrev pub took_by : List (List ℕ) → List ℕ → List Taken
took_by packets packet = all_took (counted_among (ended_by packets packet))

-- A receiver heard these sections before it started afresh, and it stands for the packets since, each by its bytes, and for
-- all sections that count, with the marks between them.
pub record ReceiverStandsAfter (earlier : List RawSection) (packets : List (List ℕ)) (taken : List Taken) (receiver : Hearing) : Type 0 where
  pub sections : DemuxStandsFor packets receiver.demux
  pub completions : CollectorStandsOver taken receiver.collector
  pub latest : AreLatest (keys_shown_over taken) receiver.latest
  pub clock : IsClock (earlier ++ heard_all [] packets) receiver.clock
  pub offsets : receiver.offsets ≡ offsets_heard (earlier ++ heard_all [] packets)

-- It stands for these packets, each by its bytes, and for their sections that count, with the marks between them.
abbrev pub ReceiverStandsOver : List (List ℕ) → List Taken → Hearing → Type 0
ReceiverStandsOver packets taken receiver = ReceiverStandsAfter [] packets taken receiver

-- It stands for these packets, without a mark.
abbrev pub ReceiverStandsFor : List (List ℕ) → Hearing → Type 0
ReceiverStandsFor past receiver = ReceiverStandsOver past (all_took (counted_heard past)) receiver

-- A section counts that the collector holds already: it shows nothing, and the collector stands for it too.
pub record CountsAgain (collector : KeysHeard) (section : RawSection) : Type 0 where
  pub counts : Counted
  pub is : counted_in section ≡ Some counts
  pub repeats : IsRepeated collector counts
