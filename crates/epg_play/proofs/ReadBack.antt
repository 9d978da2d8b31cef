-- The checkpoint of a journal and of its air is never refused, and a start from it goes on as they do.
use Rattle.std.proofs.Common.{◌≡◌, ◌≤◌, ◌+◌, ℕ, List, [], ◌++◌, true, length, map, refl, sym, ap, ◌∙◌, subst, arith, append-nil}
use Rattle.std.specs.Prelude.{Option, Some, None, Ok, Result, nat_le}
use Rattle.std.proofs.lemmas.Bool.Decides.{nat_tests}
use Rattle.si_causes.specs.Opening.{Files, file_at}
use Rattle.si_causes.specs.Text.{AtEnd as EndsThere, lines_left}
use Rattle.input_lines.specs.Ahead.{Stop, ahead_in, tail_of}
use Rattle.version_book.specs.Book.{BookStandsFor, given_entries}
use Rattle.ts_packets.specs.Bytes.{bytes_of_packet}
use Rattle.ts_packets.specs.PidCounters.{AreCountersOf}
use Rattle.ts_packets.specs.declared.pid_counter.PidCounter.{PidCounter}
use Rattle.air_model.specs.Air.{Aired, air, airings_of}
use Rattle.cycle_player.specs.Clock.{reads}
use Rattle.cycle_player.specs.declared.clock.Clock.{Clock}
use Rattle.cycle_player.specs.Sending.{AreKeptAt, AtEnd}
use Rattle.cycle_player.proofs.Airs.{airings_are}
use Rattle.version_book.specs.declared.key_version.KeyVersion.{KeyVersion}
use Rattle.journal_air.specs.Air.{airings}
use Rattle.desk_core.specs.Desks.{DeskState}
use Rattle.mux_model.specs.declared.mux.Mux.{Mux}
use Rattle.journal_model.specs.declared.step.Entry.{Entry}
use Rattle.desk_core.specs.Journal.{publishes}
use Rattle.journal_text.specs.CommandBack.{ahead_of, shown_lines}
use Rattle.desk_checkpoint.specs.Steps.{checkpoint_steps, folded, shift_of}
use Rattle.desk_checkpoint.specs.declared.start.Start.{Start}
use Rattle.desk_checkpoint.specs.Checkpoints.{Checkpoint}
use Rattle.desk_checkpoint.specs.Laws.{IsCheckpointOf, clock_at}
use Rattle.desk_checkpoint.specs.Reads.{checkpoint_in}
use Rattle.desk_checkpoint.specs.Starts.{StartsFrom}
use Rattle.desk_checkpoint.specs.Text.{checkpoint_text}
use Rattle.epg_play.proofs.CheckpointsRead.{checkpoints_read}
use Rattle.epg_play.specs.Checkpointed.{HasRun, IsCheckpoint, checkpoint_limit, checkpoint_of}
use Rattle.epg_play.specs.Courses.{BeganAt}
use Rattle.epg_play.proofs.GoingOn.{desk_with}

-- the lines of a text within a limit
lines_whole : (limit : ℕ) (bytes : List ℕ) → length bytes ≤ limit → ahead_in 1 (lines_left limit bytes) ≡ ahead_of 1 bytes (tail_of (1 + length (shown_lines bytes)) EndsThere)
lines_whole limit bytes le = (let yes : nat_le (length bytes) limit ≡ true = grind (arith, nat_tests) in rw yes refl)

pub read_as : (mux : Mux) (journal : List Entry) (cycles : List Aired) (bytes : List ℕ) → HasRun mux journal cycles → (is : IsCheckpoint mux journal cycles bytes) → length bytes ≤ checkpoint_limit
    → (cp : Checkpoint) × (checkpoint_of mux bytes ≡ Ok cp) × IsCheckpointOf mux journal (given_entries is.keys) is.pids is.clock cp
read_as mux journal cycles bytes run is le =
    let tail = tail_of (1 + length (shown_lines bytes)) EndsThere in
    let text = checkpoint_text (publishes journal) mux.rate (reads is.clock) (checkpoint_steps mux journal) (given_entries is.keys) is.pids in
    let same = airings_are mux.rate (airings mux journal) cycles run.is_air in
    let read = checkpoints_read mux journal cycles is.keys is.pids is.clock [] tail run.read.sound run.folds same is.kept run.clock in
    let whole : text ++ [] ≡ bytes = append-nil text ∙ sym is.text_is in (
      read.0,
      ap (checkpoint_in mux) (lines_whole checkpoint_limit bytes le) ∙ subst (λ (t : List ℕ). checkpoint_in mux (ahead_of 1 t tail) ≡ Ok read.0) whole read.1,
      read.2,
    )

-- a path has one file
same_file : (path : List ℕ) (files : Files) (a b : List ℕ) → file_at path files ≡ Some a → file_at path files ≡ Some b → a ≡ b
same_file path files a b at too = (let same : (let o : Option (List ℕ) = Some a in o) ≡ Some b = sym at ∙ too in cc same)

-- what a file is read as, where it is read as this checkpoint
pub same_checkpoint : (path : List ℕ) (files : Files) (mux : Mux) (a b : List ℕ) (one : Result Checkpoint Stop) (cp : Checkpoint) → file_at path files ≡ Some a → file_at path files ≡ Some b
    → checkpoint_of mux a ≡ one → checkpoint_of mux b ≡ Ok cp → one ≡ Ok cp
same_checkpoint path files mux a b one cp at too is was = sym is ∙ ap (checkpoint_of mux) (same_file path files a b at too) ∙ was

ok_same : (a b : Checkpoint) → (let r : Result Checkpoint Stop = Ok a in r) ≡ Ok b → a ≡ b
ok_same a b e = cc

-- a start from the checkpoint of a journal and of its air
pub record GoesOnAs (mux : Mux) (journal : List Entry) (cycles : List Aired) (start : Start) : Type 0 where
  pub desk : start.desk ≡ desk_with mux (folded mux journal)
  pub shift : start.shift ≡ shift_of (publishes journal)
  pub player : AtEnd cycles start.player

-- what is kept is the same by other names
kept_as : (rate : Option ℕ) (cycles : List Aired) (keys others : List KeyVersion) (pids counters : List PidCounter) (clock other : Clock)
    → given_entries others ≡ given_entries keys → counters ≡ pids → other ≡ clock_at rate clock
    → AreKeptAt rate cycles keys pids clock → AreKeptAt rate cycles others counters other
kept_as None cycles keys others pids counters clock other keys_are pids_are clock_is kept = record {
  is_air = kept.is_air;
  no_null = kept.no_null;
  versions = subst (BookStandsFor (airings_of cycles)) (sym keys_are) kept.versions;
  counters = subst (AreCountersOf (map bytes_of_packet (air cycles))) (sym pids_are) kept.counters;
}
kept_as (Some rate) cycles keys others pids counters clock other keys_are pids_are clock_is kept = record {
  timed = kept.timed;
  can = kept.can;
  versions = subst (BookStandsFor (airings_of cycles)) (sym keys_are) kept.versions;
  counters = subst (AreCountersOf (map bytes_of_packet (air cycles))) (sym pids_are) kept.counters;
  clock_is = ap reads clock_is ∙ kept.clock_is;
}

from_checkpoint : (mux : Mux) (journal : List Entry) (cycles : List Aired) (bytes : List ℕ) (start : Start) (cp own : Checkpoint) (is : IsCheckpoint mux journal cycles bytes) → cp ≡ own
    → StartsFrom cp start → IsCheckpointOf mux journal (given_entries is.keys) is.pids is.clock own → GoesOnAs mux journal cycles start
from_checkpoint mux journal cycles bytes start cp own is same starts of =
    let s = subst (λ (c : Checkpoint). StartsFrom c start) same starts in
    let rate : own.desk.mux.rate ≡ mux.rate = ap (λ (d : DeskState). d.mux.rate) of.desk in
    record {
      desk = s.desk ∙ of.desk;
      shift = s.shift ∙ ap shift_of of.count;
      player = s.player cycles
          (subst (λ (r : Option ℕ). AreKeptAt r cycles own.keys own.counters own.clock) (sym rate)
          (kept_as mux.rate cycles is.keys own.keys is.pids own.counters is.clock own.clock of.keys_are of.counters_are of.clock_is is.kept.kept));
    }

pub begun_from : (path : List ℕ) (files : Files) (mux : Mux) (journal : List Entry) (cycles : List Aired) (bytes : List ℕ) (start : Start) → BeganAt path files mux start → file_at path files ≡ Some bytes
    → length bytes ≤ checkpoint_limit → HasRun mux journal cycles → IsCheckpoint mux journal cycles bytes → GoesOnAs mux journal cycles start
begun_from path files mux journal cycles bytes start began file le run is =
    let read = read_as mux journal cycles bytes run is le in
    let there = began.begins in
    let same = ok_same there.is.0 read.0 (same_checkpoint path files mux there.bytes bytes (Ok there.is.0) read.0 there.file file there.is.1 read.1) in
    from_checkpoint mux journal cycles bytes start there.is.0 read.0 is same there.is.2 read.2
