-- A run of `play` is one from a head-end that did nothing yet, whose report is the journal.
use Rattle.std.proofs.Common.{◌≡◌, ℕ, List, [], ◌∷◌, ◌++◌, refl, sym, ap, ◌∙◌, subst}
use Rattle.std.specs.Prelude.{Option, Some, Ok, Err, false}
use Rattle.std.specs.Io.KnownBytes.{Appends}
use Rattle.si_causes.specs.Causes.{AppendsFront}
use Rattle.si_causes.specs.Text.{lines_left}
use Rattle.input_lines.specs.Ahead.{Ahead, Breaks, Came, Found, Stopped}
use Rattle.input_lines.specs.Ahead as lines
use Rattle.input_lines.specs.Going.{shown_whole}
use Rattle.version_book.specs.Airings.{AiredTables}
use Rattle.air_model.specs.Air.{Aired}
use Rattle.cycle_player.specs.Airs.{IsAirAt}
use Rattle.cycle_player.proofs.Airs.{airings_are}
use Rattle.cycle_player.specs.Tallies.{tally_of}
use Rattle.mux_model.specs.declared.mux.Mux.{Mux}
use Rattle.mux_config.specs.Descriptions.{Description}
use Rattle.mux_config.specs.Texts.{described_taken}
use Rattle.journal_model.specs.declared.step.Entry.{Entry}
use Rattle.journal_text.specs.Entries.{journal_text}
use Rattle.journal_air.specs.Air.{airings}
use Rattle.journal_air.specs.AirOf.{AirOf}
use Rattle.epg_report.specs.declared.status.Status.{Status}
use Rattle.epg_report.specs.declared.status.Status.TheVariants.{BadMux, BadScript, Disagrees, Done, Memory, OpenFault, ReadFault, TooLong as PastLimit, WriteFault}
use Rattle.epg_report.specs.declared.status.Origin.TheVariants.{Input, Recording}
use Rattle.epg_report.specs.declared.status.Outlet.TheVariants.{Air, Report}
use Rattle.epg_report.specs.Rates.{rate_line}
use Rattle.epg_report.specs.Texts.{fault_lines}
use Rattle.epg_report.specs.Told.{ReportTaken, Reported, SourceGave}
use Rattle.epg_play.specs.Script.{Script, Stop, NoMux, Unread, no_mux, script_taken, script_with, script_within, short_of}
use Rattle.epg_play.specs.Leaves.{IsAired, IsAiredFront, IsOfPlay, IsSent, Leaves, LeavesAll, LeavesCut, LeavesOf, PlayRunWithin, first_journal, report_text, script_status, whole_journal}
use Rattle.epg_play.specs.Behind.{AirOn, CutAirOn, CutOn, LeavesBehind, StoppedOn, new_text, played_behind}
use Rattle.epg_play.specs.CheckpointRuns.{Nothing}
use Rattle.epg_play.specs.Over.{LeavesBy, LeavesOver, described_within}
use Rattle.epg_play.proofs.CourseRuns.{NewRun, new_memory}
use Rattle.epg_play.proofs.RunFacts.{tail_in, text_sent, whole}
use Rattle.epg_play.proofs.SentFacts.{cut_sent, whole_sent}

-- what is said of new entries and their cycles, without earlier ones, is the report of their journal
text_is : (mux : Mux) (journal : List Entry) (cycles : List Aired) → IsAirAt mux.rate (airings mux journal) cycles → new_text mux journal cycles ≡ report_text (Some mux) journal
text_is mux journal cycles is = ap (λ (l : List AiredTables). journal_text journal ++ rate_line mux.rate (tally_of mux.rate l)) (airings_are mux.rate (airings mux journal) cycles is)

module _ (air report : ReportTaken) where
  -- how what was sent of a script is heard
  record Sends (script : Script) : Type 0 where
    pub all : IsAired script.mux (whole_journal script) air → IsSent script.mux (whole_journal script) air
    pub cut : (k : ℕ) → IsAiredFront script.mux (first_journal k script) air → IsSent script.mux (first_journal k script) air

  air_of : (mux : Mux) (journal : List Entry) → AirOn mux [] journal [] air → AirOf mux journal air.old air.new
  air_of mux journal a = record { cycles = a.cycles; is_air = a.is_air; made = a.made; bytes = a.bytes }

  front_of : (mux : Mux) (journal : List Entry) → CutAirOn mux [] journal [] air → IsAiredFront (Some mux) journal air
  front_of mux journal a = record {
    mux = mux;
    is_described = refl;
    front = a.front;
    last = a.last;
    entries = a.entries;
    is_swap = a.is_swap;
    cut = record { whole = a.whole; cut = a.cut; is_air = a.is_air; made = a.made; taken = a.taken; proper = a.proper; bytes = a.bytes };
  }

  -- of a script whose multiplex is described
  module _ (mux : Mux) (ahead : Ahead) (sends : Sends (script_with (Came (Ok mux) ahead))) where
    abbrev script : Script
    script = script_with (Came (Ok mux) ahead)

    abbrev all : List Entry
    all = whole_journal script

    -- a fault ended it after its commands
    stopped : (status : Status) → StoppedOn false mux [] [] air report (played_behind mux [] ahead) status → LeavesAll script air report status
    stopped status on =
        let air_is = air_of mux all on.air_is in
        record {
          stopped = on.stopped;
          air_is = air_is;
          sent = sends.all air_is;
          report_is = subst (λ (l : List ℕ). Reported report (l ++ fault_lines status)) (text_is mux all on.air_is.cycles on.air_is.is_air) on.report_is;
        }

    -- its cycle was cut
    cut : CutOn false mux [] [] air report (played_behind mux [] ahead) → LeavesCut script air report
    cut on =
        let journal = first_journal on.k script in
        let air_is = front_of mux journal on.air_is in
        record {
          k = on.k;
          air_is = air_is;
          sent = sends.cut on.k air_is;
          report_is = subst (λ (l : List ℕ). Reported report (l ++ fault_lines (WriteFault Air))) (text_is mux journal (on.air_is.whole ++ on.air_is.cut ∷ []) on.air_is.is_air) on.report_is;
        }

    described_leaves : (status : Status) → IsOfPlay status → LeavesBehind false mux [] [] air report ahead status → LeavesOf script air report status
    described_leaves Done known (text, went, took) =
        let air_is = air_of mux all went.air_is in
        record {
          ended = went.ended;
          air_is = air_is;
          sent = sends.all air_is;
          report_is = subst (λ (l : List ℕ). Appends report.old report.new l) (went.text_is ∙ text_is mux all went.air_is.cycles went.air_is.is_air) took;
        }
    described_leaves (WriteFault Report) known (text, went, took) =
        let air_is = air_of mux all went.air_is in
        record {
          ended = went.ended;
          air_is = air_is;
          sent = sends.all air_is;
          report_is = subst (λ (l : List ℕ). AppendsFront report.old report.new l) (went.text_is ∙ text_is mux all went.air_is.cycles went.air_is.is_air) took;
        }
    described_leaves (WriteFault Air) known on = cut on
    described_leaves (BadScript n) known on = stopped (BadScript n) on
    described_leaves (Disagrees n kept found) known on = stopped (Disagrees n kept found) on
    described_leaves (PastLimit Input) known on = stopped (PastLimit Input) on
    described_leaves (ReadFault Input) known on = stopped (ReadFault Input) on
    described_leaves (OpenFault n) known on = absurd known
    described_leaves (ReadFault Recording) known on = absurd known
    described_leaves Memory known on = tt
    described_leaves other known on = absurd on

  -- of one whose multiplex is not
  idle_leaves : (stop : Stop) (status : Status) → status ≡ script_status stop → Nothing air report status → LeavesAll (no_mux stop) air report status
  idle_leaves stop status is (took, said) = record { stopped = is; air_is = took; sent = took; report_is = said }

  leaves_by : (found : Found Description) (status : Status) → IsOfPlay status → Sends (script_with found) → LeavesBy (Nothing air report) (λ mux. LeavesBehind false mux [] [] air report) found status → LeavesOf (script_with found) air report status
  leaves_by (Came (Ok mux) ahead) status known sends on = described_leaves mux ahead sends status known on
  leaves_by (Came (Err fault) ahead) status known sends (is, idle) =
      subst (LeavesOf (no_mux (NoMux fault)) air report) (sym is) (idle_leaves (NoMux fault) (BadMux fault) refl (subst (Nothing air report) is idle))
  leaves_by (Stopped lines.Unread) status known sends (is, idle) =
      subst (LeavesOf (no_mux Unread) air report) (sym is) (idle_leaves Unread (ReadFault Input) refl (subst (Nothing air report) is idle))
  leaves_by (Stopped stop) status known sends (is, idle) =
      subst (LeavesOf (no_mux (short_of stop)) air report) (sym is) (idle_leaves (short_of stop) (script_status (short_of stop)) refl (subst (Nothing air report) is idle))

  sends_in : (limit : ℕ) (text : List ℕ) → Sends (script_within limit text)
  sends_in limit text = record { all = text_sent limit text air; cut = λ k is. cut_sent (lines_left limit text).0 (tail_in limit text) air k is }

  sends_taken : (taken : List ℕ) → Sends (script_taken taken)
  sends_taken taken = record { all = whole_sent (shown_whole taken) Breaks air; cut = λ k is. cut_sent (shown_whole taken) Breaks air k is }

  text_leaves : (limit : ℕ) (text : List ℕ) (left : Option (List ℕ)) (status : Status) → IsOfPlay status → LeavesOver limit (Nothing air report) (λ mux. LeavesBehind false mux [] [] air report) text left status → Leaves limit text left air report status
  text_leaves limit text left (ReadFault Input) known over = record {
    taken = over.taken;
    behind = over.rest;
    text_is = over.text_is;
    left_is = over.left_is;
    leaves = leaves_by (described_taken over.taken) (ReadFault Input) known (sends_taken over.taken) over.leaves;
  }
  text_leaves limit text left Memory known over = tt
  text_leaves limit text left other known over = leaves_by (described_within limit text) other known (sends_in limit text) over

pub play_run : (limit : ℕ) (input : SourceGave) (air report : ReportTaken) (status : Status) → NewRun limit false input air report status → PlayRunWithin limit input air report status
play_run limit input air report status run = record {
  leaves = λ text tells. text_leaves air report limit text input.new status run.known (run.leaves text tells);
  completes = run.completes;
  whole = λ text tells ended no_input no_air no_report. whole (script_within limit text).stop status ended (run.completes text tells no_input no_air no_report);
  known = run.known;
  end = run.end;
  input_cause = run.input_cause;
  air_cause = run.air_cause;
  report_cause = run.report_cause;
}

-- where memory was wanting before any line was read
pub play_memory : (limit : ℕ) (input : SourceGave) (air report : ReportTaken) (status : Status) → status ≡ Memory → PlayRunWithin limit input air report status
play_memory limit input air report status e = play_run limit input air report status (new_memory limit false input air report status e)
