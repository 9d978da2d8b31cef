-- What a run of `live` leaves, for each status.
use Rattle.std.specs.Prelude.{◌≡◌, ◌⊎◌, ℕ, List, Option, Some, Ok}
use Rattle.std.specs.List.{AllByRecursion}
use Rattle.headend_live.specs.declared.live.LivePlan.{LivePlan}
use Rattle.si_causes.specs.Opening.{Files}
use Rattle.mux_model.specs.declared.mux.Mux.{Mux}
use Rattle.input_lines.specs.Ahead.{Ahead, Came}
use Rattle.journal_model.specs.declared.step.Entry.{Entry}
use Rattle.journal_text.specs.Back.{IsOfLines}
use Rattle.guide_screen.specs.declared.need.Heard.{Heard}
use Rattle.journal_air.specs.Last.{IsShownLast}
use Rattle.journal_air.specs.SentAir.{SentAir}
use Rattle.epg_report.specs.declared.status.Status.{Status}
use Rattle.epg_report.specs.declared.status.Status.TheVariants.{Done, Memory}
use Rattle.epg_report.specs.Told.{OpenerAsked, ReportTaken, SourceGave}
use Rattle.epg_live.specs.declared.reporting.Observed.{Observed}
use Rattle.mux_config.specs.Texts.{described}
use Rattle.epg_report.specs.Ends.{ReportEnds}
use Rattle.epg_live.specs.Runs.{live_call}
use Rattle.epg_live.specs.Ends.{HasMetAsking, run_text}
use Rattle.epg_live.specs.Reports.{IsScript}

-- What was sent is an air of this journal, over the multiplex that the text describes, or the first bytes of one; or nothing was sent.
abbrev pub JournalIsSent : List ℕ → List Entry → Option (List ℕ) → Option (List ℕ) → Type 0
JournalIsSent text journal before now =
    (now ≡ before) ⊎ ((mux : Mux) × (behind : Ahead) × (described text ≡ Came (Ok mux) behind) × SentAir mux journal before now)

-- this guide, heard from packet `join` on, shows the publication that is on air at the end
abbrev pub MonitorShows : ℕ → List ℕ → List Entry → Option (List ℕ) → Option (List ℕ) → Option Heard → Type 0
MonitorShows join text journal before now guide =
    (mux : Mux) × (behind : Ahead) × (described text ≡ Came (Ok mux) behind) × IsShownLast join mux journal before now guide

-- What a run over the files of these paths leaves, of the text of its input and the files of its opener.
pub record LeftLive (paths : List (List ℕ)) (plan : LivePlan) (text : List ℕ) (files : Files) (opener : OpenerAsked) (input : SourceGave)
    (air report : ReportTaken) (status : Status) : Type 0 where
  pub journal : List Entry
  pub observed : Observed
  pub met : Status
  -- the journal has just the commands of each caller, each once, in order, with the replies of a desk of one thread; what was sent is its air;
  -- the opener was asked for all paths where jobs ran, and for none where the description ended the run
  pub ran : HasMetAsking (live_call paths plan text files opener input air) opener.tried_old opener.tried_new journal observed met
  -- the report is the text of the journal, of the completions, of the views and of the guide, then
  -- the line on the bit rate, and the line of the fault, where there are such lines
  pub reported : ReportEnds met (run_text journal observed) report status
  -- and tells which journal it is (`LiveReportsTellJournals`): the edits of that were read from lines
  pub of_lines : AllByRecursion IsOfLines journal
  -- its text is a script: after the description `play` plays it to this journal again
  pub again : IsScript text journal
  -- whoever joins that air at any packet, and loses none: each completion is of one airing, and once a cycle was heard whole the guide is that
  -- of its publication, as long as that stays on air; without a bit rate sections of tier Fast and
  -- Near repeat within their bounds, and at one the air keeps time
  pub sent : JournalIsSent text journal air.old air.new
  -- with Done, a monitor that joined before the last cycle shows, whole, the publication on air, which has each accepted edit of each feed
  pub shown : met ≡ Done → (sent : List ℕ) → air.old ≡ Some sent → MonitorShows plan.join text journal air.old air.new observed.guide

-- So does each run; but want of memory, whoever met it, goes before all.
abbrev pub LeavesLive : List (List ℕ) → LivePlan → List ℕ → Files → OpenerAsked → SourceGave → ReportTaken → ReportTaken → Status → Type 0
LeavesLive paths plan text files opener input air report status =
    (status ≡ Memory) ⊎ LeftLive paths plan text files opener input air report status
