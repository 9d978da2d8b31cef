-- What the texts of a run decide, where nothing fails: its status, and whether it is Done.
use Rattle.std.specs.Prelude.{◌≡◌, ℕ, List, map, Option, None, Some, Ok, Err}
use Rattle.std.specs.List.{AllByRecursion}
use Rattle.si_causes.specs.Opening.{Files, file_at}
use Rattle.si_causes.specs.declared.stop.ReadStop.TheVariants as read
use Rattle.mux_model.specs.declared.mux.Mux.{Mux}
use Rattle.mux_config.specs.declared.fault.Word.TheVariants.{End as EndWord}
use Rattle.mux_config.specs.declared.fault.MuxFault.TheVariants.{Missing}
use Rattle.mux_config.specs.Descriptions.{Description}
use Rattle.input_lines.specs.declared.stop.EditStop.{EditStop}
use Rattle.input_lines.specs.declared.stop.EditStop.TheVariants as edit
use Rattle.input_lines.specs.Ahead.{Ahead, Came, Found, Stop, Stopped, End, NoCommand, TooLong, Unread}
use Rattle.script_lines.specs.Edits.{edits_ahead}
use Rattle.desk_hall.specs.Reads.{controls_ahead}
use Rattle.headend_jobs.specs.Stops.{feeds_stop, run_stop}
use Rattle.epg_report.specs.declared.status.Status.{Status}
use Rattle.epg_report.specs.declared.status.Status.TheVariants.{BadMux, TooLong as PastLimit, NoView}
use Rattle.epg_report.specs.declared.status.Origin.TheVariants.{Input}
use Rattle.mux_config.specs.Texts.{ahead_of, described}
use Rattle.epg_live.specs.Stops.{live_status}
use Rattle.epg_live.specs.Views.{unserved}

-- ---- the status

-- why a job stops that reads all that is ahead of it
abbrev pub job_stop : Stop → Option EditStop
job_stop End = None
job_stop (NoCommand n) = Some (edit.NoCommand n)
job_stop TooLong = Some (edit.Read read.TooLong)
job_stop Unread = Some (edit.Read read.Failed)

abbrev pub feed_text_stop : Option (List ℕ) → Option EditStop
feed_text_stop None = None
feed_text_stop (Some text) = job_stop (edits_ahead (ahead_of text)).1

-- the first stop in the order control, feeds by number; Done where there is none
abbrev pub jobs_status : Ahead → List (List ℕ) → Files → Status
jobs_status control paths files =
    live_status (run_stop (Ok tt) (job_stop (controls_ahead control).1) (feeds_stop None 1 (map (λ path. feed_text_stop (file_at path files)) paths)))

-- where the multiplex lacks a service that is viewed, that; else what the jobs' texts decide
abbrev pub views_status : Option ℕ → Ahead → List (List ℕ) → Files → Status
views_status (Some service) behind paths files = NoView service
views_status None behind paths files = jobs_status behind paths files

abbrev pub description_status : Found Description → List ℕ → List (List ℕ) → Files → Status
description_status (Came (Ok mux) behind) views paths files = views_status (unserved mux views) behind paths files
description_status (Came (Err fault) behind) views paths files = BadMux fault
description_status (Stopped (NoCommand n)) views paths files = BadMux (Missing EndWord)
description_status (Stopped stop) views paths files = PastLimit Input

-- The status that the texts decide: the fault of the description, or a service that it lacks, or else the first stop of the jobs that read.
abbrev pub text_status : List ℕ → List ℕ → List (List ℕ) → Files → Status
text_status text views paths files = description_status (described text) views paths files

-- ---- Done

-- this path has a file of edits alone, up to its end
pub record HasEdits (files : Files) (path : List ℕ) : Type 0 where
  pub text : List ℕ
  pub file : file_at path files ≡ Some text
  pub end : (edits_ahead (ahead_of text)).1 ≡ End

-- The input describes a multiplex that has each of these services, and behind it has control lines alone, up to its end; each path has a
-- file of edits alone.
pub record AreWhole (text : List ℕ) (views : List ℕ) (paths : List (List ℕ)) (files : Files) : Type 0 where
  pub mux : Mux
  pub behind : Ahead
  pub whole : described text ≡ Came (Ok mux) behind
  pub served : unserved mux views ≡ None
  pub control : (controls_ahead behind).1 ≡ End
  pub feeds : AllByRecursion (HasEdits files) paths
