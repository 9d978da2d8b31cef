-- What was played from a start on.
use Rattle.std.specs.Prelude.{◌≡◌, ◌⊎◌, ℕ, List, [], ◌++◌, Bool, true, false, ◌&&◌, not, Option, Some, None, IfSome, Ok, Err, Result}
use Rattle.std.specs.Io.KnownBytes.{IsAtEnd}
use Rattle.si_causes.specs.Causes.{Rose}
use Rattle.si_causes.specs.Opening.{Files, Tries}
use Rattle.si_causes.specs.Reading.{Reading}
use Rattle.input_lines.specs.Ahead.{Ahead}
use Rattle.air_model.specs.Air.{Aired}
use Rattle.mux_model.specs.declared.mux.Mux.{Mux}
use Rattle.desk_core.specs.Desks.{DeskState}
use Rattle.journal_text.specs.Entries.{journal_text}
use Rattle.desk_checkpoint.specs.declared.start.Start.{Start}
use Rattle.desk_checkpoint.specs.Starts.{IsStart}
use Rattle.desk_checkpoint.specs.HandedOver.{HandsOver}
use Rattle.desk_checkpoint.specs.Text.{start_text}
use Rattle.cycle_player.specs.Sending.{Sending}
use Rattle.journal_air.specs.OnAir.{HasAired, IsPlayerOf}
use Rattle.journal_air.specs.Tallied.{HasTallied}
use Rattle.epg_report.specs.declared.status.Status.{Status}
use Rattle.epg_report.specs.declared.status.Status.TheVariants.{BadMux, Done, Memory, ReadFault, WriteFault}
use Rattle.epg_report.specs.declared.status.Origin.TheVariants.{Input}
use Rattle.epg_report.specs.declared.status.Outlet.TheVariants.{Air, Report}
use Rattle.epg_report.specs.Ends.{ReportEnds}
use Rattle.epg_report.specs.Rates.{rate_line}
use Rattle.epg_report.specs.Texts.{fault_lines}
use Rattle.epg_report.specs.Told.{OpenerAsked, ReportTaken}
use Rattle.epg_play.specs.declared.stop.PlayStop.{PlayStop}
use Rattle.epg_play.specs.Leaves.{IsOfPlay, met_by}
use Rattle.epg_play.specs.Items.{IsAt, IsReady, Stands, Stops}
use Rattle.epg_play.specs.Played.{AiredTo, DeskDid, TalliedTo, course}
use Rattle.epg_play.specs.Over.{LeavesOver}
use Rattle.epg_play.specs.Beginning.{BeginsAt, IsNew, IsNotBegun, IsOfResume}
use Rattle.epg_play.specs.declared.played.Course.{Course}
use Rattle.epg_play.specs.declared.played.Played.{Played}

-- Nothing was played.
pub record NotPlayed (before now : Option (List ℕ)) (played : Played) : Type 0 where
  pub no_course : played.course ≡ None
  pub air : now ≡ before

-- From a desk and a player on a script was played as far as this, and from before to now the air took its cycles.
pub record RestLeft (before : DeskState) (old : Sending) (air_before air_now : Option (List ℕ)) (course : Course) (result : Result (Unit {0}) PlayStop) : Type 0 where
  pub now : DeskState
  pub at : IsAt before now course.desk
  pub aired : (earlier : List Aired) (first : Option (List ℕ)) → HasAired earlier before old first air_before
      → AiredTo earlier now course.player first air_now result
  pub tallied : IsPlayerOf before.mux old → HasTallied before old → TalliedTo now course.player result

-- so the rest of a script was played that a reader had still to give
abbrev pub PlaysRest : {S : Type 0} → (S → Option (List ℕ)) → Reading S → Reading S → DeskState → Sending → Option (List ℕ) → Option (List ℕ) → Course → Result (Unit {0}) PlayStop → Type 0
PlaysRest left lines behind before old air_before air_now course result =
    (on : RestLeft before old air_before air_now course result) × Stops course.desk.shift left lines behind before on.now result

-- a script may be played at it from its first line on
pub record CanPlay (course : Course) : Type 0 where
  pub ready : IsReady course.desk
  pub first : course.desk.last ≡ None
  pub at_end : course.player.left ≡ []

-- This course was played from a start on, with this status. It keeps the entries that are made, unless they are folded.
pub record IsPlayed (fold : Bool) (start : Start) (before now : Option (List ℕ)) (played : Played) : Type 0 where
  pub course : Course
  pub is : played.course ≡ Some course
  pub shift : course.desk.shift ≡ start.shift
  pub keeps : course.desk.keeps ≡ not fold
  pub stop : Result (Unit {0}) PlayStop
  pub met : played.met ≡ met_by stop
  pub left : RestLeft start.desk start.player before now course stop

-- From a start that began so, the script ahead was played.
pub record CourseBehind (fold : Bool) (Begins : Start → Type 0) (before now : Option (List ℕ)) (played : Played) (lines : Ahead) : Type 0 where
  pub start : Start
  pub begins : Begins start
  pub on : IsPlayed fold start before now played
  pub did : DeskDid (course start.shift start.desk.mux start.desk.entries None lines) start.desk on.left.now on.stop

-- The script that a reader has still to give was played from this start on.
pub record HasPlayedOn {S : Type 0} (fold : Bool) (left : S → Option (List ℕ)) (old new : Reading S) (start : Start) (before now : Option (List ℕ)) (played : Played) : Type 0 where
  pub on : IsPlayed fold start before now played
  pub stops : Stops start.shift left old new start.desk on.left.now on.stop

-- what was played of a text of which so many bytes may be taken, from a head-end that did nothing yet
abbrev pub PlayedNew : Bool → ℕ → List ℕ → Option (List ℕ) → Option (List ℕ) → Option (List ℕ) → Played → Type 0
PlayedNew fold limit text left before now played =
    LeavesOver limit (λ met. NotPlayed before now played) (λ mux lines met. CourseBehind fold (IsNew mux) before now played lines) text left played.met

-- what was begun from the file at a path, for a multiplex
pub record BeganAt (path : List ℕ) (files : Files) (mux : Mux) (start : Start) : Type 0 where
  pub begins : BeginsAt path files mux (Ok start)
  pub is : IsStart mux start

-- nothing was begun from it, or what is ahead was played from there on
abbrev pub BegunFrom : Bool → List ℕ → Files → Option (List ℕ) → Option (List ℕ) → Played → Mux → Ahead → Status → Type 0
BegunFrom fold path files before now played mux lines met =
    (BeginsAt path files mux (Err met) × IsNotBegun met × NotPlayed before now played) ⊎ CourseBehind fold (BeganAt path files mux) before now played lines

-- and what was played of a text, from there on: an opener was asked for the path once a multiplex was described
abbrev pub PlayedResumed : Bool → ℕ → List ℕ → Files → List ℕ → Option (List ℕ) → OpenerAsked → Option (List ℕ) → Option (List ℕ) → Played → Type 0
PlayedResumed fold limit path files text left opener before now played =
    LeavesOver limit (λ met. (opener.tried_new ≡ opener.tried_old) × NotPlayed before now played)
    (λ mux lines met. Tries opener.tried_old opener.tried_new path × BegunFrom fold path files before now played mux lines met)
    text left played.met

-- the statuses that a run of a script may have met before it reports
abbrev pub IsMetByScript : Status → Type 0
IsMetByScript (WriteFault Report) = ⊥
IsMetByScript status = IsOfPlay status

-- once its description was read
abbrev pub IsMetBehind : Status → Type 0
IsMetBehind (BadMux fault) = ⊥
IsMetBehind status = IsMetByScript status

-- and those of a run from a checkpoint
abbrev pub IsMetByResume : Status → Type 0
IsMetByResume (WriteFault Report) = ⊥
IsMetByResume status = IsOfResume status

-- with Done the input is at its end, and each fault of the input or of the air has its cause
pub record HasMet {S A : Type 0} (left : S → Option (List ℕ)) (read_faults : S → ℕ) (alike : S → S → Type 0) (old new : S) (air_faults : A → ℕ) (air air_then : A) (met : Status) : Type 0 where
  pub end : met ≡ Done → IsAtEnd (left new)
  pub input_cause : met ≡ ReadFault Input → Rose (read_faults old) (read_faults new)
  pub air_cause : met ≡ WriteFault Air → Rose (air_faults air) (air_faults air_then)
  pub same : alike old new

-- ---- its report

-- what is said of a course: the text of the entries that were made, and the line on the bit rate of the cycles that were begun
abbrev pub made_text : Course → List ℕ
made_text course =
    journal_text course.desk.made.items ++ rate_line course.desk.desk.mux.rate course.player.tally

abbrev pub is_done : Status → Bool
is_done Done = true
is_done met = false

-- What the report of a course has before the line of a fault: the text of what was made; or with `--fold` the
-- checkpoint where there is no fault, and else nothing.
abbrev pub IsCourseText : Bool → Course → Status → List ℕ → Type 0
IsCourseText false course met text = text ≡ made_text course
IsCourseText true course Done text =
    (state : DeskState) → Stands state course.desk.desk → text ≡ start_text course.desk.shift state course.player
IsCourseText true course met text = text ≡ []

abbrev pub IsPlayedText : Bool → Option Course → Status → List ℕ → Type 0
IsPlayedText fold None met text = text ≡ []
IsPlayedText fold (Some course) met text = IsCourseText fold course met text

-- the whole report: that, and the line of the fault where there is one
pub record IsReportText (fold : Bool) (played : Played) (report : List ℕ) : Type 0 where
  pub text : List ℕ
  pub is : IsPlayedText fold played.course played.met text
  pub report_is : report ≡ text ++ fault_lines played.met

-- such a text was appended
abbrev pub Appended : (List ℕ → Type 0) → List ℕ → List ℕ → Type 0
Appended Is old new = (text : List ℕ) × Is text × (new ≡ old ++ text)

-- a course can be reported
pub record IsCourse (met : Status) (course : Course) : Type 0 where
  pub ready : IsReady course.desk
  pub ended : is_done met ≡ true → course.player.left ≡ []

-- of a checkpoint that was written: what its player hands over
abbrev pub HandedIf : Bool → Option Course → Type 0
HandedIf true course = IfSome course (λ course. HandsOver course.player)
HandedIf false course = Unit {0}

abbrev pub HandedBy : Bool → Status → Option Course → Type 0
HandedBy fold met course = HandedIf (fold && is_done met) course

-- how a run ends of which this course was played, with this status before its report
pub record EndsAs (fold : Bool) (course : Option Course) (met : Status) (report : ReportTaken) (status : Status) : Type 0 where
  pub text : List ℕ
  pub text_is : IsPlayedText fold course met text
  pub reported : ReportEnds met text report status
  pub handed : HandedBy fold met course

abbrev pub Finished : Bool → Played → ReportTaken → Status → Type 0
Finished fold played report status = (status ≡ Memory) ⊎ EndsAs fold played.course played.met report status
