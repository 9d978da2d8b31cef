-- A run over the text of its input and the files of its feeds.
use Rattle.std.specs.Prelude.{◌≡◌, ◌≢◌, ◌↔◌, ℕ, ◌+◌, ◌≤◌, List, [], ◌∷◌, ◌++◌, length, map, Option, Some, None, IfSome, IsSome, Ok, Err, Result}
use Rattle.std.specs.Io.KnownBytes.{Appends}
use Rattle.headend_live.specs.declared.live.LivePlan.{LivePlan}
use Rattle.si_causes.specs.Opening.{Files, file_at}
use Rattle.si_causes.specs.Reading.{Reading, fresh}
use Rattle.si_causes.specs.declared.stop.ReadStop.TheVariants.{Failed}
use Rattle.mux_model.specs.declared.mux.Mux.{Mux}
use Rattle.mux_config.specs.Descriptions.{description_ahead, fault_in}
use Rattle.mux_config.specs.Texts.{ahead_of, described, described_taken}
use Rattle.input_lines.specs.declared.stop.EditStop.{EditStop}
use Rattle.input_lines.specs.declared.stop.EditStop.TheVariants.{Read}
use Rattle.input_lines.specs.Ahead.{Ahead, Came, Stop, Stopped, TooLong as Exceeded, Unread}
use Rattle.input_lines.specs.Reads.{Leaves, Passes}
use Rattle.script_lines.specs.Edits.{edits_ahead}
use Rattle.journal_model.specs.declared.step.Step.{Step}
use Rattle.journal_model.specs.declared.step.Entry.{Entry}
use Rattle.desk_core.specs.Journal.{Legal}
use Rattle.journal_model.specs.Steps.{Command, command_of}
use Rattle.desk_hall.specs.Turn.{caller_of}
use Rattle.desk_hall.specs.Reads.{HasReadCause, ToldDid, commands_by, control_step, controls_ahead, edit_step}
use Rattle.turn_lock.specs.Journal.{entries_of}
use Rattle.guide_screen.specs.declared.need.Heard.{Heard}
use Rattle.air_monitor.specs.Heard.{lines_of_air}
use Rattle.journal_air.specs.declared.send.SendStop.{SendStop}
use Rattle.headend_jobs.specs.Callers.{CommandsAre, PlayerSwapped}
use Rattle.journal_air.specs.AirOf.{AirDid}
use Rattle.headend_jobs.specs.Live.{LastMade}
use Rattle.headend_jobs.specs.Stops.{feeds_stop, halts, run_stop}
use Rattle.headend_jobs.specs.Posting.{posts_of}
use Rattle.headend_jobs.specs.Ticking.{tick_of}
use Rattle.headend_live.specs.Watched.{guide_of_air}
use Rattle.cycle_player.specs.Tally.{no_cycles}
use Rattle.epg_report.specs.Rates.{rate_line, rate_lines}
use Rattle.epg_report.specs.declared.status.Status.{Status}
use Rattle.epg_report.specs.declared.status.Status.TheVariants.{Done, BadMux, TooLong, OpenFault, ReadFault, NoView}
use Rattle.epg_report.specs.declared.status.Origin.TheVariants.{Input}
use Rattle.epg_report.specs.Told.{OpenerAsked, ReportTaken, SourceGave}
use Rattle.epg_live.specs.declared.reporting.Observed.{Observed}
use Rattle.epg_live.specs.Views.{HaveViews, unserved}
use Rattle.epg_live.specs.Stops.{HaveReadCauses, live_status}

-- ---- a call

-- how many reads failed: of the input, and of the files of the feeds
pub record ReadFaults : Type 0 where
  pub input : ℕ
  pub feeds : ℕ

abbrev pub read_faults : ℕ → ℕ → ReadFaults
read_faults input feeds = record { input = input; feeds = feeds }

-- A call of `live` whose texts are known: the paths of its feeds, what its words say beside them, the text of its input, the files of
-- its opener; what is left of that text, how many reads had failed before it and after it, and what its air had taken.
pub record LiveCall : Type 0 where
  pub paths : List (List ℕ)
  pub plan : LivePlan
  pub text : List ℕ
  pub files : Files
  pub left : Option (List ℕ)
  pub faults_before : ReadFaults
  pub faults_now : ReadFaults
  pub before : Option (List ℕ)
  pub now : Option (List ℕ)

-- the call with this opener, this input and this air
abbrev pub live_call : List (List ℕ) → LivePlan → List ℕ → Files → OpenerAsked → SourceGave → ReportTaken → LiveCall
live_call paths plan text files opener input air = record {
  paths = paths;
  plan = plan;
  text = text;
  files = files;
  left = input.new;
  faults_before = read_faults input.faults_old opener.read_old;
  faults_now = read_faults input.faults_new opener.read_new;
  before = air.old;
  now = air.new;
}

-- ---- what was asked for

-- Under its number the journal has the commands that were ahead of a caller up to its own stop, and then these.
abbrev pub CallerDid : {T : Type 0} → List Entry → ℕ → (T → Step) → List T × Stop → List Command → Option EditStop → Type 0
CallerDid journal who step all then stop = ToldDid (λ values. CommandsAre journal who (commands_by who step values ++ then)) all stop

-- Of a text these bytes were taken, and the others are left; the lines that were whole in the bytes taken describe this multiplex, and have
-- these lines behind its `end`.
pub record IsTaken (text : List ℕ) (left : Option (List ℕ)) (mux : Mux) (behind : Ahead) : Type 0 where
  pub taken : List ℕ
  pub rest : List ℕ
  pub text_is : text ≡ taken ++ rest
  pub left_is : left ≡ Some rest
  pub whole : described_taken taken ≡ Came (Ok mux) behind

-- A read of the control's lines failed: it has exactly the commands of the lines that were whole in the bytes taken, and each of these
-- is one.
pub record HasTaken (text : List ℕ) (left : Option (List ℕ)) (mux : Mux) (journal : List Entry) : Type 0 where
  pub behind : Ahead
  pub taken : IsTaken text left mux behind
  pub stop : (controls_ahead behind).1 ≡ Unread
  pub commands : CommandsAre journal 0 (commands_by 0 control_step (controls_ahead behind).0)

abbrev pub ControlTook : List ℕ → Option (List ℕ) → Mux → List Entry → Option EditStop → Type 0
ControlTook text left mux journal (Some (Read Failed)) = HasTaken text left mux journal
ControlTook text left mux journal stop = Unit {0}

-- Feed f is caller f + 1, and has the commands of the file of its path. The first of these feeds has number f.
abbrev pub FeedsDid : Files → List Entry → ℕ → List (List ℕ) → List (Option EditStop) → Type 0
FeedsDid files journal f [] [] = Unit {0}
FeedsDid files journal f [] (stop ∷ stops) = ⊥
FeedsDid files journal f (path ∷ paths) [] = ⊥
FeedsDid files journal f (path ∷ paths) (stop ∷ stops) =
    ((text : List ℕ) × (file_at path files ≡ Some text) × CallerDid journal (f + 1) (edit_step f) (edits_ahead (ahead_of text)) [] stop)
    × FeedsDid files journal (f + 1) paths stops

-- ---- a run whose jobs started

abbrev pub nothing_observed : Observed
nothing_observed = record { dones = []; views = []; guide = None; rate = None; tally = no_cycles }

-- the line on the bit rate that was observed
abbrev pub rate_text : Observed → List ℕ
rate_text observed = rate_line observed.rate observed.tally

-- The journal: each caller's commands stand in it once, in order, whatever other jobs met, each
-- with the reply of a desk of one thread (`legal`), and no one else's. Caller 0 is the control.
-- Caller 1 is the player: at a bit rate it makes a tick before each swap, at the moment that the
-- clock of the air tells then (`PlayerSwapped`). `final` is what the control made after all jobs.
pub record IsJournal (call : LiveCall) (mux : Mux) (behind : Ahead) (journal : List Entry)
    (player : Result (Unit {0}) SendStop) (control_stop : Option EditStop) (feed_stops : List (Option EditStop)) (final : List Entry) : Type 0 where
  pub legal : Legal mux journal
  pub control_did : CallerDid journal 0 control_step (controls_ahead behind) (map command_of final) control_stop
  pub control_took : ControlTook call.text call.left mux journal control_stop
  pub player_did : PlayerSwapped mux journal call.plan.cycles player
  pub feeds_did : FeedsDid call.files journal 1 call.paths feed_stops
  pub others : (k : ℕ) → length call.paths + 2 ≤ k → entries_of caller_of k journal ≡ []
  pub front : List Entry
  pub ends : journal ≡ front ++ final

-- The completions are those that the whole packets show which the air took, from packet `join` on; a guide that is told is the one that
-- they give.
pub record WasHeard (join : ℕ) (before now : Option (List ℕ)) (observed : Observed) : Type 0 where
  pub taken : List ℕ
  pub gave : Appends before now taken
  pub lines : observed.dones ≡ lines_of_air join taken
  pub guide : IfSome observed.guide (λ (h : Heard). h ≡ guide_of_air join taken)

-- The jobs started, and all have ended. The status is that of the first stop in the order air,
-- control, feeds by number; Done exactly where there is none, and then the control's publish,
-- swap and swap end the journal, at a bit rate with a tick before them (`last`). `sent` says how
-- the last cycle ended; where the player failed, that was its last (`failed`). A failed read
-- stopped the control only where the input's count of faults rose, whatever other jobs met
-- (`control_cause`), and a feed only where the opener's count of read faults rose (`causes`). A
-- guide is told exactly with Done (`told`); what it and the completions are is known where the
-- air tells its bytes. The line on the bit rate is that of the cycles of the journal (`rated`).
pub record JobsRan (call : LiveCall) (mux : Mux) (behind : Ahead) (journal : List Entry) (observed : Observed) (status : Status) : Type 0 where
  pub player : Result (Unit {0}) SendStop
  pub sent : Result (Unit {0}) SendStop
  pub control_stop : Option EditStop
  pub feed_stops : List (Option EditStop)
  pub final : List Entry
  pub journal_is : IsJournal call mux behind journal player control_stop feed_stops final
  pub last : LastMade (halts player control_stop (feeds_stop None 1 feed_stops))
      (tick_of mux journal call.plan.cycles) 0 final sent
  pub failed : (stop : SendStop) → player ≡ Err stop → sent ≡ Err stop
  pub status_is : status ≡ live_status (run_stop sent control_stop (feeds_stop None 1 feed_stops))
  pub control_cause : HasReadCause call.faults_before.input call.faults_now.input control_stop
  pub causes : HaveReadCauses call.faults_before.feeds call.faults_now.feeds feed_stops
  pub air_is : AirDid mux journal call.before call.now sent
  pub was_heard : (sent : List ℕ) → call.before ≡ Some sent → WasHeard call.plan.join call.before call.now observed
  pub told : IsSome observed.guide ↔ (status ≡ Done)
  pub served : unserved mux call.plan.views ≡ None
  pub viewed : status ≡ Done → HaveViews (posts_of mux journal) (call.plan.cycles + 1) call.plan.views observed.views
  pub unviewed : status ≢ Done → observed.views ≡ []
  pub rated : rate_text observed ≡ rate_lines mux journal

-- jobs ran over the multiplex of the text
abbrev pub Ran : LiveCall → List Entry → Observed → Status → Type 0
Ran call journal observed met =
    (mux : Mux) × (behind : Ahead) × (described call.text ≡ Came (Ok mux) behind) × JobsRan call mux behind journal observed met

-- a reader behind the description that it read of the text of its source
pub record HasRead {S : Type 0} (left : S → Option (List ℕ)) (text : List ℕ) (mux : Mux) (reader : Reading S) : Type 0 where
  pub source : S
  pub tells : left source ≡ Some text
  pub read : Leaves left description_ahead (Came (Ok mux)) (fresh source) reader text
  pub came : Passes left description_ahead (Came (Ok mux)) (fresh source) reader

-- ---- a run that ended before

-- A read failed in the description: the lines that were whole in the bytes taken have neither a fault nor the end.
pub record IsUnread (text : List ℕ) (left : Option (List ℕ)) : Type 0 where
  pub taken : List ℕ
  pub rest : List ℕ
  pub text_is : text ≡ taken ++ rest
  pub left_is : left ≡ Some rest
  pub unended : described_taken taken ≡ Stopped Unread

-- why no job started
abbrev pub EndsBefore : LiveCall → Status → Type 0
EndsBefore call (BadMux fault) = fault_in (described call.text) ≡ Some fault
EndsBefore call (TooLong Input) = described call.text ≡ Stopped Exceeded
EndsBefore call (ReadFault Input) = IsUnread call.text call.left
EndsBefore call (NoView service) =
    (mux : Mux) × (behind : Ahead) × (described call.text ≡ Came (Ok mux) behind) × (unserved mux call.plan.views ≡ Some service)
EndsBefore call (OpenFault f) =
    (mux : Mux) × (behind : Ahead) × (described call.text ≡ Came (Ok mux) behind) × (unserved mux call.plan.views ≡ None)
EndsBefore call status = ⊥

-- no job started: nothing was sent
pub record NoJobs (call : LiveCall) (journal : List Entry) (observed : Observed) (status : Status) : Type 0 where
  pub why : EndsBefore call status
  pub journal_is : journal ≡ []
  pub observed_is : observed ≡ nothing_observed
  pub sent : call.now ≡ call.before
