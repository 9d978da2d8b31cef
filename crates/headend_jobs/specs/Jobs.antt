-- What the jobs of a run leave, each of what it was given.
use Rattle.std.specs.Prelude.{◌≡◌, ◌<◌, ◌+◌, ◌^◌, ℕ, true, Option, None, Some, Ok, List, [], ◌∷◌, map}
use Rattle.std.specs.List.{All, AllZip}
use Rattle.si_causes.specs.Reading.{Reading}
use Rattle.mux_model.specs.declared.mux.Mux.{Mux}
use Rattle.input_lines.specs.declared.stop.EditStop.{EditStop}
use Rattle.script_lines.specs.Edits.{edits_ahead}
use Rattle.journal_model.specs.declared.step.Entry.{Entry}
use Rattle.turn_lock.specs.declared.known.Caller.{Caller}
use Rattle.turn_lock.specs.Knowledge.{TableId}
use Rattle.desk_hall.specs.Turn.{View}
use Rattle.desk_hall.specs.Reads.{ReaderDid, Stream, controls_ahead, control_step, edit_step, stream}
use Rattle.headend_jobs.specs.declared.jobs.FeedJob.{FeedJob}
use Rattle.headend_jobs.specs.declared.jobs.ControlJob.{ControlJob}
use Rattle.headend_jobs.specs.declared.jobs.PlayerJob.{PlayerJob}
use Rattle.headend_jobs.specs.declared.jobs.Others.{Others}
use Rattle.headend_jobs.specs.declared.sender.Sender.{Sender}
use Rattle.headend_jobs.specs.declared.sender.Swaps.{Swaps}
use Rattle.headend_jobs.specs.Sends.{CanPlay, Played}
use Rattle.headend_jobs.specs.Views.{ViewReady, ViewsDid}

-- ---- the passes that a run gives out

-- what a pass of one number knows before its first turn
abbrev pub new_pass : TableId → Mux → ℕ → View
new_pass turns mux who = record { turns = turns; seen = []; own = record { low = who; span = 1; made = [] }; finished = []; on = Some mux }

-- a feed before it begins: feed f is caller f + 1
abbrev pub new_feed : {S : Type 0} → TableId → Mux → ℕ → Reading S → FeedJob S
new_feed turns mux f reader = record { pass = new_pass turns mux (f + 1); feed = f; lines = reader; stop = None }

-- the feeds of these readers, of which the first has number n
abbrev pub new_feeds : {S : Type 0} → TableId → Mux → ℕ → List (Reading S) → List (FeedJob S)
new_feeds turns mux n [] = []
new_feeds turns mux n (reader ∷ readers) = new_feed turns mux n reader ∷ new_feeds turns mux (n + 1) readers

-- the control and the player before they begin
abbrev pub new_control : {S : Type 0} → TableId → Mux → Reading S → ControlJob S
new_control turns mux reader = record { pass = new_pass turns mux 0; lines = reader; stop = None }

abbrev pub new_player : TableId → Mux → ℕ → PlayerJob
new_player turns mux cycles = record { pass = new_pass turns mux 1; cycles = cycles; end = Ok tt }

-- ---- what feeds bring, in their order

abbrev pub lines_of : {S : Type 0} → List (FeedJob S) → List (Reading S)
lines_of {S} jobs = map (λ (job : FeedJob S). job.lines) jobs

abbrev pub stops_of : {S : Type 0} → List (FeedJob S) → List (Option EditStop)
stops_of {S} jobs = map (λ (job : FeedJob S). job.stop) jobs

abbrev pub callers_of : {S : Type 0} → List (FeedJob S) → List (Caller Entry)
callers_of {S} jobs = map (λ (job : FeedJob S). job.pass.own) jobs

-- ---- what each did

-- what the sources of the feeds show, and that of the control
pub record Streams (F S : Type 0) : Type 1 where
  pub feeds : Stream F
  pub control : Stream S

abbrev pub streams : {F S : Type 0} → (F → Option (List ℕ)) → (F → ℕ) → (F → F → Type 0)
    → (S → Option (List ℕ)) → (S → ℕ) → (S → S → Type 0) → Streams F S
streams left faults same leftS faultsS sameS =
    record { feeds = stream left faults same; control = stream leftS faultsS sameS }

pub record FeedDid {S : Type 0} (s : Stream S) (old new : FeedJob S) : Type 0 where
  pub feed : new.feed ≡ old.feed
  pub read : ReaderDid (edit_step old.feed) edits_ahead s old.pass new.pass old.lines new.lines new.stop

abbrev pub FeedsDid : {S : Type 0} → Stream S → List (FeedJob S) → List (FeedJob S) → Type 0
FeedsDid s old new = AllZip (FeedDid s) old new

abbrev pub ControlDid : {S : Type 0} → Stream S → ControlJob S → ControlJob S → Type 0
ControlDid s old new =
    ReaderDid control_step controls_ahead s old.pass new.pass old.lines new.lines new.stop

-- each feed job's pass is of these turns
abbrev pub AllOf : {S : Type 0} → TableId → List (FeedJob S) → Type 0
AllOf {S} turns jobs = All (λ (job : FeedJob S). job.pass.turns ≡ turns) jobs

-- The feeds, the control and the viewers may begin.
pub record OthersReady {F S : Type 0} (turns : TableId) (others : Others F S) : Type 0 where
  pub feeds : AllOf turns others.feeds.items
  pub control : others.control.pass.turns ≡ turns
  pub views : All ViewReady others.views.items

-- The feeds, the control and the viewers each did what was ahead of them.
pub record OthersDid {F S : Type 0} (st : Streams F S) (old new : Others F S) : Type 0 where
  pub feeds : FeedsDid st.feeds old.feeds.items new.feeds.items
  pub control : ControlDid st.control old.control new.control
  pub views : ViewsDid old.views.items new.views.items

-- so many swaps, each after its tick
abbrev pub swaps_with_ticks : ℕ → Swaps
swaps_with_ticks n = record { count = n; ticking = true }

-- The player may begin.
pub record PlayerReady {A : Type 0} (turns : TableId) (job : PlayerJob) (s : Sender A) : Type 0 where
  pub can_play : CanPlay turns job.pass s
  pub few : job.cycles < 2 ^ 32

-- It made its swaps.
pub record PlayerDid {A : Type 0} (written : A → Option (List ℕ)) (faults : A → ℕ)
    (is_same : A → A → Type 0) (old new : PlayerJob) (s t : Sender A) : Type 0 where
  pub cycles : new.cycles ≡ old.cycles
  pub played : Played written faults is_same (swaps_with_ticks old.cycles) old.pass new.pass s t new.end
