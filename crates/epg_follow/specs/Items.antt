-- What following a script does, line by line: an entry is reported before the first packet of its cycle.
use Rattle.std.specs.Prelude.{OnOk, ◌≡◌, ◌⊎◌, ◌<◌, ◌≤◌, ◌^◌, ℕ, Bool, true, false, is_some, List, [], ◌∷◌, ◌++◌, Option, Some, None, IfSome, Ok, Err, Result}
use Rattle.std.specs.Io.KnownBytes.{Appends}
use Rattle.si_causes.specs.Causes.{AppendsFront, Rose}
use Rattle.si_causes.specs.Reading.{Reading, text_left}
use Rattle.si_causes.specs.declared.stop.ReadStop.TheVariants.{Failed, TooLong as Overlong}
use Rattle.input_lines.specs.Ahead.{End, Stop, Stopped, TooLong, ahead}
use Rattle.input_lines.specs.Reads.{Faulted, Leaves}
use Rattle.air_model.specs.Air.{Aired}
use Rattle.journal_model.specs.declared.step.Step.TheVariants.{Swap}
use Rattle.journal_model.specs.declared.step.Entry.{Entry}
use Rattle.journal_model.specs.Steps.{IsInWindow}
use Rattle.desk_core.specs.Desks.{DeskState}
use Rattle.desk_core.specs.Journal.{entry_after}
use Rattle.desk_core.specs.Lean.{IsLean, StandsFor}
use Rattle.journal_air.specs.OnAir.{HasAired, HasAiredFront, IsPlayerOf}
use Rattle.journal_air.specs.Tallied.{HasTallied}
use Rattle.epg_report.specs.Told.{ReportTaken}
use Rattle.epg_play.specs.Script.{NoCommand as NoLine, Disagreed}
use Rattle.script_notes.specs.declared.noting.Noting.{Noting}
use Rattle.script_notes.specs.declared.noting.Held.{Held}
use Rattle.script_notes.specs.declared.noting.Held.TheVariants.{Nothing}
use Rattle.script_notes.specs.Held.{IsHeldBy, PassesTo, came_held, first_held, left_over}
use Rattle.script_notes.specs.Whys.{CanBeSaid}
use Rattle.script_notes.specs.Pieces.{Piece, Entered, Noted, piece_text, pieces_text}
use Rattle.epg_follow.specs.declared.follower.Follower.{Follower}
use Rattle.epg_follow.specs.declared.stop.FollowStop.{FollowStop}
use Rattle.epg_follow.specs.declared.stop.FollowStop.TheVariants.{NoCommand, Disagrees, Read, Air, Report, Memory}
use Rattle.epg_follow.specs.Course.{Addition, Adds, Agrees, Ends, addition, entered, entries_with, made_by}

-- the desk with this journal, for which a follower's desk stands
abbrev pub desk_of : List Entry → Follower → DeskState
desk_of journal follower = record { mux = follower.desk.mux; entries = journal }

-- The desk stands for a journal, the player is at the end of a cycle, and numbers can be raised and outcomes written.
pub record CanFollow (follower : Follower) : Type 0 where
  pub lean : IsLean follower.desk
  pub shift : follower.shift < 10 ^ 18
  pub at_end : follower.player.left ≡ []
  pub window : IfSome follower.made IsInWindow

-- the reader goes on with what is held
pub record CanRead {S : Type 0} (left : S → Option (List ℕ)) (lines : Reading S) (follower : Follower) : Type 0 where
  pub going : lines.stop ≡ None
  pub held : IsHeldBy left follower.held lines

-- the next line can be read and followed
pub record CanFollowOn {S : Type 0} (left : S → Option (List ℕ)) (lines : Reading S) (follower : Follower) : Type 0 where
  pub reader : CanRead left lines follower
  pub ready : CanFollow follower

-- no line was followed yet
pub record IsFresh (follower : Follower) : Type 0 where
  pub made : follower.made ≡ None
  pub held : follower.held ≡ Nothing

-- The multiplex and the shift stay, and where a line was done the next can be.
pub record StaysReady {T : Type 0} (old new : Follower) (result : Result T FollowStop) : Type 0 where
  pub mux : new.desk.mux ≡ old.desk.mux
  pub shift : new.shift ≡ old.shift
  pub ready : OnOk result (CanFollow new)

-- what is said of a stop can be written
abbrev pub IsSaid : FollowStop → Type 0
IsSaid (NoCommand n why) = CanBeSaid why
IsSaid (Disagrees n kept found) = IsInWindow kept × IsInWindow found
IsSaid stop = Unit {0}

-- what writing a text to a report leaves
abbrev pub Writes : List ℕ → ReportTaken → Result (Unit {0}) FollowStop → Type 0
Writes text report (Ok u) = Appends report.old report.new text
Writes text report (Err Report) = Rose report.faults_old report.faults_new × AppendsFront report.old report.new text
Writes text report (Err Memory) = report.new ≡ report.old
Writes text report (Err stop) = ⊥

-- nothing was taken
abbrev pub TookNothing : ReportTaken → Type 0
TookNothing took = took.new ≡ took.old

-- the pieces that a line adds
abbrev pub added : Addition → List Piece
added (Adds piece) = piece ∷ []
added Agrees = []
added (Ends stop comment) = []

-- it does not end the script
abbrev pub GoesOn : Addition → Type 0
GoesOn (Ends stop comment) = ⊥
GoesOn other = Unit {0}

-- the entry of a swap
abbrev pub IsSwapEntry : Piece → Type 0
IsSwapEntry (Entered entry) = entry.step ≡ Swap
IsSwapEntry (Noted n why) = ⊥

-- A command was done at the desk, and this is its entry as it is reported.
pub record HasEntered (journal : List Entry) (before now : Follower) (entry : Entry) : Type 0 where
  pub stood : StandsFor journal before.desk
  pub is : entry ≡ entered before.shift before.desk.mux journal (entry.who, entry.step)
  pub stands : StandsFor (journal ++ entry_after before.desk.mux journal (entry.who, entry.step) ∷ []) now.desk
  pub mux : now.desk.mux ≡ before.desk.mux
  pub player : now.player ≡ before.player

-- After this journal and earlier cycles the air has these cycles of it; and then, with the entries of the line, these.
pub record Carries (journal after : List Entry) (old new : Follower) (air : ReportTaken) : Type 0 where
  pub aired : (earlier : List Aired) (before : Option (List ℕ)) → HasAired earlier (desk_of journal old) old.player before air.old
      → HasAired earlier (desk_of after new) new.player before air.new
  pub tallied : IsPlayerOf old.desk.mux old.player → HasTallied (desk_of journal old) old.player
      → IsPlayerOf new.desk.mux new.player × HasTallied (desk_of after new) new.player

-- or of the last of them a proper front
pub record CarriesFront (journal after : List Entry) (old new : Follower) (air : ReportTaken) : Type 0 where
  pub aired : (earlier : List Aired) (before : Option (List ℕ)) → HasAired earlier (desk_of journal old) old.player before air.old
      → HasAiredFront earlier (desk_of after new) before air.new
  pub tallied : IsPlayerOf old.desk.mux old.player → HasTallied (desk_of journal old) old.player
      → IsPlayerOf new.desk.mux new.player × HasTallied (desk_of after new) new.player

module _ (keep : Bool) (journal : List Entry) (old new : Follower) (noting : Noting) (air report : ReportTaken) where
  abbrev pub adds : Addition
  adds = addition keep old.shift old.desk.mux journal old.made noting

  abbrev pub journal_with : List Entry
  journal_with = entries_with keep old.shift old.desk.mux journal noting

  -- The line was done: the report took its piece, and after that the air the cycle of a swap.
  pub record LineDone : Type 0 where
    pub goes_on : GoesOn adds
    pub stands : StandsFor journal_with new.desk
    pub made : new.made ≡ made_by keep old.shift old.desk.mux journal noting
    pub reported : Appends report.old report.new (pieces_text (added adds))
    pub carries : Carries journal journal_with old new air

  -- a piece was not reported whole, and of a swap no packet was sent
  pub record LineUnreported : Type 0 where
    pub piece : Piece
    pub adds_it : adds ≡ Adds piece
    pub front : AppendsFront report.old report.new (piece_text piece)
    pub cause : Rose report.faults_old report.faults_new
    pub silent : TookNothing air

  -- a swap was reported, and a proper front of its cycle was sent
  pub record LineCut : Type 0 where
    pub piece : Piece
    pub adds_it : adds ≡ Adds piece
    pub is_swap : IsSwapEntry piece
    pub reported : Appends report.old report.new (piece_text piece)
    pub cause : Rose air.faults_old air.faults_new
    pub carries : CarriesFront journal journal_with old new air

  -- Memory was wanting: nothing was reported; or a swap was, and no packet of it was sent.
  pub record LineGivenUp : Type 0 where
    pub reported : TookNothing report ⊎ ((piece : Piece) × (adds ≡ Adds piece) × IsSwapEntry piece × Appends report.old report.new (piece_text piece))
    pub silent : TookNothing air

  -- the line ends the script
  pub record LineRefused (stop : Addition) : Type 0 where
    pub is : adds ≡ stop
    pub player : new.player ≡ old.player
    pub unreported : TookNothing report
    pub silent : TookNothing air

  -- what a line did, by the result
  abbrev pub LineDid : Result (Unit {0}) FollowStop → Type 0
  LineDid (Ok u) = LineDone
  LineDid (Err (NoCommand n why)) = LineRefused (Ends (NoLine n) (Noted n why ∷ []))
  LineDid (Err (Disagrees n kept found)) = LineRefused (Ends (Disagreed n kept found) [])
  LineDid (Err (Read stop)) = ⊥
  LineDid (Err Air) = LineCut
  LineDid (Err Report) = LineUnreported
  LineDid (Err Memory) = LineGivenUp

-- ---- a line that is read

-- a noting came of what was ahead with what was held
pub record NotingCame {S : Type 0} (left : S → Option (List ℕ)) (after : Bool) (held now : Held) (old new : Reading S) (noting : Noting) : Type 0 where
  pub gives : (text : List ℕ) → text_left left old ≡ Some text → Leaves left (first_held after held old) (came_held noting now new) old new text
  pub takes : PassesTo left (first_held after held old) (came_held noting now new) old new

-- nothing was done
pub record DidNothing (old new : Follower) (air report : ReportTaken) : Type 0 where
  pub player : new.player ≡ old.player
  pub silent : TookNothing air
  pub unreported : TookNothing report

-- no noting came of a told text, for this stop
abbrev pub StoppedAt : {S : Type 0} → (S → Option (List ℕ)) → Bool → Held → Reading S → Stop → Type 0
StoppedAt left after held old stop = (text : List ℕ) → text_left left old ≡ Some text → first_held after held old (ahead old text) ≡ Stopped stop

module _ {S : Type 0} (keep : Bool) (left : S → Option (List ℕ)) (faults : S → ℕ) (lines_old lines_new : Reading S) (journal : List Entry) (old new : Follower) (air report : ReportTaken) where
  abbrev pub Came : Noting → Type 0
  Came noting = NotingCame left (is_some old.made) old.held new.held lines_old lines_new noting

  abbrev pub StoppedBy : Stop → Type 0
  StoppedBy stop = StoppedAt left (is_some old.made) old.held lines_old stop × DidNothing old new air report

  -- What following the next line did: `true` where there was one, and `false` at the end.
  abbrev pub ItemDid : Result Bool FollowStop → Type 0
  ItemDid (Ok true) = (noting : Noting) × Came noting × LineDone keep journal old new noting air report
  ItemDid (Ok false) = StoppedBy End
  ItemDid (Err (Read Overlong)) = StoppedBy TooLong
  ItemDid (Err (Read Failed)) = Faulted left faults (first_held (is_some old.made) old.held lines_old) lines_old lines_new × DidNothing old new air report
  ItemDid (Err Memory) = DidNothing old new air report ⊎ ((noting : Noting) × Came noting × LineGivenUp keep journal old new noting air report)
  ItemDid (Err stop) = (noting : Noting) × Came noting × LineDid keep journal old new noting air report (Err stop)

-- with each line less is left
abbrev pub Falls : {S : Type 0} → Held → Held → Reading S → Reading S → Result Bool FollowStop → Type 0
Falls held now old new (Ok true) = left_over now new < left_over held old
Falls held now old new result = Unit {0}

-- No count of faults falls, and each fault has its cause.
pub record HaveCauses {T : Type 0} (read_old read_new : ℕ) (air report : ReportTaken) (result : Result T FollowStop) : Type 0 where
  pub read_later : read_old ≤ read_new
  pub air_later : air.faults_old ≤ air.faults_new
  pub report_later : report.faults_old ≤ report.faults_new
  pub read : result ≡ Err (Read Failed) → Rose read_old read_new
  pub air_cause : result ≡ Err Air → Rose air.faults_old air.faults_new
  pub report_cause : result ≡ Err Report → Rose report.faults_old report.faults_new

-- a line that was done so
abbrev pub as_item : Result (Unit {0}) FollowStop → Result Bool FollowStop
as_item (Ok u) = Ok true
as_item (Err stop) = Err stop
