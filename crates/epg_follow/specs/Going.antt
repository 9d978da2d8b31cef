-- How far following a script has come.
use Rattle.std.specs.Prelude.{◌≡◌, ℕ, Bool, true, false, is_some, List, ◌++◌, Option, None, Some, Ok, Err, Result}
use Rattle.si_causes.specs.Reading.{Reading, text_left}
use Rattle.input_lines.specs.Ahead.{Ahead, Breaks, ahead}
use Rattle.input_lines.specs.Going.{HandedOut}
use Rattle.input_lines.specs.Reads.{ahead_with}
use Rattle.mux_model.specs.declared.mux.Mux.{Mux}
use Rattle.journal_model.specs.declared.step.Entry.{Entry}
use Rattle.journal_model.specs.declared.step.Outcome.{Outcome}
use Rattle.desk_core.specs.Lean.{StandsFor}
use Rattle.epg_report.specs.Told.{ReportTaken}
use Rattle.script_notes.specs.Pieces.{Piece}
use Rattle.script_notes.specs.Held.{ahead_held, with_held}
use Rattle.script_notes.specs.Notings.{notings_ahead}
use Rattle.epg_follow.specs.declared.follower.Follower.{Follower}
use Rattle.epg_follow.specs.declared.stop.FollowStop.{FollowStop}
use Rattle.epg_follow.specs.Course.{Followed, followed_of}
use Rattle.epg_follow.specs.Rest.{Reached, RestDid, RestTaken, journal_at, with_pieces}

-- the script of what is ahead after these entries, where this outcome was reported last
abbrev pub followed_at : Bool → ℕ → Mux → List Entry → Option Outcome → Ahead → Followed
followed_at keep shift mux journal made lines =
    (let notings = notings_ahead (is_some made) lines in followed_of keep shift mux journal made notings.0 notings.1)

-- Of what was ahead of a start these pieces were added, and the script goes on with what is ahead now.
abbrev pub AreAdded : Bool → List Entry → Follower → List Entry → Follower → Ahead → Ahead → List Piece → Type 0
AreAdded keep journal start after now lines behind pieces =
    followed_at keep start.shift start.desk.mux journal None lines
    ≡ with_pieces pieces (followed_at keep start.shift start.desk.mux after now.made behind)

-- From a start with this journal these pieces were reported, of what a reader gave.
pub record Went {S : Type 0} (keep : Bool) (left : S → Option (List ℕ)) (old new : Reading S) (journal : List Entry) (start now : Follower)
    (air report : ReportTaken) : Type 0 where
  pub pieces : List Piece
  pub reached : Reached journal start now air report pieces
  pub stands : StandsFor (journal_at reached.entering) now.desk
  pub told : (text : List ℕ) → text_left left old ≡ Some text → (rest : List ℕ) × (text_left left new ≡ Some rest)
      × AreAdded keep journal start (journal_at reached.entering) now (ahead old text) (ahead_held now.held new rest) pieces
  pub lines : List (List ℕ)
  pub handed : HandedOut left old new lines
  pub reads : (more : List (List ℕ)) → new.ended ≡ false
      → AreAdded keep journal start (journal_at reached.entering) now (ahead_with old (lines ++ more) Breaks) (with_held now.held new (ahead_with new more Breaks)) pieces

-- A script stops, for what was ahead of it when it began.
abbrev pub Stops : {S : Type 0} → Bool → (S → Option (List ℕ)) → Reading S → Reading S → List Entry → Follower → Follower → ReportTaken → ReportTaken
    → Result (Unit {0}) FollowStop → Type 0
Stops keep left old new journal start now air report result =
    ((text : List ℕ) → text_left left old ≡ Some text
    → RestDid journal start now air report (followed_at keep start.shift start.desk.mux journal None (ahead old text)) result)
    × RestTaken keep left old new journal start now air report result

-- a script goes on after a line, or ends, or stops
abbrev pub GoesOnTo : {S : Type 0} → Bool → (S → Option (List ℕ)) → Reading S → Reading S → List Entry → Follower → Follower → ReportTaken → ReportTaken
    → Result Bool FollowStop → Type 0
GoesOnTo keep left old new journal start now air report (Ok true) = Went keep left old new journal start now air report
GoesOnTo keep left old new journal start now air report (Ok false) = Stops keep left old new journal start now air report (Ok tt)
GoesOnTo keep left old new journal start now air report (Err stop) = Stops keep left old new journal start now air report (Err stop)
