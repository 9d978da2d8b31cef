-- What following the rest of a script does.
use Rattle.std.specs.Prelude.{◌≡◌, ◌⊎◌, ◌<◌, ℕ, Bool, false, List, [], ◌∷◌, ◌++◌, length, take, Option, Ok, Err, Result}
use Rattle.std.specs.Io.KnownBytes.{Appends}
use Rattle.si_causes.specs.Reading.{Reading}
use Rattle.si_causes.specs.declared.stop.ReadStop.TheVariants.{Failed, TooLong as Overlong}
use Rattle.input_lines.specs.Ahead.{Breaks}
use Rattle.input_lines.specs.Going.{WereWhole}
use Rattle.input_lines.specs.Reads.{ahead_with}
use Rattle.journal_model.specs.declared.step.Entry.{Entry}
use Rattle.journal_model.specs.Steps.{Command}
use Rattle.desk_core.specs.Journal.{journal_after}
use Rattle.journal_model.specs.Raising.{all_raised}
use Rattle.epg_report.specs.Told.{ReportTaken}
use Rattle.epg_play.specs.Script.{Stop, Ended, NoCommand as NoLine, Disagreed, TooLong, Unread}
use Rattle.script_notes.specs.Pieces.{Piece, Noted, entries_in, piece_text, pieces_text}
use Rattle.epg_follow.specs.declared.follower.Follower.{Follower}
use Rattle.epg_follow.specs.declared.stop.FollowStop.{FollowStop}
use Rattle.epg_follow.specs.declared.stop.FollowStop.TheVariants.{NoCommand, Disagrees, Read, Air, Report, Memory}
use Rattle.epg_follow.specs.Course.{Followed, followed}
use Rattle.epg_follow.specs.Items.{Carries, CarriesFront, IsSwapEntry}

-- these pieces, before what a script goes on with
abbrev pub with_pieces : List Piece → Followed → Followed
with_pieces pieces script = record script { pieces = pieces ++ script.pieces }

-- Commands were done after a journal, and these pieces are their entries with comments among them.
pub record Entering (journal : List Entry) (start now : Follower) (pieces : List Piece) : Type 0 where
  pub commands : List Command
  pub mux : now.desk.mux ≡ start.desk.mux
  pub shift : now.shift ≡ start.shift
  pub entries : entries_in pieces ≡ all_raised start.shift (journal_after start.desk.mux journal commands)

abbrev pub journal_at : {journal : List Entry} {start now : Follower} {pieces : List Piece} → Entering journal start now pieces → List Entry
journal_at {journal = journal} {start = start} e = journal ++ journal_after start.desk.mux journal e.commands

-- From a start with this journal the pieces were reported, and their cycles sent.
pub record Reached (journal : List Entry) (start now : Follower) (air report : ReportTaken) (pieces : List Piece) : Type 0 where
  pub entering : Entering journal start now pieces
  pub carries : Carries journal (journal_at entering) start now air
  pub reported : Appends report.old report.new (pieces_text pieces)

-- and of the last of them, a swap, a proper front
pub record ReachedCut (journal : List Entry) (start now : Follower) (air report : ReportTaken) (pieces : List Piece) : Type 0 where
  pub entering : Entering journal start now pieces
  pub carries : CarriesFront journal (journal_at entering) start now air
  pub reported : Appends report.old report.new (pieces_text pieces)

-- At some state the pieces were reported and their cycles sent; then of another piece the report took a proper front, and the air nothing.
pub record ReachedUnreported (journal : List Entry) (start : Follower) (air report : ReportTaken) (pieces : List Piece) (piece : Piece) : Type 0 where
  pub state : Follower
  pub entering : Entering journal start state pieces
  pub carries : Carries journal (journal_at entering) start state air
  pub n : ℕ
  pub proper : n < length (piece_text piece)
  pub reported : Appends report.old report.new (pieces_text pieces ++ take n (piece_text piece))

-- At some state the pieces were reported and their cycles sent; then perhaps a swap was reported, of which no packet was sent.
pub record ReachedMemory (journal : List Entry) (start : Follower) (air report : ReportTaken) (pieces swap : List Piece) : Type 0 where
  pub state : Follower
  pub entering : Entering journal start state pieces
  pub carries : Carries journal (journal_at entering) start state air
  pub swap_is : (swap ≡ []) ⊎ ((piece : Piece) × (swap ≡ piece ∷ []) × IsSwapEntry piece)
  pub reported : Appends report.old report.new (pieces_text (pieces ++ swap))

module _ (journal : List Entry) (start now : Follower) (air report : ReportTaken) (script : Followed) where
  -- the script stops after these pieces
  abbrev pub StopsAt : Stop → List Piece → Type 0
  StopsAt stop comment = (pieces : List Piece) × (script ≡ record { pieces = pieces; stop = stop; comment = comment }) × Reached journal start now air report pieces

  -- what was done of a script, by the result
  abbrev pub RestDid : Result (Unit {0}) FollowStop → Type 0
  RestDid (Ok u) = StopsAt Ended []
  RestDid (Err (NoCommand n why)) = StopsAt (NoLine n) (Noted n why ∷ [])
  RestDid (Err (Disagrees n kept found)) = StopsAt (Disagreed n kept found) []
  RestDid (Err (Read Overlong)) = StopsAt TooLong []
  RestDid (Err (Read Failed)) = (pieces : List Piece) × (rest : Followed) × (script ≡ with_pieces pieces rest) × Reached journal start now air report pieces
  RestDid (Err Air) = (pieces : List Piece) × (rest : Followed) × (script ≡ with_pieces pieces rest) × ReachedCut journal start now air report pieces
  RestDid (Err Report) = (pieces : List Piece) × (piece : Piece) × (rest : Followed) × (script ≡ with_pieces (pieces ++ piece ∷ []) rest)
      × ReachedUnreported journal start air report pieces piece
  RestDid (Err Memory) = (pieces : List Piece) × (swap : List Piece) × (rest : Followed) × (script ≡ with_pieces (pieces ++ swap) rest)
      × ReachedMemory journal start air report pieces swap

-- A read failed: of the lines that were whole in the bytes taken all was done.
pub record FollowedWholeLines {S : Type 0} (keep : Bool) (left : S → Option (List ℕ)) (old new : Reading S) (journal : List Entry) (start now : Follower)
    (air report : ReportTaken) : Type 0 where
  pub lines : List (List ℕ)
  pub whole : WereWhole left old new lines
  pub unended : old.ended ≡ false
  pub did : StopsAt journal start now air report (followed keep start.shift start.desk.mux journal (ahead_with old lines Breaks)) Unread []

abbrev pub RestTaken : {S : Type 0} → Bool → (S → Option (List ℕ)) → Reading S → Reading S → List Entry → Follower → Follower → ReportTaken → ReportTaken
    → Result (Unit {0}) FollowStop → Type 0
RestTaken keep left old new journal start now air report (Err (Read Failed)) = FollowedWholeLines keep left old new journal start now air report
RestTaken keep left old new journal start now air report result = Unit {0}
