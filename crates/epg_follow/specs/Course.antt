-- What following a script adds to its report, line by line, and why no more is added.
use Rattle.std.specs.Prelude.{ℕ, Bool, false, List, [], ◌∷◌, ◌++◌, Option, Some, None, if◌then◌else◌}
use Rattle.input_lines.specs.Ahead.{Ahead}
use Rattle.input_lines.specs.Ahead as reading
use Rattle.mux_model.specs.declared.mux.Mux.{Mux}
use Rattle.journal_model.specs.declared.step.Outcome.{Outcome}
use Rattle.journal_model.specs.declared.step.Entry.{Entry}
use Rattle.journal_model.specs.Steps.{Command}
use Rattle.desk_core.specs.Journal.{entry_after}
use Rattle.script_lines.specs.declared.script.ScriptItem.TheVariants.{Step as step, Kept, End}
use Rattle.script_notes.specs.declared.why.Why.TheVariants.{Disagrees}
use Rattle.script_notes.specs.declared.noting.Noting.{Noting}
use Rattle.script_notes.specs.declared.noting.Noting.TheVariants.{Bad, Item}
use Rattle.script_notes.specs.Notings.{notings_ahead}
use Rattle.script_notes.specs.Pieces.{Piece, Entered, Noted}
use Rattle.journal_model.specs.Raising.{raised_entry}
use Rattle.epg_play.specs.Outcomes.{is_outcome}
use Rattle.epg_play.specs.Script.{Stop, NoCommand, Disagreed, stop_of}

-- What a line adds: a piece of the report; nothing, where it keeps the outcome that was made; or it ends the script, with the comment on
-- it where it is no command.
pub data Addition : Type 0 where
  Adds : Piece → Addition
  Agrees : Addition
  Ends : Stop → List Piece → Addition

-- of a line at fault, which is passed over or ends the script
abbrev pub unless_kept : Bool → Piece → Stop → List Piece → Addition
unless_kept keep piece stop comment = if keep then Adds piece else Ends stop comment

-- of the outcome that line n keeps after one that was made
abbrev pub of_outcome : Bool → ℕ → Outcome → Outcome → Addition
of_outcome keep n kept made =
    if is_outcome kept made then Agrees
    else unless_kept keep (Noted n (Disagrees kept made)) (Disagreed n kept made) []

abbrev pub of_kept : Bool → ℕ → Outcome → Option Outcome → Addition
of_kept keep n kept None = Agrees
of_kept keep n kept (Some made) = of_outcome keep n kept made

-- the entry of a command after others, as it is reported
abbrev pub entered : ℕ → Mux → List Entry → Command → Entry
entered shift mux before command = raised_entry shift (entry_after mux before command)

module _ (keep : Bool) (shift : ℕ) (mux : Mux) where
  -- What a line adds after these entries; `made` is the outcome that was reported last, where its line came before.
  abbrev pub addition : List Entry → Option Outcome → Noting → Addition
  addition before made (Item (step who s)) = Adds (Entered (entered shift mux before (who, s)))
  addition before made (Item (Kept n kept)) = of_kept keep n kept made
  addition before made (Item End) = Agrees
  addition before made (Bad n why) = unless_kept keep (Noted n why) (NoCommand n) (Noted n why ∷ [])

  -- the entries after it
  abbrev pub entries_with : List Entry → Noting → List Entry
  entries_with before (Item (step who s)) = before ++ entry_after mux before (who, s) ∷ []
  entries_with before (Item (Kept n kept)) = before
  entries_with before (Item End) = before
  entries_with before (Bad n why) = before

  -- the outcome that the next line may keep
  abbrev pub made_by : List Entry → Noting → Option Outcome
  made_by before (Item (step who s)) = Some (entered shift mux before (who, s)).outcome
  made_by before (Item (Kept n kept)) = None
  made_by before (Item End) = None
  made_by before (Bad n why) = None

-- A script that is followed: the pieces of its report, why no more are added, and the comment on the line that ends it.
pub record Followed : Type 0 where
  pub pieces : List Piece
  pub stop : Stop
  pub comment : List Piece

-- what a line adds, before what the others do
abbrev pub and_others : Addition → Followed → Followed
and_others (Adds piece) others = record others { pieces = piece ∷ others.pieces }
and_others Agrees others = others
and_others (Ends stop comment) others = record { pieces = []; stop = stop; comment = comment }

-- the script of these lines, after these entries
abbrev pub followed_of : Bool → ℕ → Mux → List Entry → Option Outcome → List Noting → reading.Stop → Followed
followed_of keep shift mux before made [] stop = record { pieces = []; stop = stop_of stop; comment = [] }
followed_of keep shift mux before made (noting ∷ notings) stop =
    and_others (addition keep shift mux before made noting)
    (followed_of keep shift mux (entries_with keep shift mux before noting) (made_by keep shift mux before noting) notings stop)

-- the script of what is ahead
abbrev pub followed : Bool → ℕ → Mux → List Entry → Ahead → Followed
followed keep shift mux before lines =
    (let notings = notings_ahead false lines in followed_of keep shift mux before None notings.0 notings.1)
