-- The lines of a script that is followed, one after another.
use Rattle.std.proofs.Common.{◌≡◌, ℕ, Bool, List, [], ◌∷◌, ◌++◌, refl, sym, ap, ◌∙◌, append-nil, append_assoc, inl, inr}
use Rattle.std.specs.Prelude.{Option, Some, None, is_some}
use Rattle.std.proofs.lemmas.Bool.{cases_Bool}
use Rattle.std.proofs.lemmas.List.{map-append}
use Rattle.std.proofs.lemmas.List.Elements.{filter_map-append}
use Rattle.input_lines.specs.Ahead.{Ahead, Came, Stopped, Found, and_all}
use Rattle.input_lines.specs.Ahead as reading
use Rattle.mux_model.specs.declared.mux.Mux.{Mux}
use Rattle.journal_model.specs.declared.step.Outcome.{Outcome}
use Rattle.journal_model.specs.declared.step.Entry.{Entry}
use Rattle.journal_model.specs.Steps.{Command}
use Rattle.desk_core.specs.Journal.{entry_after, journal_after}
use Rattle.desk_core.proofs.JournalFacts.{journal_more}
use Rattle.journal_model.specs.Raising.{all_raised, raised_entry}
use Rattle.script_lines.specs.declared.script.ScriptItem.TheVariants.{Step as step, Kept, End}
use Rattle.epg_play.specs.Outcomes.{is_outcome}
use Rattle.epg_play.specs.Script.{Stop, stop_of}
use Rattle.script_notes.specs.Pieces.{Piece, Noted, entries_in, entry_in, pieces_text, piece_text}
use Rattle.script_notes.specs.declared.noting.Noting.{Noting}
use Rattle.script_notes.specs.declared.noting.Noting.TheVariants.{Bad, Item}
use Rattle.script_notes.specs.Notings.{first_noting, is_command_noting, notings_ahead}
use Rattle.script_notes.proofs.NotingsAhead.{notings_go_on}
use Rattle.epg_follow.specs.Course.{Addition, Adds, Agrees, Ends, Followed, addition, and_others, entered, entries_with, followed_of, made_by, of_kept, of_outcome, unless_kept}
use Rattle.epg_follow.specs.Items.{GoesOn, added}
use Rattle.epg_follow.specs.Going.{followed_at}
use Rattle.epg_follow.specs.Rest.{with_pieces}

-- a script that stops at once
abbrev pub stopped : Stop → List Piece → Followed
stopped stop comment = record { pieces = []; stop = stop; comment = comment }

module _ (keep : Bool) (shift : ℕ) (mux : Mux) where
  -- the next line may keep an outcome exactly where a command was done
  made_is : (journal : List Entry) (noting : Noting) → is_some (made_by keep shift mux journal noting) ≡ is_command_noting noting
  made_is journal (Item (step who s)) = refl
  made_is journal (Item (Kept n kept)) = refl
  made_is journal (Item End) = refl
  made_is journal (Bad n why) = refl

  abbrev after : List Entry → Noting → Ahead → Followed
  after journal noting behind =
      followed_at keep shift mux (entries_with keep shift mux journal noting) (made_by keep shift mux journal noting) behind

  -- a line, and what is ahead behind it
  pub line_ahead : (journal : List Entry) (made : Option Outcome) (lines behind : Ahead) (noting : Noting) → first_noting (is_some made) lines ≡ Came noting behind
      → followed_at keep shift mux journal made lines ≡ and_others (addition keep shift mux journal made noting) (after journal noting behind)
  line_ahead journal made lines behind noting e =
      ap (λ (n : List Noting × reading.Stop). followed_of keep shift mux journal made n.0 n.1)
      (notings_go_on (is_some made) lines ∙ ap (λ (f : Found Noting). and_all f (λ (n : Noting). notings_ahead (is_command_noting n))) e)
      ∙ ap (λ (b : Bool). and_others (addition keep shift mux journal made noting)
      (followed_of keep shift mux (entries_with keep shift mux journal noting) (made_by keep shift mux journal noting) (notings_ahead b behind).0 (notings_ahead b behind).1))
      (sym (made_is journal noting))

  pub stop_ahead : (journal : List Entry) (made : Option Outcome) (lines : Ahead) (stop : reading.Stop) → first_noting (is_some made) lines ≡ Stopped stop
      → followed_at keep shift mux journal made lines ≡ stopped (stop_of stop) []
  stop_ahead journal made lines stop e =
      ap (λ (n : List Noting × reading.Stop). followed_of keep shift mux journal made n.0 n.1)
      (notings_go_on (is_some made) lines ∙ ap (λ (f : Found Noting). and_all f (λ (n : Noting). notings_ahead (is_command_noting n))) e)

-- ---- pieces in front

pub added_more : (pieces : List Piece) (add : Addition) (rest : Followed) → GoesOn add → with_pieces pieces (and_others add rest) ≡ with_pieces (pieces ++ added add) rest
added_more pieces (Adds piece) rest on = ap (λ (l : List Piece). let f : Followed = record rest { pieces = l } in f) (sym (append_assoc pieces (piece ∷ []) rest.pieces))
added_more pieces Agrees rest on = ap (λ (l : List Piece). let f : Followed = record rest { pieces = l ++ rest.pieces } in f) (sym (append-nil pieces))
added_more pieces (Ends stop comment) rest on = absurd on

pub ends_there : (pieces : List Piece) (stop : Stop) (comment : List Piece) → with_pieces pieces (stopped stop comment) ≡ record { pieces = pieces; stop = stop; comment = comment }
ends_there pieces stop comment = ap (λ (l : List Piece). let f : Followed = record { pieces = l; stop = stop; comment = comment } in f) (append-nil pieces)

pub pieces_text-append : (a b : List Piece) → pieces_text (a ++ b) ≡ pieces_text a ++ pieces_text b
pieces_text-append [] b = refl
pieces_text-append (x ∷ a) b = ap (λ l. piece_text x ++ l) (pieces_text-append a b) ∙ sym (append_assoc (piece_text x) (pieces_text a) (pieces_text b))

pub pieces_text-one : (piece : Piece) → pieces_text (piece ∷ []) ≡ piece_text piece
pieces_text-one piece = append-nil (piece_text piece)

-- ---- the entries of what was added

-- the commands of a line
abbrev pub commands_with : List Command → Noting → List Command
commands_with commands (Item (step who s)) = commands ++ (who, s) ∷ []
commands_with commands (Item (Kept n kept)) = commands
commands_with commands (Item End) = commands
commands_with commands (Bad n why) = commands

module _ (keep : Bool) (shift : ℕ) (mux : Mux) (journal : List Entry) where
  abbrev more : List Command → List Entry
  more commands = journal_after mux journal commands

  abbrev now : List Command → List Entry
  now commands = journal ++ more commands

  more_push : (commands : List Command) (command : Command) → more (commands ++ command ∷ []) ≡ more commands ++ entry_after mux (now commands) command ∷ []
  more_push commands command = journal_more mux journal commands (command ∷ [])

  pub entries_are : (commands : List Command) (noting : Noting) → entries_with keep shift mux (now commands) noting ≡ now (commands_with commands noting)
  entries_are commands (Item (step who s)) =
      append_assoc journal (more commands) (entry_after mux (now commands) (who, s) ∷ []) ∙ ap (λ l. journal ++ l) (sym (more_push commands (who, s)))
  entries_are commands (Item (Kept n kept)) = refl
  entries_are commands (Item End) = refl
  entries_are commands (Bad n why) = refl

  -- the entries among the pieces that a line adds
  none_in : (n : ℕ) (kept : Outcome) (made : Option Outcome) → entries_in (added (of_kept keep n kept made)) ≡ []
  none_in n kept None = refl
  none_in n kept (Some found) = by (is_outcome kept found) keep
    where
      by : (same keeps : Bool) → entries_in (added (of_outcome keep n kept found)) ≡ []
      by same keeps = elim (cases_Bool (is_outcome kept found)) [
        | inl e ↦ rw e refl
        | inr e ↦ rw e (elim (cases_Bool keep) [
          | inl k ↦ rw k refl
          | inr k ↦ rw k refl
        ])
      ]

  bad_in : (n : ℕ) (made : Option Outcome) (noting : Noting) → (piece : Piece) → entries_in (piece ∷ []) ≡ [] → (stop : Stop) (comment : List Piece)
      → entries_in (added (unless_kept keep piece stop comment)) ≡ []
  bad_in n made noting piece none stop comment = elim (cases_Bool keep) [
    | inl k ↦ rw k none
    | inr k ↦ rw k refl
  ]

  pub added_entries : (commands : List Command) (pieces : List Piece) (made : Option Outcome) (noting : Noting) → entries_in pieces ≡ all_raised shift (more commands)
      → entries_in (pieces ++ added (addition keep shift mux (now commands) made noting)) ≡ all_raised shift (more (commands_with commands noting))
  added_entries commands pieces made noting e = filter_map-append entry_in pieces (added (addition keep shift mux (now commands) made noting)) ∙ by noting
    where
      same : (l : List Entry) → l ≡ [] → entries_in pieces ++ l ≡ all_raised shift (more commands)
      same l none = ap (λ x. entries_in pieces ++ x) none ∙ append-nil (entries_in pieces) ∙ e

      by : (n : Noting) → entries_in pieces ++ entries_in (added (addition keep shift mux (now commands) made n)) ≡ all_raised shift (more (commands_with commands n))
      by (Item (step who s)) =
          ap (λ (l : List Entry). l ++ entered shift mux (now commands) (who, s) ∷ []) e
          ∙ sym (map-append (raised_entry shift) (more commands) (entry_after mux (now commands) (who, s) ∷ []))
          ∙ ap (all_raised shift) (sym (more_push commands (who, s)))
      by (Item (Kept n kept)) = same _ (none_in n kept made)
      by (Item End) = same _ refl
      by (Bad n why) = same _ (bad_in n made noting (Noted n why) refl _ _)
