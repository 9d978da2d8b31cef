-- The steps of the entries that following a script adds were read from lines, and the entries are legal.
use Rattle.std.proofs.Common.{◌≡◌, ℕ, Bool, true, false, List, [], ◌∷◌, ◌++◌, refl, sym, subst}
use Rattle.std.specs.Prelude.{Option, Some, None, if◌then◌else◌}
use Rattle.std.specs.List.{AllByRecursion}
use Rattle.input_lines.specs.Ahead.{Ahead}
use Rattle.input_lines.specs.Ahead as reading
use Rattle.mux_model.specs.declared.mux.Mux.{Mux}
use Rattle.journal_model.specs.declared.step.Outcome.{Outcome}
use Rattle.journal_model.specs.declared.step.Entry.{Entry}
use Rattle.journal_model.specs.Steps.{Command, IsStepInWindow, IsTypedStep}
use Rattle.desk_core.specs.Journal.{LegalAfter, entry_after, journal_after}
use Rattle.journal_model.specs.Raising.{all_raised}
use Rattle.script_lines.specs.declared.script.ScriptItem.TheVariants.{Step as step, Kept, End}
use Rattle.script_notes.specs.declared.why.Why.{Why}
use Rattle.script_notes.specs.declared.why.Why.TheVariants.{Disagrees}
use Rattle.script_notes.specs.declared.noting.Noting.{Noting}
use Rattle.script_notes.specs.declared.noting.Noting.TheVariants.{Bad, Item}
use Rattle.script_notes.specs.Notings.{notings_ahead}
use Rattle.epg_play.proofs.TypedFacts.{AreTypedCommands}
use Rattle.epg_play.specs.Outcomes.{is_outcome}
use Rattle.epg_play.specs.Script.{Stop, NoCommand, Disagreed}
use Rattle.script_notes.specs.Pieces.{Piece, Entered, Noted, entries_in}
use Rattle.script_notes.specs.Laws.{IsNotingInWindow, IsTypedNoting}
use Rattle.script_notes.proofs.NotingsAhead.{notings_typed, notings_window}
use Rattle.epg_follow.specs.Course.{Agrees, Followed, addition, and_others, entries_with, followed, followed_of, made_by, of_kept, unless_kept}
use Rattle.epg_follow.proofs.AlikeFacts.{entry_unraised}

abbrev pub IsReadEntry : Entry → Type 0
IsReadEntry e = IsTypedStep e.step × IsStepInWindow e.step

-- the steps of the entries among pieces were read
abbrev pub AreRead : List Piece → Type 0
AreRead pieces = AllByRecursion IsReadEntry (entries_in pieces)

-- a noting whose step was read
abbrev IsReadNoting : Noting → Type 0
IsReadNoting (Item (step who s)) = IsTypedStep s × IsStepInWindow s
IsReadNoting other = Unit {0}

one_read : (noting : Noting) → IsTypedNoting noting → IsNotingInWindow noting → IsReadNoting noting
one_read (Item (step who s)) typed window = (typed, window)
one_read (Item (Kept n kept)) typed window = tt
one_read (Item End) typed window = tt
one_read (Bad n why) typed window = tt

both_read : (notings : List Noting) → AllByRecursion IsTypedNoting notings → AllByRecursion IsNotingInWindow notings → AllByRecursion IsReadNoting notings
both_read [] typed window = tt
both_read (noting ∷ notings) typed window = (one_read noting typed.0 window.0, both_read notings typed.1 window.1)

-- those in front
pub front_read : (front behind : List Piece) → AreRead (front ++ behind) → AreRead front
front_read [] behind read = tt
front_read (Entered e ∷ front) behind read = (read.0, front_read front behind read.1)
front_read (Noted n why ∷ front) behind read = front_read front behind read

-- ---- what a line adds

-- A line at fault, and one that keeps an outcome, add no entry to those of the others.
module _ (P : List Entry → Type 0) (none : P []) (others : Followed) (have : P (entries_in others.pieces)) where
  noted_have : (keep : Bool) (n : ℕ) (why : Why) (stop : Stop) (comment : List Piece) → P (entries_in (and_others (unless_kept keep (Noted n why) stop comment) others).pieces)
  noted_have true n why stop comment = have
  noted_have false n why stop comment = none

  kept_have : (keep : Bool) (n : ℕ) (kept : Outcome) (made : Option Outcome) → P (entries_in (and_others (of_kept keep n kept made) others).pieces)
  kept_have keep n kept None = have
  kept_have keep n kept (Some found) = go (is_outcome kept found)
    where
      go : (same : Bool) → P (entries_in (and_others (if same then Agrees else unless_kept keep (Noted n (Disagrees kept found)) (Disagreed n kept found) []) others).pieces)
      go true = have
      go false = noted_have keep n (Disagrees kept found) (Disagreed n kept found) []

module _ (keep : Bool) (shift : ℕ) (mux : Mux) where
  line_read : (before : List Entry) (made : Option Outcome) (noting : Noting) (others : Followed) → IsReadNoting noting → AreRead others.pieces
      → AreRead (and_others (addition keep shift mux before made noting) others).pieces
  line_read before made (Item (step who s)) others is read = (is, read)
  line_read before made (Item (Kept n kept)) others is read = kept_have (AllByRecursion IsReadEntry) tt others read keep n kept made
  line_read before made (Item End) others is read = read
  line_read before made (Bad n why) others is read = noted_have (AllByRecursion IsReadEntry) tt others read keep n why (NoCommand n) (Noted n why ∷ [])

  all_read : (before : List Entry) (made : Option Outcome) (notings : List Noting) (stop : reading.Stop) → AllByRecursion IsReadNoting notings
      → AreRead (followed_of keep shift mux before made notings stop).pieces
  all_read before made [] stop read = tt
  all_read before made (noting ∷ notings) stop read =
      line_read before made noting _ read.0 (all_read (entries_with keep shift mux before noting) (made_by keep shift mux before noting) notings stop read.1)

pub followed_read : (keep : Bool) (shift : ℕ) (mux : Mux) (before : List Entry) (lines : Ahead) → AreRead (followed keep shift mux before lines).pieces
followed_read keep shift mux before lines =
    all_read keep shift mux before None (notings_ahead false lines).0 (notings_ahead false lines).1 (both_read (notings_ahead false lines).0 (notings_typed false lines) (notings_window false lines))

-- ---- they are legal

module _ (keep : Bool) (mux : Mux) where
  all_legal : (notings : List Noting) (before : List Entry) (made : Option Outcome) (stop : reading.Stop) → LegalAfter mux before (entries_in (followed_of keep 0 mux before made notings stop).pieces)
  all_legal [] before made stop = tt
  all_legal (Item (step who s) ∷ notings) before made stop =
      let e = entry_after mux before (who, s) in
      subst (λ (x : Entry). LegalAfter mux before (x ∷ entries_in (followed_of keep 0 mux (before ++ e ∷ []) (Some x.outcome) notings stop).pieces)) (sym (entry_unraised e))
      (refl, all_legal notings (before ++ e ∷ []) (Some e.outcome) stop)
  all_legal (Item (Kept n kept) ∷ notings) before made stop =
      kept_have (LegalAfter mux before) tt (followed_of keep 0 mux before None notings stop) (all_legal notings before None stop) keep n kept made
  all_legal (Item End ∷ notings) before made stop = all_legal notings before None stop
  all_legal (Bad n why ∷ notings) before made stop =
      noted_have (LegalAfter mux before) tt (followed_of keep 0 mux before None notings stop) (all_legal notings before None stop) keep n why (NoCommand n) (Noted n why ∷ [])

pub followed_legal : (keep : Bool) (mux : Mux) (before : List Entry) (lines : Ahead) → LegalAfter mux before (entries_in (followed keep 0 mux before lines).pieces)
followed_legal keep mux before lines = all_legal keep mux (notings_ahead false lines).0 before None (notings_ahead false lines).1

-- ---- commands

-- the commands whose entries are among pieces
pub commands_read : (shift : ℕ) (mux : Mux) (before : List Entry) (commands : List Command) (pieces : List Piece) → entries_in pieces ≡ all_raised shift (journal_after mux before commands)
    → AreRead pieces → AreTypedCommands commands
commands_read shift mux before commands pieces e read = by before commands (subst (AllByRecursion IsReadEntry) e read)
  where
    by : (b : List Entry) (cs : List Command) → AllByRecursion IsReadEntry (all_raised shift (journal_after mux b cs)) → AreTypedCommands cs
    by b [] h = tt
    by b (c ∷ cs) h = (h.0, by (b ++ entry_after mux b c ∷ []) cs h.1)
