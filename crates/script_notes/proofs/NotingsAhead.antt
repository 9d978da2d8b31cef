-- The notings ahead, one by one: that with each fewer lines are left, and how they go on.
use Rattle.std.proofs.Common.{◌≡◌, ◌≤◌, ℕ, zero, suc, Bool, List, [], ◌∷◌, length, refl, sym, ap, ◌∙◌, subst, inl, inr, arith}
use Rattle.std.specs.Prelude.{Option, Some, None, nat_le}
use Rattle.std.specs.List.{AllByRecursion}
use Rattle.std.proofs.lemmas.Bool.{cases_Bool}
use Rattle.input_lines.specs.Fields.{record_of}
use Rattle.input_lines.specs.Ahead.{Ahead, IfCame, Row, Tail, Ends, Exceeds, Breaks, Found, Came, Stopped, Stop, End, NoCommand, TooLong, Unread, and_all, and_then, first_row, on_line, stop_at, values_ahead, values_upto}
use Rattle.input_lines.proofs.ValuesAhead.{Within, then_within, values_came, values_go_on}
use Rattle.journal_model.specs.declared.edit.Item.{Item as AnItem}
use Rattle.script_lines.specs.declared.script.ScriptItem.{ScriptItem}
use Rattle.script_lines.specs.Edits.{items_of}
use Rattle.script_lines.specs.Laws.{IsScriptItemInWindow, IsTypedScriptItem}
use Rattle.script_lines.specs.Script.{first_script_item, is_command, item_on, items_ahead}
use Rattle.script_lines.proofs.ItemFacts.{items_typed, items_window}
use Rattle.script_lines.proofs.ItemsAhead.{items_go_on}
use Rattle.script_notes.specs.declared.head.LineHead.{LineHead}
use Rattle.script_notes.specs.declared.head.LineHead.TheVariants as head
use Rattle.script_notes.specs.declared.noting.Noting.{Noting}
use Rattle.script_notes.specs.declared.noting.Noting.TheVariants.{Item}
use Rattle.script_notes.specs.Heads.{day_command, line_head, with_items}
use Rattle.script_notes.specs.Laws.{IsNotingInWindow, IsTypedNoting, NotingsAreInWindow, NotingsAreTyped, NotingsGoOn}
use Rattle.script_notes.specs.Notings.{first_noting, from_number, is_attached, is_command_noting, noted, notings_ahead, past_attached}
use Rattle.script_notes.specs.Walks.{item_in, with_row}
use Rattle.script_notes.proofs.HeadFacts.{line_is}

-- ---- fewer lines are left

item_left : (k n : ℕ) (o : Option AnItem) (rest : Ahead) (more : Ahead → Found (List AnItem)) → ((a : Ahead) → length a.rows ≤ k → Within k (more a)) → length rest.rows ≤ k
    → Within k (and_then (on_line n o rest) (λ item behind. and_then (more behind) (λ items left. let r : Found (List AnItem) = Came (item ∷ items) left in r)))
item_left k n None rest more h le = tt
item_left k n (Some item) rest more h le = then_within k k (more rest) (λ items left. let r : Found (List AnItem) = Came (item ∷ items) left in r) (h rest le) (λ items left few. few)

items_left : (k n : ℕ) (lines : Ahead) → length lines.rows ≤ k → Within k (items_of n lines)
unfolding items_of
items_left k zero lines le = le
items_left k (suc n) lines le = go lines.rows lines.tail le (λ a few. items_left k n a few)
  where
    go : (rows : List Row) (tail : Tail) → length rows ≤ k → ((a : Ahead) → length a.rows ≤ k → Within k (items_of n a)) → Within k (items_of (suc n) (record { rows = rows; tail = tail }))
    go [] (Ends e) le more = tt
    go [] Exceeds le more = tt
    go [] Breaks le more = tt
    go (row ∷ rows) tail le more = item_left k row.0 (item_in row.1) (record { rows = rows; tail = tail }) (items_of n) more (omega arith)

head_left : (k n : ℕ) (h : Option LineHead) (behind : Ahead) → length behind.rows ≤ k → Within k (and_then (on_line n h behind) with_items)
head_left k n None behind le = tt
head_left k n (Some (head.Whole item)) behind le = le
head_left k n (Some (head.OfDay day)) behind le =
    then_within k k (items_of day.count behind) (λ items rest. let r : Found ScriptItem = Came (day_command day items) rest in r) (items_left k day.count behind le) (λ items rest few. few)

numbers_left : (n : ℕ) (rows : List Row) → length (from_number n rows) ≤ length rows
numbers_left n [] = omega arith
numbers_left n (row ∷ rows) = elim (cases_Bool (nat_le n row.0)) [
  | inl e ↦ rw e (omega arith)
  | inr e ↦ rw e (let le = numbers_left n rows in omega arith)
]

attached_left : (rows : List Row) → length (past_attached rows) ≤ length rows
attached_left [] = omega arith
attached_left (row ∷ rows) = elim (cases_Bool (is_attached row.1)) [
  | inl e ↦ rw e (let le = attached_left rows in omega arith)
  | inr e ↦ rw e (omega arith)
]

noted_left : (k : ℕ) (after : Bool) (row : Row) (behind : Ahead) (found : Found ScriptItem) → length behind.rows ≤ k → Within k found → Within k (noted after (with_row row behind) found)
noted_left k after row behind (Came item rest) le h = h
noted_left k after row behind (Stopped End) le h = tt
noted_left k after row behind (Stopped (NoCommand n)) le h =
    let a = attached_left (from_number n behind.rows) in
    let b = numbers_left n behind.rows in
    omega arith
noted_left k after row behind (Stopped TooLong) le h = tt
noted_left k after row behind (Stopped Unread) le h = tt

-- ---- one after another

-- the noting that begins with this line
abbrev body : Bool → Row → Ahead → Found Noting
body after row behind = noted after (with_row row behind) (item_on after row.0 (record_of row.1) behind)

body_left : (after : Bool) (k : ℕ) (row : Row) (behind : Ahead) → length behind.rows ≤ k → Within k (body after row behind)
body_left after k row behind le =
    noted_left k after row behind (item_on after row.0 (record_of row.1) behind) le
    (subst (Within k) (sym (line_is after row.0 row.1 behind)) (head_left k row.0 (line_head after row.0 row.1) behind le))

abbrev begun : Bool → Ahead → Found Noting
begun after lines = and_then (first_row stop_at lines) (body after)

begun_rows : (after : Bool) (rows : List Row) (tail : Tail) → first_noting after (record { rows = rows; tail = tail }) ≡ begun after (record { rows = rows; tail = tail })
begun_rows after [] (Ends n) = refl
begun_rows after [] Exceeds = refl
begun_rows after [] Breaks = refl
begun_rows after (row ∷ rows) tail = refl

begun_is : (after : Bool) (lines : Ahead) → first_noting after lines ≡ begun after lines
begun_is after lines = begun_rows after lines.rows lines.tail

abbrev Others : Type 0
Others = Noting → Ahead → List Noting × Stop

same_all : (found : Found Noting) (f g : Others) → ((noting : Noting) (behind : Ahead) → f noting behind ≡ g noting behind) → and_all found f ≡ and_all found g
same_all (Came noting behind) f g same = ap (λ (o : List Noting × Stop). let p : List Noting × Stop = (noting ∷ o.0, o.1) in p) (same noting behind)
same_all (Stopped stop) f g same = refl

same_upto : (n : ℕ) (after : Bool) (lines : Ahead) → values_upto first_noting is_command_noting n after lines ≡ values_upto begun is_command_noting n after lines
same_upto zero after lines = refl
same_upto (suc n) after lines =
    ap (λ (f : Found Noting). and_all f (λ noting behind. values_upto first_noting is_command_noting n (is_command_noting noting) behind)) (begun_is after lines)
    ∙ same_all (begun after lines) _ _ (λ noting behind. same_upto n (is_command_noting noting) behind)

same_ahead : (after : Bool) (lines : Ahead) → values_ahead first_noting is_command_noting after lines ≡ values_ahead begun is_command_noting after lines
same_ahead after lines = same_upto (length lines.rows) after lines

pub notings_go_on : NotingsGoOn
unfolding notings_ahead
notings_go_on after lines =
    same_ahead after lines
    ∙ values_go_on body is_command_noting body_left after lines
    ∙ same_all (begun after lines) _ _ (λ noting behind. sym (same_ahead (is_command_noting noting) behind))
    ∙ ap (λ (f : Found Noting). and_all f (λ (noting : Noting). notings_ahead (is_command_noting noting))) (sym (begun_is after lines))

-- ---- what each of them has

module _ (P : ScriptItem → Type 0) (Q : Noting → Type 0) (item_has : (item : ScriptItem) → P item → Q (Item item)) (others : (noting : Noting) → ((item : ScriptItem) → noting ≡ Item item → ⊥) → Q noting)
    (all : (after : Bool) (lines : Ahead) → AllByRecursion P (items_ahead after lines).0) where
  first_has : (after : Bool) (lines : Ahead) → IfCame P (first_script_item after lines)
  first_has after lines = go (first_script_item after lines) refl
    where
      go : (found : Found ScriptItem) → first_script_item after lines ≡ found → IfCame P found
      go (Came item rest) e =
          let is = items_go_on after lines ∙ ap (λ (f : Found ScriptItem). and_all f (λ (item : ScriptItem). items_ahead (is_command item))) e in
          (subst (λ (l : List ScriptItem × Stop). AllByRecursion P l.0) is (all after lines)).0
      go (Stopped stop) e = tt

  noted_has : (after : Bool) (lines : Ahead) (found : Found ScriptItem) → IfCame P found → IfCame Q (noted after lines found)
  noted_has after lines (Came item rest) h = item_has item h
  noted_has after lines (Stopped End) h = tt
  noted_has after lines (Stopped (NoCommand n)) h = others _ (λ item e. cc)
  noted_has after lines (Stopped TooLong) h = tt
  noted_has after lines (Stopped Unread) h = tt

  notings_have : (after : Bool) (lines : Ahead) → AllByRecursion Q (notings_ahead after lines).0
  unfolding notings_ahead
  notings_have after lines =
      subst (λ (l : List Noting × Stop). AllByRecursion Q l.0) (sym (same_ahead after lines))
      (values_came body is_command_noting Q (λ q row behind. noted_has q (with_row row behind) (item_on q row.0 (record_of row.1) behind) (first_has q (with_row row behind))) after lines)

typed_other : (noting : Noting) → ((item : ScriptItem) → noting ≡ Item item → ⊥) → IsTypedNoting noting
typed_other (Item item) never = absurd (never item refl)
typed_other other never = tt

window_other : (noting : Noting) → ((item : ScriptItem) → noting ≡ Item item → ⊥) → IsNotingInWindow noting
window_other (Item item) never = absurd (never item refl)
window_other other never = tt

pub notings_typed : NotingsAreTyped
notings_typed = notings_have IsTypedScriptItem IsTypedNoting (λ item h. h) typed_other items_typed

pub notings_window : NotingsAreInWindow
notings_window = notings_have IsScriptItemInWindow IsNotingInWindow (λ item h. h) window_other items_window
