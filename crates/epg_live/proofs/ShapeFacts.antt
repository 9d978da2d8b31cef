-- Each edit that is read has its shapes.
use Rattle.std.proofs.Common.{◌≡◌, ◌≤◌, ℕ, zero, suc, Bool, true, false, List, [], ◌∷◌, length, refl, arith, inl, inr}
use Rattle.std.specs.Prelude.{Option, Some, None, IfSome, codes, option_and_then, option_map, if◌then◌else◌}
use Rattle.std.specs.List.{AllByRecursion}
use Rattle.std.proofs.lemmas.Bool.{cases_Bool}
use Rattle.std.proofs.lemmas.List.Elements.{All-from_recursion}
use Rattle.si_lists.proofs.Outcomes.{any_some, if_some, then_some}
use Rattle.si_time.specs.Readings.{has_shape}
use Rattle.input_lines.specs.Ahead.{Ahead, IfCame, Row, missing_at}
use Rattle.input_lines.specs.Fields.{record_of}
use Rattle.input_lines.specs.Numbers.{is_word, number_in}
use Rattle.input_lines.proofs.ValuesAhead.{begun_came, line_came, then_came, values_came}
use Rattle.journal_model.specs.declared.edit.DayText.{DayText}
use Rattle.journal_model.specs.declared.edit.Item.{Item}
use Rattle.journal_model.specs.declared.edit.Edit.{Edit}
use Rattle.journal_model.specs.Edits.{IsShaped, IsShapedItem}
use Rattle.script_lines.specs.Items.{day_of, item_line, item_of}
use Rattle.script_lines.specs.Heads.{clear_of, day_head_of, edit_head, name_of, put_of, withdraw_of}
use Rattle.script_lines.specs.Edits.{edit_from, edits_ahead, first_item, items_of}
use Rattle.script_lines.proofs.EditFacts.{head_in}
use Rattle.script_lines.proofs.EditTypes.{number_within}
use Rattle.script_lines.proofs.Shapes.{item_shaped}

by_cases : {A : Type 0} (P : A → Type 0) (o : Option A) → ((x : A) → o ≡ Some x → P x) → IfSome o P
by_cases P None h = tt
by_cases P (Some x) h = h x refl

abbrev Any : ℕ → Type 0
Any n = Unit {0}

-- ---- items

line_shaped : (fields : List (List ℕ)) → IfSome (item_line fields) IsShapedItem
unfolding item_line
line_shaped [] = tt
line_shaped (word ∷ fields) =
    if_some IsShapedItem (is_word (codes "item") word) (item_of fields) None (by_cases IsShapedItem (item_of fields) (item_shaped fields)) tt

-- so many items, each with its shapes
abbrev AreListed : ℕ → List Item → Type 0
AreListed n items = (length items ≡ n) × AllByRecursion IsShapedItem items

item_came : (lines : Ahead) → IfCame IsShapedItem (first_item lines)
item_came lines =
    begun_came IsShapedItem missing_at _
    (λ row behind. line_came IsShapedItem row.0 _ behind
    (then_some (λ (fields : List (List ℕ)). Unit {0}) IsShapedItem item_line (record_of row.1) (any_some (record_of row.1)) (λ fields any. line_shaped fields))) lines

items_came : (n : ℕ) (lines : Ahead) → IfCame (AreListed n) (items_of n lines)
unfolding items_of
items_came zero lines = (refl, tt)
items_came (suc n) lines =
    then_came IsShapedItem (AreListed (suc n)) (first_item lines) _ (item_came lines)
    (λ item behind one. then_came (AreListed n) (AreListed (suc n)) (items_of n behind) _ (items_came n behind) (λ items rest all. (omega (arith, all.0), (one, all.1))))

-- ---- what holds of a head that may be there, in all forms that the head of a line has

then_holds : {A H : Type 0} (Q : A → Type 0) (f : A → Option H) (Holds : Option H → Type 0) → Holds None → (o : Option A) → IfSome o Q → ((x : A) → Q x → Holds (f x)) → Holds (option_and_then f o)
then_holds Q f Holds none None h g = none
then_holds Q f Holds none (Some x) h g = g x h

map_holds : {A H : Type 0} (Q : A → Type 0) (f : A → H) (Holds : Option H → Type 0) → Holds None → (o : Option A) → IfSome o Q → ((x : A) → Q x → Holds (Some (f x))) → Holds (option_map f o)
map_holds Q f Holds none None h g = none
map_holds Q f Holds none (Some x) h g = g x h

if_holds : {H : Type 0} (Holds : Option H → Type 0) (test : Bool) (a b : Option H) → Holds a → Holds b → Holds (if test then a else b)
if_holds Holds true a b h g = h
if_holds Holds false a b h g = g

abbrev IsDay : DayText → Type 0
IsDay day = has_shape (codes "dddd-dd-dd") day.0 ≡ true

day_shaped : (field : List ℕ) → IfSome (day_of field) IsDay
day_shaped field = elim (cases_Bool (has_shape (codes "dddd-dd-dd") field)) [
  | inl e ↦ rw e e
  | inr e ↦ rw e tt
]

-- ---- edits, each by the head of its line

module _ (n : ℕ) (behind : Ahead) where
  put_reads : (fields : List (List ℕ)) → IfCame IsShaped (edit_from n (put_of fields) behind)
  put_reads [] = tt
  put_reads (service ∷ item) =
      then_holds Any _ (λ head. IfCame IsShaped (edit_from n head behind)) tt (number_in 0 65535 service) (any_some (number_in 0 65535 service))
      (λ s any. map_holds IsShapedItem _ (λ head. IfCame IsShaped (edit_from n head behind)) tt (item_of item)
      (by_cases IsShapedItem (item_of item) (item_shaped item)) (λ i shaped. shaped))

  withdraw_reads : (fields : List (List ℕ)) → IfCame IsShaped (edit_from n (withdraw_of fields) behind)
  withdraw_reads (service ∷ event ∷ []) =
      then_holds Any _ (λ head. IfCame IsShaped (edit_from n head behind)) tt (number_in 0 65535 service) (any_some (number_in 0 65535 service))
      (λ s any. map_holds Any _ (λ head. IfCame IsShaped (edit_from n head behind)) tt (number_in 0 65535 event) (any_some (number_in 0 65535 event)) (λ e more. tt))
  withdraw_reads other = tt

  clear_reads : (fields : List (List ℕ)) → IfCame IsShaped (edit_from n (clear_of fields) behind)
  clear_reads (service ∷ []) =
      map_holds Any _ (λ head. IfCame IsShaped (edit_from n head behind)) tt (number_in 0 65535 service) (any_some (number_in 0 65535 service)) (λ s any. tt)
  clear_reads other = tt

  name_reads : (fields : List (List ℕ)) → IfCame IsShaped (edit_from n (name_of fields) behind)
  name_reads (service ∷ provider ∷ name ∷ []) =
      map_holds Any _ (λ head. IfCame IsShaped (edit_from n head behind)) tt (number_in 0 65535 service) (any_some (number_in 0 65535 service)) (λ s any. tt)
  name_reads other = tt

  day_reads : (fields : List (List ℕ)) → IfCame IsShaped (edit_from n (day_head_of fields) behind)
  day_reads (service ∷ date ∷ count ∷ []) =
      then_holds Any _ (λ head. IfCame IsShaped (edit_from n head behind)) tt (number_in 0 65535 service) (any_some (number_in 0 65535 service))
      (λ s any. then_holds IsDay _ (λ head. IfCame IsShaped (edit_from n head behind)) tt (day_of date) (day_shaped date)
      (λ d shape. map_holds (λ (k : ℕ). k ≤ 2000) _ (λ head. IfCame IsShaped (edit_from n head behind)) tt (number_in 0 2000 count) (number_within 2000 count)
      (λ k few. then_came (AreListed k) IsShaped (items_of k behind) _ (items_came k behind)
      (λ items rest all. record { day = shape; count = omega (arith, all.0, few); items = All-from_recursion IsShapedItem items all.1 }))))
  day_reads other = tt

  head_reads : (fields : List (List ℕ)) → IfCame IsShaped (edit_from n (edit_head fields) behind)
  unfolding edit_head
  head_reads [] = tt
  head_reads (word ∷ fields) =
      if_holds (λ head. IfCame IsShaped (edit_from n head behind)) (is_word (codes "put") word) (put_of fields) _ (put_reads fields)
      (if_holds (λ head. IfCame IsShaped (edit_from n head behind)) (is_word (codes "withdraw") word) (withdraw_of fields) _ (withdraw_reads fields)
      (if_holds (λ head. IfCame IsShaped (edit_from n head behind)) (is_word (codes "clear") word) (clear_of fields) _ (clear_reads fields)
      (if_holds (λ head. IfCame IsShaped (edit_from n head behind)) (is_word (codes "name") word) (name_of fields) _ (name_reads fields)
      (if_holds (λ head. IfCame IsShaped (edit_from n head behind)) (is_word (codes "day") word) (day_head_of fields) _ (day_reads fields) tt))))

row_shaped : (row : Row) (behind : Ahead) → IfCame IsShaped (edit_from row.0 (head_in row.1) behind)
row_shaped row behind =
    then_holds (λ (fields : List (List ℕ)). Unit {0}) edit_head (λ head. IfCame IsShaped (edit_from row.0 head behind)) tt (record_of row.1) (any_some (record_of row.1))
    (λ fields any. head_reads row.0 behind fields)

pub ahead_shaped : (lines : Ahead) → AllByRecursion IsShaped (edits_ahead lines).0
unfolding edits_ahead
ahead_shaped lines =
    values_came (λ (any : Unit {0}) (row : Row) (behind : Ahead). edit_from row.0 (head_in row.1) behind) (λ (edit : Edit). tt) IsShaped (λ any. row_shaped) tt lines
