-- Each edit that is read has numbers as wide as their fields, and texts that may be kept.
use Rattle.std.proofs.Common.{◌≡◌, ◌≤◌, ℕ, zero, suc, Bool, true, false, List, [], ◌∷◌, length, map, refl}
use Rattle.std.specs.Prelude.{Option, Some, None, IfSome, if◌then◌else◌, ◌==◌, nat_le, codes}
use Rattle.std.specs.List.{AllByRecursion, slice_split}
use Rattle.std.proofs.lemmas.Bool.{leb-true}
use Rattle.si_lists.proofs.Truths.{second_true}
use Rattle.si_lists.proofs.Lists.{all_map}
use Rattle.si_lists.proofs.Outcomes.{then_some, map_some, if_some, any_some}
use Rattle.guide_model.specs.Decoding.{IsKept}
use Rattle.guide_model.specs.declared.event.Genre.{Genre}
use Rattle.guide_model.specs.declared.descriptor.RawDesc.{RawDesc}
use Rattle.guide_model.specs.Descriptors.{IsOfBytes}
use Rattle.input_lines.proofs.GroupFacts.{IsRead}
use Rattle.input_lines.specs.Fields.{line_fields, is_line, record_of}
use Rattle.input_lines.specs.Numbers.{is_word, is_numeral, value_from, in_range, number_in}
use Rattle.input_lines.proofs.CleanLines.{line_kept, is_line_back}
use Rattle.journal_model.specs.declared.edit.Stamp.{Stamp}
use Rattle.journal_model.specs.declared.edit.Length.{Length}
use Rattle.journal_model.specs.declared.edit.DayText.{DayText}
use Rattle.journal_model.specs.declared.edit.RawRating.{RawRating}
use Rattle.journal_model.specs.declared.edit.Edit.{Edit}
use Rattle.journal_model.specs.declared.edit.Edit.TheVariants.{Put, Withdraw, Clear, Name, Day}
use Rattle.script_lines.specs.declared.heads.Head.{Head}
use Rattle.script_lines.specs.declared.heads.Head.TheVariants.{Whole, OfDay}
use Rattle.input_lines.specs.Ahead.{Ahead, Row, IfCame, on_line, stop_at, missing_at}
use Rattle.input_lines.proofs.ValuesAhead.{then_came, line_came, begun_came, values_came}
use Rattle.script_lines.specs.Items.{stamp_of, length_of, day_of, genre_from, genre_of, genres_of, all_some, rating_of, further_of, item_with, item_of, item_line}
use Rattle.script_lines.specs.Heads.{put_of, withdraw_of, clear_of, name_of, day_head_of, edit_head}
use Rattle.script_lines.specs.Edits.{first_item, items_of, with_items, edit_from, edits_ahead}
use Rattle.journal_model.specs.Edits.{HasGenreNumbers, HasItemNumbers, HasNumbers, IsTypedItem, IsTypedEdit}
use Rattle.script_lines.proofs.EditFacts.{head_in}
use Rattle.script_lines.proofs.Shapes.{further_read}
use Rattle.script_lines.specs.Laws.{ReadEditsAreTyped, EditsAheadAreTyped}

-- ---- numbers

-- a number that is spelled is in its range
pub number_within : (high : ℕ) (field : List ℕ) → IfSome (number_in 0 high field) (λ (n : ℕ). n ≤ high)
number_within high field = go (is_numeral field) (value_from 0 field) (in_range 0 high (value_from 0 field)) refl
  where
    go : (b : Bool) (n : ℕ) (c : Bool) → in_range 0 high n ≡ c → IfSome (if b then (if c then Some n else None) else None) (λ (m : ℕ). m ≤ high)
    go false n c e = tt
    go true n false e = tt
    go true n true e = leb-true n high (second_true (nat_le 0 n) (nat_le n high) e)

genre_from-typed : (parts : List (List ℕ)) → IfSome (genre_from parts) HasGenreNumbers
genre_from-typed (a ∷ b ∷ u ∷ []) =
    then_some (λ (x : ℕ). x ≤ 255) HasGenreNumbers _ (number_in 0 255 a) (number_within 255 a)
    (λ x hx. then_some (λ (y : ℕ). y ≤ 255) HasGenreNumbers _ (number_in 0 255 b) (number_within 255 b)
    (λ y hy. map_some (λ (z : ℕ). z ≤ 255) HasGenreNumbers _ (number_in 0 255 u) (number_within 255 u) (λ z hz. record { level1 = hx; level2 = hy; user = hz })))
genre_from-typed other = tt

all_genres : (groups : List (List ℕ)) → IfSome (all_some (map genre_of groups)) (AllByRecursion HasGenreNumbers)
all_genres [] = tt
all_genres (g ∷ groups) = go (genre_of g) (genre_from-typed (slice_split (λ b. b == 46) g)) (all_genres groups)
  where
    go : (o : Option Genre) → IfSome o HasGenreNumbers → IfSome (all_some (map genre_of groups)) (AllByRecursion HasGenreNumbers)
        → IfSome (all_some (o ∷ map genre_of groups)) (AllByRecursion HasGenreNumbers)
    go None h rest = tt
    go (Some x) h rest = map_some (AllByRecursion HasGenreNumbers) (AllByRecursion HasGenreNumbers) _ (all_some (map genre_of groups)) rest (λ xs hs. (h, hs))

genres_typed : (field : List ℕ) → IfSome (genres_of field) (AllByRecursion HasGenreNumbers)
genres_typed [] = tt
genres_typed (b ∷ bs) = all_genres (slice_split (λ c. c == 32) (b ∷ bs))

further_typed : (fields : List (List ℕ)) → IfSome (further_of fields) (AllByRecursion IsOfBytes)
further_typed fields = go (further_of fields) refl
  where
    go : (o : Option (List RawDesc)) → further_of fields ≡ o → IfSome o (AllByRecursion IsOfBytes)
    go None is = tt
    go (Some ds) is = all_map IsRead IsOfBytes (λ d read. read.1) ds (further_read fields ds is)

-- ---- items

abbrev IsTypedRating : RawRating → Type 0
IsTypedRating rating = (rating.value ≤ 255) × IsKept rating.country

rating_typed : (country value : List ℕ) → IsKept country → IfSome (rating_of country value) (λ (r : Option RawRating). IfSome r IsTypedRating)
rating_typed [] [] kept = tt
rating_typed [] (v ∷ vs) kept = tt
rating_typed (c ∷ cs) value kept =
    map_some (λ (n : ℕ). n ≤ 255) (λ (r : Option RawRating). IfSome r IsTypedRating) _ (number_in 0 255 value) (number_within 255 value) (λ n le. (le, kept))

rating_value : (r : Option RawRating) → IfSome r IsTypedRating → IfSome r (λ (rating : RawRating). rating.value ≤ 255)
rating_value None h = tt
rating_value (Some rating) h = h.0

rating_country : (r : Option RawRating) → IfSome r IsTypedRating → IfSome r (λ (rating : RawRating). IsKept rating.country)
rating_country None h = tt
rating_country (Some rating) h = h.1

with_typed : (language name short extended : List ℕ) → IsKept language → IsKept name → IsKept short → IsKept extended
    → (id : Option ℕ) (start : Option Stamp) (length : Option Length) (rating : Option (Option RawRating)) (genres : Option (List Genre)) (descriptors : Option (List RawDesc))
    → IfSome id (λ (n : ℕ). n ≤ 65535) → IfSome rating (λ (r : Option RawRating). IfSome r IsTypedRating) → IfSome genres (AllByRecursion HasGenreNumbers)
    → IfSome descriptors (AllByRecursion IsOfBytes)
    → IfSome (item_with language name short extended id start length rating genres descriptors) IsTypedItem
with_typed language name short extended l n s e (Some id) (Some start) (Some length) (Some rating) (Some genres) (Some descriptors) i r g m = record {
  numbers = record { id = i; rating = rating_value rating r; genres = g; descriptors = m };
  language = l;
  name = n;
  short = s;
  extended = e;
  country = rating_country rating r;
}
with_typed language name short extended l n s e id start length rating genres descriptors i r g m = tt

item_typed : (fields : List (List ℕ)) → AllByRecursion IsKept fields → IfSome (item_of fields) IsTypedItem
unfolding item_of
item_typed (event ∷ start ∷ length ∷ language ∷ name ∷ short ∷ extended ∷ country ∷ rating ∷ genres ∷ further) kept =
    let texts = kept.1.1.1 in
    with_typed language name short extended texts.0 texts.1.0 texts.1.1.0 texts.1.1.1.0
    (number_in 0 65535 event) (stamp_of start) (length_of length) (rating_of country rating) (genres_of genres) (further_of further)
    (number_within 65535 event) (rating_typed country rating texts.1.1.1.1.0) (genres_typed genres) (further_typed further)
item_typed other kept = tt

item_line-typed : (fields : List (List ℕ)) → AllByRecursion IsKept fields → IfSome (item_line fields) IsTypedItem
unfolding item_line
item_line-typed [] kept = tt
item_line-typed (word ∷ fields) kept = if_some IsTypedItem (is_word (codes "item") word) (item_of fields) None (item_typed fields kept.1) tt

-- what of it is read back from its fields
pub typed_numbers : (e : Edit) → IsTypedEdit e → HasNumbers e
typed_numbers (Put service item) typed = (typed.0, typed.1.numbers)
typed_numbers (Withdraw service event) typed = typed
typed_numbers (Clear service) typed = typed
typed_numbers (Name service provider name) typed = typed.0
typed_numbers (Day service date items) typed = (typed.0, all_map IsTypedItem HasItemNumbers (λ item one. one.numbers) items typed.1)

-- ---- heads

abbrev IsTypedHead : Head → Type 0
IsTypedHead (Whole edit) = IsTypedEdit edit
IsTypedHead (OfDay service day count) = service ≤ 65535

abbrev IsService : ℕ → Type 0
IsService service = service ≤ 65535

put_typed : (fields : List (List ℕ)) → AllByRecursion IsKept fields → IfSome (put_of fields) IsTypedHead
put_typed [] kept = tt
put_typed (service ∷ item) kept =
    then_some IsService IsTypedHead _ (number_in 0 65535 service) (number_within 65535 service)
    (λ s le. map_some IsTypedItem IsTypedHead _ (item_of item) (item_typed item kept.1) (λ i typed. (le, typed)))

withdraw_typed : (fields : List (List ℕ)) → IfSome (withdraw_of fields) IsTypedHead
withdraw_typed (service ∷ event ∷ []) =
    then_some IsService IsTypedHead _ (number_in 0 65535 service) (number_within 65535 service)
    (λ s le. map_some IsService IsTypedHead _ (number_in 0 65535 event) (number_within 65535 event) (λ e ge. (le, ge)))
withdraw_typed other = tt

clear_typed : (fields : List (List ℕ)) → IfSome (clear_of fields) IsTypedHead
clear_typed [] = tt
clear_typed (service ∷ []) = map_some IsService IsTypedHead _ (number_in 0 65535 service) (number_within 65535 service) (λ s le. le)
clear_typed (service ∷ more ∷ fields) = tt

name_typed : (fields : List (List ℕ)) → AllByRecursion IsKept fields → IfSome (name_of fields) IsTypedHead
name_typed (service ∷ provider ∷ name ∷ []) kept =
    map_some IsService IsTypedHead _ (number_in 0 65535 service) (number_within 65535 service) (λ s le. (le, kept.1.0, kept.1.1.0))
name_typed other kept = tt

day_typed : (fields : List (List ℕ)) → IfSome (day_head_of fields) IsTypedHead
day_typed (service ∷ date ∷ count ∷ []) =
    then_some IsService IsTypedHead _ (number_in 0 65535 service) (number_within 65535 service)
    (λ s le. then_some (λ (d : DayText). Unit {0}) IsTypedHead _ (day_of date) (any_some (day_of date))
    (λ d any. map_some (λ (n : ℕ). n ≤ 2000) IsTypedHead _ (number_in 0 2000 count) (number_within 2000 count) (λ n few. le)))
day_typed other = tt

head_typed : (fields : List (List ℕ)) → AllByRecursion IsKept fields → IfSome (edit_head fields) IsTypedHead
unfolding edit_head
head_typed [] kept = tt
head_typed (word ∷ fields) kept =
    if_some IsTypedHead (is_word (codes "put") word) (put_of fields) _ (put_typed fields kept.1)
    (if_some IsTypedHead (is_word (codes "withdraw") word) (withdraw_of fields) _ (withdraw_typed fields)
    (if_some IsTypedHead (is_word (codes "clear") word) (clear_of fields) _ (clear_typed fields)
    (if_some IsTypedHead (is_word (codes "name") word) (name_of fields) _ (name_typed fields kept.1)
    (if_some IsTypedHead (is_word (codes "day") word) (day_head_of fields) _ (day_typed fields) tt))))

-- ---- lines

-- the fields of a line may be kept
pub record_kept : (line : List ℕ) → IfSome (record_of line) (AllByRecursion IsKept)
record_kept line = go (is_line line) refl
  where
    go : (b : Bool) → is_line line ≡ b → IfSome (if b then Some (line_fields line) else None) (AllByRecursion IsKept)
    go false e = tt
    go true e = line_kept line (is_line_back line e).kept

item_came : (lines : Ahead) → IfCame IsTypedItem (first_item lines)
item_came lines =
    begun_came IsTypedItem missing_at _
    (λ row behind. line_came IsTypedItem row.0 _ behind (then_some (AllByRecursion IsKept) IsTypedItem item_line (record_of row.1) (record_kept row.1) item_line-typed)) lines

items_came : (n : ℕ) (lines : Ahead) → IfCame (AllByRecursion IsTypedItem) (items_of n lines)
unfolding items_of
items_came zero lines = tt
items_came (suc n) lines =
    then_came IsTypedItem (AllByRecursion IsTypedItem) (first_item lines) _ (item_came lines)
    (λ item behind one. then_came (AllByRecursion IsTypedItem) (AllByRecursion IsTypedItem) (items_of n behind) _ (items_came n behind) (λ items rest all. (one, all)))

with_items-came : (head : Head) (behind : Ahead) → IsTypedHead head → IfCame IsTypedEdit (with_items head behind)
with_items-came (Whole edit) behind typed = typed
with_items-came (OfDay service day count) behind typed =
    then_came (AllByRecursion IsTypedItem) IsTypedEdit (items_of count behind) _ (items_came count behind) (λ items rest all. (typed, all))

edit_came : (n : ℕ) (head : Option Head) (behind : Ahead) → IfSome head IsTypedHead → IfCame IsTypedEdit (edit_from n head behind)
edit_came n head behind typed = then_came IsTypedHead IsTypedEdit (on_line n head behind) with_items (line_came IsTypedHead n head behind typed) with_items-came

pub read_typed : ReadEditsAreTyped
read_typed at fields behind kept = edit_came at (edit_head fields) behind (head_typed fields kept)

row_typed : (row : Row) (behind : Ahead) → IfCame IsTypedEdit (edit_from row.0 (head_in row.1) behind)
row_typed row behind = edit_came row.0 _ behind (then_some (AllByRecursion IsKept) IsTypedHead edit_head (record_of row.1) (record_kept row.1) head_typed)

pub ahead_typed : EditsAheadAreTyped
unfolding edits_ahead
ahead_typed lines = (
  begun_came IsTypedEdit stop_at (λ row behind. edit_from row.0 (head_in row.1) behind) row_typed lines,
  values_came (λ (any : Unit {0}) (row : Row) (behind : Ahead). edit_from row.0 (head_in row.1) behind) (λ (edit : Edit). tt) IsTypedEdit (λ any. row_typed) tt lines,
)
