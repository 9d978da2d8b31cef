-- What is read has its shape.
use Rattle.std.proofs.Common.{◌≡◌, ◌≢◌, ◌<◌, ◌==◌, ℕ, true, List, [], ◌∷◌, refl, subst, inl, inr}
use Rattle.std.specs.Prelude.{Option, Some, None, IfSome, codes, option_map}
use Rattle.std.specs.List.{AllByRecursion, slice_split}
use Rattle.std.proofs.lemmas.Bool.{cases_Bool}
use Rattle.si_lists.proofs.Lists.{all_map}
use Rattle.si_time.specs.Moments.{duration_text}
use Rattle.si_time.specs.Readings.{has_shape, duration_in, clock_at}
use Rattle.si_time.proofs.RoundTrips.{behind_test}
use Rattle.si_time.proofs.TextFacts.{duration_in-duration_text}
use Rattle.guide_model.specs.declared.event.Genre.{Genre}
use Rattle.guide_model.specs.declared.descriptor.RawDesc.{RawDesc}
use Rattle.guide_model.specs.Descriptors.{FitsDescriptor}
use Rattle.input_lines.proofs.GroupFacts.{IsRead, each_read}
use Rattle.input_lines.specs.Numbers.{number_in}
use Rattle.journal_model.specs.declared.edit.Stamp.{Stamp}
use Rattle.journal_model.specs.declared.edit.Length.{Length}
use Rattle.journal_model.specs.declared.edit.RawRating.{RawRating}
use Rattle.journal_model.specs.declared.edit.Item.{Item}
use Rattle.script_lines.specs.Items.{item_of, item_with, stamp_of, length_of, rating_of, rating_with, genres_of, further_of}
use Rattle.journal_model.specs.Edits.{IsShapedItem}

abbrev IsStamp : Stamp → Type 0
IsStamp stamp = has_shape (codes "dddd-dd-ddTdd:dd:ddZ") stamp.0 ≡ true

abbrev IsLength : Length → Type 0
IsLength length = has_shape (codes "dd:dd:dd") length.0 ≡ true

abbrev HasCountry : Option RawRating → Type 0
HasCountry rating = IfSome rating (λ r. r.country ≢ [])

stamp_shaped : (field : List ℕ) → IfSome (stamp_of field) IsStamp
stamp_shaped field = elim (cases_Bool (has_shape (codes "dddd-dd-ddTdd:dd:ddZ") field)) [
  | inl e ↦ rw e e
  | inr e ↦ rw e tt
]

length_shaped : (field : List ℕ) → IfSome (length_of field) IsLength
length_shaped field = elim (cases_Bool (has_shape (codes "dd:dd:dd") field)) [
  | inl e ↦ rw e e
  | inr e ↦ rw e tt
]

with_country : (c : ℕ) (cs : List ℕ) (value : Option ℕ) → IfSome (option_map (λ n. Some (rating_with (c ∷ cs) n)) value) HasCountry
with_country c cs None = tt
with_country c cs (Some n) = λ e. cc

rating_shaped : (country value : List ℕ) → IfSome (rating_of country value) HasCountry
rating_shaped [] [] = tt
rating_shaped [] (v ∷ vs) = tt
rating_shaped (c ∷ cs) value = with_country c cs (number_in 0 255 value)

abbrev AreFitting : List RawDesc → Type 0
AreFitting ds = AllByRecursion FitsDescriptor ds

-- what is read of the fields after GENRES
pub further_read : (fields : List (List ℕ)) (ds : List RawDesc) → further_of fields ≡ Some ds → AllByRecursion IsRead ds
further_read [] ds is = (let same : [] ≡ ds = cc is in subst (AllByRecursion IsRead) same tt)
further_read ([] ∷ []) ds is = (let same : [] ≡ ds = cc is in subst (AllByRecursion IsRead) same tt)
further_read ((b ∷ bs) ∷ []) ds is = each_read (slice_split (λ c. c == 32) (b ∷ bs)) ds is
further_read (field ∷ more ∷ fields) ds is = cc is

further_shaped : (fields : List (List ℕ)) → IfSome (further_of fields) AreFitting
further_shaped fields = go (further_of fields) refl
  where
    go : (o : Option (List RawDesc)) → further_of fields ≡ o → IfSome o AreFitting
    go None is = tt
    go (Some ds) is = all_map IsRead FitsDescriptor (λ d read. read.0) ds (further_read fields ds is)

with_shaped : (d e f g : List ℕ) (i : Option ℕ) (s : Option Stamp) (l : Option Length) (r : Option (Option RawRating)) (n : Option (List Genre)) (m : Option (List RawDesc)) (item : Item)
    → IfSome s IsStamp → IfSome l IsLength → IfSome r HasCountry → IfSome m AreFitting → item_with d e f g i s l r n m ≡ Some item → IsShapedItem item
with_shaped d e f g (Some i) (Some s) (Some l) (Some r) (Some n) (Some m) item hs hl hr hm is =
    let same : (record { id = i; start = s; length = l; language = d; name = e; short = f; extended = g; rating = r; genres = n; descriptors = m }) ≡ item = cc in
    subst IsShapedItem same (record { start = hs; length = hl; country = hr; descriptors = hm })
with_shaped d e f g i s l r n m item hs hl hr hm is = absurd cc

pub item_shaped : (fields : List (List ℕ)) (item : Item) → item_of fields ≡ Some item → IsShapedItem item
unfolding item_of
item_shaped (a ∷ b ∷ c ∷ d ∷ e ∷ f ∷ g ∷ h ∷ i ∷ j ∷ more) item is =
    with_shaped d e f g (number_in 0 65535 a) (stamp_of b) (length_of c) (rating_of h i) (genres_of j) (further_of more) item
    (stamp_shaped b) (length_shaped c) (rating_shaped h i) (further_shaped more) is
item_shaped fields item is = absurd cc

-- what is written has it too
pub duration_shaped : (t : ℕ) → t < 360000 → has_shape (codes "dd:dd:dd") (duration_text t) ≡ true
unfolding duration_in
duration_shaped t h = (behind_test (has_shape (codes "dd:dd:dd") (duration_text t)) (clock_at 100 0 (duration_text t)) t (duration_in-duration_text t h)).0
