-- The event of ten fields, or of one more.
use Rattle.std.proofs.Common.{◌≡◌, ◌≢◌, ◌≤◌, ℕ, List, [], ◌∷◌, length, get_or, refl, arith}
use Rattle.std.specs.Prelude.{Option, Some, None}
use Rattle.guide_model.specs.declared.event.Genre.{Genre}
use Rattle.guide_model.specs.declared.descriptor.RawDesc.{RawDesc}
use Rattle.input_lines.specs.Groups.{descriptors_in}
use Rattle.input_lines.specs.Numbers.{number_in}
use Rattle.journal_model.specs.declared.edit.Stamp.{Stamp}
use Rattle.journal_model.specs.declared.edit.Length.{Length}
use Rattle.journal_model.specs.declared.edit.RawRating.{RawRating}
use Rattle.journal_model.specs.declared.edit.Item.{Item}
use Rattle.script_lines.specs.Items.{all_three, after_texts, item_of, item_with, stamp_of, length_of, rating_of, genres_of, further_of}

abbrev Text : Type 0
Text = List ℕ

no_rating : (d e f g : Text) (i : Option ℕ) (s : Option Stamp) (l : Option Length) (n : Option (List Genre)) (m : Option (List RawDesc))
    → item_with d e f g i s l None n m ≡ None
no_rating d e f g None s l n m = refl
no_rating d e f g (Some i) None l n m = refl
no_rating d e f g (Some i) (Some s) None n m = refl
no_rating d e f g (Some i) (Some s) (Some l) n m = refl

no_genres : (d e f g : Text) (i : Option ℕ) (s : Option Stamp) (l : Option Length) (r : Option (Option RawRating)) (m : Option (List RawDesc))
    → item_with d e f g i s l r None m ≡ None
no_genres d e f g None s l r m = refl
no_genres d e f g (Some i) None l r m = refl
no_genres d e f g (Some i) (Some s) None r m = refl
no_genres d e f g (Some i) (Some s) (Some l) None m = refl
no_genres d e f g (Some i) (Some s) (Some l) (Some r) m = refl

pub no_descriptors : (d e f g : Text) (i : Option ℕ) (s : Option Stamp) (l : Option Length) (r : Option (Option RawRating)) (n : Option (List Genre))
    → item_with d e f g i s l r n None ≡ None
no_descriptors d e f g None s l r n = refl
no_descriptors d e f g (Some i) None l r n = refl
no_descriptors d e f g (Some i) (Some s) None r n = refl
no_descriptors d e f g (Some i) (Some s) (Some l) None n = refl
no_descriptors d e f g (Some i) (Some s) (Some l) (Some r) None = refl
no_descriptors d e f g (Some i) (Some s) (Some l) (Some r) (Some n) = refl

-- ---- the event with what is read of the fields after EXTENDED

abbrev After : Type 0
After = Option (Option RawRating × List Genre × List RawDesc)

abbrev pub with_after : Text → Text → Text → Text → Option ℕ → Option Stamp → Option Length → After → Option Item
with_after d e f g i s l None = None
with_after d e f g i s l (Some t) = item_with d e f g i s l (Some t.0) (Some t.1) (Some t.2)

by_three : (d e f g : Text) (i : Option ℕ) (s : Option Stamp) (l : Option Length) (r : Option (Option RawRating)) (n : Option (List Genre)) (m : Option (List RawDesc))
    → item_with d e f g i s l r n m ≡ with_after d e f g i s l (all_three r n m)
by_three d e f g i s l None n m = no_rating d e f g i s l n m
by_three d e f g i s l (Some r) None m = no_genres d e f g i s l (Some r) m
by_three d e f g i s l (Some r) (Some n) None = no_descriptors d e f g i s l (Some r) (Some n)
by_three d e f g i s l (Some r) (Some n) (Some m) = refl

item_of_seven : (a b c d e f g : Text) (more : List Text)
    → item_of (a ∷ b ∷ c ∷ d ∷ e ∷ f ∷ g ∷ more)
    ≡ with_after d e f g (number_in 0 65535 a) (stamp_of b) (length_of c) (after_texts (a ∷ b ∷ c ∷ d ∷ e ∷ f ∷ g ∷ more))
unfolding item_of
item_of_seven a b c d e f g [] = refl
item_of_seven a b c d e f g (h ∷ []) = refl
item_of_seven a b c d e f g (h ∷ i ∷ []) = refl
item_of_seven a b c d e f g (h ∷ i ∷ j ∷ more) =
    by_three d e f g (number_in 0 65535 a) (stamp_of b) (length_of c) (rating_of h i) (genres_of j) (further_of more)

-- the event of a list that begins with these seven elements
pub item_is : (xs : List Text) (a b c d e f g : Text) → 7 ≤ length xs
    → a ≡ get_or xs 0 a → b ≡ get_or xs 1 b → c ≡ get_or xs 2 c → d ≡ get_or xs 3 d → e ≡ get_or xs 4 e → f ≡ get_or xs 5 f → g ≡ get_or xs 6 g
    → item_of xs ≡ with_after d e f g (number_in 0 65535 a) (stamp_of b) (length_of c) (after_texts xs)
item_is (a' ∷ b' ∷ c' ∷ d' ∷ e' ∷ f' ∷ g' ∷ rest) a b c d e f g low ea eb ec ed ee ef eg = rw (ea, eb, ec, ed, ee, ef, eg) (item_of_seven a' b' c' d' e' f' g' rest)
item_is xs a b c d e f g low ea eb ec ed ee ef eg = absurd (omega arith)

pub no_id : (d e f g : Text) (s : Option Stamp) (l : Option Length) (t : After) → with_after d e f g None s l t ≡ None
no_id d e f g s l None = refl
no_id d e f g s l (Some t) = refl

pub no_start : (d e f g : Text) (i : Option ℕ) (l : Option Length) (t : After) → with_after d e f g i None l t ≡ None
no_start d e f g i l None = refl
no_start d e f g None l (Some t) = refl
no_start d e f g (Some i) l (Some t) = refl

pub no_length : (d e f g : Text) (i : Option ℕ) (s : Option Stamp) (t : After) → with_after d e f g i s None t ≡ None
no_length d e f g i s None = refl
no_length d e f g None s (Some t) = refl
no_length d e f g (Some i) None (Some t) = refl
no_length d e f g (Some i) (Some s) (Some t) = refl

-- ---- the fields after GENRES

pub further_of_one : (field : Text) → field ≢ [] → further_of (field ∷ []) ≡ descriptors_in field
further_of_one [] some = absurd (some refl)
further_of_one (b ∷ bs) some = refl
