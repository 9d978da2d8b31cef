-- The groups of a field, one after another, and what each of them is.
use Rattle.std.proofs.Common.{◌≡◌, ℕ, zero, suc, ◌<◌, ◌≤◌, ◌==◌, List, [], ◌∷◌, ◌++◌, length, get_or, Option, Some, None, Result, Ok, Err, refl, sym, ap, ◌∙◌, subst, arith, inl, inr}
use Rattle.std.specs.Prelude.{Bool, not, if◌then◌else◌, map, option_map, option_and_then}
use Rattle.std.specs.Result.{result_ok}
use Rattle.std.specs.List.{AllByRecursion, slice_split}
use Rattle.std.proofs.lemmas.Bool.{cases_Bool, eqb-true, eq-eqb}
use Rattle.si_lists.proofs.Filters.{split_front, split_last}
use Rattle.hex.specs.Hex.{IsBytes, decode_of}
use Rattle.hex.specs.declared.error.FromHexError.{FromHexError}
use Rattle.hex.proofs.HexLemmas.{decode_of-ok}
use Rattle.guide_model.specs.declared.descriptor.RawDesc.{RawDesc}
use Rattle.guide_model.specs.Descriptors.{descriptor_text, descriptors_text, FitsDescriptor, IsOfBytes}
use Rattle.guide_model.proofs.HexTexts.{bytes_all, text_all, text_back}
use Rattle.input_lines.specs.Groups.{descriptor_in, descriptor_of, descriptors_in, each_in}

-- ---- one more

and_none : (o : Option RawDesc) → option_and_then (λ (d : RawDesc). let none : Option (List RawDesc) = None in none) o ≡ None
and_none None = refl
and_none (Some d) = refl

-- a group that is none
pub each_none : (xs : List (List ℕ)) (i : ℕ) (x : List ℕ) → i < length xs → x ≡ get_or xs i x → descriptor_in x ≡ None → each_in xs ≡ None
each_none [] i x lt e none = absurd (omega (arith, lt))
each_none (y ∷ ys) zero x lt e none = (let here : descriptor_in y ≡ None = sym (ap descriptor_in e) ∙ none in rw here refl)
each_none (y ∷ ys) (suc i) x lt e none =
    let rest : each_in ys ≡ None = each_none ys i x (omega (arith, lt)) e none in
    rw rest (and_none (descriptor_in y))

parts : (o : Option RawDesc) (p : Option (List RawDesc)) (ds : List RawDesc) → option_and_then (λ (d : RawDesc). option_map (λ l. d ∷ l) p) o ≡ Some ds
    → (d : RawDesc) × (l : List RawDesc) × (o ≡ Some d) × (p ≡ Some l) × (d ∷ l ≡ ds)
parts None p ds e = cc e
parts (Some d) None ds e = cc e
parts (Some d) (Some l) ds e = (d, l, refl, refl, cc e)

abbrev pub some : List RawDesc → Option (List RawDesc)
some ds = Some ds

-- and one that is one
pub each_more : (xs : List (List ℕ)) (x : List ℕ) (ds : List RawDesc) (d : RawDesc) → each_in xs ≡ Some ds → descriptor_in x ≡ Some d → each_in (xs ++ x ∷ []) ≡ Some (ds ++ d ∷ [])
each_more [] x ds d e f =
    let none : [] ≡ ds = cc e in
    rw f (ap (λ (l : List RawDesc). some (l ++ d ∷ [])) none)
each_more (y ∷ ys) x ds d e f =
    let (c, l, here, rest, same) = parts (descriptor_in y) (each_in ys) ds e in
    rw (here, each_more ys x l d rest f) (ap (λ (k : List RawDesc). some (k ++ d ∷ [])) same)

-- ---- its length and its bytes are bytes

abbrev pub IsRead : RawDesc → Type 0
IsRead d = FitsDescriptor d × IsOfBytes d

one_read : (bytes : List ℕ) (d : RawDesc) → IsBytes bytes → descriptor_of bytes ≡ Some d → IsRead d
one_read (tag ∷ size ∷ body) d h e = elim (cases_Bool (length body == size)) [
  | inl is ↦
      let whole : RawDesc = record { tag = tag; body = body } in
      let same : whole ≡ d = cc (rw is at e) in
      let byte : size < 256 = h 1 in
      let all = bytes_all (tag ∷ size ∷ body) h in
      subst IsRead same (let long = eqb-true (length body) size is in omega (arith, long, byte), (all.0, all.1.1))
  | inr other ↦ cc (rw other at e)
]
one_read other d h e = cc e

pub group_read : (group : List ℕ) (d : RawDesc) → descriptor_in group ≡ Some d → IsRead d
group_read group d e = go (decode_of group) refl e
  where
    go : (r : Result (List ℕ) FromHexError) → decode_of group ≡ r → option_and_then descriptor_of (result_ok r) ≡ Some d → IsRead d
    go (Ok bytes) is e = one_read bytes d (decode_of-ok group bytes is).3 e
    go (Err error) is e = cc e

pub each_read : (groups : List (List ℕ)) (ds : List RawDesc) → each_in groups ≡ Some ds → AllByRecursion IsRead ds
each_read [] ds e = (let none : [] ≡ ds = cc e in subst (AllByRecursion IsRead) none tt)
each_read (group ∷ groups) ds e =
    let (d, l, here, rest, same) = parts (descriptor_in group) (each_in groups) ds e in
    subst (AllByRecursion IsRead) same (group_read group d here, each_read groups l rest)

-- ---- what is written is read back

text_in : (d : RawDesc) → IsRead d → descriptor_in (descriptor_text d) ≡ Some d
text_in d read =
    ap (λ (r : Result (List ℕ) FromHexError). option_and_then descriptor_of (result_ok r)) (text_back d read.1 read.0)
    ∙ ap (λ (b : Bool). if b then Some d else None) (eq-eqb (length d.body) (length d.body) refl)

-- no digit is a space
abbrev is_other : ℕ → Bool
is_other b = not (b == 32)

texts_parts : (d : RawDesc) (ds : List RawDesc) → AllByRecursion IsRead (d ∷ ds) → slice_split (λ b. b == 32) (descriptors_text (d ∷ ds)) ≡ map descriptor_text (d ∷ ds)
texts_parts d [] h = split_last 32 (descriptor_text d) (text_all is_other d refl h.0.1)
texts_parts d (e ∷ ds) h =
    split_front 32 (descriptor_text d) (descriptors_text (e ∷ ds)) (text_all is_other d refl h.0.1)
    ∙ ap (λ (l : List (List ℕ)). descriptor_text d ∷ l) (texts_parts e ds h.1)

each_back : (ds : List RawDesc) → AllByRecursion IsRead ds → each_in (map descriptor_text ds) ≡ Some ds
each_back [] h = refl
each_back (d ∷ ds) h = rw (text_in d h.0, each_back ds h.1) refl

pub texts_in : (d : RawDesc) (ds : List RawDesc) → AllByRecursion IsRead (d ∷ ds) → descriptors_in (descriptors_text (d ∷ ds)) ≡ Some (d ∷ ds)
texts_in d ds h = ap each_in (texts_parts d ds h) ∙ each_back (d ∷ ds) h
