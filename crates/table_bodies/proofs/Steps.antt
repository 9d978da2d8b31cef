-- Descriptors and entries, read one after the other.
use Rattle.std.proofs.Common.{◌≡◌, ℕ, zero, suc, ◌+◌, ◌-◌, ◌<◌, ◌≤◌, Bool, true, false, ◌&&◌, List, [], ◌∷◌, ◌++◌, length, take, drop, get_or, refl, sym, ap, ap₂, subst, ◌∙◌, arith}
use Rattle.std.proofs.Common.{Option, Some, None}
use Rattle.std.specs.Prelude.{nat_le, is_some, option_map, option_and_then, if◌then◌else◌}
use Rattle.std.proofs.lemmas.Bool.{leb-true, le-leb}
use Rattle.std.proofs.lemmas.List.{length-drop, length-take-le, get_or-drop, take-append-drop, take_rest}
use Rattle.si_lists.proofs.Lists.{behind, behind-next}
use Rattle.si_lists.proofs.Outcomes.{mapped, some_same}
use Rattle.guide_model.specs.declared.descriptor.RawDesc.{RawDesc}
use Rattle.descriptors.specs.Descriptors.{AreDescriptors}
use Rattle.table_bodies.specs.Entries.{desc_of, descriptors_within, descriptors_in, EntryParts, entry_length, parts_at, split_in, Reads, value_in, made, with_more, entries_within, entries_in}

-- ---- descriptors

-- more steps than there are bytes change nothing
enough_descs : (n m : ℕ) (bytes : List ℕ) → length bytes ≤ n → length bytes ≤ m → descriptors_within n bytes ≡ descriptors_within m bytes
enough_descs n m [] p q = refl
enough_descs n m (tag ∷ []) p q = refl
enough_descs zero m (tag ∷ len ∷ after) p q = absurd (omega (arith, p))
enough_descs (suc n) zero (tag ∷ len ∷ after) p q = absurd (omega (arith, q))
enough_descs (suc n) (suc m) (tag ∷ len ∷ after) p q =
    ap (λ (o : Option (List RawDesc)). if nat_le len (length after) then option_map (λ descs. desc_of tag len after ∷ descs) o else None)
    (enough_descs n m (drop len after) (omega (arith, p, length-drop len after)) (omega (arith, q, length-drop len after)))

-- one descriptor more
pub next_desc : (tag len : ℕ) (after : List ℕ) → descriptors_in (tag ∷ len ∷ after)
    ≡ (if nat_le len (length after) then option_map (λ descs. desc_of tag len after ∷ descs) (descriptors_in (drop len after)) else None)
next_desc tag len after =
    ap (λ (o : Option (List RawDesc)). if nat_le len (length after) then option_map (λ descs. desc_of tag len after ∷ descs) o else None)
    (enough_descs (suc (length after)) (length (drop len after)) (drop len after) (omega (arith, length-drop len after)) (omega arith))

-- what follows a descriptor decides
pub desc_passed : (tag len : ℕ) (after : List ℕ) → nat_le len (length after) ≡ true
    → is_some (descriptors_in (tag ∷ len ∷ after)) ≡ is_some (descriptors_in (drop len after))
desc_passed tag len after e =
    ap is_some (next_desc tag len after)
    ∙ ap (λ (b : Bool). is_some (if b then option_map (λ descs. desc_of tag len after ∷ descs) (descriptors_in (drop len after)) else None)) e
    ∙ sym (mapped (λ descs. desc_of tag len after ∷ descs) (descriptors_in (drop len after)))

pub desc_left : (rest : List ℕ) (len : ℕ) → 2 ≤ length rest → len ≡ get_or rest 1 0 → 2 + len ≤ length rest
    → is_some (descriptors_in rest) ≡ is_some (descriptors_in (let inside = take (length rest - 2) (drop 2 rest) in take (length inside - len) (drop len inside)))
desc_left [] len two is le = absurd (omega (arith, two))
desc_left (tag ∷ []) len two is le = absurd (omega (arith, two))
desc_left (tag ∷ told ∷ after) len two is le =
    desc_passed tag told after (le-leb told (length after) (omega (arith, is, le)))
    ∙ ap (λ (bytes : List ℕ). is_some (descriptors_in bytes))
    (sym (ap (λ (l : List ℕ). take (length l - len) (drop len l)) (take_rest (tag ∷ told ∷ after) 2) ∙ take_rest after len ∙ ap (λ (n : ℕ). drop n after) is))

-- numbers below 256 that are read as descriptors are their bytes
pub come_from : (n : ℕ) (bytes : List ℕ) (descs : List RawDesc) → ((i : ℕ) → get_or bytes i 0 < 256) → descriptors_within n bytes ≡ Some descs
    → AreDescriptors bytes descs
come_from n [] descs small e = subst (AreDescriptors []) (some_same e) (record { whole = refl; lengths = tt })
come_from n (tag ∷ []) descs small e = cc
come_from zero (tag ∷ len ∷ after) descs small e = cc
come_from (suc n) (tag ∷ len ∷ after) descs small e =
    go (nat_le len (length after)) refl (descriptors_within n (drop len after)) refl
    (λ more. come_from n (drop len after) more (λ i. subst (λ (k : ℕ). k < 256) (sym (get_or-drop len after i 0)) (small (suc (suc (len + i)))))) e
  where
    go : (b : Bool) → nat_le len (length after) ≡ b → (o : Option (List RawDesc)) → descriptors_within n (drop len after) ≡ o
        → ((more : List RawDesc) → descriptors_within n (drop len after) ≡ Some more → AreDescriptors (drop len after) more)
        → (if b then option_map (λ descs. desc_of tag len after ∷ descs) o else None) ≡ Some descs → AreDescriptors (tag ∷ len ∷ after) descs
    go false le o is later h = cc
    go true le None is later h = cc
    go true le (Some more) is later h =
        let size : length (take len after) ≡ len = length-take-le len after (leb-true len (length after) le) in
        let rest = later more is in
        subst (AreDescriptors (tag ∷ len ∷ after)) (some_same h) (record {
          whole =
              ap (λ (l : List ℕ). tag ∷ len ∷ l) (sym (take-append-drop len after))
              ∙ ap₂ (λ (k : ℕ) (l : List ℕ). tag ∷ k ∷ (take len after ++ l)) (sym size) rest.whole;
          lengths = (subst (λ (k : ℕ). k < 256) (sym size) (small 1), rest.lengths);
        })

-- ---- entries

-- more steps than there are bytes change nothing
enough_entries : {X : Type 0} (size : ℕ) (value_of : Reads X) (n m : ℕ) (bytes : List ℕ) → length bytes ≤ n → length bytes ≤ m
    → entries_within size value_of n bytes ≡ entries_within size value_of m bytes
enough_entries size value_of n m [] p q = refl
enough_entries size value_of zero m (b ∷ bytes) p q = absurd (omega (arith, p))
enough_entries size value_of (suc n) zero (b ∷ bytes) p q = absurd (omega (arith, q))
enough_entries {X} size value_of (suc n) (suc m) (b ∷ bytes) p q =
    let size_of = length-drop (entry_length size (b ∷ bytes)) (b ∷ bytes) in
    go (nat_le (entry_length size (b ∷ bytes)) (length (b ∷ bytes)))
    (enough_entries size value_of n m (drop (entry_length size (b ∷ bytes)) (b ∷ bytes)) (omega (arith, p, size_of)) (omega (arith, q, size_of)))
  where
    all : List ℕ
    all = b ∷ bytes

    rest : List ℕ
    rest = drop (entry_length size all) all

    go : (t : Bool) → entries_within size value_of n rest ≡ entries_within size value_of m rest
        → option_and_then (λ (parts : EntryParts × List ℕ). with_more (value_in value_of parts.0) (entries_within size value_of n parts.1)) (if t then Some (parts_at size all, rest) else None)
        ≡ option_and_then (λ (parts : EntryParts × List ℕ). with_more (value_in value_of parts.0) (entries_within size value_of m parts.1)) (if t then Some (parts_at size all, rest) else None)
    go false same = refl
    go true same = ap (with_more (value_in value_of (parts_at size all))) same

-- one entry more
abbrev pub and_more : {X : Type 0} → ℕ → Reads X → Option (EntryParts × List ℕ) → Option (List X)
and_more size value_of split = option_and_then (λ (parts : EntryParts × List ℕ). with_more (value_in value_of parts.0) (entries_in size value_of parts.1)) split

pub next_entry : {X : Type 0} (size : ℕ) (value_of : Reads X) (bytes : List ℕ) → 0 < length bytes
    → entries_in size value_of bytes ≡ and_more size value_of (split_in size bytes)
next_entry size value_of [] some = absurd (omega (arith, some))
next_entry {X} size value_of (b ∷ bytes) some = go (nat_le (entry_length size (b ∷ bytes)) (length (b ∷ bytes)))
  where
    all : List ℕ
    all = b ∷ bytes

    rest : List ℕ
    rest = drop (entry_length size all) all

    go : (t : Bool)
        → option_and_then (λ (parts : EntryParts × List ℕ). with_more (value_in value_of parts.0) (entries_within size value_of (length bytes) parts.1)) (if t then Some (parts_at size all, rest) else None)
        ≡ and_more size value_of (if t then Some (parts_at size all, rest) else None)
    go false = refl
    go true = ap (with_more (value_in value_of (parts_at size all)))
        (enough_entries size value_of (length bytes) (length rest) rest (omega (arith, length-drop (entry_length size all) all)) (omega arith))

-- ---- entries so far

-- an entry that is read
pub one_read : {X : Type 0} (size : ℕ) (value_of : Reads X) (rest : List ℕ) (entry : EntryParts) (after : List ℕ) (front : List X) (x : X)
    → 0 < length rest → Some (entry, after) ≡ split_in size rest → value_in value_of entry ≡ Some x
    → behind front (entries_in size value_of rest) ≡ behind (front ++ x ∷ []) (entries_in size value_of after)
one_read size value_of rest entry after front x some split value =
    ap (behind front) (next_entry size value_of rest some ∙ ap (and_more size value_of) (sym split)
    ∙ ap (λ o. with_more o (entries_in size value_of after)) value)
    ∙ behind-next front x (entries_in size value_of after)

pub made_test : {X Y Z : Type 0} (f : X → Y → Z) (a : Option X) (b : Option Y) → is_some (made f a b) ≡ (is_some a && is_some b)
made_test f None b = refl
made_test f (Some x) b = sym (mapped (f x) b)

-- whether an entry has a value, and those that follow it
pub one_passed : {X : Type 0} (size : ℕ) (value_of : Reads X) (rest : List ℕ) (entry : EntryParts) (after : List ℕ)
    → 0 < length rest → Some (entry, after) ≡ split_in size rest
    → is_some (entries_in size value_of rest) ≡ (is_some (value_in value_of entry) && is_some (entries_in size value_of after))
one_passed size value_of rest entry after some split =
    ap is_some (next_entry size value_of rest some ∙ ap (and_more size value_of) (sym split))
    ∙ made_test (λ x xs. x ∷ xs) (value_in value_of entry) (entries_in size value_of after)
