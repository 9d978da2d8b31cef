-- The pieces of a text.
use Rattle.std.proofs.Common.{◌≡◌, ℕ, zero, suc, ◌+◌, ◌*◌, ◌<◌, ◌≤◌, List, [], ◌∷◌, ◌++◌, length, take, drop, refl, sym, ap, ◌∙◌, subst, arith, inl, inr}
use Rattle.std.specs.Prelude.{◌||◌, IsUtf8}
use Rattle.std.specs.Str.{chars}
use Rattle.std.specs.List.{concat, list_any, AllByRecursion}
use Rattle.std.proofs.lemmas.Bool.{cases_lt, or_parts}
use Rattle.std.proofs.lemmas.List.{length-take-le, length-drop, take-append-drop}
use Rattle.std.proofs.lemmas.List.Folds.{list_any-append}
use Rattle.std.proofs.lemmas.Str.{IsUtf8-nil, IsUtf8-append, IsUtf8-take, IsUtf8-drop, chars-nil, chars-append}
use Rattle.guide_model.specs.Control.{is_control, has_control}
use Rattle.guide_model.specs.Cutting.{cut_size, first_pieces, pieces, IsLongestCut, ArePieces}
use Rattle.guide_model.specs.Decoding.{IsKept}
use Rattle.guide_model.proofs.CutFacts.{cut_size-longest, cut_size-le, cut_size-large, cut_size-pos}

-- ---- the front of a text and what is left

pub IsUtf8-front : (text : List ℕ) → IsUtf8 text → IsUtf8 (take (cut_size text) text)
IsUtf8-front text u = IsUtf8-take text (cut_size text) u (cut_size-longest text u).whole

pub IsUtf8-rest : (text : List ℕ) → IsUtf8 text → IsUtf8 (drop (cut_size text) text)
IsUtf8-rest text u = IsUtf8-drop text (cut_size text) u (cut_size-longest text u).whole

shorter : (text : List ℕ) (n : ℕ) → IsUtf8 text → 0 < length text → length text ≤ suc n → length (drop (cut_size text) text) ≤ n
shorter text n u lt le = omega (arith, length-drop (cut_size text) text, cut_size-pos text u lt)

-- ---- the first pieces

first-none : (n : ℕ) → first_pieces n [] ≡ []
unfolding first_pieces
first-none zero = refl
first-none (suc n) = refl

first-next : (n b : ℕ) (bs : List ℕ) → first_pieces (suc n) (b ∷ bs) ≡ take (cut_size (b ∷ bs)) (b ∷ bs) ∷ first_pieces n (drop (cut_size (b ∷ bs)) (b ∷ bs))
unfolding first_pieces
first-next n b bs = refl

-- as many as there are bytes are enough
enough : (n m : ℕ) (text : List ℕ) → IsUtf8 text → length text ≤ n → length text ≤ m → first_pieces n text ≡ first_pieces m text
enough n m [] u len lem = first-none n ∙ sym (first-none m)
enough zero m (b ∷ bs) u len lem = absurd (omega arith)
enough (suc n) zero (b ∷ bs) u len lem = absurd (omega arith)
enough (suc n) (suc m) (b ∷ bs) u len lem =
    let text = b ∷ bs in
    let some : 0 < length text = omega arith in
    first-next n b bs
    ∙ ap (λ more. take (cut_size text) text ∷ more)
    (enough n m (drop (cut_size text) text) (IsUtf8-rest text u) (shorter text n u some len) (shorter text m u some lem))
    ∙ sym (first-next m b bs)

pub pieces-none : pieces [] ≡ []
unfolding pieces
pieces-none = first-none 0

pub pieces-next : (text : List ℕ) → IsUtf8 text → 0 < length text → pieces text ≡ take (cut_size text) text ∷ pieces (drop (cut_size text) text)
unfolding pieces
pieces-next [] u lt = absurd (omega arith)
pieces-next (b ∷ bs) u lt =
    let text = b ∷ bs in
    let rest = drop (cut_size text) text in
    first-next (length bs) b bs
    ∙ ap (λ more. take (cut_size text) text ∷ more) (enough (length bs) (length rest) rest (IsUtf8-rest text u) (shorter text (length bs) u lt (omega arith)) (omega arith))

-- ---- an induction for what holds of all pieces: n is at least the text's length

each : (P : List ℕ → List (List ℕ) → Type 0)
    → P [] [] → ((text : List ℕ) → IsUtf8 text → 0 < length text → P (drop (cut_size text) text) (pieces (drop (cut_size text) text)) → P text (take (cut_size text) text ∷ pieces (drop (cut_size text) text)))
    → (n : ℕ) (text : List ℕ) → IsUtf8 text → length text ≤ n → P text (pieces text)
each P none more n [] u le = subst (P []) (sym pieces-none) none
each P none more zero (b ∷ bs) u le = absurd (omega arith)
each P none more (suc n) (b ∷ bs) u le =
    let text = b ∷ bs in
    let some : 0 < length text = omega arith in
    let rest = drop (cut_size text) text in
    subst (P text) (sym (pieces-next text u some)) (more text u some (each P none more n rest (IsUtf8-rest text u) (shorter text n u some le)))

-- ---- the laws

pub pieces-join : (text : List ℕ) → IsUtf8 text → concat (pieces text) ≡ text
pieces-join text u =
    each (λ t ps. concat ps ≡ t) refl
    (λ t ut lt h. ap (λ rest. take (cut_size t) t ++ rest) h ∙ take-append-drop (cut_size t) t)
    (length text) text u (omega arith)

pub pieces-longest : (text : List ℕ) → IsUtf8 text → ArePieces text (pieces text)
pieces-longest text u =
    each ArePieces refl
    (λ t ut lt h.
    let same : length (take (cut_size t) t) ≡ cut_size t = length-take-le (cut_size t) t (cut_size-le t ut) in
    (drop (cut_size t) t, sym (take-append-drop (cut_size t) t), subst (IsLongestCut t) (sym same) (cut_size-longest t ut), h))
    (length text) text u (omega arith)

-- a control character of two texts one behind the other is one of either
pub has_control-append : (front rest : List ℕ) → IsUtf8 front → has_control (front ++ rest) ≡ (has_control front || has_control rest)
has_control-append front rest u = ap (list_any is_control) (chars-append front rest u) ∙ list_any-append is_control (chars front) (chars rest)

pub IsKept-append : (front rest : List ℕ) → IsKept front → IsKept rest → IsKept (front ++ rest)
IsKept-append front rest f r = record {
  utf8 = IsUtf8-append front rest f.utf8 r.utf8;
  clean = has_control-append front rest f.utf8 ∙ ap (λ c. c || has_control rest) f.clean ∙ r.clean;
}

-- kept texts join to a kept text
pub IsKept-concat : (texts : List (List ℕ)) → AllByRecursion IsKept texts → IsKept (concat texts)
IsKept-concat [] all = record { utf8 = IsUtf8-nil; clean = ap (list_any is_control) chars-nil }
IsKept-concat (text ∷ more) all = IsKept-append text (concat more) all.0 (IsKept-concat more all.1)

-- both parts of a kept text are kept
pub IsKept-parts : (text : List ℕ) → IsKept text → IsKept (take (cut_size text) text) × IsKept (drop (cut_size text) text)
IsKept-parts text k =
    let front = take (cut_size text) text in
    let rest = drop (cut_size text) text in
    let uf = IsUtf8-front text k.utf8 in
    let split : has_control text ≡ (has_control front || has_control rest) =
    ap has_control (sym (take-append-drop (cut_size text) text)) ∙ has_control-append front rest uf in
    let clean = or_parts (has_control front) (has_control rest) (sym split ∙ k.clean) in
    (record { utf8 = uf; clean = clean.0 }, record { utf8 = IsUtf8-rest text k.utf8; clean = clean.1 })

pub pieces-kept : (text : List ℕ) → IsKept text → AllByRecursion IsKept (pieces text)
pieces-kept text k =
    each (λ t ps. IsKept t → AllByRecursion IsKept ps) (λ kept. tt)
    (λ t ut lt h kept. let parts = IsKept-parts t kept in (parts.0, h parts.1))
    (length text) text k.utf8 (omega arith) k

few : (text : List ℕ) (more : List (List ℕ)) → IsUtf8 text → 0 < length text → 245 * length more ≤ length (drop (cut_size text) text) + 244
    → 245 * length (take (cut_size text) text ∷ more) ≤ length text + 244
few text more u lt h = elim (cases_lt (cut_size text) (length text)) [
  | inl less ↦ omega (arith, cut_size-large text u less, length-drop (cut_size text) text)
  | inr le ↦ omega (arith, length-drop (cut_size text) text)
]

-- all but the last have at least 245 bytes, and the last has one
pub pieces-few : (text : List ℕ) → IsUtf8 text → 245 * length (pieces text) ≤ length text + 244
pieces-few text u =
    each (λ t ps. 245 * length ps ≤ length t + 244) (omega arith)
    (λ t ut lt h. few t (pieces (drop (cut_size t) t)) ut lt h)
    (length text) text u (omega arith)
