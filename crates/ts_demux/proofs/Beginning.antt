-- The sections that begin in a packet, one after the other.
use Rattle.std.proofs.Common.{◌≡◌, ℕ, zero, suc, ◌<◌, ◌≤◌, ◌≢◌, List, [], ◌∷◌, ◌++◌, Bool, true, false, ◌&&◌, ◌==◌, Option, None, length, refl, sym, ap, ◌∙◌, arith, take, drop, append-nil, length-drop}
use Rattle.std.specs.Prelude.{if◌then◌else◌, nat_le, slice_index}
use Rattle.std.proofs.lemmas.Bool.{and_parts, ne_eqb}
use Rattle.ts_demux.specs.declared.headers.Reach.TheVariants.{Ends, Open, TooLong}
use Rattle.ts_demux.specs.Hearing.{size_in, is_whole, begun}
use Rattle.ts_demux.specs.Keeping.{is_long}
use Rattle.ts_demux.specs.Steps.{kept_open, left_open}
use Rattle.ts_demux.specs.Reaching.{reach_of}
use Rattle.ts_demux.proofs.Deciding.{le_told}
use Rattle.ts_demux.proofs.Hear.{pick, found}
use Rattle.ts_demux.proofs.Machine.{begun-nothing, begun-whole, size_in-three}

-- a whole section has three bytes at least
pub whole_some : (x : List ℕ) → is_whole x ≡ true → 3 ≤ size_in x
whole_some x e =
    let p = and_parts (nat_le 3 (length x)) (nat_le (size_in x) 4096 && nat_le (size_in x) (length x)) e in
    size_in-three x (le_told 3 (length x) p.0)

shorter : (n s : ℕ) (xs : List ℕ) → 3 ≤ s → length xs ≤ suc n → length (drop s xs) ≤ n
shorter n s xs some h = omega (arith, length-drop s xs)

pick-false : (p : Bool) (x y : List (List ℕ)) → pick p false x ≡ pick p false y
pick-false true x y = refl
pick-false false x y = refl

-- the bound on their number does not matter, where it is no less than the bytes
pub begun-bound : (n m : ℕ) (xs later : List ℕ) → length xs ≤ n → length xs ≤ m → begun n xs later ≡ begun m xs later
begun-bound zero m [] later h k = sym (begun-nothing m later)
begun-bound zero m (b ∷ xs) later h k = absurd (omega arith)
begun-bound (suc n) m [] later h k = sym (begun-nothing m later)
begun-bound (suc n) zero (b ∷ xs) later h k = absurd (omega arith)
begun-bound (suc n) (suc m) (b ∷ xs) later h k =
    go (is_whole (b ∷ xs ++ later)) refl (λ some. begun-bound n m (drop (size_in (b ∷ xs ++ later)) (b ∷ xs)) later
    (shorter n (size_in (b ∷ xs ++ later)) (b ∷ xs) some h) (shorter m (size_in (b ∷ xs ++ later)) (b ∷ xs) some k))
  where
    size : ℕ
    size = size_in (b ∷ xs ++ later)

    go : (w : Bool) → is_whole (b ∷ xs ++ later) ≡ w → (3 ≤ size → begun n (drop size (b ∷ xs)) later ≡ begun m (drop size (b ∷ xs)) later)
        → pick (b == 255) (is_whole (b ∷ xs ++ later)) (found n b xs later) ≡ pick (b == 255) (is_whole (b ∷ xs ++ later)) (found m b xs later)
    go true e rec = ap (λ (x : List (List ℕ)). pick (b == 255) (is_whole (b ∷ xs ++ later)) (take size (b ∷ xs ++ later) ∷ x)) (rec (whole_some (b ∷ xs ++ later) e))
    go false e rec =
        ap (λ (w : Bool). pick (b == 255) w (found n b xs later)) e ∙ pick-false (b == 255) (found n b xs later) (found m b xs later)
        ∙ sym (ap (λ (w : Bool). pick (b == 255) w (found m b xs later)) e)

left_nothing : (n : ℕ) → left_open n [] ≡ None
left_nothing zero = refl
left_nothing (suc n) = refl

abbrev choose : Bool → Bool → Option (List ℕ) → Option (List ℕ) → Option (List ℕ)
choose p w x y = if p then None else if w then x else y

choose-false : (p : Bool) (x y z : Option (List ℕ)) → choose p false x z ≡ choose p false y z
choose-false true x y z = refl
choose-false false x y z = refl

pub left_open-bound : (n m : ℕ) (xs : List ℕ) → length xs ≤ n → length xs ≤ m → left_open n xs ≡ left_open m xs
left_open-bound zero m [] h k = sym (left_nothing m)
left_open-bound zero m (b ∷ xs) h k = absurd (omega arith)
left_open-bound (suc n) m [] h k = sym (left_nothing m)
left_open-bound (suc n) zero (b ∷ xs) h k = absurd (omega arith)
left_open-bound (suc n) (suc m) (b ∷ xs) h k =
    go (is_whole (b ∷ xs)) refl (λ some. left_open-bound n m (drop (size_in (b ∷ xs)) (b ∷ xs)) (shorter n (size_in (b ∷ xs)) (b ∷ xs) some h) (shorter m (size_in (b ∷ xs)) (b ∷ xs) some k))
  where
    rest : List ℕ
    rest = drop (size_in (b ∷ xs)) (b ∷ xs)

    kept : Option (List ℕ)
    kept = kept_open (b ∷ xs)

    go : (w : Bool) → is_whole (b ∷ xs) ≡ w → (3 ≤ size_in (b ∷ xs) → left_open n rest ≡ left_open m rest)
        → choose (b == 255) (is_whole (b ∷ xs)) (left_open n rest) kept ≡ choose (b == 255) (is_whole (b ∷ xs)) (left_open m rest) kept
    go true e rec = ap (λ (x : Option (List ℕ)). choose (b == 255) (is_whole (b ∷ xs)) x kept) (rec (whole_some (b ∷ xs) e))
    go false e rec =
        ap (λ (w : Bool). choose (b == 255) w (left_open n rest) kept) e ∙ choose-false (b == 255) (left_open n rest) (left_open m rest) kept
        ∙ sym (ap (λ (w : Bool). choose (b == 255) w (left_open m rest) kept) e)

-- what reach_of tells
pub ends_told : (x : List ℕ) (n : ℕ) → reach_of x ≡ Ends n → (is_whole x ≡ true) × (n ≡ size_in x)
ends_told x n e = go (is_whole x) (is_long x) e
  where
    go : (w l : Bool) → (if w then Ends (size_in x) else if l then TooLong else Open (if nat_le 3 (length x) then size_in x else 4096)) ≡ Ends n → (w ≡ true) × (n ≡ size_in x)
    go true l f = (refl, cc)
    go false true f = cc
    go false false f = cc

-- a byte that is not fill, and a section that ends in the packet
pub begins_whole : (bytes : List ℕ) (n : ℕ) → 0 < length bytes → slice_index bytes 0 ≢ 255 → reach_of (bytes ++ []) ≡ Ends n →
    (begun (length bytes) bytes [] ≡ take n bytes ∷ begun (length (drop n bytes)) (drop n bytes) []) × (left_open (length bytes) bytes ≡ left_open (length (drop n bytes)) (drop n bytes))
begins_whole [] n some other e = absurd (omega arith)
begins_whole (b ∷ xs) n some other e =
    let bytes = b ∷ xs in
    let told = ends_told bytes n (ap reach_of (sym (append-nil bytes)) ∙ e) in
    let size : size_in bytes ≡ n = sym told.1 in
    let fill = ne_eqb b 255 other in
    let three = whole_some bytes told.0 in
    let less : length (drop n bytes) ≤ length xs = omega (arith, length-drop n bytes, size, three) in
    let same : length (drop n bytes) ≤ length (drop n bytes) = omega arith in (
      begun-whole (length xs) b xs [] fill told.0 ∙ ap (λ (k : ℕ). take k bytes ∷ begun (length xs) (drop k bytes) []) size
          ∙ ap (λ (x : List (List ℕ)). take n bytes ∷ x) (begun-bound (length xs) (length (drop n bytes)) (drop n bytes) [] less same),
      ap (λ (p : Bool). choose p (is_whole bytes) (left_open (length xs) (drop (size_in bytes) bytes)) (kept_open bytes)) fill
          ∙ ap (λ (w : Bool). choose false w (left_open (length xs) (drop (size_in bytes) bytes)) (kept_open bytes)) told.0
          ∙ ap (λ (k : ℕ). left_open (length xs) (drop k bytes)) size
          ∙ left_open-bound (length xs) (length (drop n bytes)) (drop n bytes) less same,
    )
