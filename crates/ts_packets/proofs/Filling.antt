-- Payloads: their bytes, then fill.
use Rattle.std.proofs.Common.{◌≡◌, ℕ, zero, suc, ◌-◌, min, List, [], ◌∷◌, ◌++◌, length, refl, sym, ap, ap₂, ◌∙◌, arith, take, replicate}
use Rattle.std.proofs.lemmas.List.{take_min}
use Rattle.ts_packets.specs.Packets.{joined, filled, piece_of}

filled-nil : (n : ℕ) → filled n [] ≡ replicate n 255
filled-nil zero = refl
filled-nil (suc n) = ap (λ (x : List ℕ). 255 ∷ x) (filled-nil n)

-- a payload is the pointer, bytes of sections, and fill to the packet's end
pub filled-is : (n : ℕ) (xs : List ℕ) → filled n xs ≡ take n xs ++ replicate (n - length xs) 255
filled-is zero xs = ap (λ (k : ℕ). replicate k 255) (let e : 0 ≡ 0 - length xs = omega arith in e)
filled-is (suc n) [] = filled-nil (suc n) ∙ ap (λ (k : ℕ). replicate k 255) (let e : suc n ≡ suc n - 0 = omega arith in e)
filled-is (suc n) (x ∷ xs) = ap (λ (y : List ℕ). x ∷ y) (filled-is n xs ∙ ap (λ (k : ℕ). take n xs ++ replicate k 255) (let e : n - length xs ≡ suc n - suc (length xs) = omega arith in e))

pub length-filled : (n : ℕ) (xs : List ℕ) → length (filled n xs) ≡ n
length-filled zero xs = refl
length-filled (suc n) [] = ap suc (length-filled n [])
length-filled (suc n) (x ∷ xs) = ap suc (length-filled n xs)

-- a payload has 184 bytes
pub length-payload : (rest : List ℕ) (group : List (List ℕ)) → length (piece_of rest group).payload ≡ 184
length-payload rest [] = length-filled 184 rest
length-payload rest (s ∷ ss) = ap suc (length-filled 183 (rest ++ joined (s ∷ ss)))

-- what was copied, and then fill
pub filled-parts : (n count : ℕ) (xs : List ℕ) → count ≡ min (length xs) n → take count xs ++ replicate (n - count) 255 ≡ filled n xs
filled-parts n count xs e =
    let whole : take count xs ≡ take n xs = ap (λ (k : ℕ). take k xs) (e ∙ min_comm (length xs) n) ∙ take_min n xs in
    let fill : n - count ≡ n - length xs = omega arith in
    ap₂ (λ (a : List ℕ) (k : ℕ). a ++ replicate k 255) whole fill ∙ sym (filled-is n xs)
  where
    min_comm : (a b : ℕ) → min a b ≡ min b a
    min_comm a b = omega arith
