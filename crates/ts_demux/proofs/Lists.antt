-- Lists of bytes that a packet cuts.
use Rattle.std.proofs.Common.{◌≡◌, ℕ, zero, suc, ◌-◌, ◌≤◌, List, [], ◌∷◌, ◌++◌, length, refl, ap, ◌∙◌, arith, take, drop}
use Rattle.ts_packets.specs.Packets.{filled}

pub length-filled : (n : ℕ) (xs : List ℕ) → length (filled n xs) ≡ n
length-filled zero xs = refl
length-filled (suc n) [] = ap suc (length-filled n [])
length-filled (suc n) (x ∷ xs) = ap suc (length-filled n xs)

-- what stands in front is passed over
pub drop-filled : (s xs : List ℕ) (n : ℕ) → length s ≤ n → drop (length s) (filled n (s ++ xs)) ≡ filled (n - length s) xs
drop-filled [] xs n h = ap (λ (k : ℕ). filled k xs) (let e : n ≡ n - 0 = omega arith in e)
drop-filled (b ∷ s) xs zero h = absurd (omega arith)
drop-filled (b ∷ s) xs (suc n) h = drop-filled s xs n (omega arith) ∙ ap (λ (k : ℕ). filled k xs) (let e : n - length s ≡ suc n - suc (length s) = omega arith in e)

pub filled-append : (s xs : List ℕ) (n : ℕ) → length s ≤ n → filled n (s ++ xs) ≡ s ++ filled (n - length s) xs
filled-append [] xs n h = ap (λ (k : ℕ). filled k xs) (let e : n ≡ n - 0 = omega arith in e)
filled-append (b ∷ s) xs zero h = absurd (omega arith)
filled-append (b ∷ s) xs (suc n) h = ap (λ (t : List ℕ). b ∷ t) (filled-append s xs n (omega arith) ∙ ap (λ (k : ℕ). s ++ filled k xs) (let e : n - length s ≡ suc n - suc (length s) = omega arith in e))

pub drop-append_past : (s xs : List ℕ) (n : ℕ) → length s ≤ n → drop n (s ++ xs) ≡ drop (n - length s) xs
drop-append_past [] xs n h = ap (λ (k : ℕ). drop k xs) (let e : n ≡ n - 0 = omega arith in e)
drop-append_past (b ∷ s) xs zero h = absurd (omega arith)
drop-append_past (b ∷ s) xs (suc n) h = drop-append_past s xs n (omega arith) ∙ ap (λ (k : ℕ). drop k xs) (let e : n - length s ≡ suc n - suc (length s) = omega arith in e)

pub take-filled_front : (s xs : List ℕ) (n : ℕ) → length s ≤ n → take (length s) (filled n (s ++ xs)) ≡ s
take-filled_front [] xs n h = refl
take-filled_front (b ∷ s) xs zero h = absurd (omega arith)
take-filled_front (b ∷ s) xs (suc n) h = ap (λ (t : List ℕ). b ∷ t) (take-filled_front s xs n (omega arith))

-- a packet and what it leaves are the bytes, and maybe fill
pub filled-rest : (n : ℕ) (xs more : List ℕ) → (fill : List ℕ) × (filled n xs ++ (drop n xs ++ more) ≡ xs ++ fill)
filled-rest zero xs more = (more, refl)
filled-rest (suc n) [] more = (255 ∷ filled n [] ++ more, refl)
filled-rest (suc n) (x ∷ xs) more = ((filled-rest n xs more).0, ap (λ (t : List ℕ). x ∷ t) (filled-rest n xs more).1)

-- a cut list is its front
pub filled-cut : (n : ℕ) (xs : List ℕ) → n ≤ length xs → (filled n xs ++ drop n xs) ≡ xs
filled-cut zero xs h = refl
filled-cut (suc n) [] h = absurd (omega arith)
filled-cut (suc n) (x ∷ xs) h = ap (λ (t : List ℕ). x ∷ t) (filled-cut n xs (omega arith))

pub drop-past : (n : ℕ) (xs : List ℕ) → length xs ≤ n → drop n xs ≡ []
drop-past zero [] h = refl
drop-past zero (x ∷ xs) h = absurd (omega arith)
drop-past (suc n) [] h = refl
drop-past (suc n) (x ∷ xs) h = drop-past n xs (omega arith)
