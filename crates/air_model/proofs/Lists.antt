-- Lists of sections: what holds of each, where one stands, and their packets.
use Rattle.std.proofs.Common.{◌≡◌, ℕ, zero, suc, ◌+◌, ◌-◌, ◌<◌, ◌≤◌, ◌⊎◌, inl, inr, List, [], ◌∷◌, ◌++◌, refl, ap, ap₂, ◌∙◌, arith}
use Rattle.std.specs.List.{AllByRecursion}
use Rattle.section_codec.specs.Contents.{numbers_from}
use Rattle.air_model.specs.Cutting.{packets_in}
use Rattle.air_model.specs.Spacing.{Lacks}

-- ---- the first of a list that is x

-- two equal lists agree up to their first x
pub first_same : (x : ℕ) (u v a b : List ℕ) → u ++ x ∷ v ≡ a ++ x ∷ b → Lacks x u → Lacks x a → (u ≡ a) × (v ≡ b)
first_same x [] v [] b e h k = (refl, let t : v ≡ b = cc in t)
first_same x [] v (y ∷ a) b e h k = absurd (k.0 (let t : y ≡ x = cc in t))
first_same x (y ∷ u) v [] b e h k = absurd (h.0 (let t : y ≡ x = cc in t))
first_same x (y ∷ u) v (z ∷ a) b e h k =
    let t : u ++ x ∷ v ≡ a ++ x ∷ b = cc in
    let s : y ≡ z = cc in
    let r = first_same x u v a b t h.1 k.1 in
    (ap₂ (λ (m : ℕ) (ms : List ℕ). m ∷ ms) s r.0, r.1)

-- an x behind a list that lacks it
pub pass_over : (x : ℕ) (c w u v : List ℕ) → c ++ w ≡ u ++ x ∷ v → Lacks x c → (t : List ℕ) × (u ≡ c ++ t) × (w ≡ t ++ x ∷ v)
pass_over x [] w u v e h = (u, refl, e)
pass_over x (y ∷ c) w [] v e h = absurd (h.0 (let t : y ≡ x = cc in t))
pass_over x (y ∷ c) w (z ∷ u) v e h =
    let t : c ++ w ≡ u ++ x ∷ v = cc in
    let s : z ≡ y = cc in
    let r = pass_over x c w u v t h.1 in
    (r.0, ap₂ (λ (m : ℕ) (ms : List ℕ). m ∷ ms) s r.1, r.2)

same_or_not : (x y : ℕ) → (y ≡ x) ⊎ (y ≡ x → Prim.⊥)
same_or_not x y = grind arith

pub record FirstIn (x : ℕ) (xs : List ℕ) : Type 0 where
  pub before : List ℕ
  pub after : List ℕ
  pub are : xs ≡ before ++ x ∷ after
  pub lacks : Lacks x before

pub has_or_lacks : (x : ℕ) (xs : List ℕ) → FirstIn x xs ⊎ Lacks x xs
has_or_lacks x [] = inr tt
has_or_lacks x (y ∷ xs) = go (same_or_not x y) (has_or_lacks x xs)
  where
    go : (y ≡ x) ⊎ (y ≡ x → Prim.⊥) → FirstIn x xs ⊎ Lacks x xs → FirstIn x (y ∷ xs) ⊎ Lacks x (y ∷ xs)
    go (inl e) r = inl (record { before = []; after = xs; are = ap (λ (m : ℕ). m ∷ xs) e; lacks = tt })
    go (inr n) (inl f) = inl (record { before = y ∷ f.before; after = f.after; are = ap (λ (t : List ℕ). y ∷ t) f.are; lacks = (n, f.lacks) })
    go (inr n) (inr l) = inr (n, l)

pub none : (x : ℕ) (u v : List ℕ) → [] ≡ u ++ x ∷ v → Prim.⊥
none x [] v e = cc
none x (y ∷ u) v e = cc

-- ---- packets

pub packets-append : (size : ℕ → ℕ) (a b : List ℕ) → packets_in size (a ++ b) ≡ packets_in size a + packets_in size b
packets-append size [] b = let e : packets_in size b ≡ 0 + packets_in size b = omega arith in e
packets-append size (x ∷ a) b = ap (λ (n : ℕ). size x + n) (packets-append size a b) ∙ (let e : size x + (packets_in size a + packets_in size b) ≡ size x + packets_in size a + packets_in size b = omega arith in e)

-- ---- numbers that follow each other

pub all-numbers : (P : ℕ → Type 0) (a k : ℕ) → ((i : ℕ) → a ≤ i → i < a + k → P i) → AllByRecursion P (numbers_from a k)
all-numbers P a zero h = tt
all-numbers P a (suc k) h = (h a (omega arith) (omega arith), all-numbers P (1 + a) k (λ i l m. h i (omega arith) (omega arith)))

numbers-cut : (a j k : ℕ) → numbers_from a (j + suc k) ≡ numbers_from a j ++ (a + j) ∷ numbers_from (1 + (a + j)) k
numbers-cut a zero k = ap₂ (λ (n m : ℕ). numbers_from m n) (let e : 0 + suc k ≡ suc k = omega arith in e) refl ∙ ap (λ (m : ℕ). m ∷ numbers_from (1 + m) k) (let e : a ≡ a + 0 = omega arith in e)
numbers-cut a (suc j) k = ap (λ (n : ℕ). numbers_from a n) (let e : suc j + suc k ≡ suc (j + suc k) = omega arith in e) ∙ ap (λ (t : List ℕ). a ∷ t) (numbers-cut (1 + a) j k)
    ∙ ap (λ (m : ℕ). a ∷ (numbers_from (1 + a) j ++ m ∷ numbers_from (1 + m) k)) (let e : 1 + a + j ≡ a + suc j = omega arith in e)

pub numbers-lack : (x a k : ℕ) → (x < a) ⊎ (a + k ≤ x) → Lacks x (numbers_from a k)
numbers-lack x a k (inl h) = all-numbers (λ (y : ℕ). y ≡ x → Prim.⊥) a k (λ i l m e. omega arith)
numbers-lack x a k (inr h) = all-numbers (λ (y : ℕ). y ≡ x → Prim.⊥) a k (λ i l m e. omega arith)

-- a number stands once in its numbers
pub record Once (x : ℕ) (xs : List ℕ) : Type 0 where
  pub before : List ℕ
  pub after : List ℕ
  pub are : xs ≡ before ++ x ∷ after
  pub lacks_before : Lacks x before
  pub lacks_after : Lacks x after

pub once : (a n x : ℕ) → a ≤ x → x < a + n → Once x (numbers_from a n)
once a n x l m = record {
  before = numbers_from a (x - a);
  after = numbers_from (1 + x) ((a + n) - suc x);
  are = ap (numbers_from a) (let e : n ≡ (x - a) + suc ((a + n) - suc x) = omega arith in e) ∙ numbers-cut a (x - a) ((a + n) - suc x)
      ∙ ap (λ (y : ℕ). numbers_from a (x - a) ++ y ∷ numbers_from (1 + y) ((a + n) - suc x)) (let e : a + (x - a) ≡ x = omega arith in e);
  lacks_before = numbers-lack x a (x - a) (inr (omega arith));
  lacks_after = numbers-lack x (1 + x) ((a + n) - suc x) (inl (omega arith));
}
