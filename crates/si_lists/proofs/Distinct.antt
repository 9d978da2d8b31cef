-- Elements of lists, where equal ones count once.
use Rattle.std.proofs.Common.{◌≡◌, ℕ, ◌+◌, ◌≤◌, List, [], ◌∷◌, ◌++◌, length, Bool, true, false, ◌||◌, refl, sym, ap, ap₂, ◌∙◌, arith}
use Rattle.std.specs.Prelude.{if◌then◌else◌, cond}
use Rattle.std.specs.Cmp.{IsEquivalence}
use Rattle.std.specs.List.{AllByRecursion, IsDistinct, list_any}
use Rattle.std.specs.Set.{is_member, unique_keys, distinct_count}
use Rattle.std.proofs.Math.Bool.{or-true, or-false, or_assoc}
use Rattle.std.proofs.lemmas.Map.Made.{length-le_from_is_member}

module _ {K : Type 0} {eq : K → K → Bool} (laws : IsEquivalence eq) where
  -- equal elements are in the same lists
  pub is_member-same : (xs : List K) (a b : K) → eq a b ≡ true → is_member eq xs a ≡ is_member eq xs b
  is_member-same [] a b e = refl
  is_member-same (x ∷ xs) a b e = ap₂ (λ (c d : Bool). c || d) (laws.congr a b x e) (is_member-same xs a b e)

  member_unique : (xs : List K) (q : K) → is_member eq (unique_keys eq xs) q ≡ is_member eq xs q
  member_unique [] q = refl
  member_unique (x ∷ xs) q = go (is_member eq xs x) refl (eq q x) refl (member_unique xs q)
    where
      go : (m : Bool) → is_member eq xs x ≡ m → (b : Bool) → eq q x ≡ b → is_member eq (unique_keys eq xs) q ≡ is_member eq xs q
          → is_member eq (cond m (unique_keys eq xs) (x ∷ unique_keys eq xs)) q ≡ (b || is_member eq xs q)
      go true there true e rest = rest ∙ is_member-same xs q x e ∙ there
      go true there false e rest = rest
      go false there b e rest = ap (λ c. c || is_member eq (unique_keys eq xs) q) e ∙ ap (λ c. b || c) rest

  others : (x : K) (ys : List K) → is_member eq ys x ≡ false → AllByRecursion (λ y. eq x y ≡ false) ys
  others x [] none = tt
  others x (y ∷ ys) none = go (eq x y) refl none (others x ys)
    where
      go : (b : Bool) → eq x y ≡ b → (b || is_member eq ys x) ≡ false → (is_member eq ys x ≡ false → AllByRecursion (λ z. eq x z ≡ false) ys)
          → (eq x y ≡ false) × AllByRecursion (λ z. eq x z ≡ false) ys
      go true e f rest = cc
      go false e f rest = (e, rest f)

  unique_distinct : (xs : List K) → IsDistinct eq (unique_keys eq xs)
  unfolding IsDistinct
  unique_distinct [] = tt
  unique_distinct (x ∷ xs) = go (is_member eq xs x) refl (unique_distinct xs)
    where
      go : (m : Bool) → is_member eq xs x ≡ m → IsDistinct eq (unique_keys eq xs) → IsDistinct eq (cond m (unique_keys eq xs) (x ∷ unique_keys eq xs))
      go true there rest = rest
      go false there rest = (others x (unique_keys eq xs) (member_unique xs x ∙ there), rest)

  -- a list has no more elements than one that has all of them
  pub distinct_count-within : (xs ys : List K) → ((q : K) → is_member eq xs q ≡ true → is_member eq ys q ≡ true) → distinct_count eq xs ≤ distinct_count eq ys
  distinct_count-within xs ys all =
      length-le_from_is_member laws (unique_keys eq xs) (unique_keys eq ys) (unique_distinct xs)
      (λ q there. member_unique ys q ∙ all q (sym (member_unique xs q) ∙ there))

  -- elements that are each in another list
  pub is_member-within : (whole xs : List K) → AllByRecursion (λ x. is_member eq whole x ≡ true) xs → (q : K) → is_member eq xs q ≡ true → is_member eq whole q ≡ true
  is_member-within whole [] all q there = cc
  is_member-within whole (x ∷ xs) all q there = go (eq q x) refl there (is_member-within whole xs all.1 q)
    where
      go : (b : Bool) → eq q x ≡ b → (b || is_member eq xs q) ≡ true → (is_member eq xs q ≡ true → is_member eq whole q ≡ true) → is_member eq whole q ≡ true
      go true e f rest = is_member-same whole q x e ∙ all.0
      go false e f rest = rest f

  -- how many elements a list has, one more behind it
  pub distinct_count-push : (xs : List K) (k : K) → distinct_count eq (xs ++ k ∷ []) ≡ (if is_member eq xs k then 0 else 1) + distinct_count eq xs
  distinct_count-push [] k = refl
  distinct_count-push (x ∷ xs) k = go (eq k x) refl (distinct_count-push xs k)
    where
      pushed : (ys : List K) → list_any (eq x) (ys ++ k ∷ []) ≡ (is_member eq ys x || eq x k)
      pushed [] = or-false (eq x k)
      pushed (y ∷ ys) = ap (λ b. eq x y || b) (pushed ys) ∙ sym (or_assoc (eq x y) (is_member eq ys x) (eq x k))

      counted_once : (b : Bool) → (if b then 0 else 1) + distinct_count eq xs ≡ 0 + length (cond b (unique_keys eq xs) (x ∷ unique_keys eq xs))
      counted_once true = refl
      counted_once false = omega arith

      one_more : (b : Bool) (n : ℕ) → distinct_count eq (xs ++ k ∷ []) ≡ n + distinct_count eq xs
          → length (cond b (unique_keys eq (xs ++ k ∷ [])) (x ∷ unique_keys eq (xs ++ k ∷ []))) ≡ n + length (cond b (unique_keys eq xs) (x ∷ unique_keys eq xs))
      one_more true n i = i
      one_more false n i = omega (arith, i)

      go : (b : Bool) → eq k x ≡ b → distinct_count eq (xs ++ k ∷ []) ≡ (if is_member eq xs k then 0 else 1) + distinct_count eq xs
          → distinct_count eq ((x ∷ xs) ++ k ∷ []) ≡ (if is_member eq (x ∷ xs) k then 0 else 1) + distinct_count eq (x ∷ xs)
      go true e i =
          let here : is_member eq (xs ++ k ∷ []) x ≡ true = pushed xs ∙ ap (λ b. is_member eq xs x || b) (laws.symm x k ∙ e) ∙ or-true (is_member eq xs x) in
          ap (λ b. length (cond b (unique_keys eq (xs ++ k ∷ [])) (x ∷ unique_keys eq (xs ++ k ∷ [])))) here
          ∙ i
          ∙ ap (λ (b : Bool). (if b then 0 else 1) + distinct_count eq xs) (is_member-same xs k x e)
          ∙ counted_once (is_member eq xs x)
          ∙ ap (λ b. (if b || is_member eq xs k then 0 else 1) + distinct_count eq (x ∷ xs)) (sym e)
      go false e i =
          let here : is_member eq (xs ++ k ∷ []) x ≡ is_member eq xs x = pushed xs ∙ ap (λ b. is_member eq xs x || b) (laws.symm x k ∙ e) ∙ or-false (is_member eq xs x) in
          ap (λ b. length (cond b (unique_keys eq (xs ++ k ∷ [])) (x ∷ unique_keys eq (xs ++ k ∷ [])))) here
          ∙ one_more (is_member eq xs x) (if is_member eq xs k then 0 else 1) i
          ∙ ap (λ b. (if b || is_member eq xs k then 0 else 1) + distinct_count eq (x ∷ xs)) (sym e)
