-- Lists, and what holds of each of their elements.
use Rattle.std.proofs.Common.{◌≡◌, ◌∙◌, ◌⊎◌, inl, inr, ◌+◌, ◌-◌, ◌≤◌, ◌++◌, ℕ, zero, suc, List, [], map, ◌∷◌, Option, Some, None, refl, sym, ap, ap₂, append_assoc, append-nil, arith}
use Rattle.std.specs.List.{AllByRecursion, flat_map, range_with_len}
use Rattle.std.specs.Prelude.{length, take, drop, slice_range, option_map}
use Rattle.std.proofs.lemmas.List.{drop-take, drop-drop, length-take, length-drop}

pub all_push : {X : Type 0} (P : X → Type 0) (xs : List X) (x : X) → AllByRecursion P xs → P x → AllByRecursion P (xs ++ x ∷ [])
all_push P [] x h p = (p, tt)
all_push P (y ∷ ys) x h p = (h.0, all_push P ys x h.1 p)

pub all_append : {X : Type 0} (P : X → Type 0) (xs ys : List X) → AllByRecursion P xs → AllByRecursion P ys → AllByRecursion P (xs ++ ys)
all_append P [] ys a b = b
all_append P (x ∷ xs) ys a b = (a.0, all_append P xs ys a.1 b)

pub all_front : {X : Type 0} (P : X → Type 0) (xs ys : List X) → AllByRecursion P (xs ++ ys) → AllByRecursion P xs
all_front P [] ys p = tt
all_front P (x ∷ xs) ys p = (p.0, all_front P xs ys p.1)

pub all_behind : {X : Type 0} (P : X → Type 0) (xs ys : List X) → AllByRecursion P (xs ++ ys) → AllByRecursion P ys
all_behind P [] ys p = p
all_behind P (x ∷ xs) ys p = all_behind P xs ys p.1

pub all_at : {X : Type 0} (P : X → Type 0) (xs : List X) (x : X) (ys : List X) → AllByRecursion P (xs ++ x ∷ ys) → P x
all_at P xs x ys p = (all_behind P xs (x ∷ ys) p).0

pub all_map : {X : Type 0} (P Q : X → Type 0) → ((x : X) → P x → Q x) → (xs : List X) → AllByRecursion P xs → AllByRecursion Q xs
all_map P Q f [] h = tt
all_map P Q f (x ∷ xs) h = (f x h.0, all_map P Q f xs h.1)

pub all_to_map : {X Y : Type 0} (P : Y → Type 0) (f : X → Y) (xs : List X) → AllByRecursion (λ (x : X). P (f x)) xs → AllByRecursion P (map f xs)
all_to_map P f [] h = tt
all_to_map P f (x ∷ xs) h = (h.0, all_to_map P f xs h.1)

pub all_of_map : {X Y : Type 0} (P : Y → Type 0) (f : X → Y) (xs : List X) → AllByRecursion P (map f xs) → AllByRecursion (λ (x : X). P (f x)) xs
all_of_map P f [] h = tt
all_of_map P f (x ∷ xs) h = (h.0, all_of_map P f xs h.1)

pub all_through : {X Y : Type 0} (P : X → Type 0) (Q : Y → Type 0) (f : X → Y) → ((x : X) → P x → Q (f x)) → (xs : List X) → AllByRecursion P xs → AllByRecursion Q (map f xs)
all_through P Q f each xs h = all_to_map Q f xs (all_map P (λ x. Q (f x)) each xs h)

pub all_flat : {X Y : Type 0} (P : X → Type 0) (Q : Y → Type 0) (f : X → List Y) → ((x : X) → P x → AllByRecursion Q (f x)) → (xs : List X) → AllByRecursion P xs → AllByRecursion Q (flat_map f xs)
all_flat P Q f each [] h = tt
all_flat P Q f each (x ∷ xs) h = all_append Q (f x) (flat_map f xs) (each x h.0) (all_flat P Q f each xs h.1)

pub all_drop : {X : Type 0} (P : X → Type 0) (n : ℕ) (xs : List X) → AllByRecursion P xs → AllByRecursion P (drop n xs)
all_drop P zero xs h = h
all_drop P (suc n) [] h = tt
all_drop P (suc n) (x ∷ xs) h = all_drop P n xs h.1

pub all_two : {X : Type 0} (P Q R : X → Type 0) → ((x : X) → P x → Q x → R x) → (xs : List X) → AllByRecursion P xs → AllByRecursion Q xs → AllByRecursion R xs
all_two P Q R f [] p q = tt
all_two P Q R f (x ∷ xs) p q = (f x p.0 q.0, all_two P Q R f xs p.1 q.1)

pub each_unit : {X : Type 0} (xs : List X) → AllByRecursion (λ (x : X). Unit {0}) xs
each_unit [] = tt
each_unit (x ∷ xs) = (tt, each_unit xs)

pub each_flat : {X Y : Type 0} (P : Y → Type 0) (f : X → List Y) → ((x : X) → AllByRecursion P (f x)) → (xs : List X) → AllByRecursion P (flat_map f xs)
each_flat P f each xs = all_flat (λ x. Unit {0}) P f (λ x t. each x) xs (each_unit xs)

pub same_parts : {X : Type 0} (xs us ys vs : List X) → length xs ≡ length us → xs ++ ys ≡ us ++ vs → (xs ≡ us) × (ys ≡ vs)
same_parts [] [] ys vs l e = (refl, e)
same_parts [] (u ∷ us) ys vs l e = cc
same_parts (x ∷ xs) [] ys vs l e = cc
same_parts (x ∷ xs) (u ∷ us) ys vs l e =
    let h : x ≡ u = cc in
    let t : xs ++ ys ≡ us ++ vs = cc in
    let r = same_parts xs us ys vs (omega arith) t in
    (let f : x ∷ xs ≡ u ∷ us = cc (h, r.0) in f, r.1)

-- either of two fronts of one list is a front of the other
pub two_fronts : {X : Type 0} (a b c d : List X) → a ++ b ≡ c ++ d
    → ((e : List X) × (a ≡ c ++ e) × (d ≡ e ++ b)) ⊎ ((e : List X) × (c ≡ a ++ e) × (b ≡ e ++ d))
two_fronts [] b c d h = inr (c, refl, h)
two_fronts (x ∷ a) b [] d h = inl (x ∷ a, refl, sym h)
two_fronts {X = X} (x ∷ a) b (y ∷ c) d h = go (two_fronts a b c d (let t : a ++ b ≡ c ++ d = cc in t)) (let s : x ≡ y = cc in s)
  where
    go : ((e : List X) × (a ≡ c ++ e) × (d ≡ e ++ b)) ⊎ ((e : List X) × (c ≡ a ++ e) × (b ≡ e ++ d)) → x ≡ y →
        ((e : List X) × (x ∷ a ≡ (y ∷ c) ++ e) × (d ≡ e ++ b)) ⊎ ((e : List X) × (y ∷ c ≡ (x ∷ a) ++ e) × (b ≡ e ++ d))
    go (inl (e, p, q)) s = inl (e, ap₂ (λ (m : X) (ms : List X). m ∷ ms) s p, q)
    go (inr (e, p, q)) s = inr (e, ap₂ (λ (m : X) (ms : List X). m ∷ ms) (sym s) p, q)

-- a part of a list from one place to another
pub range_drop : (xs : List ℕ) (start count end : ℕ) → start + count ≤ end → slice_range xs (start + count) end ≡ drop count (slice_range xs start end)
range_drop xs start count end le =
    let apart : end - start ≡ count + (end - (start + count)) = omega arith in
    sym (ap (λ k. drop count (take k (drop start xs))) apart ∙ drop-take count (end - (start + count)) (drop start xs) ∙ ap (take (end - (start + count))) (drop-drop count start xs))

pub range_length : (xs : List ℕ) (start end : ℕ) → end ≤ length xs → length (slice_range xs start end) ≡ end - start
range_length xs start end le = simp (length-take, length-drop) (omega arith)

pub three_of : (xs : List ℕ) → length xs ≡ 3 → (a : ℕ) × (b : ℕ) × (c : ℕ) × (xs ≡ a ∷ b ∷ c ∷ [])
three_of [] e = absurd (omega arith)
three_of (a ∷ []) e = absurd (omega arith)
three_of (a ∷ b ∷ []) e = absurd (omega arith)
three_of (a ∷ b ∷ c ∷ []) e = (a, b, c, refl)
three_of (a ∷ b ∷ c ∷ d ∷ xs) e = absurd (omega arith)

pub five_of : (xs : List ℕ) → length xs ≡ 5 → (a : ℕ) × (b : ℕ) × (c : ℕ) × (d : ℕ) × (f : ℕ) × (xs ≡ a ∷ b ∷ c ∷ d ∷ f ∷ [])
five_of [] e = absurd (omega arith)
five_of (a ∷ []) e = absurd (omega arith)
five_of (a ∷ b ∷ []) e = absurd (omega arith)
five_of (a ∷ b ∷ c ∷ []) e = absurd (omega arith)
five_of (a ∷ b ∷ c ∷ d ∷ []) e = absurd (omega arith)
five_of (a ∷ b ∷ c ∷ d ∷ f ∷ []) e = (a, b, c, d, f, refl)
five_of (a ∷ b ∷ c ∷ d ∷ f ∷ g ∷ xs) e = absurd (omega arith)

-- a list of numbers one longer
pub range_more : {X : Type 0} (f : ℕ → List X) (a n j : ℕ) → a + n ≡ j → flat_map f (range_with_len a (n + 1)) ≡ flat_map f (range_with_len a n) ++ f j
range_more f a zero j e = append-nil (f a) ∙ ap f (let s : a ≡ j = omega arith in s)
range_more f a (suc n) j e =
    ap (λ (m : ℕ). flat_map f (range_with_len a m)) (let s : suc n + 1 ≡ suc (n + 1) = omega arith in s)
    ∙ ap (λ l. f a ++ l) (range_more f (a + 1) n j (omega arith)) ∙ sym (append_assoc (f a) (flat_map f (range_with_len (a + 1) n)) (f j))

-- what one element more adds, before what is left
pub flat_map-next : {X Y : Type 0} (f : X → List Y) (front : List X) (x : X) (rest : List Y) → flat_map f (front ++ x ∷ []) ++ rest ≡ flat_map f front ++ (f x ++ rest)
flat_map-next f [] x rest = ap (λ ys. ys ++ rest) (append-nil (f x))
flat_map-next f (y ∷ front) x rest =
    append_assoc (f y) (flat_map f (front ++ x ∷ [])) rest ∙ ap (λ ys. f y ++ ys) (flat_map-next f front x rest) ∙ sym (append_assoc (f y) (flat_map f front) (f x ++ rest))

-- what was read stands before what is still to be read
abbrev pub behind : {A : Type 0} → List A → Option (List A) → Option (List A)
behind front read = option_map (λ more. front ++ more) read

pub behind-next : {A : Type 0} (front : List A) (x : A) (read : Option (List A)) → behind front (option_map (λ xs. x ∷ xs) read) ≡ behind (front ++ x ∷ []) read
behind-next front x None = refl
behind-next front x (Some xs) = ap (λ ys. Some ys) (sym (append_assoc front (x ∷ []) xs))

pub behind-none : {A : Type 0} (read : Option (List A)) → behind [] read ≡ read
behind-none None = refl
behind-none (Some xs) = refl
