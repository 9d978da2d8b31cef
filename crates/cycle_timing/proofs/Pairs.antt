-- What holds of each element of a list and each later one.
use Rattle.std.proofs.Common.{◌≡◌, List, [], ◌∷◌, ◌++◌, Option, Some, None, refl, sym, ap, ◌∙◌, subst, append_assoc}
use Rattle.std.specs.Prelude.{filter_map}
use Rattle.std.specs.List.{AllByRecursion, cons_option}
use Rattle.si_lists.proofs.Lists.{all_append, all_at, all_two}

abbrev pub Pairs : {X : Type 0} → (X → X → Type 0) → List X → Type 0
Pairs R [] = Unit {0}
Pairs R (x ∷ xs) = AllByRecursion (R x) xs × Pairs R xs

module _ {X : Type 0} (R : X → X → Type 0) where
  pub pairs_append : (xs ys : List X) → Pairs R xs → Pairs R ys → AllByRecursion (λ (x : X). AllByRecursion (R x) ys) xs → Pairs R (xs ++ ys)
  pairs_append [] ys h k across = k
  pairs_append (x ∷ xs) ys h k across = (all_append (R x) xs ys h.0 across.0, pairs_append xs ys h.1 k across.1)

  -- two elements of a list
  pub pair_at : (xs before between after : List X) (one two : X) → Pairs R xs → xs ≡ before ++ one ∷ (between ++ two ∷ after) → R one two
  pair_at [] [] between after one two h e = absurd (let b : Prim.⊥ = cc in b)
  pair_at [] (b ∷ before) between after one two h e = absurd (let b : Prim.⊥ = cc in b)
  pair_at (x ∷ xs) [] between after one two h e =
      let head : x ≡ one = cc in
      let rest : xs ≡ between ++ two ∷ after = cc in
      subst (λ (y : X). R y two) head (all_at (R x) between two after (subst (AllByRecursion (R x)) rest h.0))
  pair_at (x ∷ xs) (b ∷ before) between after one two h e =
      let rest : xs ≡ before ++ one ∷ (between ++ two ∷ after) = cc in
      pair_at xs before between after one two h.1 rest

  pub pairs_of : (xs : List X) → ((before between after : List X) (one two : X) → xs ≡ before ++ one ∷ (between ++ two ∷ after) → R one two) → Pairs R xs
  pairs_of [] h = tt
  pairs_of (x ∷ xs) h =
      (later [] xs (λ between two after e. h [] between after x two (ap (λ (l : List X). x ∷ l) e)), pairs_of xs (λ before between after one two e. h (x ∷ before) between after one two (ap (λ (l : List X). x ∷ l) e)))
    where
      later : (front rest : List X) → ((between : List X) (two : X) (after : List X) → front ++ rest ≡ between ++ two ∷ after → R x two) → AllByRecursion (R x) rest
      later front [] h = tt
      later front (y ∷ rest) h = (h front y rest refl, later (front ++ y ∷ []) rest (λ between two after e. h between two after (sym (append_assoc front (y ∷ []) rest) ∙ e)))

-- of what is chosen of them
pub pairs_chosen : {X Y : Type 0} (P : X → Type 0) (R : X → X → Type 0) (Q : Y → Y → Type 0) (f : X → Option Y)
    → ((one two : X) (a b : Y) → P one → P two → R one two → f one ≡ Some a → f two ≡ Some b → Q a b) → (xs : List X) → AllByRecursion P xs → Pairs R xs → Pairs Q (filter_map f xs)
pairs_chosen P R Q f each [] all h = tt
pairs_chosen {X} {Y} P R Q f each (x ∷ xs) all h = go (f x) refl (pairs_chosen P R Q f each xs all.1 h.1)
  where
    against : (a : Y) → f x ≡ Some a → (ys : List X) → AllByRecursion P ys → AllByRecursion (R x) ys → AllByRecursion (Q a) (filter_map f ys)
    against a e [] ps rs = tt
    against a e (y ∷ ys) ps rs = one (f y) refl (against a e ys ps.1 rs.1)
      where
        one : (o : Option Y) → f y ≡ o → AllByRecursion (Q a) (filter_map f ys) → AllByRecursion (Q a) (cons_option o (filter_map f ys))
        one None g r = r
        one (Some b) g r = (each x y a b all.0 ps.0 rs.0 e g, r)

    go : (o : Option Y) → f x ≡ o → Pairs Q (filter_map f xs) → Pairs Q (cons_option o (filter_map f xs))
    go None e r = r
    go (Some a) e r = (against a e xs all.1 h.0, r)

pub pairs_map : {X : Type 0} (P : X → Type 0) (R Q : X → X → Type 0) → ((one two : X) → P one → P two → R one two → Q one two) → (xs : List X) → AllByRecursion P xs → Pairs R xs → Pairs Q xs
pairs_map P R Q each [] all h = tt
pairs_map P R Q each (x ∷ xs) all h = (all_two P (R x) (Q x) (λ y p r. each x y all.0 p r) xs all.1 h.0, pairs_map P R Q each xs all.1 h.1)
