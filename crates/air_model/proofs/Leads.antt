-- Parts with one list in front of each.
use Rattle.std.proofs.Common.{◌≡◌, ℕ, ◌⊎◌, inl, inr, List, [], ◌∷◌, ◌++◌, Bool, true, false, cond, refl, sym, ap, ap₂, ◌∙◌, subst, append_assoc}
use Rattle.std.specs.List.{AllByRecursion, filter}
use Rattle.std.proofs.lemmas.List.Elements.{filter-append}
use Rattle.si_lists.proofs.Lists.{all_append, all_front, all_behind}
use Rattle.air_model.specs.Cutting.{joined}
use Rattle.air_model.specs.Cycle.{led}
use Rattle.air_model.specs.Spacing.{Lacks}
use Rattle.air_model.proofs.Lists.{first_same, pass_over, FirstIn, has_or_lacks, none}

pub led-append : (lead : List ℕ) (a b : List (List ℕ)) → led lead (a ++ b) ≡ led lead a ++ led lead b
led-append lead [] b = refl
led-append lead (c ∷ a) b = ap (λ (t : List ℕ). (lead ++ c) ++ t) (led-append lead a b) ∙ sym (append_assoc (lead ++ c) (led lead a) (led lead b))

pub all-parts : (P : ℕ → Type 0) (parts : List (List ℕ)) → AllByRecursion P (joined parts) → AllByRecursion (AllByRecursion P) parts
all-parts P [] h = tt
all-parts P (c ∷ parts) h = (all_front P c (joined parts) h, all-parts P parts (all_behind P c (joined parts) h))

pub all-led : (P : ℕ → Type 0) (lead : List ℕ) (parts : List (List ℕ)) → AllByRecursion P lead → AllByRecursion (AllByRecursion P) parts → AllByRecursion P (led lead parts)
all-led P lead [] h k = tt
all-led P lead (c ∷ parts) h k = all_append P (lead ++ c) (led lead parts) (all_append P lead c h k.0) (all-led P lead parts h k.1)

-- ---- the sections that pass a test

abbrev pub AllAre : (ℕ → Bool) → Bool → List ℕ → Type 0
AllAre t b xs = AllByRecursion (λ (x : ℕ). t x ≡ b) xs

pub filter-all : (t : ℕ → Bool) (xs : List ℕ) → AllAre t true xs → filter t xs ≡ xs
filter-all t [] h = refl
filter-all t (x ∷ xs) h = ap (λ (b : Bool). cond b (x ∷ filter t xs) (filter t xs)) h.0 ∙ ap (λ (s : List ℕ). x ∷ s) (filter-all t xs h.1)

pub filter-none : (t : ℕ → Bool) (xs : List ℕ) → AllAre t false xs → filter t xs ≡ []
filter-none t [] h = refl
filter-none t (x ∷ xs) h = ap (λ (b : Bool). cond b (x ∷ filter t xs) (filter t xs)) h.0 ∙ filter-none t xs h.1

-- where the lead has none of these, those of the parts are left
pub filter-led : (t : ℕ → Bool) (lead : List ℕ) (parts : List (List ℕ)) → AllAre t false lead → filter t (led lead parts) ≡ filter t (joined parts)
filter-led t lead [] h = refl
filter-led t lead (c ∷ parts) h =
    filter-append t (lead ++ c) (led lead parts) ∙ ap₂ (λ (a b : List ℕ). a ++ b) (filter-append t lead c ∙ ap (λ (s : List ℕ). s ++ filter t c) (filter-none t lead h)) (filter-led t lead parts h)
    ∙ sym (filter-append t c (joined parts))

-- ---- a section that stands once in the lead

-- between two such next to each other
pub record Between (x : ℕ) (a b : List ℕ) (parts : List (List ℕ)) (before between : List ℕ) : Type 0 where
  pub past : List (List ℕ)
  pub part : List ℕ
  pub more : List (List ℕ)
  pub are : parts ≡ past ++ part ∷ more
  pub before_is : before ≡ led (a ++ x ∷ b) past ++ a
  pub between_is : between ≡ (b ++ part) ++ a

led-starts : (x : ℕ) (a b c : List ℕ) (rest : List ℕ) → ((a ++ x ∷ b) ++ c) ++ rest ≡ a ++ x ∷ ((b ++ c) ++ rest)
led-starts x [] b c rest = refl
led-starts x (y ∷ a) b c rest = ap (λ (t : List ℕ). y ∷ t) (led-starts x a b c rest)

-- what lacks x up to the next x of the parts is what stands before x in the lead
ends : (x : ℕ) (a b : List ℕ) (parts : List (List ℕ)) (u v : List ℕ) → Lacks x a → Lacks x u → led (a ++ x ∷ b) parts ≡ u ++ x ∷ v → u ≡ a
ends x a b [] u v la lu e = absurd (none x u v e)
ends x a b (c ∷ parts) u v la lu e = sym ((first_same x a ((b ++ c) ++ led (a ++ x ∷ b) parts) u v (sym (led-starts x a b c (led (a ++ x ∷ b) parts)) ∙ e) la lu).0)

-- what stands before x, with one part more
past_more : (x : ℕ) (a b c : List ℕ) (past : List (List ℕ)) (front rest tail : List ℕ) → front ≡ a → rest ≡ (b ++ c) ++ tail → tail ≡ led (a ++ x ∷ b) past ++ a → front ++ x ∷ rest ≡ led (a ++ x ∷ b) (c ∷ past) ++ a
past_more x a b c past front rest tail e f g =
    ap₂ (λ (m k : List ℕ). m ++ x ∷ k) e (f ∙ ap (λ (m : List ℕ). (b ++ c) ++ m) g) ∙ sym (led-starts x a b c (led (a ++ x ∷ b) past ++ a))
    ∙ sym (append_assoc ((a ++ x ∷ b) ++ c) (led (a ++ x ∷ b) past) a)

pub between : (x : ℕ) (a b : List ℕ) (parts : List (List ℕ)) → Lacks x a → Lacks x b → AllByRecursion (Lacks x) parts →
    (u t v : List ℕ) → led (a ++ x ∷ b) parts ≡ u ++ x ∷ (t ++ x ∷ v) → Lacks x t → Between x a b parts u t
between x a b [] la lb all u t v e lt = absurd (none x u (t ++ x ∷ v) e)
between x a b (c ∷ parts) la lb all u t v e lt =
    go (has_or_lacks x u) (λ w f. between x a b parts la lb all.1 w t v f lt)
  where
    lbc : Lacks x (b ++ c)
    lbc = all_append (λ (y : ℕ). y ≡ x → Prim.⊥) b c lb all.0

    start : a ++ x ∷ ((b ++ c) ++ (led (a ++ x ∷ b) parts)) ≡ u ++ x ∷ (t ++ x ∷ v)
    start = sym (led-starts x a b c (led (a ++ x ∷ b) parts)) ∙ e

    go : FirstIn x u ⊎ Lacks x u → ((w : List ℕ) → (led (a ++ x ∷ b) parts) ≡ w ++ x ∷ (t ++ x ∷ v) → Between x a b parts w t) → Between x a b (c ∷ parts) u t
    go (inr lu) again =
        let s = first_same x a ((b ++ c) ++ (led (a ++ x ∷ b) parts)) u (t ++ x ∷ v) start la lu in
        let o = pass_over x (b ++ c) (led (a ++ x ∷ b) parts) t v s.1 lbc in
        let l : Lacks x o.0 = all_behind (λ (y : ℕ). y ≡ x → Prim.⊥) (b ++ c) o.0 (subst (Lacks x) o.1 lt) in
        let d = ends x a b parts o.0 v la l o.2 in
        record { past = []; part = c; more = parts; are = refl; before_is = sym s.0; between_is = o.1 ∙ ap (λ (m : List ℕ). (b ++ c) ++ m) d }
    go (inl f) again =
        let s = first_same x a ((b ++ c) ++ (led (a ++ x ∷ b) parts)) f.before (f.after ++ x ∷ (t ++ x ∷ v)) (start ∙ ap (λ (m : List ℕ). m ++ x ∷ (t ++ x ∷ v)) f.are ∙ append_assoc f.before (x ∷ f.after) (x ∷ (t ++ x ∷ v))) la f.lacks in
        let o = pass_over x (b ++ c) (led (a ++ x ∷ b) parts) f.after (t ++ x ∷ v) s.1 lbc in
        let r = again o.0 o.2 in
        record {
          past = c ∷ r.past;
          part = r.part;
          more = r.more;
          are = ap (λ (m : List (List ℕ)). c ∷ m) r.are;
          before_is = f.are ∙ past_more x a b c r.past f.before f.after o.0 (sym s.0) o.1 r.before_is;
          between_is = r.between_is;
        }
