-- Numbers of callers, and what was made under them.
use Rattle.std.proofs.Common.{◌≡◌, ◌≢◌, ◌⊎◌, ⊎_elim, inl, inr, ℕ, ◌+◌, ◌-◌, ◌<◌, ◌≤◌, List, [], ◌∷◌, ◌++◌, Bool, refl, sym, ap, subst, ◌∙◌, arith, eq-eqb, ne_eqb, lt_of_not-le}
use Rattle.std.specs.List.{AllByRecursion}
use Rattle.std.specs.Prelude.{if◌then◌else◌}
use native.Mathlib.Decide.{ℕ_discrete, dec_le}
use mathlib.Core.Logic.{dite}
use Rattle.turn_lock.specs.declared.known.Caller.{Caller}
use Rattle.turn_lock.specs.Journal.{entries_of, IsOneOf}
use Rattle.turn_lock.specs.Knowledge.{Knowledge, Has, HasAny, AreApart, Exact, IsExact, NotLowest, made_by, numbers, joined, lower_part, upper_part}
use Rattle.turn_lock.proofs.Lists.{own_more, other_same}

module _ {E : Type 0} where
  pub has_append : (xs ys : List (Caller E)) (k : ℕ) → HasAny (xs ++ ys) k → HasAny xs k ⊎ HasAny ys k
  has_append [] ys k h = inr h
  has_append (x ∷ xs) ys k (inl h) = inl (inl h)
  has_append (x ∷ xs) ys k (inr h) = ⊎_elim (λ t. inl (inr t)) (λ t. inr t) (has_append xs ys k h)

  pub has_left : (xs ys : List (Caller E)) (k : ℕ) → HasAny xs k → HasAny (xs ++ ys) k
  has_left [] ys k h = absurd h
  has_left (x ∷ xs) ys k (inl h) = inl h
  has_left (x ∷ xs) ys k (inr h) = inr (has_left xs ys k h)

  pub has_right : (xs ys : List (Caller E)) (k : ℕ) → HasAny ys k → HasAny (xs ++ ys) k
  has_right [] ys k h = h
  has_right (x ∷ xs) ys k h = inr (has_right xs ys k h)

  -- two lists of callers that share no number
  pub apart_append : (xs ys : List (Caller E)) → AreApart xs → AreApart ys → ((k : ℕ) → HasAny xs k → HasAny ys k → ⊥) → AreApart (xs ++ ys)
  apart_append [] ys p q never = q
  apart_append (x ∷ xs) ys p q never = ((λ k h t. ⊎_elim (λ (r : HasAny xs k). p.0 k h r) (λ (r : HasAny ys k). never k (inl h) r) (has_append xs ys k t)), apart_append xs ys p.1 q (λ k h r. never k (inr h) r))

  pub apart_parts : (xs ys : List (Caller E)) → AreApart (xs ++ ys) → (k : ℕ) → HasAny xs k → HasAny ys k → ⊥
  apart_parts [] ys p k h r = h
  apart_parts (x ∷ xs) ys p k (inl h) r = p.0 k h (has_right xs ys k r)
  apart_parts (x ∷ xs) ys p k (inr h) r = apart_parts xs ys p.1 k h r

  pub made_lowest : (c : Caller E) → made_by c c.low ≡ c.made
  made_lowest c = ap (λ (b : Bool). if b then c.made else []) (eq-eqb c.low c.low refl)

  pub made_other : (c : Caller E) (k : ℕ) → k ≢ c.low → made_by c k ≡ []
  made_other c k ne = ap (λ (b : Bool). if b then c.made else []) (ne_eqb k c.low ne)

  pub nothing : (c : Caller E) (k : ℕ) → c.made ≡ [] → made_by c k ≡ []
  nothing c k is = dite (ℕ_discrete k c.low) (λ e. ap (λ (z : ℕ). made_by c z) e ∙ made_lowest c ∙ is) (λ ne. made_other c k ne)

  module _ (caller : E → ℕ) where
    -- another's entry changes nothing
    pub exact_same : (who : ℕ) (log added : List E) → IsOneOf caller who added → (c : Caller E) → ((k : ℕ) → Has c k → k ≢ who) → Exact caller log c → Exact caller (log ++ added) c
    exact_same who log added one c ne e k h = other_same caller k who log added one (ne k h) ∙ e k h

    pub all_same : (who : ℕ) (log added : List E) → IsOneOf caller who added → (cs : List (Caller E)) → ((k : ℕ) → HasAny cs k → k ≢ who) → AllByRecursion (Exact caller log) cs → AllByRecursion (Exact caller (log ++ added)) cs
    all_same who log added one [] ne e = tt
    all_same who log added one (c ∷ cs) ne e = (exact_same who log added one c (λ k h. ne k (inl h)) e.0, all_same who log added one cs (λ k h. ne k (inr h)) e.1)

    -- an entry of one's own is one more that was made
    pub exact_own : (log added : List E) (c : Caller E) → 0 < c.span → IsOneOf caller c.low added → Exact caller log c → Exact caller (log ++ added) (record c { made = c.made ++ added })
    exact_own log added c has one e k h = dite (ℕ_discrete k c.low)
        (λ is. let lowest : Has c c.low = (omega arith, omega arith) in
        subst (λ (z : ℕ). entries_of caller z (log ++ added) ≡ made_by (record c { made = c.made ++ added }) z) (sym is)
        (own_more caller c.low log added one ∙ ap (λ (z : List E). z ++ added) (e c.low lowest ∙ made_lowest c) ∙ sym (made_lowest (record c { made = c.made ++ added }))))
        (λ ne. other_same caller k c.low log added one ne ∙ e k h ∙ made_other c k ne ∙ sym (made_other (record c { made = c.made ++ added }) k ne))

    -- the lowest numbers of a caller
    pub exact_lower : (log : List E) (c : Caller E) (n : ℕ) → n ≤ c.span → Exact caller log c → Exact caller log (record c { span = n })
    exact_lower log c n le e k h = e k (h.0, omega (arith, h.1))

    -- its highest numbers, under which nothing was made
    pub exact_upper : (log : List E) (c : Caller E) (low n : ℕ) → c.low < low → low + n ≤ c.low + c.span → Exact caller log c → Exact caller log (record { low = low; span = n; made = [] })
    exact_upper log c low n above le e k h =
        let ne : k ≢ c.low = λ is. omega (arith, h.0) in
        let up : Caller E = record { low = low; span = n; made = [] } in
        e k (omega (arith, h.0), omega (arith, h.1)) ∙ made_other c k ne ∙ sym (nothing up k refl)

    made_each : (log : List E) (cs : List (Caller E)) → AllByRecursion (λ c. 0 < c.span) cs → AllByRecursion (Exact caller log) cs → AllByRecursion (λ c. entries_of caller c.low log ≡ c.made) cs
    made_each log [] some e = tt
    made_each log (c ∷ cs) some e = (let has : 0 < c.span = some.0 in e.0 c.low (omega arith, omega arith) ∙ made_lowest c, made_each log cs some.1 e.1)

    made_none : (log : List E) (cs : List (Caller E)) → AllByRecursion (Exact caller log) cs → (k : ℕ) → HasAny cs k → NotLowest cs k → entries_of caller k log ≡ []
    made_none log [] e k h n = absurd h
    made_none log (c ∷ cs) e k (inl h) n = e.0 k h ∙ made_other c k n.0
    made_none log (c ∷ cs) e k (inr h) n = made_none log cs e.1 k h n.1

    pub is_exact : (log : List E) (cs : List (Caller E)) → AllByRecursion (λ c. 0 < c.span) cs → AllByRecursion (Exact caller log) cs → IsExact caller log cs
    is_exact log cs some e = record { made = made_each log cs some e; rest = made_none log cs e }

    -- where all numbers below `callers` are had, no other number has an entry
    pub none_other : (callers : ℕ) (log : List E) (cs : List (Caller E)) → ((k : ℕ) → k < callers → HasAny cs k) → AllByRecursion (Exact caller log) cs → ((k : ℕ) → callers ≤ k → entries_of caller k log ≡ [])
        → (k : ℕ) → NotLowest cs k → entries_of caller k log ≡ []
    none_other callers log cs whole e others k n = dite (dec_le callers k) (λ le. others k le) (λ not. made_none log cs e k (whole k (lt_of_not-le not)) n)

-- for layers above: what a split and a join do to the numbers that are had
module _ {E G : Type 0} where
  pub has_joined : (v w : Knowledge E G) (k : ℕ) → HasAny (numbers v) k ⊎ HasAny (numbers w) k → HasAny (numbers (joined v w)) k
  has_joined v w k (inl (inl h)) = inl h
  has_joined v w k (inl (inr h)) = inr (has_left v.finished (numbers w) k h)
  has_joined v w k (inr h) = inr (has_right v.finished (numbers w) k h)

  pub has_split : (v : Knowledge E G) (span k : ℕ) → span ≤ v.own.span → HasAny (numbers v) k → HasAny (numbers (lower_part v span)) k ⊎ HasAny (numbers (upper_part v span)) k
  has_split v span k le (inl h) = dite (dec_le (v.own.low + (v.own.span - span)) k)
      (λ up. inr (inl (up, omega (arith, h.1, le))))
      (λ not. inl (inl (h.0, lt_of_not-le not)))
  has_split v span k le (inr h) = inl (inr h)
