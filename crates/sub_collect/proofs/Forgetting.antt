-- What a collector stands for once a mark is added.
use Rattle.std.proofs.Common.{◌≡◌, ℕ, zero, suc, List, [], ◌∷◌, ◌++◌, Bool, true, false, cond, refl, sym, ap, ◌∙◌, subst, append-nil, arith}
use Rattle.std.specs.Prelude.{◌==◌, if◌then◌else◌, replicate, Option, Some, None, option_map}
use Rattle.std.specs.Map.Calls.{RetainsPairs}
use Rattle.std.proofs.lemmas.Bool.Decides.{nat_tests}
use Rattle.section_codec.specs.declared.table.Key.{Key}
use Rattle.section_codec.specs.KeyOrder.{is_key}
use Rattle.sub_collect.specs.Runs.{Counted, run_of}
use Rattle.sub_collect.specs.KeyCounts.{HaveFewKeys}
use Rattle.sub_collect.specs.Completions.{of_key, latest_done}
use Rattle.sub_collect.specs.Marks.{Taken, Taken.Forgot, Taken.ForgotAll, since_mark, completions_over, latest_over, sections_taken}
use Rattle.sub_collect.specs.Collectors.{KeyHeard, KeysHeard, KeptRun, kept_in, last_in, StandsForRun, StandsFor, CollectorStandsOver, cleared, forgotten, forgotten_if}
use Rattle.sub_collect.specs.Slots.{kept_by, shown}
use Rattle.sub_collect.specs.declared.collector.KeySlot.{KeySlot}
use Rattle.sub_collect.proofs.Marking.{mark_forgets, starts_afresh}
use Rattle.sub_collect.proofs.MarksShown.{sections-forgot, sections-all_forgot}

none_told : (n segment : ℕ) → last_in (replicate n None) segment ≡ None
none_told zero segment = refl
none_told (suc n) zero = refl
none_told (suc n) (suc segment) = none_told n segment

cleared_stands : (run : KeptRun) → StandsForRun [] (cleared run)
cleared_stands run = record {
  version = refl;
  last = λ s e. cc;
  held = λ n. refl;
  front = record { below = λ n lt. absurd (let z : Prim.⊥ = omega (arith, lt) in z); gap = λ lt. refl };
  lasts = λ segment. none_told 32 segment;
}

swapped : (a b : ℕ) → (a == b) ≡ (b == a)
swapped a b = grind (arith, nat_tests)

-- a collector stands for a mark more, where each key of its PID is forgotten
pub forget_adds_a_mark : (pid : ℕ) (past : List Taken) (old new : KeysHeard)
    → ((k : Key) → kept_in k new ≡ forgotten_if (k.pid == pid) (kept_in k old))
    → CollectorStandsOver past old → CollectorStandsOver (past ++ Forgot pid ∷ []) new
forget_adds_a_mark pid past old new kept stands = record {
  each = λ k. subst (StandsFor k (past ++ Forgot pid ∷ [])) (sym (kept k)) (go k (kept_in k old) (k.pid == pid) (swapped pid k.pid) (stands.each k));
  few = subst HaveFewKeys (sym (sections-forgot past pid)) stands.few;
}
  where
    since : (k : Key) (here : Bool) → (pid == k.pid) ≡ here → since_mark k (past ++ Forgot pid ∷ []) ≡ (if here then [] else since_mark k past)
    since k here e = (mark_forgets k pid past).0 ∙ ap (λ (b : Bool). if b then [] else since_mark k past) e

    latest : (k : Key) → latest_over k (past ++ Forgot pid ∷ []) ≡ latest_over k past
    latest k = (mark_forgets k pid past).1

    sections : (k : Key) → of_key k (sections_taken (past ++ Forgot pid ∷ [])) ≡ of_key k (sections_taken past)
    sections k = ap (of_key k) (sections-forgot past pid)

    go : (k : Key) (o : Option KeyHeard) (here : Bool) → (pid == k.pid) ≡ here → StandsFor k past o → StandsFor k (past ++ Forgot pid ∷ []) (forgotten_if here o)
    go k None here e h = sections k ∙ h
    go k (Some kept) true e h = (
      (λ none. h.0 (sym (sections k) ∙ none)),
      record {
        run = subst (λ (l : List Counted). StandsForRun (run_of l) (cleared kept.run)) (sym (since k true e)) (cleared_stands kept.run);
        latest_is = h.1.latest_is ∙ sym (latest k);
      },
    )
    go k (Some kept) false e h = (
      (λ none. h.0 (sym (sections k) ∙ none)),
      record {
        run = subst (λ (l : List Counted). StandsForRun (run_of l) kept.run) (sym (since k false e)) h.1.run;
        latest_is = h.1.latest_is ∙ sym (latest k);
      },
    )

-- ---- a mark of every PID

-- a collector stands for a mark of every PID more, where each key is forgotten
pub all_forgotten_add_a_mark : (past : List Taken) (old new : KeysHeard)
    → ((k : Key) → kept_in k new ≡ option_map forgotten (kept_in k old))
    → CollectorStandsOver past old → CollectorStandsOver (past ++ ForgotAll ∷ []) new
all_forgotten_add_a_mark past old new kept stands = record {
  each = λ k. subst (StandsFor k (past ++ ForgotAll ∷ [])) (sym (kept k)) (go k (kept_in k old) (stands.each k));
  few = subst HaveFewKeys (sym (sections-all_forgot past)) stands.few;
}
  where
    latest : (k : Key) → latest_over k (past ++ ForgotAll ∷ []) ≡ latest_over k past
    latest k = ap latest_done ((starts_afresh k past []).1 ∙ append-nil (completions_over k past))

    sections : (k : Key) → of_key k (sections_taken (past ++ ForgotAll ∷ [])) ≡ of_key k (sections_taken past)
    sections k = ap (of_key k) (sections-all_forgot past)

    go : (k : Key) (o : Option KeyHeard) → StandsFor k past o → StandsFor k (past ++ ForgotAll ∷ []) (option_map forgotten o)
    go k None h = sections k ∙ h
    go k (Some kept) h = (
      (λ none. h.0 (sym (sections k) ∙ none)),
      record {
        run = subst (λ (l : List Counted). StandsForRun (run_of l) (cleared kept.run)) (sym (starts_afresh k past []).0) (cleared_stands kept.run);
        latest_is = h.1.latest_is ∙ sym (latest k);
      },
    )

-- what is kept of each key, where every slot stays and is forgotten
pub all_stay_forgotten : {F : Type 0} (T : F → Key → KeySlot → Bool → KeySlot → F → Type 0)
    → ((f : F) (k : Key) (v : KeySlot) (b : Bool) (w : KeySlot) (f' : F) → T f k v b w f' → (b ≡ true) × (kept_by w ≡ forgotten (kept_by v)))
    → (f : F) (es kept : List (Key × KeySlot)) → RetainsPairs T f es kept → (k : Key) → kept_in k (shown kept) ≡ option_map forgotten (kept_in k (shown es))
all_stay_forgotten T each f [] kept ran k = ap (λ (l : List (Key × KeySlot)). kept_in k (shown l)) ran
all_stay_forgotten T each f (e ∷ es) kept (b, w, f', rest, call, more, is) k =
    let one = each f e.0 e.1 b w f' call in
    ap (λ (l : List (Key × KeySlot)). kept_in k (shown l)) (is ∙ ap (λ (t : Bool). cond t ((e.0, w) ∷ rest) rest) one.0)
    ∙ go (is_key k e.0) one.1 (all_stay_forgotten T each f' es rest more k)
  where
    go : (t : Bool) → kept_by w ≡ forgotten (kept_by e.1) → kept_in k (shown rest) ≡ option_map forgotten (kept_in k (shown es))
        → (if t then Some (kept_by w) else kept_in k (shown rest)) ≡ option_map forgotten (if t then Some (kept_by e.1) else kept_in k (shown es))
    go true same later = ap (λ (x : KeyHeard). Some x) same
    go false same later = later
