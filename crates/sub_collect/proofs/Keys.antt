-- The slots of a collector, and what they keep.
use Rattle.std.proofs.Common.{◌≡◌, ◌≢◌, List, [], ◌∷◌, ◌++◌, Bool, true, false, refl, sym, ap, ap₂, ◌∙◌, subst}
use Rattle.std.specs.Prelude.{if◌then◌else◌, cond, Option, Some, None, option_map}
use Rattle.std.specs.Option.{option_or}
use Rattle.std.specs.Ordering.{is_eq}
use Rattle.std.specs.BTreeMap.{is_at}
use Rattle.std.specs.Map.{lookup, set_value}
use Rattle.section_codec.specs.declared.table.Key.{Key}
use Rattle.section_codec.specs.KeyOrder.{is_key, key_cmp}
use Rattle.section_codec.proofs.KeyOrderFacts.{is_key-same, key_ties}
use Rattle.sub_collect.specs.Runs.{Counted}
use Rattle.sub_collect.specs.Completions.{is_of, of_key, completion, shown_after}
use Rattle.sub_collect.specs.Marks.{Taken, Taken.Took, since_mark, latest_over, shown_over, sections_taken}
use Rattle.sub_collect.specs.declared.completed.Completed.{Completed}
use Rattle.sub_collect.specs.Collectors.{KeyHeard, KeysHeard, kept_in, IsKeptOf, StandsFor, EachStandsFor}
use Rattle.sub_collect.specs.Slots.{kept_by, shown}
use Rattle.sub_collect.specs.declared.collector.KeySlot.{KeySlot}
use Rattle.sub_collect.proofs.Done.{of_key-one, of_key-other}
use Rattle.sub_collect.proofs.MarksShown.{since-own, since-other, latest-own, latest-other, sections-took, none-latest, shown-is}

-- what is kept of a key, as the map has it
pub kept_in-shown : (k : Key) (es : List (Key × KeySlot)) → kept_in k (shown es) ≡ option_map kept_by (lookup (is_at (key_cmp k)) es)
kept_in-shown k [] = refl
kept_in-shown k (e ∷ es) =
    ap (λ (b : Bool). if b then Some (kept_by e.1) else kept_in k (shown es)) (key_ties k e.0)
    ∙ go (is_eq (key_cmp k e.0)) (kept_in-shown k es)
  where
    go : (b : Bool) → kept_in k (shown es) ≡ option_map kept_by (lookup (is_at (key_cmp k)) es)
        → (if b then Some (kept_by e.1) else kept_in k (shown es)) ≡ option_map kept_by (cond b (Some e.1) (lookup (is_at (key_cmp k)) es))
    go true rest = refl
    go false rest = rest

-- a slot that keeps what it kept leaves what is shown
pub shown-set : (test : Key → Bool) (es : List (Key × KeySlot)) (old new : KeySlot) → lookup test es ≡ Some old → kept_by new ≡ kept_by old → shown (set_value test es new) ≡ shown es
shown-set test [] old new found same = refl
shown-set test (e ∷ es) old new found same = go (test e.0) found (λ (f : lookup test es ≡ Some old). shown-set test es old new f same)
  where
    go : (b : Bool) → cond b (Some e.1) (lookup test es) ≡ Some old → (lookup test es ≡ Some old → shown (set_value test es new) ≡ shown es) → shown (cond b ((e.0, new) ∷ es) (e ∷ set_value test es new)) ≡ shown (e ∷ es)
    go true f rec =
        let one : e.1 ≡ old = cc in
        ap (λ (x : KeyHeard). (e.0, x) ∷ shown es) (same ∙ ap kept_by (sym one))
    go false f rec = ap (λ (l : KeysHeard). (e.0, kept_by e.1) ∷ l) (rec f)

-- what is kept of a key stands for its sections
pub of-kept : (k : Key) (past : List Taken) (o : Option KeyHeard) (kept : KeyHeard) → StandsFor k past o → o ≡ Some kept → IsKeptOf (since_mark k past) (latest_over k past) kept
of-kept k past o kept stands e = (subst (λ (x : Option KeyHeard). StandsFor k past x) e stands).1

pub of-none : (k : Key) (past : List Taken) (o : Option KeyHeard) → StandsFor k past o → o ≡ None → of_key k (sections_taken past) ≡ []
of-none k past o stands e = subst (λ (x : Option KeyHeard). StandsFor k past x) e stands

-- a list with one more is not empty
some_more : (xs : List Counted) (s : Counted) → xs ++ s ∷ [] ≢ []
some_more [] s e = cc
some_more (x ∷ xs) s e = cc

-- what is kept of each key, where one was put
pub stands-put : (past : List Taken) (s : Counted) (old new : KeysHeard) (kept : KeyHeard) → EachStandsFor past old
    → ((q : Key) → kept_in q new ≡ (if is_key s.key q then Some kept else kept_in q old))
    → IsKeptOf (since_mark s.key past ++ s ∷ []) (option_or (completion (since_mark s.key past ++ s ∷ [])) (latest_over s.key past)) kept → EachStandsFor (past ++ Took s ∷ []) new
stands-put past s old new kept stands put is q = go (is_key s.key q) refl
  where
    ss : List Counted
    ss = sections_taken past

    go : (b : Bool) → is_key s.key q ≡ b → StandsFor q (past ++ Took s ∷ []) (kept_in q new)
    go true e =
        let same : s.key ≡ q = is_key-same s.key q e in
        let kept_is : kept_in q new ≡ Some kept = put q ∙ ap (λ (b : Bool). if b then Some kept else kept_in q old) e in
        let sections : of_key q (sections_taken (past ++ Took s ∷ [])) ≡ of_key q ss ++ s ∷ [] = ap (of_key q) (sections-took past s) ∙ of_key-one q ss s same in
        let own : is_of q s ≡ true = e in
        let its : IsKeptOf (since_mark q past ++ s ∷ []) (option_or (completion (since_mark q past ++ s ∷ [])) (latest_over q past)) kept =
        subst (λ (k : Key). IsKeptOf (since_mark k past ++ s ∷ []) (option_or (completion (since_mark k past ++ s ∷ [])) (latest_over k past)) kept) same is in
        let all : IsKeptOf (since_mark q (past ++ Took s ∷ [])) (latest_over q (past ++ Took s ∷ [])) kept =
        subst (λ (o : Option Completed). IsKeptOf (since_mark q (past ++ Took s ∷ [])) o kept) (sym (latest-own q past s own))
        (subst (λ (l : List Counted). IsKeptOf l (option_or (completion (since_mark q past ++ s ∷ [])) (latest_over q past)) kept) (sym (since-own q past s own)) its) in
        subst (StandsFor q (past ++ Took s ∷ [])) (sym kept_is) ((λ none. some_more (of_key q ss) s (sym sections ∙ none)), all)
    go false e =
        let kept_is : kept_in q new ≡ kept_in q old = put q ∙ ap (λ (b : Bool). if b then Some kept else kept_in q old) e in
        subst (StandsFor q (past ++ Took s ∷ [])) (sym kept_is) (other (kept_in q old) (stands q))
      where
        sections : of_key q (sections_taken (past ++ Took s ∷ [])) ≡ of_key q (sections_taken past)
        sections = ap (of_key q) (sections-took past s) ∙ of_key-other q (sections_taken past) s e

        other : (o : Option KeyHeard) → StandsFor q past o → StandsFor q (past ++ Took s ∷ []) o
        other None none = sections ∙ none
        other (Some kept) held = (
          (λ none. held.0 (sym sections ∙ none)),
          subst (λ (o : Option Completed). IsKeptOf (since_mark q (past ++ Took s ∷ [])) o kept) (sym (latest-other q past s e))
              (subst (λ (l : List Counted). IsKeptOf l (latest_over q past) kept) (sym (since-other q past s e)) held.1),
        )

-- what the map has once a slot is put, as it is kept
pub kept-put : (k : Key) (slot : KeySlot) (old new : List (Key × KeySlot)) → ((q : Key) → lookup (is_at (key_cmp q)) new ≡ cond (is_at (key_cmp k) q) (Some slot) (lookup (is_at (key_cmp q)) old))
    → (q : Key) → kept_in q (shown new) ≡ (if is_key k q then Some (kept_by slot) else kept_in q (shown old))
kept-put k slot old new updates q =
    kept_in-shown q new ∙ ap (option_map kept_by) (updates q) ∙ go (is_eq (key_cmp k q)) (kept_in-shown q old)
    ∙ ap (λ (b : Bool). if b then Some (kept_by slot) else kept_in q (shown old)) (sym (key_ties k q))
  where
    go : (b : Bool) → kept_in q (shown old) ≡ option_map kept_by (lookup (is_at (key_cmp q)) old)
        → option_map kept_by (cond b (Some slot) (lookup (is_at (key_cmp q)) old)) ≡ (if b then Some (kept_by slot) else kept_in q (shown old))
    go true e = refl
    go false e = sym e

-- what is kept of a key that is put again
pub kept-same : (k : Key) (kept : KeyHeard) (es : KeysHeard) → kept_in k es ≡ Some kept → (q : Key) → kept_in q es ≡ (if is_key k q then Some kept else kept_in q es)
kept-same k kept es found q = go (is_key k q) refl
  where
    go : (b : Bool) → is_key k q ≡ b → kept_in q es ≡ (if b then Some kept else kept_in q es)
    go true e = ap (λ (x : Key). kept_in x es) (sym (is_key-same k q e)) ∙ found
    go false e = refl

-- what the first section of a key shows
pub shown-first : (past : List Taken) (s : Counted) → of_key s.key (sections_taken past) ≡ [] → shown_after None (completion ([] ++ s ∷ [])) ≡ shown_over past s
shown-first past s e =
    let none = none-latest s.key past e in
    ap₂ (λ (o : Option Completed) (l : List Counted). shown_after o (completion (l ++ s ∷ []))) (sym none.1) (sym none.0) ∙ sym (shown-is past s)
