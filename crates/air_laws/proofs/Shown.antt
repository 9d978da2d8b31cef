-- Each completion that is shown of an air is of one airing.
use Rattle.std.proofs.Common.{◌≡◌, List, [], ◌∷◌, ◌++◌, Bool, true, false, Option, Some, None, refl, sym, ap, ◌∙◌, subst}
use Rattle.std.proofs.Common.{append_assoc, append-nil}
use Rattle.std.specs.Prelude.{cond, if◌then◌else◌}
use Rattle.std.specs.List.{AllByRecursion, cons_option}
use Rattle.std.proofs.lemmas.List.Elements.{filter-append}
use Rattle.section_codec.specs.declared.table.Key.{Key}
use Rattle.section_codec.proofs.KeyOrderFacts.{is_key-itself}
use Rattle.sub_collect.proofs.MarksShown.{shown_some}
use Rattle.sub_collect.specs.Runs.{Counted}
use Rattle.sub_collect.specs.Completions.{is_of, of_key, completion, completions, shown_after, shown_at, latest_of, repeats, dones}
use Rattle.sub_collect.specs.declared.completed.Completed.{Completed}
use Rattle.sub_collect.proofs.Done.{of_key-one}

-- ---- one of the completions of a key

completion_at_place : (P : Completed → Type 0) (before ss : List Counted) → AllByRecursion P (completions before ss)
    → (front more : List Counted) (s : Counted) → ss ≡ front ++ s ∷ more → (d : Completed) → completion ((before ++ front) ++ s ∷ []) ≡ Some d → P d
completion_at_place P before [] all front more s e d f = none front e
  where
    none : (front : List Counted) → [] ≡ front ++ s ∷ more → P d
    none [] e = cc
    none (x ∷ front) e = cc
completion_at_place P before (t ∷ ts) all [] more s e d f =
    let same : t ≡ s = cc in
    let here : completion (before ++ t ∷ []) ≡ Some d =
    ap (λ (x : Counted). completion (before ++ x ∷ [])) same ∙ ap (λ (l : List Counted). completion (l ++ s ∷ [])) (sym (append-nil before)) ∙ f in
    first (completion (before ++ t ∷ [])) (completions (before ++ t ∷ []) ts) here all
  where
    first : (o : Option Completed) (rest : List Completed) → o ≡ Some d → AllByRecursion P (cons_option o rest) → P d
    first None rest g all = cc
    first (Some c) rest g all = (let same : c ≡ d = cc in subst P same all.0)
completion_at_place P before (t ∷ ts) all (x ∷ front) more s e d f =
    let same : t ≡ x = cc in
    let rest : ts ≡ front ++ s ∷ more = cc in
    completion_at_place P (before ++ t ∷ []) ts (others (completion (before ++ t ∷ [])) (completions (before ++ t ∷ []) ts) all) front more s rest d
    (ap (λ (l : List Counted). completion (l ++ s ∷ [])) (append_assoc before (t ∷ []) front ∙ ap (λ (y : Counted). before ++ y ∷ front) same) ∙ f)
  where
    others : (o : Option Completed) (rest : List Completed) → AllByRecursion P (cons_option o rest) → AllByRecursion P rest
    others None rest all = all
    others (Some c) rest all = all.1

-- ---- what is shown

each_done : (P : Completed → Type 0) (past ss : List Counted)
    → ((front more : List Counted) (s : Counted) → ss ≡ front ++ s ∷ more → (d : Completed) → shown_at (past ++ front) s ≡ Some d → P d)
    → AllByRecursion P (dones past ss)
each_done P past [] holds = tt
each_done P past (s ∷ ss) holds =
    one (shown_at past s) refl
    (each_done P (past ++ s ∷ []) ss
    (λ front more t e d f. holds (s ∷ front) more t (ap (λ (l : List Counted). s ∷ l) e) d
    (ap (λ (l : List Counted). shown_at l t) (sym (append_assoc past (s ∷ []) front)) ∙ f)))
  where
    one : (o : Option Completed) → shown_at past s ≡ o → AllByRecursion P (dones (past ++ s ∷ []) ss) → AllByRecursion P (cons_option o (dones (past ++ s ∷ []) ss))
    one None e rest = rest
    one (Some d) e rest = (holds [] ss s refl d (ap (λ (l : List Counted). shown_at l s) (append-nil past) ∙ e), rest)

of_own_key : (s : Counted) (more : List Counted) → of_key s.key (s ∷ more) ≡ s ∷ of_key s.key more
of_own_key s more = ap (λ (b : Bool). cond b (s ∷ of_key s.key more) (of_key s.key more)) (is_key-itself s.key)

-- what holds of each completion of each key holds of each that is shown
pub all_shown : (P : Completed → Type 0) (heard : List Counted) → ((k : Key) → AllByRecursion P (completions [] (of_key k heard))) → AllByRecursion P (dones [] heard)
all_shown P heard each = each_done P [] heard one
  where
    one : (front more : List Counted) (s : Counted) → heard ≡ front ++ s ∷ more → (d : Completed) → shown_at front s ≡ Some d → P d
    one front more s e d f =
        let k : Key = s.key in
        let parts : of_key k heard ≡ of_key k front ++ s ∷ of_key k more =
        ap (of_key k) e ∙ filter-append (is_of k) front (s ∷ more) ∙ ap (λ (l : List Counted). of_key k front ++ l) (of_own_key s more) in
        let done : completion (of_key k front ++ s ∷ []) ≡ Some d =
        ap completion (sym (of_key-one k front s refl)) ∙ shown_some (latest_of k front) (completion (of_key k (front ++ s ∷ []))) d f in
        completion_at_place P [] (of_key k heard) (each k) (of_key k front) (of_key k more) s parts d done
