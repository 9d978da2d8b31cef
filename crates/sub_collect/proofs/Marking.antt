-- Marks.
use Rattle.std.proofs.Common.{◌≡◌, List, [], ◌∷◌, ◌++◌, Bool, true, false, Option, Some, None, refl, sym, ap, ap₂, ◌∙◌, subst, append_assoc, append-nil}
use Rattle.std.specs.Prelude.{if◌then◌else◌, cond}
use Rattle.std.specs.List.{AllByRecursion, cons_option}
use Rattle.std.proofs.lemmas.List.{map-append}
use Rattle.section_codec.specs.declared.table.Key.{Key}
use Rattle.sub_collect.specs.Runs.{Counted}
use Rattle.sub_collect.specs.Completions.{is_of, of_key, completion, completions, latest_done, shown_after}
use Rattle.sub_collect.specs.declared.completed.Completed.{Completed}
use Rattle.sub_collect.specs.Marks.{Taken, Taken.Took, Taken.Forgot, Taken.ForgotAll, since_with, since_from, since_mark, completion_with, completions_from, all_took}
use Rattle.sub_collect.specs.MarkLaws.{MarkFree, ShownMarkFree, MarkForgets, MarkOfAllStartsAfresh, IsSinceMark, CompletedSinceMark}

-- ---- sections alone

pub since_free : (k : Key) (since ss : List Counted) → since_from k since (all_took ss) ≡ since ++ of_key k ss
since_free k since [] = sym (append-nil since)
since_free k since (s ∷ ss) = go (is_of k s) (since_free k (since ++ s ∷ []) ss) (since_free k since ss)
  where
    go : (b : Bool) → since_from k (since ++ s ∷ []) (all_took ss) ≡ (since ++ s ∷ []) ++ of_key k ss → since_from k since (all_took ss) ≡ since ++ of_key k ss
        → since_from k (if b then since ++ s ∷ [] else since) (all_took ss) ≡ since ++ cond b (s ∷ of_key k ss) (of_key k ss)
    go true here past = here ∙ append_assoc since (s ∷ []) (of_key k ss)
    go false here past = past

pub completions_free : (k : Key) (since ss : List Counted) → completions_from k since (all_took ss) ≡ completions since (of_key k ss)
completions_free k since [] = refl
completions_free k since (s ∷ ss) = go (is_of k s) (completions_free k (since ++ s ∷ []) ss) (completions_free k since ss)
  where
    go : (b : Bool) → completions_from k (since ++ s ∷ []) (all_took ss) ≡ completions (since ++ s ∷ []) (of_key k ss) → completions_from k since (all_took ss) ≡ completions since (of_key k ss)
        → cons_option (if b then completion (since ++ s ∷ []) else None) (completions_from k (if b then since ++ s ∷ [] else since) (all_took ss)) ≡ completions since (cond b (s ∷ of_key k ss) (of_key k ss))
    go true here past = ap (cons_option (completion (since ++ s ∷ []))) here
    go false here past = past

pub mark_free : MarkFree
mark_free k ss = (since_free k [] ss, ap latest_done (completions_free k [] ss))

pub shown_mark_free : ShownMarkFree
shown_mark_free ss s =
    let one : all_took ss ++ Took s ∷ [] ≡ all_took (ss ++ s ∷ []) = sym (map-append Took ss (s ∷ [])) in
    ap₂ shown_after (mark_free s.key ss).1 (ap completion (ap (since_mark s.key) one ∙ (mark_free s.key (ss ++ s ∷ [])).0))

-- ---- one more, and more

pub since-append : (k : Key) (since : List Counted) (xs ys : List Taken) → since_from k since (xs ++ ys) ≡ since_from k (since_from k since xs) ys
since-append k since [] ys = refl
since-append k since (x ∷ xs) ys = since-append k (since_with k since x) xs ys

cons_both : (o : Option Completed) (a b : List Completed) → cons_option o (a ++ b) ≡ cons_option o a ++ b
cons_both None a b = refl
cons_both (Some d) a b = refl

pub completions-append : (k : Key) (since : List Counted) (xs ys : List Taken) → completions_from k since (xs ++ ys) ≡ completions_from k since xs ++ completions_from k (since_from k since xs) ys
completions-append k since [] ys = refl
completions-append k since (x ∷ xs) ys =
    ap (cons_option (completion_with k since x)) (completions-append k (since_with k since x) xs ys)
    ∙ cons_both (completion_with k since x) (completions_from k (since_with k since x) xs) (completions_from k (since_from k (since_with k since x) xs) ys)

pub mark_forgets : MarkForgets
mark_forgets k pid past = (
  since-append k [] past (Forgot pid ∷ []),
  ap latest_done (completions-append k [] past (Forgot pid ∷ []) ∙ append-nil (completions_from k [] past)),
)

pub starts_afresh : MarkOfAllStartsAfresh
starts_afresh k past more = (since-append k [] past (ForgotAll ∷ more), completions-append k [] past (ForgotAll ∷ more))

-- ---- since one mark

since_all : (k : Key) (past xs : List Taken) → AllByRecursion (IsSinceMark k (past ++ xs)) (completions_from k (since_mark k past) xs)
since_all k past [] = tt
since_all k past (x ∷ xs) =
    here (completion_with k (since_mark k past) x) refl
    (subst (λ (l : List Taken). AllByRecursion (IsSinceMark k l) (completions_from k (since_with k (since_mark k past) x) xs)) (append_assoc past (x ∷ []) xs)
    (subst (λ (s : List Counted). AllByRecursion (IsSinceMark k ((past ++ x ∷ []) ++ xs)) (completions_from k s xs)) (since-append k [] past (x ∷ [])) (since_all k (past ++ x ∷ []) xs)))
  where
    made : (y : Taken) (d : Completed) → completion_with k (since_mark k past) y ≡ Some d → completion (since_with k (since_mark k past) y) ≡ Some d
    made (Took s) d e = go (is_of k s) e
      where
        go : (b : Bool) → (if b then completion (since_mark k past ++ s ∷ []) else None) ≡ Some d → completion (if b then since_mark k past ++ s ∷ [] else since_mark k past) ≡ Some d
        go true e = e
        go false e = cc
    made (Forgot pid) d e = cc
    made ForgotAll d e = cc

    here : (o : Option Completed) → completion_with k (since_mark k past) x ≡ o → AllByRecursion (IsSinceMark k (past ++ x ∷ xs)) (completions_from k (since_with k (since_mark k past) x) xs)
        → AllByRecursion (IsSinceMark k (past ++ x ∷ xs)) (cons_option o (completions_from k (since_with k (since_mark k past) x) xs))
    here None e rest = rest
    here (Some d) e rest = (
      record {
        front = past ++ x ∷ [];
        rest = xs;
        cut = sym (append_assoc past (x ∷ []) xs);
        made = ap completion (since-append k [] past (x ∷ [])) ∙ made x d e;
      },
      rest,
    )

pub completed_since_mark : CompletedSinceMark
completed_since_mark k past = since_all k [] past
