-- What sections of one content show, in any order and however often.
use Rattle.std.proofs.Common.{◌≡◌, ℕ, ◌<◌, List, [], ◌∷◌, ◌++◌, Bool, ◌&&◌, inl, inr, ◌⊎◌, length, length-append, refl, sym, ap, ap₂, ◌∙◌, subst, arith, append_assoc, append-nil, ne_eqb}
use Rattle.std.specs.Prelude.{if◌then◌else◌, cond, Option, Some, None, option_map}
use Rattle.std.specs.Option.{option_or}
use Rattle.std.specs.List.{AllByRecursion, cons_option}
use Rattle.std.proofs.lemmas.List.Elements.{filter-append}
use Rattle.section_codec.specs.declared.table.Key.{Key}
use Rattle.section_codec.specs.KeyOrder.{is_key}
use Rattle.section_codec.proofs.KeyOrderFacts.{is_key-itself}
use Rattle.section_codec.specs.Contents.{Content, is_content}
use Rattle.sub_collect.specs.Runs.{Counted, latest_section, run_of, completed}
use Rattle.sub_collect.specs.Completions.{is_of, of_key, done_at, completion, latest_of, shown_after, shown_at, dones}
use Rattle.sub_collect.specs.Laws.{IsSectionOf, HoldAll, IsNumbered, IsWith, done_with, IsFresh, IsHeld, NewIsShown, SameIsQuiet}
use Rattle.sub_collect.specs.declared.completed.Completed.{Completed}
use Rattle.sub_collect.proofs.Runs.{run_of-new, version-joins, latest-push, no-latest}
use Rattle.sub_collect.proofs.Done.{completion-push, of_key-one, latest-one_more, repeats-itself}
use Rattle.sub_collect.proofs.Whole.{run_behind, none_held}
use Rattle.sub_collect.proofs.OneContent.{completes-no-other, completes}

pub all-append : (P : Counted → Type 0) (xs ys : List Counted) → AllByRecursion P xs → AllByRecursion P ys → AllByRecursion P (xs ++ ys)
all-append P [] ys p q = q
all-append P (x ∷ xs) ys p q = (p.0, all-append P xs ys p.1 q)

all-map : (P Q : Counted → Type 0) → ((s : Counted) → P s → Q s) → (ss : List Counted) → AllByRecursion P ss → AllByRecursion Q ss
all-map P Q f [] all = tt
all-map P Q f (s ∷ ss) all = (f s all.0, all-map P Q f ss all.1)

after_none : (o : Option Completed) → shown_after o None ≡ None
after_none None = refl
after_none (Some d) = refl

module _ (k : Key) (v : ℕ) (content : Content) (numbered : IsNumbered k content) where
  abbrev Is : Counted → Type 0
  Is s = IsWith k v content s

  abbrev done : Completed
  done = done_with k v content

  pub own_key : (ss : List Counted) → AllByRecursion Is ss → of_key k ss ≡ ss
  own_key [] all = refl
  own_key (s ∷ ss) all =
      ap (λ (b : Bool). cond b (s ∷ of_key k ss) (of_key k ss)) (ap (λ (q : Key). is_key q k) all.0.0.key ∙ is_key-itself k)
      ∙ ap (λ (l : List Counted). s ∷ l) (own_key ss all.1)

  key_behind : (past ss : List Counted) → AllByRecursion Is ss → of_key k (past ++ ss) ≡ of_key k past ++ ss
  key_behind past ss all = filter-append (is_of k) past ss ∙ ap (λ (l : List Counted). of_key k past ++ l) (own_key ss all)

  -- ---- one section, by what is completed with it

  abbrev at : List Counted → Counted → List Counted
  at past s = of_key k (past ++ s ∷ [])

  completed_at : (past : List Counted) (s : Counted) → Is s → (o : Option Content) → completed (at past s) ≡ o → completion (at past s) ≡ option_map (done_at s) o
  completed_at past s is o e =
      let one = of_key-one k past s is.0.key in
      ap completion one ∙ completion-push (of_key k past) s ∙ ap (λ (l : List Counted). option_map (done_at s) (completed l)) (sym one) ∙ ap (option_map (done_at s)) e

  shown_by : (past : List Counted) (s : Counted) → Is s → shown_at past s ≡ shown_after (latest_of k past) (completion (at past s))
  shown_by past s is = ap (λ (q : Key). shown_after (latest_of q past) (completion (of_key q (past ++ s ∷ [])))) is.0.key

  latest_by : (past : List Counted) (s : Counted) → Is s → latest_of k (past ++ s ∷ []) ≡ option_or (completion (at past s)) (latest_of k past)
  latest_by past s is =
      latest-one_more k past s
      ∙ ap (λ (b : Bool). if b then option_or (completion (at past s)) (latest_of k past) else latest_of k past) (ap (λ (q : Key). is_key q k) is.0.key ∙ is_key-itself k)

  -- a section that completes nothing
  pub silent : (past : List Counted) (s : Counted) → Is s → completed (at past s) ≡ None → (shown_at past s ≡ None) × (latest_of k (past ++ s ∷ []) ≡ latest_of k past)
  silent past s is e =
      let none = completed_at past s is None e in
      (shown_by past s is ∙ ap (shown_after (latest_of k past)) none ∙ after_none (latest_of k past), latest_by past s is ∙ ap (λ (o : Option Completed). option_or o (latest_of k past)) none)

  -- and one that completes a content of which the run is
  pub completing : (past : List Counted) (s : Counted) → Is s → AllByRecursion (IsSectionOf k content) (run_of (at past s)) → (d : Content) → completed (at past s) ≡ Some d
      → (shown_at past s ≡ shown_after (latest_of k past) (Some done)) × (latest_of k (past ++ s ∷ []) ≡ Some done)
  completing past s is all d e =
      let same : d ≡ content = completes-no-other k content numbered (at past s) all d e in
      let one : done_at s d ≡ done = same_done s d is.0.key is.1 same in
      let some : completion (at past s) ≡ Some done = completed_at past s is (Some d) e ∙ ap (λ (x : Completed). Some x) one in
      (shown_by past s is ∙ ap (shown_after (latest_of k past)) some, latest_by past s is ∙ ap (λ (o : Option Completed). option_or o (latest_of k past)) some)
    where
      same_done : (s : Counted) (d : Content) → s.key ≡ k → s.version ≡ v → d ≡ content → done_at s d ≡ done
      same_done s d a b c = λ i. record { key = a i; version = b i; sections = c i }

  -- ---- the content that is held

  quiet-one : (past : List Counted) → IsHeld k v content past → (s : Counted) → Is s → (shown_at past s ≡ None) × IsHeld k v content (past ++ s ∷ [])
  quiet-one past h s is = go (completed (at past s)) refl
    where
      one : at past s ≡ of_key k past ++ s ∷ []
      one = of_key-one k past s is.0.key

      joins : run_of (at past s) ≡ run_of (of_key k past) ++ s ∷ []
      joins = ap run_of one ∙ version-joins (of_key k past) h.section.0 s h.section.1 (h.section.2 ∙ sym is.1)

      all : AllByRecursion (IsSectionOf k content) (run_of (at past s))
      all = subst (AllByRecursion (IsSectionOf k content)) (sym joins) (all-append (IsSectionOf k content) (run_of (of_key k past)) (s ∷ []) h.run (is.0, tt))

      section : (t : Counted) × (latest_section (at past s) ≡ Some t) × (t.version ≡ v)
      section = (s, ap latest_section one ∙ latest-push (of_key k past) s, is.1)

      go : (o : Option Content) → completed (at past s) ≡ o → (shown_at past s ≡ None) × IsHeld k v content (past ++ s ∷ [])
      go None e =
          let r = silent past s is e in
          (r.0, record { latest = r.1 ∙ h.latest; section = section; run = all })
      go (Some d) e =
          let r = completing past s is all d e in (
            r.0 ∙ ap (λ (o : Option Completed). shown_after o (Some done)) h.latest ∙ ap (λ (b : Bool). if b then None else Some done) (repeats-itself done),
            record { latest = r.1; section = section; run = all },
          )

  pub quiet : (past : List Counted) → IsHeld k v content past → (ss : List Counted) → AllByRecursion Is ss → (dones past ss ≡ []) × IsHeld k v content (past ++ ss)
  quiet past h [] all = (refl, subst (IsHeld k v content) (sym (append-nil past)) h)
  quiet past h (s ∷ ss) all =
      let one = quiet-one past h s all.0 in
      let rest = quiet (past ++ s ∷ []) one.1 ss all.1 in
      (ap₂ (λ (o : Option Completed) (l : List Completed). cons_option o l) one.0 rest.0, subst (IsHeld k v content) (append_assoc past (s ∷ []) ss) rest.1)

  -- ---- under a fresh version

  module _ (past : List Counted) (fresh : IsFresh k v past) where
    begins : (s : Counted) → Is s → run_of (of_key k past ++ s ∷ []) ≡ s ∷ []
    begins s is = go (latest_section (of_key k past)) refl
      where
        go : (o : Option Counted) → latest_section (of_key k past) ≡ o → run_of (of_key k past ++ s ∷ []) ≡ s ∷ []
        go None e = ap (λ (l : List Counted). run_of (l ++ s ∷ [])) (no-latest (of_key k past) e)
        go (Some t) e = run_of-new (of_key k past) t s e (λ (same : t.version ≡ s.version). fresh.section t e (same ∙ is.1))

    -- the run is what was heard of the content
    run-is : (ss : List Counted) → AllByRecursion Is ss → 0 < length ss → run_of (of_key k (past ++ ss)) ≡ ss
    run-is [] all some = absurd (let none : 0 < 0 = some in omega arith)
    run-is (s ∷ ss) all some =
        let H = of_key k past in
        let same : AllByRecursion (λ (t : Counted). t.version ≡ s.version) ss = all-map Is (λ (t : Counted). t.version ≡ s.version) (λ t is. is.1 ∙ sym all.0.1) ss all.1 in
        ap run_of (key_behind past (s ∷ ss) all) ∙ ap run_of (sym (append_assoc H (s ∷ []) ss))
        ∙ run_behind (H ++ s ∷ []) ss s (latest-push H s) same ∙ ap (λ (l : List Counted). l ++ ss) (begins s all.0)

    shows-new : shown_after (latest_of k past) (Some done) ≡ Some done
    shows-new = go (latest_of k past) refl
      where
        go : (o : Option Completed) → latest_of k past ≡ o → shown_after o (Some done) ≡ Some done
        go None e = refl
        go (Some d) e = ap (λ (b : Bool). if b && is_content d.sections content then None else Some done) (ne_eqb d.version v (fresh.latest d e))

    -- nothing was completed yet, or it was shown
    abbrev Nothing : List Counted → Type 0
    Nothing ss = (ss ≡ []) ⊎ (completed (of_key k (past ++ ss)) ≡ None)

    abbrev Result : List Counted → List Counted → Type 0
    Result front ss = ((dones (past ++ front) ss ≡ []) × Nothing (front ++ ss)) ⊎ ((dones (past ++ front) ss ≡ done ∷ []) × IsHeld k v content (past ++ (front ++ ss)))

    first : (front ss : List Counted) → AllByRecursion Is front → AllByRecursion Is ss → latest_of k (past ++ front) ≡ latest_of k past → Nothing front → Result front ss
    first front [] fall all latest quiet_yet = inl (refl, subst Nothing (sym (append-nil front)) quiet_yet)
    first front (s ∷ ss) fall all latest quiet_yet =
        go (completed (at (past ++ front) s)) refl (λ same none. first (front ++ s ∷ []) ss (all-append Is front (s ∷ []) fall (all.0, tt)) all.1 same none)
      where
        more : List Counted
        more = front ++ s ∷ []

        mall : AllByRecursion Is more
        mall = all-append Is front (s ∷ []) fall (all.0, tt)

        joined : (past ++ front) ++ s ∷ [] ≡ past ++ more
        joined = append_assoc past front (s ∷ [])

        rest_joined : more ++ ss ≡ front ++ s ∷ ss
        rest_joined = append_assoc front (s ∷ []) ss

        size : 0 < length more
        size = omega (arith, length-append front (s ∷ []))

        run : run_of (at (past ++ front) s) ≡ more
        run = ap (λ (l : List Counted). run_of (of_key k l)) joined ∙ run-is more mall size

        runs : AllByRecursion (IsSectionOf k content) (run_of (at (past ++ front) s))
        runs = subst (AllByRecursion (IsSectionOf k content)) (sym run) (all-map Is (IsSectionOf k content) (λ t is. is.0) more mall)

        later : (o : Option Completed) → shown_at (past ++ front) s ≡ o → (ds : List Completed) → dones (past ++ more) ss ≡ ds → dones (past ++ front) (s ∷ ss) ≡ cons_option o ds
        later o e ds f = ap₂ (λ (p : Option Completed) (l : List Completed). cons_option p l) e (ap (λ (l : List Counted). dones l ss) joined ∙ f)

        go : (o : Option Content) → completed (at (past ++ front) s) ≡ o → (latest_of k (past ++ more) ≡ latest_of k past → Nothing more → Result more ss) → Result front (s ∷ ss)
        go None e next =
            let r = silent (past ++ front) s all.0 e in
            let none : Nothing more = inr (ap (λ (l : List Counted). completed (of_key k l)) (sym joined) ∙ e) in
            pass r.0 (next (ap (latest_of k) (sym joined) ∙ r.1 ∙ latest) none)
          where
            pass : shown_at (past ++ front) s ≡ None → Result more ss → Result front (s ∷ ss)
            pass none (inl r) = inl (later None none [] r.0, subst Nothing rest_joined r.1)
            pass none (inr r) = inr (later None none (done ∷ []) r.0, subst (λ (l : List Counted). IsHeld k v content (past ++ l)) rest_joined r.1)
        go (Some d) e next =
            let r = completing (past ++ front) s all.0 runs d e in
            let shown : shown_at (past ++ front) s ≡ Some done = r.0 ∙ ap (λ (o : Option Completed). shown_after o (Some done)) latest ∙ shows-new in
            let held : IsHeld k v content (past ++ more) = record {
              latest = ap (latest_of k) (sym joined) ∙ r.1;
              section = (s, ap (λ (l : List Counted). latest_section (of_key k l)) (sym joined) ∙ ap latest_section (of_key-one k (past ++ front) s all.0.0.key) ∙ latest-push (of_key k (past ++ front)) s, all.0.1);
              run = subst (λ (l : List Counted). AllByRecursion (IsSectionOf k content) (run_of (of_key k l))) joined runs;
            } in
            let q = quiet (past ++ more) held ss all.1 in
            inr (later (Some done) shown [] q.0, subst (IsHeld k v content) (append_assoc past more ss ∙ ap (λ (l : List Counted). past ++ l) rest_joined) q.1)

    pub shown-once : (ss : List Counted) → AllByRecursion Is ss → HoldAll content ss → (dones past ss ≡ done ∷ []) × IsHeld k v content (past ++ ss)
    shown-once ss all holds = go (first [] ss tt all (ap (latest_of k) (append-nil past)) (inl refl))
      where
        pass : (xs : List Counted) → xs ≡ past → dones xs ss ≡ dones past ss
        pass xs e = ap (λ (l : List Counted). dones l ss) e

        none_shown : Nothing ss → Prim.⊥
        none_shown (inl e) = none_held content numbered.some (subst (HoldAll content) e holds)
        none_shown (inr e) = by ss refl
          where
            whole : 0 < length ss → Prim.⊥
            whole some =
                let run = run-is ss all some in
                let all_of : AllByRecursion (IsSectionOf k content) (run_of (of_key k (past ++ ss))) = subst (AllByRecursion (IsSectionOf k content)) (sym run) (all-map Is (IsSectionOf k content) (λ t is. is.0) ss all) in
                let is = completes k content numbered (of_key k (past ++ ss)) all_of (subst (HoldAll content) (sym run) holds) in
                let none : None ≡ Some content = sym e ∙ is in
                let z : Prim.⊥ = cc in
                z

            by : (xs : List Counted) → ss ≡ xs → Prim.⊥
            by [] g = none_held content numbered.some (subst (HoldAll content) g holds)
            by (x ∷ xs) g = whole (subst (λ (l : List Counted). 0 < length l) (sym g) (let some : 0 < length (x ∷ xs) = omega arith in some))

        go : Result [] ss → (dones past ss ≡ done ∷ []) × IsHeld k v content (past ++ ss)
        go (inl r) = absurd (none_shown r.1)
        go (inr r) = (sym (pass (past ++ []) (append-nil past)) ∙ r.0, r.1)

pub new_is_shown : NewIsShown
new_is_shown k v content numbered past ss fresh all holds = (shown-once k v content numbered past fresh ss all holds).0

pub same_is_quiet : SameIsQuiet
same_is_quiet k v content numbered past ss held all = (quiet k v content numbered past held ss all).0
