-- What is kept of a key, once a section more is taken.
use Rattle.std.proofs.Common.{◌≡◌, ℕ, ◌<◌, List, [], ◌∷◌, ◌++◌, Bool, true, false, ◌&&◌, ◌==◌, refl, sym, ap, ap₂, ◌∙◌, subst, eqb-true, eq-eqb}
use Rattle.std.specs.Prelude.{if◌then◌else◌, Option, Some, None, is_some, option_map}
use Rattle.std.specs.Option.{option_or}
use Rattle.std.proofs.lemmas.Slice.Eq.{bytes_eq-Decides}
use Rattle.std.proofs.lemmas.Bool.{and_parts, and_from}
use Rattle.section_codec.specs.declared.table.Key.{Key}
use Rattle.section_codec.specs.Contents.{Content}
use Rattle.section_codec.specs.Tables.{is_eit}
use Rattle.section_codec.specs.Segments.{segment_of}
use Rattle.sub_collect.specs.Runs.{Counted, all_of_version, latest_section, latest_with, segment_last_of, run_of, whole, completed}
use Rattle.sub_collect.specs.Completions.{done_at, completion_at, completion, repeats, shown_after}
use Rattle.sub_collect.specs.Collectors.{KeptRun, KeyHeard, body_in, body_of, last_in, StandsForRun, IsKeptOf, AreOfKey, IsHeldIn}
use Rattle.sub_collect.specs.Slots.{held_with, told_with, needed_by, is_body, same_last, whole_by, latest_with_done}
use Rattle.sub_collect.specs.declared.completed.Completed.{Completed}
use Rattle.sub_collect.proofs.Runs.{run_of-push, latest-run, latest-push, all-latest, no-latest}
use Rattle.sub_collect.proofs.Slots.{whole-by}
use Rattle.sub_collect.proofs.Done.{done_key, latest-key, completion-push, repeats-itself, repeats-same}
use Rattle.sub_collect.proofs.Putting.{put-stands}

-- ---- a section that is put into a run

-- the latest completion, kept once it is shown or not
latest-kept : (o p : Option Completed) → ((b d : Completed) → o ≡ Some b → p ≡ Some d → b.key ≡ d.key) → latest_with_done o p ≡ option_or p o
latest-kept None None keys = refl
latest-kept (Some b) None keys = refl
latest-kept None (Some d) keys = refl
latest-kept (Some b) (Some d) keys = go (repeats b d) refl
  where
    go : (r : Bool) → repeats b d ≡ r → (if r then Some b else Some d) ≡ Some d
    go true e = ap (λ (x : Completed). Some x) (repeats-same b d (keys b d refl refl) e)
    go false e = refl

-- the run goes on behind these sections of it, which may be none
module _ (k : Key) (heard : List Counted) (latest : Option Completed) (are : AreOfKey k heard latest) (s : Counted) (of_key : s.key ≡ k) (front : List Counted) (run : run_of (heard ++ s ∷ []) ≡ front ++ s ∷ []) where
  pub put-done : completion (heard ++ s ∷ []) ≡ option_map (done_at s) (whole (front ++ s ∷ []))
  put-done = completion-push heard s ∙ ap (λ (l : List Counted). option_map (done_at s) (whole l)) run

  pub put-kept : (own : Option Completed) → own ≡ latest → (kept : KeptRun) → StandsForRun (front ++ s ∷ []) kept
      → IsKeptOf (heard ++ s ∷ []) (option_or (completion (heard ++ s ∷ [])) latest) (record { run = kept; latest = latest_with_done own (option_map (done_at s) (whole (front ++ s ∷ []))) })
  put-kept own is kept stands = record {
    run = subst (λ (l : List Counted). StandsForRun l kept) (sym run) stands;
    latest_is =
        latest-kept own (option_map (done_at s) (whole (front ++ s ∷ [])))
        (λ b d e f. are.key b (sym is ∙ e) ∙ sym (done_key s (whole (front ++ s ∷ [])) d f ∙ of_key))
        ∙ ap₂ option_or (sym put-done) is;
  }

-- ---- a section that repeats what is held

is_body-same : (o : Option (List ℕ)) (body : List ℕ) → is_body o body ≡ true → o ≡ Some body
is_body-same None body e = cc
is_body-same (Some held) body e = ap (λ (b : List ℕ). Some b) ((bytes_eq-Decides held body).0 e)

-- a run that holds a number has a latest section
run-some : (run : List Counted) (n : ℕ) (body : List ℕ) → body_of (latest_with n run) ≡ Some body → (t : Counted) × (latest_section run ≡ Some t)
run-some run n body e = go (latest_section run) refl
  where
    go : (o : Option Counted) → latest_section run ≡ o → (t : Counted) × (latest_section run ≡ Some t)
    go (Some t) f = (t, f)
    go None f =
        let none : None ≡ Some body = ap (λ (l : List Counted). body_of (latest_with n l)) (sym (no-latest run f)) ∙ e in
        absurd (let z : Prim.⊥ = cc in z)

held-stays : (held : ℕ → Option (List ℕ)) (number : ℕ) (body : List ℕ) → held number ≡ Some body → (n : ℕ) → held n ≡ held_with held number body n
held-stays held number body e n = go (n == number) refl
  where
    go : (b : Bool) → (n == number) ≡ b → held n ≡ (if b then Some body else held n)
    go true f = ap held (eqb-true n number f) ∙ e
    go false f = refl

told-stays : (lasts : ℕ → Option ℕ) (number : ℕ) (told : Option ℕ) → lasts (segment_of number) ≡ told → (n : ℕ) → lasts n ≡ told_with lasts number told n
told-stays lasts number told e n = go (segment_of number == n) refl
  where
    go : (b : Bool) → (segment_of number == n) ≡ b → lasts n ≡ (if b then told else lasts n)
    go true f = ap lasts (sym (eqb-true (segment_of number) n f)) ∙ e
    go false f = refl

done_at-same : (s t : Counted) (c : Content) → s.key ≡ t.key → s.version ≡ t.version → done_at s c ≡ done_at t c
done_at-same s t c k v = λ i. record { key = k i; version = v i; sections = c }

module _ (k : Key) (heard : List Counted) (latest : Option Completed) (are : AreOfKey k heard latest) (s : Counted) (of_key : s.key ≡ k) (kept : KeyHeard) (is : IsKeptOf heard latest kept)
    (version : s.version ≡ kept.run.version) (last : kept.run.last ≡ s.last) (told : last_in kept.run.lasts (segment_of s.number) ≡ segment_last_of s)
    (held : body_in s.number kept.run.held ≡ Some s.body) where
  some : (t : Counted) × (latest_section (run_of heard) ≡ Some t)
  some = run-some (run_of heard) s.number s.body (sym (is.run.held s.number) ∙ held)

  more : run_of (heard ++ s ∷ []) ≡ run_of heard ++ s ∷ []
  more = run_of-push heard s (ap (λ (v : ℕ). all_of_version v (run_of heard)) version ∙ is.run.version)

  stands : StandsForRun (run_of heard ++ s ∷ []) kept.run
  stands = put-stands (run_of heard) s kept.run kept.run is.run version refl last (held-stays (λ (n : ℕ). body_in n kept.run.held) s.number s.body held)
      (record {
        below = λ (n : ℕ) (lt : n < kept.run.front). ap is_some (sym (held-stays (λ (m : ℕ). body_in m kept.run.held) s.number s.body held n)) ∙ is.run.front.below n lt;
        gap = λ (lt : kept.run.front < 256). sym (held-stays (λ (m : ℕ). body_in m kept.run.held) s.number s.body held kept.run.front) ∙ is.run.front.gap lt;
      })
      (λ n. told-stays (last_in kept.run.lasts) s.number (segment_last_of s) told n)

  same_last_number : s.last ≡ some.0.last
  same_last_number = sym last ∙ is.run.last some.0 some.1

  same_key : s.key ≡ some.0.key
  same_key = of_key ∙ sym (latest-key k heard some.0 are.each (sym (latest-run heard) ∙ some.1))

  same_content : completed (heard ++ s ∷ []) ≡ completed heard
  same_content =
      ap whole more
      ∙ whole-by (run_of heard ++ s ∷ []) s bodies (last_in kept.run.lasts) (latest-push (run_of heard) s) stands.held stands.lasts
      ∙ ap₂ (λ (q : Key) (n : ℕ). whole_by bodies (needed_by (is_eit q.table) (last_in kept.run.lasts) n)) same_key same_last_number
      ∙ sym (whole-by (run_of heard) some.0 bodies (last_in kept.run.lasts) some.1 is.run.held is.run.lasts)
    where
      bodies : ℕ → Option (List ℕ)
      bodies n = body_in n kept.run.held

  same_completion : completion (heard ++ s ∷ []) ≡ completion heard
  same_completion =
      completion-push heard s
      ∙ ap (option_map (done_at s)) same_content
      ∙ go (completed heard)
      ∙ ap (λ (o : Option Counted). completion_at o (completed heard)) (sym (sym (latest-run heard) ∙ some.1))
    where
      go : (o : Option Content) → option_map (done_at s) o ≡ option_map (done_at some.0) o
      go None = refl
      go (Some c) = ap (λ (d : Completed). Some d) (done_at-same s some.0 c same_key
          (version ∙ sym (all-latest kept.run.version (run_of heard) some.0 is.run.version some.1)))

  -- it leaves all that is kept
  pub repeat-kept : IsKeptOf (heard ++ s ∷ []) (option_or (completion (heard ++ s ∷ [])) latest) kept
  repeat-kept = record {
    run = subst (λ (l : List Counted). StandsForRun l kept.run) (sym more) stands;
    latest_is = is.latest_is ∙ go (completion heard) refl ∙ ap (λ (o : Option Completed). option_or o latest) (sym same_completion);
  }
    where
      go : (o : Option Completed) → completion heard ≡ o → latest ≡ option_or (completion heard) latest
      go None e = ap (λ (p : Option Completed). option_or p latest) (sym e)
      go (Some d) e = are.whole d e ∙ ap (λ (p : Option Completed). option_or p latest) (sym e)

  -- and shows nothing
  pub repeat-shows : shown_after latest (completion (heard ++ s ∷ [])) ≡ None
  repeat-shows = ap (shown_after latest) same_completion ∙ go (completion heard) refl
    where
      none : (o : Option Completed) → shown_after o None ≡ None
      none None = refl
      none (Some b) = refl

      go : (o : Option Completed) → completion heard ≡ o → shown_after latest (completion heard) ≡ None
      go None e = ap (shown_after latest) e ∙ none latest
      go (Some d) e =
          ap (λ (o : Option Completed). shown_after o (completion heard)) (are.whole d e)
          ∙ ap (shown_after (Some d)) e
          ∙ ap (λ (b : Bool). if b then None else Some d) (repeats-itself d)

-- the test that a section repeats what is kept
same_last-same : (a b : Option ℕ) → same_last a b ≡ true → a ≡ b
same_last-same None None e = refl
same_last-same None (Some b) e = cc
same_last-same (Some a) None e = cc
same_last-same (Some a) (Some b) e = ap Some (eqb-true a b e)

pub repeat-test : (a b : ℕ) (c d : Option ℕ) (o : Option (List ℕ)) (body : List ℕ) → (a == b && same_last c d && is_body o body) ≡ true → (a ≡ b) × (c ≡ d) × (o ≡ Some body)
repeat-test a b c d o body e =
    let p = and_parts (a == b && same_last c d) (is_body o body) e in
    let q = and_parts (a == b) (same_last c d) p.0 in
    (eqb-true a b q.0, same_last-same c d q.1, is_body-same o body p.1)

same_last-equal : (a b : Option ℕ) → a ≡ b → same_last a b ≡ true
same_last-equal None None e = refl
same_last-equal None (Some b) e = cc
same_last-equal (Some a) None e = cc
same_last-equal (Some a) (Some b) e = eq-eqb a b cc

is_body-equal : (o : Option (List ℕ)) (body : List ℕ) → o ≡ Some body → is_body o body ≡ true
is_body-equal None body e = cc
is_body-equal (Some held) body e = (bytes_eq-Decides held body).1 cc

pub repeat-passes : (a b : ℕ) (c d : Option ℕ) (o : Option (List ℕ)) (body : List ℕ) → a ≡ b → c ≡ d → o ≡ Some body → (a == b && same_last c d && is_body o body) ≡ true
repeat-passes a b c d o body last told held =
    and_from (a == b && same_last c d) (is_body o body) (and_from (a == b) (same_last c d) (eq-eqb a b last) (same_last-equal c d told)) (is_body-equal o body held)

-- what a run holds, by what is kept of it
module _ (run : List Counted) (s : Counted) (kept : KeptRun) (stands : StandsForRun run kept) where
  pub held-in : s.version ≡ kept.version → kept.last ≡ s.last → last_in kept.lasts (segment_of s.number) ≡ segment_last_of s → body_in s.number kept.held ≡ Some s.body → IsHeldIn run s
  held-in version last told held = record {
    version = ap (option_map (λ (t : Counted). t.version)) some.1 ∙ ap Some (all-latest kept.version run some.0 stands.version some.1 ∙ sym version);
    last = ap (option_map (λ (t : Counted). t.last)) some.1 ∙ ap Some (sym (stands.last some.0 some.1) ∙ last);
    told = sym (stands.lasts (segment_of s.number)) ∙ told;
    body = sym (stands.held s.number) ∙ held;
  }
    where
      some : (t : Counted) × (latest_section run ≡ Some t)
      some = run-some run s.number s.body (sym (stands.held s.number) ∙ held)

  pub in-held : IsHeldIn run s → (s.version ≡ kept.version) × (kept.last ≡ s.last) × (last_in kept.lasts (segment_of s.number) ≡ segment_last_of s) × (body_in s.number kept.held ≡ Some s.body)
  in-held is = (
    sym (value some.0.version s.version (sym (ap (option_map (λ (t : Counted). t.version)) some.1) ∙ is.version)) ∙ all-latest kept.version run some.0 stands.version some.1,
    stands.last some.0 some.1 ∙ value some.0.last s.last (sym (ap (option_map (λ (t : Counted). t.last)) some.1) ∙ is.last),
    stands.lasts (segment_of s.number) ∙ is.told,
    stands.held s.number ∙ is.body,
  )
    where
      some : (t : Counted) × (latest_section run ≡ Some t)
      some = run-some run s.number s.body is.body

      value : (a b : ℕ) → Some a ≡ Some b → a ≡ b
      value a b e = cc

-- an empty run holds none
pub none-held : (s : Counted) → IsHeldIn [] s → Prim.⊥
none-held s is = let e : None ≡ Some s.version = is.version in let z : Prim.⊥ = cc in z
