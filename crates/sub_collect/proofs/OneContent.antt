-- What a run of sections of one content completes.
use Rattle.std.proofs.Common.{◌≡◌, ℕ, List, [], ◌∷◌, Bool, true, false, refl, sym, ap, ◌∙◌, eqb-true}
use Rattle.std.specs.Prelude.{cond, filter, Option, Some, None, is_some}
use Rattle.std.specs.List.{AllByRecursion}
use Rattle.section_codec.specs.declared.table.Key.{Key}
use Rattle.section_codec.specs.declared.table.NumberedBody.{NumberedBody}
use Rattle.section_codec.specs.Contents.{numbers, part_in, Content}
use Rattle.section_codec.proofs.ContentFacts.{own_parts}
use Rattle.sub_collect.specs.Runs.{Counted, has_number, latest_with, run_of, needed, with_part, gathered, gathered_at, whole}
use Rattle.sub_collect.specs.Collectors.{body_of}
use Rattle.sub_collect.specs.Laws.{IsSectionOf, HoldAll, IsNumbered, RunCompletesNoOther, RunCompletes}
use Rattle.section_codec.proofs.SameContent.{same_part}
use Rattle.sub_collect.proofs.Whole.{gathers, latest-of}

pub passes : (P : Counted → Type 0) (test : Counted → Bool) (ss : List Counted) → AllByRecursion P ss → AllByRecursion (λ (s : Counted). P s × (test s ≡ true)) (filter test ss)
passes P test [] all = tt
passes P test (s ∷ ss) all = go (test s) refl (passes P test ss all.1)
  where
    go : (b : Bool) → test s ≡ b → AllByRecursion (λ (x : Counted). P x × (test x ≡ true)) (filter test ss) → AllByRecursion (λ (x : Counted). P x × (test x ≡ true)) (cond b (s ∷ filter test ss) (filter test ss))
    go true e rest = ((all.0, e), rest)
    go false e rest = rest

module _ (k : Key) (content : Content) (numbered : IsNumbered k content) (run : List Counted) (all : AllByRecursion (IsSectionOf k content) run) where
  abbrev AreParts : Content → Type 0
  AreParts ps = AllByRecursion (λ (p : NumberedBody). part_in p.number content ≡ Some p.body) ps

  -- what is held is of the content
  found : (n : ℕ) (s : Counted) → latest_with n run ≡ Some s → part_in n content ≡ Some s.body
  found n s e =
      let h = latest-of (λ (x : Counted). IsSectionOf k content x × (has_number n x ≡ true)) (filter (has_number n) run) s (passes (IsSectionOf k content) (has_number n) run all) e in
      ap (λ (j : ℕ). part_in j content) (sym (eqb-true s.number n h.1)) ∙ h.0.part

  no-other : (ps : Content) → AreParts ps → (d : Content) → gathered run (numbers ps) ≡ Some d → d ≡ ps
  no-other [] parts d e = cc
  no-other (p ∷ ps) parts d e = go (latest_with p.number run) refl (gathered run (numbers ps)) refl (λ qs f. no-other ps parts.1 qs f) e
    where
      go : (o : Option Counted) → latest_with p.number run ≡ o → (r : Option Content) → gathered run (numbers ps) ≡ r
          → ((qs : Content) → gathered run (numbers ps) ≡ Some qs → qs ≡ ps) → with_part p.number o r ≡ Some d → d ≡ p ∷ ps
      go None f r g rec h = cc
      go (Some s) f None g rec h = cc
      go (Some s) f (Some qs) g rec h =
          let part : NumberedBody = record { number = p.number; body = s.body } in
          let w : part ∷ qs ≡ d = cc in
          let b : Some p.body ≡ Some s.body = sym parts.0 ∙ found p.number s f in
          let same : p.body ≡ s.body = cc in
          sym w ∙ ap (λ (x : NumberedBody). x ∷ qs) (same_part part p refl (sym same)) ∙ ap (λ (l : Content). p ∷ l) (rec qs g)

  pub run-no-other : (d : Content) → whole run ≡ Some d → d ≡ content
  run-no-other d e = go (needed run) refl
    where
      go : (o : Option (List ℕ)) → needed run ≡ o → d ≡ content
      go None f =
          let none : None ≡ Some d = ap (gathered_at run) (sym f) ∙ e in
          absurd (let z : Prim.⊥ = cc in z)
      go (Some ns) f = no-other content (own_parts content numbered.ascending) d (ap (gathered run) (sym (numbered.no_other run ns all f)) ∙ ap (gathered_at run) (sym f) ∙ e)

  held-bodies : (ps : Content) → AreParts ps → HoldAll ps run → AllByRecursion (λ (p : NumberedBody). body_of (latest_with p.number run) ≡ Some p.body) ps
  held-bodies [] parts holds = tt
  held-bodies (p ∷ ps) parts holds = (go (latest_with p.number run) refl, held-bodies ps parts.1 holds.1)
    where
      go : (o : Option Counted) → latest_with p.number run ≡ o → body_of (latest_with p.number run) ≡ Some p.body
      go None f =
          let none : false ≡ true = ap is_some (sym f) ∙ holds.0 in
          absurd (let z : Prim.⊥ = cc in z)
      go (Some s) f = ap body_of f ∙ sym (found p.number s f) ∙ parts.0

  pub run-completes : HoldAll content run → whole run ≡ Some content
  run-completes holds = go (needed run) refl
    where
      go : (o : Option (List ℕ)) → needed run ≡ o → whole run ≡ Some content
      go None f =
          let none : false ≡ true = ap is_some (sym f) ∙ numbered.known run all holds in
          absurd (let z : Prim.⊥ = cc in z)
      go (Some ns) f =
          ap (gathered_at run) f ∙ ap (gathered run) (numbered.no_other run ns all f)
          ∙ gathers run content (held-bodies content (own_parts content numbered.ascending) holds)

pub completes-no-other : RunCompletesNoOther
completes-no-other k content numbered heard all d e = run-no-other k content numbered (run_of heard) all d e

pub completes : RunCompletes
completes k content numbered heard all holds = run-completes k content numbered (run_of heard) all holds
