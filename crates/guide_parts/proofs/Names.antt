-- The tables that a receiver names were completed.
use Rattle.std.proofs.Common.{◌≡◌, List, [], ◌∷◌, Bool, true, false, ◌==◌, Option, Some, None, refl, sym, ap, ◌∙◌, subst, map, eqb-true}
use Rattle.std.specs.Prelude.{cond, filter, option_map, IsSome}
use Rattle.std.specs.Option.{option_or}
use Rattle.std.proofs.lemmas.Bool.{and_parts}
use Rattle.section_codec.specs.declared.table.Key.{Key}
use Rattle.section_codec.specs.KeyOrder.{is_key}
use Rattle.section_codec.proofs.KeyOrderFacts.{is_key-itself}
use Rattle.sub_collect.specs.Completions.{latest_done}
use Rattle.sub_collect.specs.Laws.{is_done_of}
use Rattle.sub_collect.specs.Marks.{Taken, dones_over, content_over}
use Rattle.sub_collect.specs.declared.completed.Completed.{Completed}
use Rattle.sub_collect.proofs.MarksShown.{latest_over_is_shown}
use Rattle.guide_screen.specs.View.{View, sdt_behind}
use Rattle.guide_receiver.specs.Latest.{last_of, keys_shown_over, is_pat_key, is_nit_key, is_sdt_key}
use Rattle.guide_receiver.specs.Guides.{view_after}
use Rattle.guide_parts.specs.HeardLaws.{NamedAreCompleted}

abbrev key_of : Completed → Key
key_of d = d.key

-- a key has a completion among these
abbrev IsDoneIn : List Completed → Key → Type 0
IsDoneIn ds k = IsSome (latest_done (filter (is_done_of k) ds))

some_done : (d : Completed) (ds : List Completed) → IsSome (latest_done (d ∷ ds))
some_done d [] = refl
some_done d (e ∷ ds) = some_done e ds

done_more : (k : Key) (d : Completed) (ds : List Completed) → IsDoneIn ds k → IsDoneIn (d ∷ ds) k
done_more k d ds some = go (is_done_of k d)
  where
    go : (b : Bool) → IsSome (latest_done (cond b (d ∷ filter (is_done_of k) ds) (filter (is_done_of k) ds)))
    go true = some_done d (filter (is_done_of k) ds)
    go false = some

done_first : (k : Key) (d : Completed) (ds : List Completed) → d.key ≡ k → IsDoneIn (d ∷ ds) k
done_first k d ds same =
    let own : is_done_of k d ≡ true = ap (λ (q : Key). is_key q k) same ∙ is_key-itself k in
    subst (λ (b : Bool). IsSome (latest_done (cond b (d ∷ filter (is_done_of k) ds) (filter (is_done_of k) ds)))) (sym own)
    (some_done d (filter (is_done_of k) ds))

-- the last key that passes a test is one of a completion
last_done : (test : Key → Bool) (ds : List Completed) (k : Key) → last_of (filter test (map key_of ds)) ≡ Some k
    → IsDoneIn ds k × (test k ≡ true)
last_done test [] k e = cc
last_done test (d ∷ ds) k e = go (test d.key) refl (last_of (filter test (map key_of ds))) refl e (λ q f. last_done test ds q f)
  where
    go : (b : Bool) → test d.key ≡ b → (o : Option Key) → last_of (filter test (map key_of ds)) ≡ o
        → last_of (cond b (d.key ∷ filter test (map key_of ds)) (filter test (map key_of ds))) ≡ Some k
        → ((q : Key) → last_of (filter test (map key_of ds)) ≡ Some q → IsDoneIn ds q × (test q ≡ true))
        → IsDoneIn (d ∷ ds) k × (test k ≡ true)
    go false f o g h rest = (let r = rest k h in (done_more k d ds r.0, r.1))
    go true f None g h rest =
        let own : Some d.key ≡ Some k = sym (ap (λ (o : Option Key). option_or o (Some d.key)) g) ∙ h in
        let same : d.key ≡ k = cc in
        (done_first k d ds same, ap test (sym same) ∙ f)
    go true f (Some q) g h rest =
        let own : Some q ≡ Some k = sym (ap (λ (o : Option Key). option_or o (Some d.key)) g) ∙ h in
        let r = rest k (g ∙ own) in
        (done_more k d ds r.0, r.1)

-- so it has a content
last_completed : (test : Key → Bool) (taken : List Taken) (k : Key) → last_of (filter test (keys_shown_over taken)) ≡ Some k
    → IsSome (content_over taken k) × (test k ≡ true)
last_completed test taken k e =
    let r = last_done test (dones_over [] taken) k e in
    (content r.0, r.1)
  where
    with_content : (o : Option Completed) → IsSome o → IsSome (option_map (λ (d : Completed). d.sections) o)
    with_content None some = some
    with_content (Some d) some = refl

    content : IsDoneIn (dones_over [] taken) k → IsSome (content_over taken k)
    content some =
        subst (λ (p : Option Completed). IsSome (option_map (λ (d : Completed). d.sections) p)) (sym (latest_over_is_shown k taken))
        (with_content (latest_done (filter (is_done_of k) (dones_over [] taken))) some)

-- the SDT that is named is that of the PAT's stream
behind_pat : (V : View) (o : Option Key) (sdt : Key) → sdt_behind V o ≡ Some sdt → (pat : Key) × (V.sdt pat.ext ≡ Some sdt)
behind_pat V None sdt e = cc
behind_pat V (Some pat) sdt e = (pat, e)

pub named_completed : NamedAreCompleted
named_completed earlier packets taken = record {
  pat = λ k e. (last_completed is_pat_key taken k e).0;
  nit = λ k e. (last_completed is_nit_key taken k e).0;
  sdt = λ k e. let at = behind_pat V V.pat k e in (last_completed (is_sdt_key at.0.ext) taken k at.1).0;
  stream = λ pat sdt e f.
      let at : V.sdt pat.ext ≡ Some sdt = sym (ap (sdt_behind V) e) ∙ f in
      let is = (last_completed (is_sdt_key pat.ext) taken sdt at).1 in
      eqb-true sdt.ext pat.ext (and_parts (sdt.table == 0x42) (sdt.ext == pat.ext) is).1;
}
  where
    V : View
    V = view_after earlier packets taken
