-- What a run holds of sections of one content, and what steady sections hold.
use Rattle.std.proofs.Common.{◌≡◌, ◌≢◌, ℕ, ◌<◌, List, [], ◌∷◌, Bool, true, false, ◌==◌, Option, Some, None, map, refl, sym, ap, ap₂, ◌∙◌, subst, eqb-true}
use Rattle.std.specs.Prelude.{if◌then◌else◌, filter, filter_map, option_map, unwrap_or}
use Rattle.std.specs.List.{AllByRecursion, Contains, cons_option}
use Rattle.std.proofs.lemmas.List.Elements.{Contains-append_left, Contains-append_right, Contains-push}
use Rattle.si_lists.proofs.Lists.{all_map}
use Rattle.section_codec.specs.declared.table.Key.{Key}
use Rattle.section_codec.specs.declared.table.NumberedBody.{NumberedBody}
use Rattle.section_codec.specs.Contents.{part_in, Ascend, Content}
use Rattle.section_codec.proofs.ContentFacts.{own_parts}
use Rattle.section_codec.proofs.SameContent.{same_part}
use Rattle.sub_collect.specs.Runs.{Counted, latest_section, run_of, has_number, latest_with}
use Rattle.sub_collect.specs.Completions.{of_key, latest_done}
use Rattle.sub_collect.specs.Laws.{IsSectionOf}
use Rattle.sub_collect.specs.Marks.{Taken, run_over, latest_over, sections_taken}
use Rattle.sub_collect.specs.Parts.{known_at, numbered, part_with, held, part_of}
use Rattle.sub_collect.specs.declared.completed.Completed.{Completed}
use Rattle.sub_collect.proofs.Whole.{latest-of}
use Rattle.sub_collect.proofs.OneContent.{passes}
use Rattle.sub_collect.proofs.MarksShown.{none-latest}
use Rattle.air_model.specs.Air.{Aired}
use Rattle.air_laws.proofs.CoherenceTold.{Told, section_of, IsToldOf}
use Rattle.air_laws.proofs.Steady.{IsSteady, run_of_steady}
use Rattle.air_laws.proofs.Coherent.{IsOfLast}
use Rattle.loss_laws.specs.Aired.{AreSomeOf}
use Rattle.loss_laws.proofs.Known.{AllAbove, GoUp, known_up}

-- a body of a number is a section of the content
part_contained : (n : ℕ) (body : List ℕ) (ps : Content) → part_in n ps ≡ Some body → Contains ps (numbered n body)
part_contained n body [] e = cc
part_contained n body (p ∷ ps) e = go (n == p.number) refl e (part_contained n body ps)
  where
    own : NumberedBody
    own = numbered n body

    go : (b : Bool) → (n == p.number) ≡ b → (if b then Some p.body else part_in n ps) ≡ Some body → (part_in n ps ≡ Some body → Contains ps (numbered n body))
        → Contains (p ∷ ps) (numbered n body)
    go true f g rest =
        let bodies : body ≡ p.body = cc in
        let same : own ≡ p = same_part own p (eqb-true n p.number f) bodies in
        subst (λ (q : NumberedBody). Contains (q ∷ ps) own) same (Contains-append_left (own ∷ []) ps own (Contains-push [] own))
    go false f g rest = Contains-append_right (p ∷ []) ps own (rest g)

-- a content is some of itself
pub some_of_itself : (content : Content) → Ascend content → AreSomeOf content content
some_of_itself content up = record {
  each = all_map (λ (p : NumberedBody). part_in p.number content ≡ Some p.body) (Contains content) (λ p e. part_contained p.number p.body content e) content (own_parts content up);
  ascend = up;
}

-- ---- a run of sections of one content

ascend-first : (p : NumberedBody) (ps : Content) → AllByRecursion (λ (q : NumberedBody). p.number < q.number) ps → Ascend ps → Ascend (p ∷ ps)
ascend-first p [] above up = tt
ascend-first p (q ∷ ps) above up = (above.0, up)

module _ (k : Key) (content : Content) (run : List Counted) (all : AllByRecursion (IsSectionOf k content) run) where
  found : (n : ℕ) (s : Counted) → latest_with n run ≡ Some s → part_in n content ≡ Some s.body
  found n s e =
      let h = latest-of (λ (x : Counted). IsSectionOf k content x × (has_number n x ≡ true)) (filter (has_number n) run) s
      (passes (IsSectionOf k content) (has_number n) run all) e in
      ap (λ (m : ℕ). part_in m content) (sym (eqb-true s.number n h.1)) ∙ h.0.part

  held_each : (ns : List ℕ) → AllByRecursion (Contains content) (filter_map (part_with run) ns)
  held_each [] = tt
  held_each (n ∷ ns) = go (latest_with n run) refl (held_each ns)
    where
      go : (o : Option Counted) → latest_with n run ≡ o → AllByRecursion (Contains content) (filter_map (part_with run) ns)
          → AllByRecursion (Contains content) (cons_option (option_map (λ (s : Counted). numbered n s.body) o) (filter_map (part_with run) ns))
      go None e rest = rest
      go (Some s) e rest = (part_contained n s.body content (found n s e), rest)

held_above : (run : List Counted) (n : ℕ) (ns : List ℕ) → AllAbove n ns → AllByRecursion (λ (p : NumberedBody). n < p.number) (filter_map (part_with run) ns)
held_above run n [] above = tt
held_above run n (m ∷ ns) above = go (latest_with m run) (held_above run n ns above.1)
  where
    go : (o : Option Counted) → AllByRecursion (λ (p : NumberedBody). n < p.number) (filter_map (part_with run) ns)
        → AllByRecursion (λ (p : NumberedBody). n < p.number) (cons_option (option_map (λ (s : Counted). numbered m s.body) o) (filter_map (part_with run) ns))
    go None rest = rest
    go (Some s) rest = (above.0, rest)

held_up : (run : List Counted) (ns : List ℕ) → GoUp ns → Ascend (filter_map (part_with run) ns)
held_up run [] up = tt
held_up run (n ∷ ns) up = go (latest_with n run) (held_up run ns up.1)
  where
    go : (o : Option Counted) → Ascend (filter_map (part_with run) ns)
        → Ascend (cons_option (option_map (λ (s : Counted). numbered n s.body) o) (filter_map (part_with run) ns))
    go None rest = rest
    go (Some s) rest = ascend-first (numbered n s.body) (filter_map (part_with run) ns) (held_above run n ns up.0) rest

held_some : (k : Key) (content : Content) (run : List Counted) → AllByRecursion (IsSectionOf k content) run → AreSomeOf content (held run)
held_some k content run all = record {
  each = held_each k content run all (known_at run (latest_section run));
  ascend = held_up run (known_at run (latest_section run)) (known_up run (latest_section run));
}

-- ---- steady sections

-- some sections of the content of an airing that was heard
pub record IsHeldOf (k : Key) (low high : ℕ) (all : List Aired) (part : Content) : Type 0 where
  pub last : Told
  pub is : IsToldOf k low high all last
  pub some : AreSomeOf is.content part

module _ (k : Key) (low high : ℕ) (all : List Aired) where
  -- what their run holds is of the airing of the last
  pub held_of_run : (ts : List Told) → AllByRecursion (IsToldOf k low high all) ts → IsSteady k ts
      → held (run_of (map section_of ts)) ≢ [] → IsHeldOf k low high all (held (run_of (map section_of ts)))
  held_of_run [] each steady present = absurd (present refl)
  held_of_run (t ∷ ts) each steady present =
      let r = run_of_steady k low high all t ts each steady in
      record { last = r.last; is = r.is; some = held_some k r.is.content (run_of (map section_of (t ∷ ts))) r.run }

  -- and so is what they complete
  pub held_of_done : (d : Completed) → IsOfLast k low high all d → IsHeldOf k low high all d.sections
  held_of_done d l = record {
    last = l.last;
    is = l.is;
    some = subst (AreSomeOf l.is.content) (sym l.sections) (some_of_itself l.is.content l.is.numbered.ascending);
  }

-- ---- what is held of a key

-- it was completed, or its run holds it
pub part_either : (P : Content → Type 0) (k : Key) (past : List Taken) → ((d : Completed) → latest_over k past ≡ Some d → P d.sections)
    → (held (run_over k past) ≢ [] → P (held (run_over k past))) → part_of k past ≢ [] → P (part_of k past)
part_either P k past whole some present = go (latest_over k past) refl present
  where
    go : (o : Option Completed) → latest_over k past ≡ o
        → unwrap_or (option_map (λ (d : Completed). d.sections) o) (held (run_over k past)) ≢ []
        → P (unwrap_or (option_map (λ (d : Completed). d.sections) o) (held (run_over k past)))
    go None e h = some h
    go (Some d) e h = whole d e

-- of a key without a section nothing is held
pub none_held_of : (k : Key) (past : List Taken) → of_key k (sections_taken past) ≡ [] → part_of k past ≡ []
none_held_of k past none =
    let e = none-latest k past none in
    ap₂ (λ (o : Option Completed) (ss : List Counted). unwrap_or (option_map (λ (d : Completed). d.sections) o) (held (run_of ss))) e.1 e.0

pub latest_is : (P : Completed → Type 0) (ds : List Completed) (d : Completed) → AllByRecursion P ds → latest_done ds ≡ Some d → P d
latest_is P [] d all e = cc
latest_is P (x ∷ []) d all e = (let same : x ≡ d = cc in subst P same all.0)
latest_is P (x ∷ y ∷ ds) d all e = latest_is P (y ∷ ds) d all.1 e
