-- Further descriptors of records that were taken.
use Rattle.std.proofs.Common.{◌≡◌, ℕ, ◌==◌, Bool, true, false, cond, List, [], ◌∷◌, ◌++◌, Option, Some, None, refl, sym, ap, ◌∙◌, subst, arith, inl, inr, append-nil}
use Rattle.std.specs.Prelude.{◌&&◌, not}
use Rattle.std.specs.Option.{is_some}
use Rattle.std.specs.List.{AllByRecursion, list_any}
use Rattle.std.proofs.lemmas.Bool.{cases_Bool, eqb-true, false≢true}
use Rattle.std.proofs.lemmas.Bool.Decides.{nat_tests}
use Rattle.std.proofs.lemmas.List.Concat.{flat_map-append}
use Rattle.std.proofs.lemmas.List.Folds.{list_any-append}
use Rattle.si_lists.proofs.Lists.{all_append, all_map, all_push, all_two}
use Rattle.si_lists.proofs.Truths.{first_true, second_true}
use Rattle.guide_model.specs.declared.descriptor.RawDesc.{RawDesc}
use Rattle.guide_model.specs.declared.stream.Component.{Component}
use Rattle.guide_model.specs.Descriptors.{AreSoundDescriptors, IsSoundDescriptor}
use Rattle.mux_model.specs.Rooms.{made_of_component}
use Rattle.mux_lines.specs.Further.{made_in}
use Rattle.mux_lines.specs.declared.record.Place.{Place}
use Rattle.mux_lines.specs.declared.record.Place.TheVariants.{InNetwork, InStream, InOther, InService, InProgram, InComponent}
use Rattle.mux_lines.specs.declared.record.Record.{Record}
use Rattle.mux_lines.specs.declared.record.Record.TheVariants.{Part, Further}
use Rattle.mux_lines.specs.declared.record.Numbered.{Numbered}
use Rattle.mux_lines.specs.Fine.{IsFine}
use Rattle.mux_config.specs.Descriptions.{descriptors_at, first_line, has_no_place, has_part, holds, is_language_descriptor, is_same, is_spoken, numbered, part_in, repeated_at, said_at}
use Rattle.mux_config.proofs.FineRecords.{AreFineFurther, IsSpoken, parts_in}
use Rattle.mux_config.proofs.RecordFacts.{all_kept, first_not, none_pass, or_false_left, or_false_right, said_all}
use Rattle.mux_config.proofs.PartFacts.{parts_with, said_here}

-- ---- one record more

more_at : (place : Place) (rs : List Numbered) (line : ℕ) (says : Record) → descriptors_at place (rs ++ numbered line says ∷ []) ≡ descriptors_at place rs ++ said_at place says
more_at place rs line says =
    flat_map-append (λ (r : Numbered). said_at place r.says) rs (numbered line says ∷ [])
    ∙ ap (λ (ds : List RawDesc). descriptors_at place rs ++ ds) (append-nil (said_at place says))

kept_at : (place : Place) (rs : List Numbered) (line : ℕ) (says : Record) → said_at place says ≡ [] → descriptors_at place (rs ++ numbered line says ∷ []) ≡ descriptors_at place rs
kept_at place rs line says none =
    more_at place rs line says ∙ ap (λ (ds : List RawDesc). descriptors_at place rs ++ ds) none ∙ append-nil (descriptors_at place rs)

-- ---- components that are not there

-- a place that was found is one of those that were looked for
there : (rs : List Numbered) (a b id pid : ℕ) (ds : List RawDesc) → not (list_any (λ (r : Numbered). has_part a b r.says) rs) ≡ false → list_any (λ (r : Numbered). has_part id pid r.says) rs ≡ false
    → said_at (InComponent id pid) (Further (InComponent a b) ds) ≡ []
there rs a b id pid ds place none = elim (cases_Bool (a == id && b == pid)) [
  | inl same ↦
      let one = eqb-true a id (first_true (a == id) (b == pid) same) in
      let two = eqb-true b pid (second_true (a == id) (b == pid) same) in
      let held : not (list_any (λ (r : Numbered). has_part id pid r.says) rs) ≡ false = rw (one, two) at place in
      absurd (false≢true (sym (rw none at held)))
  | inr other ↦ rw other refl
]

homeless_said : (rs : List Numbered) (says : Record) (id pid : ℕ) → has_no_place rs says ≡ false → list_any (λ (r : Numbered). has_part id pid r.says) rs ≡ false → said_at (InComponent id pid) says ≡ []
homeless_said rs (Further (InComponent a b) ds) id pid place none = there rs a b id pid ds place none
homeless_said rs other id pid place none = refl

homeless_more : (rs : List Numbered) (line : ℕ) (says : Record) → AreFineFurther rs → has_no_place rs says ≡ false → (id pid : ℕ)
    → list_any (λ (r : Numbered). has_part id pid r.says) (rs ++ numbered line says ∷ []) ≡ false → descriptors_at (InComponent id pid) (rs ++ numbered line says ∷ []) ≡ []
homeless_more rs line says f place id pid none =
    let before = or_false_left (list_any (λ (r : Numbered). has_part id pid r.says) rs) _ (sym (list_any-append (λ (r : Numbered). has_part id pid r.says) rs (numbered line says ∷ [])) ∙ none) in
    kept_at (InComponent id pid) rs line says (homeless_said rs says id pid place before) ∙ f.homeless id pid before

-- no component is held, so none is there
held_part : (id pid : ℕ) (r : Record) → holds id pid r ≡ false → has_part id pid r ≡ false
held_part id pid (Part home c) e = e
held_part id pid other e = refl

no_part : (id pid : ℕ) (rs : List Numbered) → first_line (holds id pid) rs ≡ None → list_any (λ (r : Numbered). has_part id pid r.says) rs ≡ false
no_part id pid [] e = refl
no_part id pid (r ∷ rs) e =
    let (a, b) = first_not (holds id pid) r rs e in
    rw (held_part id pid r.says a) (no_part id pid rs b)

-- ---- languages of components

spoken_kept : (rs : List Numbered) (line : ℕ) (says : Record) (id : ℕ) (cs : List Component) → ((pid : ℕ) → said_at (InComponent id pid) says ≡ []) → AllByRecursion (IsSpoken rs id) cs
    → AllByRecursion (IsSpoken (rs ++ numbered line says ∷ []) id) cs
spoken_kept rs line says id cs none h =
    all_map (IsSpoken rs id) (IsSpoken (rs ++ numbered line says ∷ []) id)
    (λ c sound. subst (AreSoundDescriptors (made_of_component c.language)) (sym (kept_at (InComponent id c.pid) rs line says (none c.pid))) sound) cs h

-- a first component has no further descriptors yet
spoken_part : (rs : List Numbered) (line home : ℕ) (c : Component) → AreFineFurther rs → repeated_at rs (Part home c) ≡ None → (id : ℕ) → AllByRecursion (IsSpoken (rs ++ numbered line (Part home c) ∷ []) id) (parts_in id (rs ++ numbered line (Part home c) ∷ []))
spoken_part rs line home c f once id =
    let all = spoken_kept rs line (Part home c) id (parts_in id rs) (λ pid. refl) (f.spoken id) in
    parts_with (AllByRecursion (IsSpoken (rs ++ numbered line (Part home c) ∷ []) id)) rs line home c id
    (λ same.
    let none = f.homeless id c.pid (no_part id c.pid rs (subst (λ (k : ℕ). first_line (holds k c.pid) rs ≡ None) same once)) in
    let here : descriptors_at (InComponent id c.pid) (rs ++ numbered line (Part home c) ∷ []) ≡ [] = kept_at (InComponent id c.pid) rs line (Part home c) refl ∙ none in
    all_push (IsSpoken (rs ++ numbered line (Part home c) ∷ []) id) (parts_in id rs) c all (subst (AreSoundDescriptors (made_of_component c.language)) (sym here) tt)) all

-- descriptors of a component without a language, and those that are no language
of_silent : (language : Option (List ℕ)) (ds : List RawDesc) → is_some language ≡ false → AreSoundDescriptors [] ds → AreSoundDescriptors (made_of_component language) ds
of_silent None ds e h = h
of_silent (Some letters) ds e h = cc e

no_language : (language : Option (List ℕ)) (d : RawDesc) → is_language_descriptor d ≡ false → IsSoundDescriptor [] d → IsSoundDescriptor (made_of_component language) d
no_language None d e h = h
no_language (Some letters) d e h = record { tag = h.tag; free = rw (turned d.tag e) refl; body = h.body }
  where
    turned : (tag : ℕ) → (tag == 0x0A) ≡ false → (0x0A == tag) ≡ false
    turned tag e = grind (arith, nat_tests)

of_spoken : (language : Option (List ℕ)) (ds : List RawDesc) → list_any is_language_descriptor ds ≡ false → AreSoundDescriptors [] ds → AreSoundDescriptors (made_of_component language) ds
of_spoken language [] e h = tt
of_spoken language (d ∷ ds) e h =
    let one = or_false_left (is_language_descriptor d) (list_any is_language_descriptor ds) e in
    let rest = or_false_right (is_language_descriptor d) (list_any is_language_descriptor ds) e in
    (no_language language d one h.0, of_spoken language ds rest h.1)

-- each component with the PID takes them
abbrev Takes : List RawDesc → ℕ → Component → Type 0
Takes ds pid c = (pid == c.pid) ≡ true → AreSoundDescriptors (made_of_component c.language) ds

silent_said : (id pid : ℕ) (ds : List RawDesc) → AreSoundDescriptors [] ds → (r : Record) (c : Component) → is_spoken id pid r ≡ false → part_in id r ≡ Some c → Takes ds pid c
silent_said id pid ds sound (Part home d) c h e = elim (cases_Bool (home == id)) [
  | inl here ↦ said_here (Takes ds pid) (home == id) d c (λ is. of_silent d.language ds (silent home id d.pid pid (is_some d.language) here is h) sound) e
  | inr there ↦ cc (rw there at e)
]
  where
    silent : (home id here pid : ℕ) (spoken : Bool) → (home == id) ≡ true → (pid == here) ≡ true → (home == id && (here == pid && spoken)) ≡ false → spoken ≡ false
    silent home id here pid spoken a b h = (let turned : (here == pid) ≡ true = grind (arith, nat_tests) in (rw (a, turned) at h))
silent_said id pid ds sound other c h e = cc e

takers : (rs : List Numbered) (id pid : ℕ) (ds : List RawDesc) → AreSoundDescriptors [] ds → repeated_at rs (Further (InComponent id pid) ds) ≡ None → AllByRecursion (Takes ds pid) (parts_in id rs)
takers rs id pid ds sound once = elim (cases_Bool (list_any is_language_descriptor ds)) [
  | inl some ↦
      let none : first_line (is_spoken id pid) rs ≡ None = rw some at once in
      said_all (part_in id) (Takes ds pid) (λ r. is_spoken id pid r ≡ false) (silent_said id pid ds sound) rs (none_pass (is_spoken id pid) rs none)
  | inr none ↦ every (parts_in id rs) none
]
  where
    every : (cs : List Component) → list_any is_language_descriptor ds ≡ false → AllByRecursion (Takes ds pid) cs
    every [] none = tt
    every (c ∷ cs) none = ((λ is. of_spoken c.language ds none sound), every cs none)

spoken_more : (rs : List Numbered) (line a b : ℕ) (ds : List RawDesc) → AreFineFurther rs → AreSoundDescriptors [] ds → repeated_at rs (Further (InComponent a b) ds) ≡ None → (id : ℕ)
    → AllByRecursion (IsSpoken (rs ++ numbered line (Further (InComponent a b) ds) ∷ []) id) (parts_in id rs)
spoken_more rs line a b ds f sound once id = elim (cases_Bool (a == id)) [
  | inl here ↦
      all_two (IsSpoken rs id) (Takes ds b) (IsSpoken (rs ++ numbered line (Further (InComponent a b) ds) ∷ []) id)
      (λ c was takes. subst (AreSoundDescriptors (made_of_component c.language)) (sym (more_at (InComponent id c.pid) rs line (Further (InComponent a b) ds))) (joined (a == id) here c was takes)) (parts_in id rs) (f.spoken id)
      (subst (λ (k : ℕ). AllByRecursion (Takes ds b) (parts_in k rs)) (eqb-true a id here) (takers rs a b ds sound once))
  | inr away ↦ spoken_kept rs line (Further (InComponent a b) ds) id (parts_in id rs) (λ pid. rw away refl) (f.spoken id)
]
  where
    joined : (home : Bool) → home ≡ true → (c : Component) → IsSpoken rs id c → Takes ds b c → AreSoundDescriptors (made_of_component c.language) (descriptors_at (InComponent id c.pid) rs ++ cond (home && b == c.pid) ds [])
    joined home e c was takes = elim (cases_Bool (b == c.pid)) [
      | inl is ↦ rw (e, is) (all_append (IsSoundDescriptor (made_of_component c.language)) (descriptors_at (InComponent id c.pid) rs) ds was (takes is))
      | inr other ↦ rw (e, other) (all_append (IsSoundDescriptor (made_of_component c.language)) (descriptors_at (InComponent id c.pid) rs) [] was tt)
    ]

spoken_with : (rs : List Numbered) (line : ℕ) (says : Record) → AreFineFurther rs → IsFine says → repeated_at rs says ≡ None → (id : ℕ) → AllByRecursion (IsSpoken (rs ++ numbered line says ∷ []) id) (parts_in id (rs ++ numbered line says ∷ []))
spoken_with rs line (Part home c) f fine once id = spoken_part rs line home c f once id
spoken_with rs line (Further (InComponent a b) ds) f fine once id = rw (all_kept (part_in id) rs (numbered line (Further (InComponent a b) ds)) refl) (spoken_more rs line a b ds f fine once id)
spoken_with rs line other f fine once id = rw (all_kept (part_in id) rs (numbered line other) refl) (spoken_kept rs line other id (parts_in id rs) (λ pid. refl) (f.spoken id))

pub further_none : AreFineFurther []
further_none = record { homeless = λ id pid e. refl; spoken = λ id. tt }

pub further_more : (rs : List Numbered) (line : ℕ) (says : Record) → AreFineFurther rs → IsFine says → has_no_place rs says ≡ false → repeated_at rs says ≡ None → AreFineFurther (rs ++ numbered line says ∷ [])
further_more rs line says f fine place once = record { homeless = homeless_more rs line says f place; spoken = spoken_with rs line says f fine once }

-- ---- what a place has

same_made : (a b : Place) → is_same a b ≡ true → made_in a ≡ made_in b
same_made InNetwork InNetwork e = refl
same_made InStream InStream e = refl
same_made (InOther i p) (InOther j q) e = refl
same_made (InService i) (InService j) e = refl
same_made (InProgram i) (InProgram j) e = refl
same_made (InComponent i p) (InComponent j q) e = refl
same_made a b e = cc e

sound_said : (place : Place) (says : Record) → IsFine says → AreSoundDescriptors (made_in place) (said_at place says)
sound_said place (Further at ds) fine = elim (cases_Bool (is_same at place)) [
  | inl same ↦ rw same (subst (λ (made : List ℕ). AreSoundDescriptors made ds) (same_made at place same) fine)
  | inr other ↦ rw other tt
]
sound_said place other fine = tt

pub sound_at : (place : Place) (rs : List Numbered) → AllByRecursion (λ (r : Numbered). IsFine r.says) rs → AreSoundDescriptors (made_in place) (descriptors_at place rs)
sound_at place [] h = tt
sound_at place (r ∷ rs) h = all_append (IsSoundDescriptor (made_in place)) (said_at place r.says) (descriptors_at place rs) (sound_said place r.says h.0) (sound_at place rs h.1)
