-- How much records take of the room in a section, and how much of it the multiplex has.
use Rattle.std.proofs.Common.{◌≡◌, ◌≢◌, ℕ, ◌+◌, ◌*◌, ◌≤◌, ◌==◌, Bool, true, false, cond, List, [], ◌∷◌, ◌++◌, length, map, sum_by, Option, Some, None, refl, sym, ◌∙◌, subst, arith, inl, inr, lit≤}
use Rattle.std.specs.Prelude.{◌&&◌, nat_lt, IfSome}
use Rattle.std.specs.List.{AllByRecursion, cons_option, list_any}
use Rattle.std.proofs.lemmas.Bool.{cases_Bool, eqb-true}
use Rattle.std.proofs.lemmas.Bool.Decides.{nat_tests}
use Rattle.std.proofs.lemmas.List.{length-map}
use Rattle.std.proofs.lemmas.List.Sums.{sum_by-append, sum_by-cons, sum_by_push}
use Rattle.si_lists.proofs.Lists.{all_map, all_push, all_two}
use Rattle.si_lists.proofs.Truths.{first_true, second_true}
use Rattle.guide_model.specs.Coding.{coded_size}
use Rattle.guide_model.specs.Descriptors.{descriptors_size}
use Rattle.guide_model.specs.declared.descriptor.RawDesc.{RawDesc}
use Rattle.guide_model.specs.declared.stream.Component.{Component}
use Rattle.mux_model.specs.declared.mux.MuxService.{MuxService}
use Rattle.mux_model.specs.declared.mux.Other.{Other}
use Rattle.mux_model.specs.Order.{all_placed}
use Rattle.mux_model.proofs.Placing.{length_placed}
use Rattle.mux_model.specs.Rooms.{cable_size, component_size, language_size, other_size, program_size}
use Rattle.mux_model.specs.Sound.{AreDifferent, has_lower_id}
use Rattle.mux_lines.specs.declared.record.Place.TheVariants.{InNetwork, InStream, InOther, InService, InProgram, InComponent}
use Rattle.mux_lines.specs.declared.record.Record.{Record}
use Rattle.mux_lines.specs.declared.record.Record.TheVariants.{Network, Delivery, Part, Elsewhere, Remote, Further}
use Rattle.mux_lines.specs.declared.record.Numbered.{Numbered}
use Rattle.mux_config.specs.Descriptions.{all_of, delivery_in, descriptors_at, first, is_delivery, is_network, network_in, numbered, other_in, part_in, remote_of, said, said_at, service_in, with_descriptors, with_own, with_parts, with_remotes}
use Rattle.mux_config.specs.Taken.{is_full, other_bytes, other_taken, own_bytes, own_taken, passes_each, passes_of, passes_other, passes_own, program_bytes, program_taken, service_bytes, service_taken, sum_of}
use Rattle.mux_config.proofs.FineRecords.{AreInRooms, HasOtherRoom, parts_in}
use Rattle.mux_config.proofs.RecordFacts.{or_false_left, or_false_right, said_all}

-- ---- one record more

sum_more : (f : Record → ℕ) (rs : List Numbered) (line : ℕ) (says : Record) → sum_of f (rs ++ numbered line says ∷ []) ≡ sum_of f rs + f says
sum_more f rs line says = sum_by_push (λ (r : Numbered). f r.says) rs (numbered line says)

not_past : (most n : ℕ) → nat_lt most n ≡ false → n ≤ most
not_past most n e = grind (arith, nat_tests)

own_with : (rs : List Numbered) (line : ℕ) (says : Record) → passes_own rs says ≡ false → own_taken (rs ++ numbered line says ∷ []) ≤ 1012
own_with rs line says room = omega (arith, not_past 1012 (own_taken rs + own_bytes says) room, sum_more own_bytes rs line says)

own_kept : (rs : List Numbered) (line : ℕ) (says : Record) → own_taken rs ≤ 1012 → own_bytes says ≡ 0 → own_taken (rs ++ numbered line says ∷ []) ≤ 1012
own_kept rs line says few none = omega (arith, few, none, sum_more own_bytes rs line says)

own_more : (rs : List Numbered) (line : ℕ) (says : Record) → own_taken rs ≤ 1012 → is_full rs says ≡ false → own_taken (rs ++ numbered line says ∷ []) ≤ 1012
own_more rs line (Network id name) few room = own_with rs line (Network id name) (or_false_left (passes_own rs (Network id name)) _ room)
own_more rs line (Part id c) few room = own_kept rs line (Part id c) few refl
own_more rs line (Elsewhere s o cable) few room = own_kept rs line (Elsewhere s o cable) few refl
own_more rs line (Remote s o service) few room = own_kept rs line (Remote s o service) few refl
own_more rs line (Further InNetwork ds) few room = own_with rs line (Further InNetwork ds) (or_false_left (passes_own rs (Further InNetwork ds)) _ room)
own_more rs line (Further InStream ds) few room = own_with rs line (Further InStream ds) room
own_more rs line (Further place ds) few room = own_kept rs line (Further place ds) few refl
own_more rs line other few room = own_with rs line other room

-- ---- sections of the NIT with the entry of another stream

other_with : (rs : List Numbered) (line : ℕ) (says : Record) (s o : ℕ) → passes_other s o rs says ≡ false → other_taken s o (rs ++ numbered line says ∷ []) ≤ 1012
other_with rs line says s o room = omega (arith, not_past 1012 (other_taken s o rs + other_bytes s o says) room, sum_more (other_bytes s o) rs line says)

other_kept : (rs : List Numbered) (line : ℕ) (says : Record) (s o : ℕ) → other_taken s o rs ≤ 1012 → other_bytes s o says ≡ 0 → other_taken s o (rs ++ numbered line says ∷ []) ≤ 1012
other_kept rs line says s o few none = omega (arith, few, none, sum_more (other_bytes s o) rs line says)

-- that of the record's own stream, and that of another one
own_or_other : (rs : List Numbered) (line : ℕ) (says : Record) (a b s o : ℕ) → other_taken s o rs ≤ 1012 → passes_other a b rs says ≡ false → ((a == s && b == o) ≡ false → other_bytes s o says ≡ 0)
    → other_taken s o (rs ++ numbered line says ∷ []) ≤ 1012
own_or_other rs line says a b s o few room none = elim (cases_Bool (a == s && b == o)) [
  | inl own ↦
      let one = eqb-true a s (first_true (a == s) (b == o) own) in
      let two = eqb-true b o (second_true (a == s) (b == o) own) in
      subst (λ (k : ℕ). other_taken k o (rs ++ numbered line says ∷ []) ≤ 1012) one
      (subst (λ (k : ℕ). other_taken a k (rs ++ numbered line says ∷ []) ≤ 1012) two (other_with rs line says a b room))
  | inr other ↦ other_kept rs line says s o few (none other)
]

-- what an earlier record keeps, and what it was tried for
room_kept : (rs : List Numbered) (line : ℕ) (says : Record) → ((s o : ℕ) → other_taken s o rs ≤ 1012 → other_taken s o (rs ++ numbered line says ∷ []) ≤ 1012) → (earlier : Record)
    → HasOtherRoom rs earlier → HasOtherRoom (rs ++ numbered line says ∷ []) earlier
room_kept rs line says f (Elsewhere s o cable) h = f s o h
room_kept rs line says f other h = tt

room_tried : (rs : List Numbered) (line : ℕ) (says earlier : Record) → passes_of rs says earlier ≡ false → HasOtherRoom (rs ++ numbered line says ∷ []) earlier
room_tried rs line says (Elsewhere s o cable) room = other_with rs line says s o room
room_tried rs line says other room = tt

all_kept_rooms : (rs : List Numbered) (line : ℕ) (says : Record) → AllByRecursion (λ (r : Numbered). HasOtherRoom rs r.says) rs
    → ((s o : ℕ) → other_taken s o rs ≤ 1012 → other_taken s o (rs ++ numbered line says ∷ []) ≤ 1012) → AllByRecursion (λ (r : Numbered). HasOtherRoom (rs ++ numbered line says ∷ []) r.says) rs
all_kept_rooms rs line says h f =
    all_map (λ (r : Numbered). HasOtherRoom rs r.says) (λ (r : Numbered). HasOtherRoom (rs ++ numbered line says ∷ []) r.says) (λ r. room_kept rs line says f r.says) rs h

none_any : (test : Numbered → Bool) (rs : List Numbered) → list_any test rs ≡ false → AllByRecursion (λ (r : Numbered). test r ≡ false) rs
none_any test [] e = tt
none_any test (r ∷ rs) e = (or_false_left (test r) (list_any test rs) e, none_any test rs (or_false_right (test r) (list_any test rs) e))

all_tried : (rs : List Numbered) (line : ℕ) (says : Record) → passes_each rs says ≡ false → AllByRecursion (λ (r : Numbered). HasOtherRoom (rs ++ numbered line says ∷ []) r.says) rs
all_tried rs line says room =
    all_map (λ (r : Numbered). passes_of rs says r.says ≡ false) (λ (r : Numbered). HasOtherRoom (rs ++ numbered line says ∷ []) r.says) (λ r. room_tried rs line says r.says) rs
    (none_any (λ (r : Numbered). passes_of rs says r.says) rs (or_false_right (passes_own rs says) (list_any (λ (r : Numbered). passes_of rs says r.says) rs) room))

earlier_rooms : (rs : List Numbered) (line : ℕ) (says : Record) → AllByRecursion (λ (r : Numbered). HasOtherRoom rs r.says) rs → is_full rs says ≡ false
    → AllByRecursion (λ (r : Numbered). HasOtherRoom (rs ++ numbered line says ∷ []) r.says) rs
earlier_rooms rs line (Network id name) h room = all_tried rs line (Network id name) room
earlier_rooms rs line (Further InNetwork ds) h room = all_tried rs line (Further InNetwork ds) room
earlier_rooms rs line (Elsewhere a b cable) h room =
    all_kept_rooms rs line (Elsewhere a b cable) h (λ s o few. own_or_other rs line (Elsewhere a b cable) a b s o few room (λ other. rw other refl))
earlier_rooms rs line (Remote a b service) h room =
    all_kept_rooms rs line (Remote a b service) h (λ s o few. own_or_other rs line (Remote a b service) a b s o few room (λ other. rw other refl))
earlier_rooms rs line (Further (InOther a b) ds) h room =
    all_kept_rooms rs line (Further (InOther a b) ds) h (λ s o few. own_or_other rs line (Further (InOther a b) ds) a b s o few room (λ other. rw other refl))
earlier_rooms rs line (Further place ds) h room = all_kept_rooms rs line (Further place ds) h (λ s o few. other_kept rs line (Further place ds) s o few refl)
earlier_rooms rs line other h room = all_kept_rooms rs line other h (λ s o few. other_kept rs line other s o few refl)

own_room : (rs : List Numbered) (line : ℕ) (says : Record) → is_full rs says ≡ false → HasOtherRoom (rs ++ numbered line says ∷ []) says
own_room rs line (Elsewhere s o cable) room = other_with rs line (Elsewhere s o cable) s o room
own_room rs line other room = tt

others_more : (rs : List Numbered) (line : ℕ) (says : Record) → AllByRecursion (λ (r : Numbered). HasOtherRoom rs r.says) rs → is_full rs says ≡ false
    → AllByRecursion (λ (r : Numbered). HasOtherRoom (rs ++ numbered line says ∷ []) r.says) (rs ++ numbered line says ∷ [])
others_more rs line says h room =
    all_push (λ (r : Numbered). HasOtherRoom (rs ++ numbered line says ∷ []) r.says) rs (numbered line says) (earlier_rooms rs line says h room) (own_room rs line says room)

-- ---- rooms of services

-- a room of the record's own service, and that of another
own_or_kept : (taken adds : ℕ → ℕ) (most home id : ℕ) → taken id ≤ most → nat_lt most (taken home + adds home) ≡ false → ((home == id) ≡ false → adds id ≡ 0) → taken id + adds id ≤ most
own_or_kept taken adds most home id few room none = elim (cases_Bool (home == id)) [
  | inl own ↦ subst (λ (k : ℕ). taken k + adds k ≤ most) (eqb-true home id own) (not_past most (taken home + adds home) room)
  | inr other ↦ (let nothing = none other in omega (arith, few, nothing))
]

program_with : (rs : List Numbered) (line : ℕ) (says : Record) (home id : ℕ) → program_taken id rs ≤ 1012 → nat_lt 1012 (program_taken home rs + program_bytes home says) ≡ false → ((home == id) ≡ false → program_bytes id says ≡ 0)
    → program_taken id (rs ++ numbered line says ∷ []) ≤ 1012
program_with rs line says home id few room none =
    let most = own_or_kept (λ k. program_taken k rs) (λ k. program_bytes k says) 1012 home id few room none in
    omega (arith, most, sum_more (program_bytes id) rs line says)

program_more : (rs : List Numbered) (line : ℕ) (says : Record) (id : ℕ) → program_taken id rs ≤ 1012 → is_full rs says ≡ false → program_taken id (rs ++ numbered line says ∷ []) ≤ 1012
program_more rs line (Part home c) id few room = program_with rs line (Part home c) home id few room (λ other. rw other refl)
program_more rs line (Further (InProgram home) ds) id few room = program_with rs line (Further (InProgram home) ds) home id few room (λ other. rw other refl)
program_more rs line (Further (InComponent home pid) ds) id few room = program_with rs line (Further (InComponent home pid) ds) home id few room (λ other. rw other refl)
program_more rs line other id few room = omega (arith, few, sum_more (program_bytes id) rs line other)

service_more : (rs : List Numbered) (line : ℕ) (says : Record) (id : ℕ) → service_taken id rs ≤ 799 → is_full rs says ≡ false → service_taken id (rs ++ numbered line says ∷ []) ≤ 799
service_more rs line (Further (InService home) ds) id few room =
    let says : Record = Further (InService home) ds in
    let most = own_or_kept (λ k. service_taken k rs) (λ k. service_bytes k says) 799 home id few room (λ other. rw other refl) in
    omega (arith, most, sum_more (service_bytes id) rs line says)
service_more rs line other id few room = omega (arith, few, sum_more (service_bytes id) rs line other)

pub rooms_none : AreInRooms []
rooms_none = record { own = lit≤ tt; others = tt; program = λ id. lit≤ tt; service = λ id. lit≤ tt }

pub rooms_more : (rs : List Numbered) (line : ℕ) (says : Record) → AreInRooms rs → is_full rs says ≡ false → AreInRooms (rs ++ numbered line says ∷ [])
rooms_more rs line says f room = record {
  own = own_more rs line says f.own room;
  others = others_more rs line says f.others room;
  program = λ id. program_more rs line says id (f.program id) room;
  service = λ id. service_more rs line says id (f.service id) room;
}

-- ---- the SDT

sizes : (xs ys : List RawDesc) → descriptors_size (xs ++ ys) ≡ descriptors_size xs + descriptors_size ys
sizes xs ys = sum_by-append (λ (d : RawDesc). 2 + length d.body) xs ys

one_service : (id : ℕ) (says : Record) → descriptors_size (said_at (InService id) says) ≡ service_bytes id says
one_service id (Further (InService home) ds) = elim (cases_Bool (home == id)) [
  | inl own ↦ rw own refl
  | inr other ↦ rw other refl
]
one_service id other = refl

pub service_room : (id : ℕ) (rs : List Numbered) → descriptors_size (descriptors_at (InService id) rs) ≡ service_taken id rs
service_room id [] = refl
service_room id (r ∷ rs) =
    omega (arith, sizes (said_at (InService id) r.says) (descriptors_at (InService id) rs), one_service id r.says, service_room id rs, sum_by-cons (λ (x : Numbered). service_bytes id x.says) r rs)

-- ---- the PMT

abbrev language_of : Component → ℕ
language_of c = language_size c.language

-- descriptors of whatever component of a service
abbrev component_bytes : ℕ → Record → ℕ
component_bytes id (Further (InComponent home pid) ds) = cond (home == id) (descriptors_size ds) 0
component_bytes id r = 0

one_program : (id : ℕ) (says : Record) → descriptors_size (said_at (InProgram id) says) + (sum_by language_of (cons_option (part_in id says) []) + component_bytes id says) ≡ program_bytes id says
one_program id (Part home c) = elim (cases_Bool (home == id)) [
  | inl own ↦ rw own (omega arith)
  | inr other ↦ rw other refl
]
one_program id (Further (InProgram home) ds) = elim (cases_Bool (home == id)) [
  | inl own ↦ rw own (omega arith)
  | inr other ↦ rw other refl
]
one_program id (Further (InComponent home pid) ds) = elim (cases_Bool (home == id)) [
  | inl own ↦ rw own (omega arith)
  | inr other ↦ rw other refl
]
one_program id other = refl

sum_option : {X : Type 0} (f : X → ℕ) (o : Option X) (xs : List X) → sum_by f (cons_option o xs) ≡ sum_by f (cons_option o []) + sum_by f xs
sum_option f None xs = omega arith
sum_option f (Some x) xs = omega (arith, sum_by-cons f x xs)

program_parts : (id : ℕ) (rs : List Numbered) → descriptors_size (descriptors_at (InProgram id) rs) + (sum_by language_of (parts_in id rs) + sum_of (component_bytes id) rs) ≡ sum_of (program_bytes id) rs
program_parts id [] = refl
program_parts id (r ∷ rs) =
    omega (
      arith,
      sizes (said_at (InProgram id) r.says) (descriptors_at (InProgram id) rs),
      sum_option language_of (part_in id r.says) (parts_in id rs),
      one_program id r.says,
      program_parts id rs,
      sum_by-cons (λ (x : Numbered). component_bytes id x.says) r rs,
      sum_by-cons (λ (x : Numbered). program_bytes id x.says) r rs,
    )

sum_none : {X : Type 0} (f : X → ℕ) (xs : List X) → AllByRecursion (λ x. f x ≡ 0) xs → sum_by f xs ≡ 0
sum_none f [] h = refl
sum_none f (x ∷ xs) h = (let here = h.0 in omega (arith, sum_by-cons f x xs, here, sum_none f xs h.1))

every : {X : Type 0} (P : X → Type 0) → ((x : X) → P x) → (xs : List X) → AllByRecursion P xs
every P f [] = tt
every P f (x ∷ xs) = (f x, every P f xs)

-- the size of what a record says for a component
abbrev said_size : ℕ → Record → Component → ℕ
said_size id says c = descriptors_size (said_at (InComponent id c.pid) says)

-- one PID has them at most
one_pid : (pid : ℕ) (ds : List RawDesc) (cs : List Component) → AreDifferent (map (λ (c : Component). c.pid) cs) → sum_by (λ (c : Component). descriptors_size (cond (pid == c.pid) ds [])) cs ≤ descriptors_size ds
one_pid pid ds [] h = omega arith
one_pid pid ds (c ∷ cs) h =
    let f = λ (x : Component). descriptors_size (cond (pid == x.pid) ds []) in
    let all = sum_by-cons f c cs in
    elim (cases_Bool (pid == c.pid)) [
      | inl is ↦
          let here : f c ≡ descriptors_size ds = rw is refl in
          let none = sum_none f cs (others pid c.pid cs (eqb-true pid c.pid is) h.0) in
          omega (arith, all, here, none)
      | inr other ↦
          let here : f c ≡ 0 = rw other refl in
          omega (arith, all, here, one_pid pid ds cs h.1)
    ]
  where
    others : (pid here : ℕ) (cs : List Component) → pid ≡ here → AllByRecursion (λ m. here ≢ m) (map (λ (c : Component). c.pid) cs) → AllByRecursion (λ (c : Component). descriptors_size (cond (pid == c.pid) ds []) ≡ 0) cs
    others pid here [] same h = tt
    others pid here (c ∷ cs) same h = elim (cases_Bool (pid == c.pid)) [
      | inl is ↦ absurd (h.0 (sym same ∙ eqb-true pid c.pid is))
      | inr other ↦ ((rw other refl), others pid here cs same h.1)
    ]

one_component : (id : ℕ) (says : Record) (cs : List Component) → AreDifferent (map (λ (c : Component). c.pid) cs) → sum_by (said_size id says) cs ≤ component_bytes id says
one_component id (Further (InComponent home pid) ds) cs h = elim (cases_Bool (home == id)) [
  | inl own ↦ rw own (one_pid pid ds cs h)
  | inr other ↦ rw other (let none = sum_none (λ (c : Component). descriptors_size []) cs (every (λ (c : Component). descriptors_size [] ≡ 0) (λ c. refl) cs) in omega (arith, none))
]
one_component id other cs h = (let none = sum_none (λ (c : Component). descriptors_size []) cs (every (λ (c : Component). descriptors_size [] ≡ 0) (λ c. refl) cs) in omega (arith, none))

sum_both : {X : Type 0} (f g h : X → ℕ) → ((x : X) → h x ≡ f x + g x) → (xs : List X) → sum_by h xs ≡ sum_by f xs + sum_by g xs
sum_both f g h e [] = refl
sum_both f g h e (x ∷ xs) = omega (arith, sum_by-cons f x xs, sum_by-cons g x xs, sum_by-cons h x xs, e x, sum_both f g h e xs)

components_room : (id : ℕ) (rs : List Numbered) (cs : List Component) → AreDifferent (map (λ (c : Component). c.pid) cs)
    → sum_by (λ (c : Component). descriptors_size (descriptors_at (InComponent id c.pid) rs)) cs ≤ sum_of (component_bytes id) rs
components_room id [] cs h = (let none = sum_none (λ (c : Component). descriptors_size []) cs (every (λ (c : Component). descriptors_size [] ≡ 0) (λ c. refl) cs) in omega (arith, none))
components_room id (r ∷ rs) cs h =
    let rest = λ (c : Component). descriptors_size (descriptors_at (InComponent id c.pid) rs) in
    let all = sum_both (said_size id r.says) rest (λ (c : Component). descriptors_size (descriptors_at (InComponent id c.pid) (r ∷ rs))) (λ c. sizes (said_at (InComponent id c.pid) r.says) (descriptors_at (InComponent id c.pid) rs)) cs in
    omega (arith, all, one_component id r.says cs h, components_room id rs cs h, sum_by-cons (λ (x : Numbered). component_bytes id x.says) r rs)

parts_size : (id : ℕ) (rs : List Numbered) (cs : List Component)
    → sum_by component_size (map (with_descriptors rs id) cs) ≡ sum_by language_of cs + sum_by (λ (c : Component). descriptors_size (descriptors_at (InComponent id c.pid) rs)) cs
parts_size id rs [] = refl
parts_size id rs (c ∷ cs) =
    omega (
      arith,
      sum_by-cons component_size (with_descriptors rs id c) (map (with_descriptors rs id) cs),
      sum_by-cons language_of c cs,
      sum_by-cons (λ (x : Component). descriptors_size (descriptors_at (InComponent id x.pid) rs)) c cs,
      parts_size id rs cs,
    )

pub program_room : (s : MuxService) (rs : List Numbered) → AreInRooms rs → AreDifferent (map (λ (c : Component). c.pid) (parts_in s.service rs)) → program_size (with_parts rs s) ≤ 1012
program_room s rs f once =
    let id = s.service in
    let most = f.program id in
    omega (arith, most, parts_size id rs (parts_in id rs), components_room id rs (parts_in id rs) once, program_parts id rs)

-- ---- the NIT

abbrev pub name_bytes : Record → ℕ
name_bytes (Network id name) = coded_size name
name_bytes r = 0

abbrev pub cable_bytes : Record → ℕ
cable_bytes (Delivery cable) = 13
cable_bytes r = 0

-- what a record adds to each part of a section with the entry of the own stream
abbrev own_said : Record → ℕ
own_said says =
    descriptors_size (said_at InNetwork says) + descriptors_size (said_at InStream says) + 3 * length (cons_option (service_in says) []) + (name_bytes says + cable_bytes says)

one_own : (says : Record) → own_said says ≡ own_bytes says
one_own (Further InNetwork ds) = omega arith
one_own (Further InStream ds) = omega arith
one_own (Further place ds) = refl
one_own (Network id name) = omega arith
one_own other = refl

length_option : {X : Type 0} (o : Option X) (xs : List X) → length (cons_option o xs) ≡ length (cons_option o []) + length xs
length_option None xs = omega arith
length_option (Some x) xs = omega arith

own_parts : (rs : List Numbered)
    → descriptors_size (descriptors_at InNetwork rs) + descriptors_size (descriptors_at InStream rs) + 3 * length (all_of service_in rs)
    + (sum_of name_bytes rs + sum_of cable_bytes rs) ≡ sum_of own_bytes rs
own_parts [] = refl
own_parts (r ∷ rs) =
    omega (
      arith,
      sizes (said_at InNetwork r.says) (descriptors_at InNetwork rs),
      sizes (said_at InStream r.says) (descriptors_at InStream rs),
      length_option (service_in r.says) (all_of service_in rs),
      sum_by-cons (λ (x : Numbered). name_bytes x.says) r rs,
      sum_by-cons (λ (x : Numbered). cable_bytes x.says) r rs,
      sum_by-cons (λ (x : Numbered). own_bytes x.says) r rs,
      one_own r.says,
      own_parts rs,
    )

-- the cable delivery of another stream
abbrev delivery_bytes : ℕ → ℕ → Record → ℕ
delivery_bytes s o (Elsewhere a b cable) = cond (a == s && b == o) (cable_size cable) 0
delivery_bytes s o r = 0

-- what a record adds to each part of a section with the entry of another stream
abbrev other_said : ℕ → ℕ → Record → ℕ
other_said s o says =
    descriptors_size (said_at InNetwork says) + descriptors_size (said_at (InOther s o) says) + 3 * length (cons_option (remote_of s o says) [])
    + (name_bytes says + delivery_bytes s o says)

one_other : (s o : ℕ) (says : Record) → other_said s o says ≡ other_bytes s o says
one_other s o (Further InNetwork ds) = omega arith
one_other s o (Further (InOther a b) ds) = elim (cases_Bool (a == s && b == o)) [
  | inl own ↦ rw own (omega arith)
  | inr other ↦ rw other refl
]
one_other s o (Further place ds) = refl
one_other s o (Network id name) = omega arith
one_other s o (Elsewhere a b cable) = elim (cases_Bool (a == s && b == o)) [
  | inl own ↦ rw own (omega arith)
  | inr other ↦ rw other refl
]
one_other s o (Remote a b service) = elim (cases_Bool (a == s && b == o)) [
  | inl own ↦ rw own (omega arith)
  | inr other ↦ rw other refl
]
one_other s o other = refl

other_parts : (s o : ℕ) (rs : List Numbered)
    → descriptors_size (descriptors_at InNetwork rs) + descriptors_size (descriptors_at (InOther s o) rs) + 3 * length (all_of (remote_of s o) rs)
    + (sum_of name_bytes rs + sum_of (delivery_bytes s o) rs) ≡ sum_of (other_bytes s o) rs
other_parts s o [] = refl
other_parts s o (r ∷ rs) =
    omega (
      arith,
      sizes (said_at InNetwork r.says) (descriptors_at InNetwork rs),
      sizes (said_at (InOther s o) r.says) (descriptors_at (InOther s o) rs),
      length_option (remote_of s o r.says) (all_of (remote_of s o) rs),
      sum_by-cons (λ (x : Numbered). name_bytes x.says) r rs,
      sum_by-cons (λ (x : Numbered). delivery_bytes s o x.says) r rs,
      sum_by-cons (λ (x : Numbered). other_bytes s o x.says) r rs,
      one_other s o r.says,
      other_parts s o rs,
    )

-- the first name is one of those
name_said : (says : Record) → IfSome (network_in says) (λ network. coded_size network.1 ≤ name_bytes says)
name_said (Network id name) = omega arith
name_said other = tt

more_said : (o : Option (ℕ × List ℕ)) (m n : ℕ) → m ≤ n → IfSome o (λ network. coded_size network.1 ≤ m) → IfSome o (λ network. coded_size network.1 ≤ n)
more_said None m n le h = tt
more_said (Some network) m n le h = omega (arith, le, h)

pub name_room : (rs : List Numbered) → IfSome (said network_in (first is_network rs)) (λ network. coded_size network.1 ≤ sum_of name_bytes rs)
name_room [] = tt
name_room (r ∷ rs) =
    let all = sum_by-cons (λ (x : Numbered). name_bytes x.says) r rs in
    elim (cases_Bool (is_network r.says)) [
      | inl is ↦ rw is (more_said (network_in r.says) (name_bytes r.says) (sum_of name_bytes (r ∷ rs)) (omega (arith, all)) (name_said r.says))
      | inr other ↦ rw other (more_said (said network_in (first is_network rs)) (sum_of name_bytes rs) (sum_of name_bytes (r ∷ rs)) (omega (arith, all)) (name_room rs))
    ]

cable_said : (says : Record) → cable_size (delivery_in says) ≤ cable_bytes says
cable_said (Delivery cable) = omega arith
cable_said other = omega arith

pub cable_room : (rs : List Numbered) → cable_size (said delivery_in (first is_delivery rs)) ≤ sum_of cable_bytes rs
cable_room [] = omega arith
cable_room (r ∷ rs) =
    let all = sum_by-cons (λ (x : Numbered). cable_bytes x.says) r rs in
    elim (cases_Bool (is_delivery r.says)) [
      | inl is ↦ rw is (omega (arith, all, cable_said r.says))
      | inr other ↦ rw other (omega (arith, all, cable_room rs))
    ]

-- the section with the entry of the own stream, by the parts of the records
pub nit_room : (rs : List Numbered) (name services cable : ℕ) → AreInRooms rs → name ≤ sum_of name_bytes rs → services ≡ length (all_of service_in rs) → cable ≤ sum_of cable_bytes rs
    → 6 + name + descriptors_size (descriptors_at InNetwork rs) + (8 + cable + 3 * services + descriptors_size (descriptors_at InStream rs)) ≤ 1012
nit_room rs name services cable f a b c =
    let most = f.own in
    omega (arith, most, own_parts rs, a, b, c)

-- ---- other streams in the NIT

-- no record takes more than all
each_among : (rs : List Numbered) → AllByRecursion (λ (r : Numbered). (f : Record → ℕ) → f r.says ≤ sum_of f rs) rs
each_among [] = tt
each_among (r ∷ rs) = (
  λ f. omega (arith, sum_by-cons (λ (x : Numbered). f x.says) r rs),
  all_map (λ (x : Numbered). (f : Record → ℕ) → f x.says ≤ sum_of f rs) (λ (x : Numbered). (f : Record → ℕ) → f x.says ≤ sum_of f (r ∷ rs))
      (λ x h f. (let here = h f in omega (arith, here, sum_by-cons (λ (y : Numbered). f y.says) r rs))) rs (each_among rs),
)

-- another stream whose section has room, and whose cable delivery is among the records
pub record IsPlaced (rs : List Numbered) (o : Other) : Type 0 where
  pub room : other_taken o.stream o.original rs ≤ 1012
  pub cable : cable_size o.cable ≤ sum_of (delivery_bytes o.stream o.original) rs

placed_said : (rs : List Numbered) (r : Record) (p : Other) → HasOtherRoom rs r × ((f : Record → ℕ) → f r ≤ sum_of f rs) → other_in r ≡ Some p → IsPlaced rs p
placed_said rs (Elsewhere s o cable) p h e =
    let new : Other = record { stream = s; original = o; cable = cable; services = []; descriptors = [] } in
    let same : new ≡ p = cc e in
    let most : cond (s == s && o == o) (cable_size cable) 0 ≤ sum_of (delivery_bytes s o) rs = h.1 (delivery_bytes s o) in
    subst (IsPlaced rs) same (record { room = h.0; cable = rw (own s o) at most })
  where
    own : (a b : ℕ) → (a == a && b == b) ≡ true
    own a b = grind (arith, nat_tests)
placed_said rs other p h e = cc e

-- each of them
pub others_placed : (rs : List Numbered) → AreInRooms rs → AllByRecursion (IsPlaced rs) (all_of other_in rs)
others_placed rs f =
    said_all other_in (IsPlaced rs) (λ r. HasOtherRoom rs r × ((f : Record → ℕ) → f r ≤ sum_of f rs)) (placed_said rs) rs
    (all_two (λ (r : Numbered). HasOtherRoom rs r.says) (λ (r : Numbered). (f : Record → ℕ) → f r.says ≤ sum_of f rs)
    (λ (r : Numbered). HasOtherRoom rs r.says × ((f : Record → ℕ) → f r.says ≤ sum_of f rs)) (λ r a b. (a, b)) rs f.others (each_among rs))

-- the section with its entry, by the parts of the records
pub other_room : (rs : List Numbered) (o : Other) (name : ℕ) → IsPlaced rs o → name ≤ sum_of name_bytes rs
    → 6 + name + descriptors_size (descriptors_at InNetwork rs) + other_size (with_remotes rs o) ≤ 1012
other_room rs o name h a =
    let most = h.room in
    let cable = h.cable in
    let own = all_placed has_lower_id (all_of (remote_of o.stream o.original) rs) [] in
    omega (
      arith,
      most,
      cable,
      a,
      other_parts o.stream o.original rs,
      length-map own (with_own rs),
      length_placed has_lower_id (all_of (remote_of o.stream o.original) rs) [],
    )
