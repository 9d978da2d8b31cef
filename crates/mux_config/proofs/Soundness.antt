-- What holds of records that were taken, and of their multiplex.
use Rattle.std.proofs.Common.{◌≡◌, ◌≢◌, ℕ, ◌+◌, ◌<◌, ◌≤◌, ◌==◌, Bool, false, List, [], ◌∷◌, ◌++◌, length, map, Option, Some, None, refl, sym, ap, ◌∙◌, subst, arith, inl, inr, length-append, eq-eqb, lit<, lit≤}
use Rattle.std.specs.Prelude.{◌||◌, ◌&&◌, nat_lt, nat_le, IfSome, Ok}
use Rattle.std.specs.List.{AllByRecursion, fold}
use Rattle.std.specs.Option.{unwrap_or}
use Rattle.std.proofs.lemmas.Bool.{cases_Bool, eqb-true, leb-true, false≢true}
use Rattle.std.proofs.lemmas.Bool.Decides.{nat_tests}
use Rattle.std.proofs.lemmas.List.{length-map}
use Rattle.si_lists.proofs.Lists.{all_push, all_append, all_map, all_through, all_to_map, all_of_map}
use Rattle.guide_model.specs.declared.offset.Offset.{Offset}
use Rattle.guide_model.specs.declared.stream.Cable.{Cable}
use Rattle.guide_model.specs.declared.stream.Component.{Component}
use Rattle.guide_model.specs.Coding.{coded_size}
use Rattle.guide_model.specs.Decoding.{IsKept}
use Rattle.mux_model.specs.declared.mux.MuxService.{MuxService}
use Rattle.mux_model.specs.declared.mux.RemoteService.{RemoteService}
use Rattle.mux_model.specs.declared.mux.Other.{Other}
use Rattle.mux_model.specs.declared.mux.Mux.{Mux}
use Rattle.mux_model.proofs.Placing.{all_in_place}
use Rattle.mux_lines.specs.declared.record.Place.TheVariants.{InNetwork, InStream, InService, InProgram}
use Rattle.mux_lines.specs.declared.record.Record.{Record}
use Rattle.mux_lines.specs.declared.record.Record.TheVariants.{Network, Stream, Delivery, Service, Part, Start, Quota, Rate, Local, Elsewhere, Remote}
use Rattle.mux_lines.specs.declared.record.Numbered.{Numbered}
use Rattle.mux_config.specs.Taken.{is_full, sum_of}
use Rattle.mux_config.proofs.PartFacts.{parts_with, said_here}
use Rattle.mux_config.proofs.FurtherFacts.{further_more, further_none, sound_at}
use Rattle.mux_config.proofs.TakenFacts.{IsPlaced, cable_room, name_bytes, name_room, nit_room, other_room, others_placed, program_room, rooms_more, rooms_none, service_room}
use Rattle.mux_config.specs.Descriptions.{Description, all_of, cable_of, delivery_in, first, first_line, has_any_id, has_id, has_ids, has_pmt, has_pid, has_region, holds, local_in, ended, is_stream, stream_in, with_network, with_services, with_stream, has_no_place, insert, is_delivery, is_network, is_quota, is_rate, is_start, mux_with, network_in, numbered, part_in, quota_in, rate_in, rate_of, repeated_at, said, service_in, services_of, sorted, start_in, with_descriptors, with_parts, other_in, others_of, with_remotes}
use Rattle.mux_lines.specs.Fine.{IsFine, IsFineNetwork, IsFineService, IsFineStart, IsFineStream}
use Rattle.mux_config.proofs.FineRecords.{AreFine, AreFineOthers, AreTaken, IsSpoken, IsAlone, IsApart, in_order, others_in, parts_in}
use Rattle.mux_model.specs.Rooms.{cable_size, front_size, other_size, own_size}
use Rattle.mux_model.specs.Sound.{AreDifferent, Between, DoAscend, HasSoundCable, HasSoundRate, IsSoundCable, IsSoundComponent, IsSoundOffset, IsSoundService, AreOfRegions, comes_before, is_region, all_component_pids, component_pids, pmt_pids, IsSoundWithIds, remote_services}
use Rattle.mux_config.proofs.RecordFacts.{all_kept, all_more, differs, first_not, none_pass, or_false_left, or_false_right, or_none_left, or_none_right, said_all}
use Rattle.mux_config.proofs.Ordering.{sorted_more}
use Rattle.mux_config.proofs.FineOthers.{fine_ids, first_alone, kept_names, others_kept, others_more, others_none, remotes_more, sound_others, stream_alone}

-- ---- lists

pub all_insert : (P : MuxService → Type 0) (s : MuxService) (ts : List MuxService) → P s → AllByRecursion P ts → AllByRecursion P (insert s ts)
all_insert P s [] p h = (p, tt)
all_insert P s (t ∷ ts) p h = elim (cases_Bool (nat_lt s.service t.service)) [
  | inl e ↦ rw e (p, h)
  | inr e ↦ rw e (h.0, all_insert P s ts p h.1)
]

-- a service whose PMT has another PID than those there
pmts_insert : (s : MuxService) (ts : List MuxService) → AllByRecursion (λ (t : MuxService). s.pmt_pid ≢ t.pmt_pid) ts → AreDifferent (pmt_pids ts) → AreDifferent (pmt_pids (insert s ts))
pmts_insert s [] new h = (tt, tt)
pmts_insert s (t ∷ ts) new h = elim (cases_Bool (nat_lt s.service t.service)) [
  | inl e ↦ rw e ((new.0, all_to_map (λ m. s.pmt_pid ≢ m) (λ (u : MuxService). u.pmt_pid) ts new.1), h)
  | inr e ↦ rw e (
    all_to_map (λ m. t.pmt_pid ≢ m) (λ (u : MuxService). u.pmt_pid) (insert s ts) (all_insert (λ (u : MuxService). t.pmt_pid ≢ u.pmt_pid) s ts (λ e. new.0 (sym e)) (all_of_map (λ m. t.pmt_pid ≢ m) (λ (u : MuxService). u.pmt_pid) ts h.0)),
    pmts_insert s ts new.1 h.1,
  )
]

below_of : (m n : ℕ) → m ≤ n → n ≢ m → m < n
below_of m n le ne = elim (cases_Bool (m == n)) [
  | inl e ↦ absurd (ne (sym (eqb-true m n e)))
  | inr e ↦ grind (arith, nat_tests)
]

-- a service with another id than those there
ascend_insert : (s : MuxService) (ts : List MuxService) → AllByRecursion (λ (t : MuxService). s.service ≢ t.service) ts → DoAscend ts → DoAscend (insert s ts)
ascend_insert s [] new h = (tt, tt)
ascend_insert s (t ∷ ts) new h = elim (cases_Bool (nat_lt s.service t.service)) [
  | inl e ↦
      let below : s.service < t.service = grind (arith, nat_tests) in
      rw e ((below, all_map (λ (u : MuxService). t.service < u.service) (λ (u : MuxService). s.service < u.service) (λ u less. omega (arith, below, less)) ts h.0), h)
  | inr e ↦
      let above : t.service ≤ s.service = grind (arith, nat_tests) in
      let less : t.service < s.service = below_of t.service s.service above new.0 in
      rw e (all_insert (λ (u : MuxService). t.service < u.service) s ts less h.0, ascend_insert s ts new.1 h.1)
]

different_snoc : (xs : List Component) (c : Component) → AllByRecursion (λ (x : Component). x.pid ≢ c.pid) xs → AreDifferent (map (λ (x : Component). x.pid) xs) → AreDifferent (map (λ (x : Component). x.pid) (xs ++ c ∷ []))
different_snoc [] c new h = (tt, tt)
different_snoc (x ∷ xs) c new h = (
  all_to_map (λ m. x.pid ≢ m) (λ (y : Component). y.pid) (xs ++ c ∷ []) (all_push (λ (y : Component). x.pid ≢ y.pid) xs c (all_of_map (λ m. x.pid ≢ m) (λ (y : Component). y.pid) xs h.0) new.0),
  different_snoc xs c new.1 h.1,
)

all_sorted_from : (P : MuxService → Type 0) (xs done : List MuxService) → AllByRecursion P done → AllByRecursion P xs → AllByRecursion P (fold (λ (d : List MuxService) (x : MuxService). insert x d) done xs)
all_sorted_from P [] done d h = d
all_sorted_from P (x ∷ xs) done d h = all_sorted_from P xs (insert x done) (all_insert P x done h.0 d) h.1

-- what the services have whose records have something
served_all : (P : MuxService → Type 0) (Q : Record → Type 0) (f : (r : Record) (s : MuxService) → Q r → service_in r ≡ Some s → P s) (rs : List Numbered) → AllByRecursion (λ (r : Numbered). Q r.says) rs → AllByRecursion P (in_order rs)
served_all P Q f rs h = all_sorted_from P (all_of service_in rs) [] tt (said_all service_in P Q f rs h)

-- ---- what is not found is not there

id_said : (id : ℕ) (r : Record) (s : MuxService) → has_id id r ≡ false → service_in r ≡ Some s → id ≢ s.service
id_said id (Service t) s h e = (let same : t ≡ s = cc e in subst (λ (u : MuxService). id ≢ u.service) same (differs t.service id h))
id_said id other s h e = cc e

no_ids : (rs : List Numbered) (id : ℕ) → first_line (has_id id) rs ≡ None → AllByRecursion (λ (s : MuxService). id ≢ s.service) (in_order rs)
no_ids rs id e = served_all (λ s. id ≢ s.service) (λ r. has_id id r ≡ false) (id_said id) rs (none_pass (has_id id) rs e)

pmt_said : (pid : ℕ) (r : Record) (s : MuxService) → has_pmt pid r ≡ false → service_in r ≡ Some s → pid ≢ s.pmt_pid
pmt_said pid (Service t) s h e = (let same : t ≡ s = cc e in subst (λ (u : MuxService). pid ≢ u.pmt_pid) same (differs t.pmt_pid pid h))
pmt_said pid other s h e = cc e

no_pmts : (rs : List Numbered) (pid : ℕ) → first_line (has_pmt pid) rs ≡ None → AllByRecursion (λ (s : MuxService). pid ≢ s.pmt_pid) (in_order rs)
no_pmts rs pid e = served_all (λ s. pid ≢ s.pmt_pid) (λ r. has_pmt pid r ≡ false) (pmt_said pid) rs (none_pass (has_pmt pid) rs e)

pid_said : (pid id : ℕ) (r : Record) (c : Component) → has_pid pid r ≡ false → part_in id r ≡ Some c → pid ≢ c.pid
pid_said pid id (Part home d) c h e = said_here (λ (x : Component). pid ≢ x.pid) (home == id) d c (differs d.pid pid h) e
pid_said pid id other c h e = cc e

no_pids : (rs : List Numbered) (pid id : ℕ) → first_line (has_pid pid) rs ≡ None → AllByRecursion (λ (c : Component). pid ≢ c.pid) (parts_in id rs)
no_pids rs pid id e = said_all (part_in id) (λ c. pid ≢ c.pid) (λ r. has_pid pid r ≡ false) (pid_said pid id) rs (none_pass (has_pid pid) rs e)

other_pid : (home id here pid : ℕ) → home ≡ id → (false || ((home == id) && (here == pid))) ≡ false → here ≢ pid
other_pid home id here pid same e meets = false≢true (sym (rw (eq-eqb home id same, eq-eqb here pid meets) at e))

own_said : (pid id : ℕ) (r : Record) (c : Component) → holds id pid r ≡ false → part_in id r ≡ Some c → c.pid ≢ pid
own_said pid id (Part home d) c h e = elim (cases_Bool (home == id)) [
  | inl here ↦ said_here (λ (x : Component). x.pid ≢ pid) (home == id) d c (other_pid home id d.pid pid (eqb-true home id here) h) e
  | inr there ↦ cc (rw there at e)
]
own_said pid id other c h e = cc e

none_own : (rs : List Numbered) (pid id : ℕ) → first_line (holds id pid) rs ≡ None → AllByRecursion (λ (c : Component). c.pid ≢ pid) (parts_in id rs)
none_own rs pid id e = said_all (part_in id) (λ c. c.pid ≢ pid) (λ r. holds id pid r ≡ false) (own_said pid id) rs (none_pass (holds id pid) rs e)

-- ---- what each record has

service_said : (r : Record) (s : MuxService) → IsFine r → service_in r ≡ Some s → IsFineService s
service_said (Service t) s h e = (let same : t ≡ s = cc e in subst IsFineService same h)
service_said other s h e = cc e

part_said : (id : ℕ) (r : Record) (c : Component) → IsFine r → part_in id r ≡ Some c → IsSoundComponent c
part_said id (Part home d) c h e = said_here IsSoundComponent (home == id) d c h e
part_said id other c h e = cc e

offset_said : (r : Record) (o : Offset) → IsFine r → local_in r ≡ Some o → IsSoundOffset o
offset_said (Local p) o h e = (let same : p ≡ o = cc e in subst IsSoundOffset same h)
offset_said other o h e = cc e

-- ---- records that were taken

fine_none : AreFine []
fine_none = record { each = tt; count = omega arith; ascend = tt; pmts = tt; few = λ id. omega arith; once = λ id. tt; apart = λ id. tt; few_offsets = omega arith; regions = tt; others = others_none }

-- records that keep the services, the components and the offsets
pub fine_kept : (rs : List Numbered) (line : ℕ) (says : Record) → AreFine rs → IsFine says → service_in says ≡ None → ((id : ℕ) → part_in id says ≡ None) → local_in says ≡ None
    → AreFineOthers (rs ++ numbered line says ∷ []) → AreFine (rs ++ numbered line says ∷ [])
fine_kept rs line says f fine no_service no_part no_offset others =
    let r = numbered line says in
    let services : in_order (rs ++ r ∷ []) ≡ in_order rs = ap sorted (all_kept service_in rs r no_service) in
    let parts_same : (id : ℕ) → parts_in id (rs ++ r ∷ []) ≡ parts_in id rs = λ id. all_kept (part_in id) rs r (no_part id) in
    let offsets : all_of local_in (rs ++ r ∷ []) ≡ all_of local_in rs = all_kept local_in rs r no_offset in
    record {
      each = all_push (λ (x : Numbered). IsFine x.says) rs r f.each fine;
      count = rw services f.count;
      ascend = rw services f.ascend;
      pmts = rw services f.pmts;
      few = λ id. rw (parts_same id) (f.few id);
      once = λ id. rw (parts_same id) (f.once id);
      apart = λ id. rw (services, parts_same id) (f.apart id);
      few_offsets = rw offsets f.few_offsets;
      regions = rw offsets f.regions;
      others = others;
    }

length_insert : (s : MuxService) (ts : List MuxService) → length (insert s ts) ≡ length ts + 1
length_insert s [] = refl
length_insert s (t ∷ ts) = elim (cases_Bool (nat_lt s.service t.service)) [
  | inl e ↦ rw e (omega arith)
  | inr e ↦ rw e (omega (arith, length_insert s ts))
]

length_sorted_from : (xs done : List MuxService) → length (fold (λ (d : List MuxService) (x : MuxService). insert x d) done xs) ≡ length done + length xs
length_sorted_from [] done = omega arith
length_sorted_from (x ∷ xs) done = omega (arith, length_sorted_from xs (insert x done), length_insert x done)

own_not : (id : ℕ) (r : Record) → has_any_id id r ≡ false → has_id id r ≡ false
own_not id (Service s) e = e
own_not id other e = refl

-- no own service has an id that none has
own_none : (rs : List Numbered) (id : ℕ) → first_line (has_any_id id) rs ≡ None → first_line (has_id id) rs ≡ None
own_none [] id e = refl
own_none (r ∷ rs) id e =
    let (a, b) = first_not (has_any_id id) r rs e in
    rw (own_not id r.says a) (own_none rs id b)

pub fine_service : (rs : List Numbered) (line : ℕ) (s : MuxService) → AreFine rs → IsFineService s → has_no_place rs (Service s) ≡ false → repeated_at rs (Service s) ≡ None → AreFine (rs ++ numbered line (Service s) ∷ [])
fine_service rs line s f fine place once =
    let r = numbered line (Service s) in
    let services : in_order (rs ++ r ∷ []) ≡ insert s (in_order rs) = ap sorted (all_more service_in rs r) ∙ sorted_more (all_of service_in rs) s in
    let parts_same : (id : ℕ) → parts_in id (rs ++ r ∷ []) ≡ parts_in id rs = λ id. all_kept (part_in id) rs r refl in
    let no_any = or_none_left (first_line (has_any_id s.service) rs) _ once in
    let no_id = own_none rs s.service no_any in
    let no_pmt = or_none_left (first_line (has_pmt s.pmt_pid) rs) _ (or_none_right (first_line (has_any_id s.service) rs) _ once) in
    let no_pid = or_none_right (first_line (has_pmt s.pmt_pid) rs) (first_line (has_pid s.pmt_pid) rs) (or_none_right (first_line (has_any_id s.service) rs) _ once) in
    let room : length (all_of service_in rs) < 64 = grind (arith, nat_tests) in
    record {
      each = all_push (λ (x : Numbered). IsFine x.says) rs r f.each fine;
      count = rw services (omega (arith, room, length_insert s (in_order rs), length_sorted_from (all_of service_in rs) []));
      ascend = rw services (ascend_insert s (in_order rs) (no_ids rs s.service no_id) f.ascend);
      pmts = rw services (pmts_insert s (in_order rs) (no_pmts rs s.pmt_pid no_pmt) f.pmts);
      few = λ id. rw (parts_same id) (f.few id);
      once = λ id. rw (parts_same id) (f.once id);
      apart = λ id. rw (services, parts_same id) (all_insert (IsApart (parts_in id rs)) s (in_order rs) (no_pids rs s.pmt_pid id no_pid) (f.apart id));
      few_offsets = rw (all_kept local_in rs r refl) f.few_offsets;
      regions = rw (all_kept local_in rs r refl) f.regions;
      others = others_kept rs line (Service s) f.others refl refl (λ a b. refl) tt (λ id e. subst (λ (n : ℕ). first_line (has_any_id n) rs ≡ None) (eqb-true s.service id e) no_any);
    }

fewer : (n : ℕ) → nat_le 16 n ≡ false → n < 16
fewer n e = grind (arith, nat_tests)

held_pmt : (id pid : ℕ) (r : Record) → holds id pid r ≡ false → has_pmt pid r ≡ false
held_pmt id pid (Service s) e = or_false_left (s.pmt_pid == pid) _ e
held_pmt id pid other e = refl

no_pmt_held : (id pid : ℕ) (rs : List Numbered) → first_line (holds id pid) rs ≡ None → first_line (has_pmt pid) rs ≡ None
no_pmt_held id pid [] e = refl
no_pmt_held id pid (r ∷ rs) e =
    let (a, b) = first_not (holds id pid) r rs e in
    rw (held_pmt id pid r.says a) (no_pmt_held id pid rs b)

apart_more : (c : Component) (cs : List Component) (ss : List MuxService) → AllByRecursion (λ (s : MuxService). c.pid ≢ s.pmt_pid) ss → AllByRecursion (IsApart cs) ss → AllByRecursion (IsApart (cs ++ c ∷ [])) ss
apart_more c cs [] new h = tt
apart_more c cs (s ∷ ss) new h = (all_push (λ (x : Component). s.pmt_pid ≢ x.pid) cs c h.0 (λ e. new.0 (sym e)), apart_more c cs ss new.1 h.1)

pub fine_part : (rs : List Numbered) (line home : ℕ) (c : Component) → AreFine rs → IsSoundComponent c → has_no_place rs (Part home c) ≡ false → repeated_at rs (Part home c) ≡ None → AreFine (rs ++ numbered line (Part home c) ∷ [])
fine_part rs line home c f fine place once =
    let r = numbered line (Part home c) in
    let services : in_order (rs ++ r ∷ []) ≡ in_order rs = ap sorted (all_kept service_in rs r refl) in
    let room : length (parts_in home rs) < 16 = fewer (length (parts_in home rs)) (or_false_right _ (nat_le 16 (length (parts_in home rs))) place) in
    let no_pmt = no_pmts rs c.pid (no_pmt_held home c.pid rs once) in
    record {
      each = all_push (λ (x : Numbered). IsFine x.says) rs r f.each fine;
      count = rw services f.count;
      ascend = rw services f.ascend;
      pmts = rw services f.pmts;
      few = λ id. parts_with (λ (cs : List Component). length cs ≤ 16) rs line home c id
          (λ same. let few : length (parts_in id rs) < 16 = subst (λ (k : ℕ). length (parts_in k rs) < 16) same room in omega (arith, few, length-append (parts_in id rs) (c ∷ []))) (f.few id);
      once = λ id. parts_with (λ (cs : List Component). AreDifferent (map (λ (x : Component). x.pid) cs)) rs line home c id
          (λ same. different_snoc (parts_in id rs) c (none_own rs c.pid id (subst (λ (k : ℕ). first_line (holds k c.pid) rs ≡ None) same once)) (f.once id)) (f.once id);
      apart = λ id. rw services (parts_with (λ (cs : List Component). AllByRecursion (IsApart cs) (in_order rs)) rs line home c id (λ same. apart_more c (parts_in id rs) (in_order rs) no_pmt (f.apart id)) (f.apart id));
      few_offsets = rw (all_kept local_in rs r refl) f.few_offsets;
      regions = rw (all_kept local_in rs r refl) f.regions;
      others = others_kept rs line (Part home c) f.others refl refl (λ a b. refl) tt (λ id e. cc e);
    }

-- an offset of another region than those there
regions_push : (os : List Offset) (o : Offset) → AllByRecursion (λ (p : Offset). is_region p o ≡ false) os → AreOfRegions os → AreOfRegions (os ++ o ∷ [])
regions_push [] o new h = (tt, tt)
regions_push (p ∷ os) o new h = (all_push (λ (q : Offset). is_region p q ≡ false) os o h.0 new.0, regions_push os o new.1 h.1)

region_said : (offset : Offset) (r : Record) (o : Offset) → has_region offset r ≡ false → local_in r ≡ Some o → is_region o offset ≡ false
region_said offset (Local p) o h e = (let same : p ≡ o = cc e in subst (λ (q : Offset). is_region q offset ≡ false) same h)
region_said offset other o h e = cc e

pub fine_local : (rs : List Numbered) (line : ℕ) (o : Offset) → AreFine rs → IsSoundOffset o → has_no_place rs (Local o) ≡ false → repeated_at rs (Local o) ≡ None → AreFine (rs ++ numbered line (Local o) ∷ [])
fine_local rs line o f fine place once =
    let r = numbered line (Local o) in
    let services : in_order (rs ++ r ∷ []) ≡ in_order rs = ap sorted (all_kept service_in rs r refl) in
    let parts_same : (id : ℕ) → parts_in id (rs ++ r ∷ []) ≡ parts_in id rs = λ id. all_kept (part_in id) rs r refl in
    let offsets : all_of local_in (rs ++ r ∷ []) ≡ all_of local_in rs ++ o ∷ [] = all_more local_in rs r in
    let room : length (all_of local_in rs) < 16 = fewer (length (all_of local_in rs)) place in
    record {
      each = all_push (λ (x : Numbered). IsFine x.says) rs r f.each fine;
      count = rw services f.count;
      ascend = rw services f.ascend;
      pmts = rw services f.pmts;
      few = λ id. rw (parts_same id) (f.few id);
      once = λ id. rw (parts_same id) (f.once id);
      apart = λ id. rw (services, parts_same id) (f.apart id);
      few_offsets = rw offsets (omega (arith, room, length-append (all_of local_in rs) (o ∷ [])));
      regions = rw offsets (regions_push (all_of local_in rs) o
          (said_all local_in (λ (p : Offset). is_region p o ≡ false) (λ r. has_region o r ≡ false) (region_said o) rs (none_pass (has_region o) rs once)) f.regions);
      others = others_kept rs line (Local o) f.others refl refl (λ a b. refl) tt (λ id e. cc e);
    }

-- one record more
fine_more : (rs : List Numbered) (line : ℕ) (says : Record) → AreFine rs → IsFine says → has_no_place rs says ≡ false → repeated_at rs says ≡ None → AreFine (rs ++ numbered line says ∷ [])
fine_more rs line (Service s) f fine place once = fine_service rs line s f fine place once
fine_more rs line (Part id c) f fine place once = fine_part rs line id c f fine place once
fine_more rs line (Local o) f fine place once = fine_local rs line o f fine place once
fine_more rs line (Stream s o) f fine place once =
    let alone = stream_alone rs s o (or_none_right (first_line is_stream rs) (first_line (has_ids s o) rs) once) in
    fine_kept rs line (Stream s o) f fine refl (λ id. refl) refl (others_kept rs line (Stream s o) f.others refl refl (λ a b. refl) alone (λ id e. cc e))
fine_more rs line (Elsewhere s o cable) f fine place once = fine_kept rs line (Elsewhere s o cable) f fine refl (λ id. refl) refl (others_more rs line s o cable f.others place once)
fine_more rs line (Remote s o service) f fine place once = fine_kept rs line (Remote s o service) f fine refl (λ id. refl) refl (remotes_more rs line s o service f.others place once)
fine_more rs line other f fine place once = fine_kept rs line other f fine refl (λ id. refl) refl (others_kept rs line other f.others refl refl (λ a b. refl) tt (λ id e. cc e))

pub taken_none : AreTaken []
taken_none = record { fine = fine_none; rooms = rooms_none; further = further_none }

pub taken_more : (rs : List Numbered) (line : ℕ) (says : Record) → AreTaken rs → IsFine says → has_no_place rs says ≡ false → repeated_at rs says ≡ None → is_full rs says ≡ false → AreTaken (rs ++ numbered line says ∷ [])
taken_more rs line says t fine place once room = record {
  fine = fine_more rs line says t.fine fine place once;
  rooms = rooms_more rs line says t.rooms room;
  further = further_more rs line says t.further fine place once;
}

-- ---- the multiplex

-- what the first record says that passes a test
said_first : {X : Type 0} (kind : Record → Option X) (P : X → Type 0) → ((r : Record) → IsFine r → IfSome (kind r) P) → (test : Record → Bool) (rs : List Numbered) → AllByRecursion (λ (r : Numbered). IsFine r.says) rs
    → IfSome (said kind (first test rs)) P
said_first kind P f test [] h = tt
said_first kind P f test (r ∷ rs) h = elim (cases_Bool (test r.says)) [
  | inl e ↦ rw e (f r.says h.0)
  | inr e ↦ rw e (said_first kind P f test rs h.1)
]

or_other : {X : Type 0} (P : X → Type 0) (o : Option X) (x : X) → IfSome o P → P x → P (unwrap_or o x)
or_other P None x h p = p
or_other P (Some y) x h p = h

in_network : (r : Record) → IsFine r → IfSome (network_in r) IsFineNetwork
in_network (Network id name) h = h
in_network other h = tt

in_stream : (r : Record) → IsFine r → IfSome (stream_in r) IsFineStream
in_stream (Stream id original) h = h
in_stream other h = tt

in_delivery : (r : Record) → IsFine r → IfSome (delivery_in r) IsSoundCable
in_delivery (Delivery cable) h = h
in_delivery other h = tt

in_start : (r : Record) → IsFine r → IfSome (start_in r) IsFineStart
in_start (Start moment) h = h
in_start other h = tt

in_quota : (r : Record) → IsFine r → IfSome (quota_in r) (Between 1 10000)
in_quota (Quota n) h = h
in_quota other h = tt

in_rate : (r : Record) → IsFine r → IfSome (rate_in r) (Between 100000 100000000)
in_rate (Rate n) h = h
in_rate other h = tt

sound_rate : (o : Option ℕ) → IfSome o (Between 100000 100000000) → HasSoundRate o
sound_rate None h = tt
sound_rate (Some n) h = h

sound_cable : (o : Option Cable) → IfSome o IsSoundCable → HasSoundCable o
sound_cable None h = tt
sound_cable (Some cable) h = h

-- components with their further descriptors
whole_parts : (rs : List Numbered) (id : ℕ) (cs : List Component) → AllByRecursion IsSoundComponent cs → AllByRecursion (IsSpoken rs id) cs → AllByRecursion IsSoundComponent (map (with_descriptors rs id) cs)
whole_parts rs id [] h k = tt
whole_parts rs id (c ∷ cs) h k = (record { pid = h.0.pid; language = h.0.language; descriptors = k.0 }, whole_parts rs id cs h.1 k.1)

pids_same : (rs : List Numbered) (id : ℕ) (cs : List Component) → map (λ (c : Component). c.pid) (map (with_descriptors rs id) cs) ≡ map (λ (c : Component). c.pid) cs
pids_same rs id [] = refl
pids_same rs id (c ∷ cs) = ap (λ (l : List ℕ). c.pid ∷ l) (pids_same rs id cs)

sound_services : (rs : List Numbered) (ts : List MuxService) → AreTaken rs → AllByRecursion IsFineService ts → AllByRecursion IsSoundService (map (with_parts rs) ts)
sound_services rs [] f h = tt
sound_services rs (s ∷ ts) f h =
    let sound = h.0.0 in
    let parts = said_all (part_in s.service) IsSoundComponent IsFine (part_said s.service) rs f.fine.each in (
      record {
        service = sound.service;
        feed = sound.feed;
        pmt_pid = sound.pmt_pid;
        pcr_pid = sound.pcr_pid;
        provider = sound.provider;
        name = sound.name;
        count = (let few = f.fine.few s.service in omega (arith, few, length-map (parts_in s.service rs) (with_descriptors rs s.service)));
        components = whole_parts rs s.service (parts_in s.service rs) parts (f.further.spoken s.service);
        components_once = subst AreDifferent (sym (pids_same rs s.service (parts_in s.service rs))) (f.fine.once s.service);
        descriptors = sound_at (InService s.service) rs f.fine.each;
        room = (let most = f.rooms.service s.service in omega (arith, most, service_room s.service rs));
        program_descriptors = sound_at (InProgram s.service) rs f.fine.each;
        program_room = program_room s rs f.rooms (f.fine.once s.service);
      },
      sound_services rs ts f h.1,
    )

ascend_parts : (rs : List Numbered) (ts : List MuxService) → DoAscend ts → DoAscend (map (with_parts rs) ts)
ascend_parts rs [] h = tt
ascend_parts rs (t ∷ ts) h = (all_to_map (λ (u : MuxService). t.service < u.service) (with_parts rs) ts h.0, ascend_parts rs ts h.1)

pmts_same : (rs : List Numbered) (ts : List MuxService) → pmt_pids (map (with_parts rs) ts) ≡ pmt_pids ts
pmts_same rs [] = refl
pmts_same rs (t ∷ ts) = ap (λ (l : List ℕ). t.pmt_pid ∷ l) (pmts_same rs ts)

all_pids : (rs : List Numbered) (s : MuxService) (ts : List MuxService) → ((id : ℕ) → IsApart (parts_in id rs) s) → AllByRecursion (λ pid. s.pmt_pid ≢ pid) (all_component_pids (map (with_parts rs) ts))
all_pids rs s [] h = tt
all_pids rs s (t ∷ ts) h =
    all_append (λ pid. s.pmt_pid ≢ pid) (component_pids (with_parts rs t)) (all_component_pids (map (with_parts rs) ts))
    (subst (AllByRecursion (λ pid. s.pmt_pid ≢ pid)) (sym (pids_same rs t.service (parts_in t.service rs))) (all_to_map (λ pid. s.pmt_pid ≢ pid) (λ (c : Component). c.pid) (parts_in t.service rs) (h t.service))) (all_pids rs s ts h)

for_each : (Q : ℕ → MuxService → Type 0) (xs : List MuxService) → ((id : ℕ) → AllByRecursion (Q id) xs) → AllByRecursion (λ s. (id : ℕ) → Q id s) xs
for_each Q [] h = tt
for_each Q (x ∷ xs) h = (λ id. (h id).0, for_each Q xs (λ id. (h id).1))

apart_pids : (rs : List Numbered) → AreFine rs → AllByRecursion (λ pmt. AllByRecursion (λ pid. pmt ≢ pid) (all_component_pids (services_of rs))) (pmt_pids (services_of rs))
apart_pids rs f =
    let ts = in_order rs in
    let each = for_each (λ (id : ℕ) (s : MuxService). IsApart (parts_in id rs) s) ts f.apart in
    let all = all_map (λ (s : MuxService). (id : ℕ) → IsApart (parts_in id rs) s) (λ (s : MuxService). AllByRecursion (λ pid. s.pmt_pid ≢ pid) (all_component_pids (services_of rs))) (λ s h. all_pids rs s ts h) ts each in
    subst (AllByRecursion (λ pmt. AllByRecursion (λ pid. pmt ≢ pid) (all_component_pids (services_of rs)))) (sym (pmts_same rs ts)) (all_to_map (λ pmt. AllByRecursion (λ pid. pmt ≢ pid) (all_component_pids (services_of rs))) (λ (s : MuxService). s.pmt_pid) ts all)

-- a sound multiplex, with names that may be kept
pub record IsFineMux (mux : Mux) : Type 0 where
  pub sound : IsSoundWithIds mux
  pub network_name : IsKept mux.network_name
  pub services : AllByRecursion (λ (s : MuxService). IsKept s.provider × IsKept s.name) mux.services
  pub remotes : AllByRecursion (λ (s : RemoteService). IsKept s.provider × IsKept s.name) (remote_services mux.others)

-- the sections of the NIT
small_network : (rs : List Numbered) (network : ℕ × List ℕ) (stream : ℕ × ℕ) → AreTaken rs → coded_size network.1 ≤ sum_of name_bytes rs
    → front_size (mux_with network stream rs) + own_size (mux_with network stream rs) ≤ 1012
small_network rs network stream t name =
    let services : length (services_of rs) ≡ length (all_of service_in rs) = omega (arith, length-map (in_order rs) (with_parts rs), length_sorted_from (all_of service_in rs) []) in
    let most = nit_room rs (coded_size network.1) (length (services_of rs)) (cable_size (cable_of rs)) t.rooms name services (cable_room rs) in
    omega (arith, most)

small_others : (rs : List Numbered) (network : ℕ × List ℕ) (stream : ℕ × ℕ) → AreTaken rs → coded_size network.1 ≤ sum_of name_bytes rs
    → AllByRecursion (λ (o : Other). front_size (mux_with network stream rs) + other_size o ≤ 1012) (others_of rs)
small_others rs network stream t name =
    all_through (IsPlaced rs) (λ (o : Other). front_size (mux_with network stream rs) + other_size o ≤ 1012) (with_remotes rs)
    (λ o h. other_room rs o (coded_size network.1) h name) (others_in rs)
    (all_in_place (IsPlaced rs) comes_before (all_of other_in rs) [] (others_placed rs t.rooms) tt)

fine_mux : (rs : List Numbered) (network : ℕ × List ℕ) (stream : ℕ × ℕ) → AreTaken rs → IsFineNetwork network → coded_size network.1 ≤ sum_of name_bytes rs → IsFineStream stream → IsAlone (others_in rs) (Some stream)
    → 1 ≤ length (services_of rs) → IsFineMux (mux_with network stream rs)
fine_mux rs network stream t named name ids alone some =
    let f = t.fine in
    let ts = in_order rs in
    let served = served_all IsFineService IsFine service_said rs f.each in
    let most : length (services_of rs) ≤ 64 = omega (arith, f.count, length-map (in_order rs) (with_parts rs)) in
    let others = sound_others rs network stream f.each f.others t.rooms alone in
    record {
      sound = record {
        sound = record {
          network_name = named.1.0;
          cable = sound_cable (cable_of rs) (said_first delivery_in IsSoundCable in_delivery is_delivery rs f.each);
          start = or_other IsFineStart (said start_in (first is_start rs)) (record { 0 = 3506716800 }) (said_first start_in IsFineStart in_start is_start rs f.each) (lit< tt);
          quota = or_other (Between 1 10000) (said quota_in (first is_quota rs)) 200 (said_first quota_in (Between 1 10000) in_quota is_quota rs f.each) (lit≤ tt, lit≤ tt);
          rate = sound_rate (rate_of rs)
              (said_first rate_in (Between 100000 100000000) in_rate is_rate rs f.each);
          offsets = record { few = f.few_offsets; each = said_all local_in IsSoundOffset IsFine offset_said rs f.each; once = f.regions };
          count = (some, most);
          services = sound_services rs ts t served;
          ascend = ascend_parts rs ts f.ascend;
          pmts_once = subst AreDifferent (sym (pmts_same rs ts)) f.pmts;
          apart = apart_pids rs f;
          others = others;
          network_descriptors = sound_at InNetwork rs f.each;
          stream_descriptors = sound_at InStream rs f.each;
          network_room = small_network rs network stream t name;
          others_room = small_others rs network stream t name;
        };
        network = named.0;
        stream = ids.0;
        original = ids.1;
        others = fine_ids rs f.each;
      };
      network_name = named.1.1;
      services = all_to_map (λ (s : MuxService). IsKept s.provider × IsKept s.name) (with_parts rs) ts (all_map IsFineService (λ (s : MuxService). IsKept s.provider × IsKept s.name) (λ s h. h.1) ts served);
      remotes = kept_names rs f.each;
    }

whole_services : (mux made : Mux) → with_services mux ≡ Ok made → (1 ≤ length mux.services) × (mux ≡ made)
whole_services mux made e = elim (cases_Bool (nat_le 1 (length mux.services))) [
  | inl some ↦ (leb-true 1 (length mux.services) some, let w : (let r : Description = Ok mux in r) ≡ Ok made = rw some at e in cc w)
  | inr none ↦ cc (rw none at e)
]

whole_stream : (rs : List Numbered) (network : ℕ × List ℕ) (o : Option (ℕ × ℕ)) (made : Mux) → AreTaken rs → IsFineNetwork network → coded_size network.1 ≤ sum_of name_bytes rs → IfSome o IsFineStream → IsAlone (others_in rs) o → with_stream rs network o ≡ Ok made → IsFineMux made
whole_stream rs network None made t named name ids alone e = cc e
whole_stream rs network (Some stream) made t named name ids alone e =
    let w = whole_services (mux_with network stream rs) made e in
    subst IsFineMux w.1 (fine_mux rs network stream t named name ids alone w.0)

whole_network : (rs : List Numbered) (o : Option (ℕ × List ℕ)) (made : Mux) → AreTaken rs → IfSome o IsFineNetwork → IfSome o (λ network. coded_size network.1 ≤ sum_of name_bytes rs) → with_network rs o ≡ Ok made → IsFineMux made
whole_network rs None made t named name e = cc e
whole_network rs (Some network) made t named name e =
    whole_stream rs network (said stream_in (first is_stream rs)) made t named name (said_first stream_in IsFineStream in_stream is_stream rs t.fine.each) (first_alone (others_in rs) rs t.fine.others.alone) e

pub fine_end : (rs : List Numbered) (made : Mux) → AreTaken rs → ended rs ≡ Ok made → IsFineMux made
fine_end rs made t e = whole_network rs (said network_in (first is_network rs)) made t (said_first network_in IsFineNetwork in_network is_network rs t.fine.each) (name_room rs) e
