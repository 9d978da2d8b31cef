-- Records of other streams that were taken, and the other streams of their multiplex.
use Rattle.std.proofs.Common.{◌≡◌, ◌≢◌, ℕ, ◌+◌, ◌<◌, ◌≤◌, ◌==◌, Bool, true, false, cond, List, [], ◌∷◌, ◌++◌, length, map, Option, Some, None, refl, sym, ap, ◌∙◌, subst, arith, inl, inr, append-nil, length-append, eq-eqb}
use Rattle.std.specs.Prelude.{◌&&◌, ◌||◌, nat_lt, nat_le, not}
use Rattle.std.specs.List.{AllByRecursion, cons_option, list_any}
use Rattle.std.proofs.lemmas.Bool.{cases_Bool, eqb-true}
use Rattle.std.proofs.lemmas.Bool.Decides.{nat_tests}
use Rattle.std.proofs.lemmas.List.{length-map}
use Rattle.si_lists.proofs.Lists.{all_flat, all_map, all_push, all_through, all_to_map, all_two}
use Rattle.si_lists.proofs.Truths.{first_true, second_true}
use Rattle.guide_model.specs.declared.stream.Cable.{Cable}
use Rattle.guide_model.specs.Decoding.{IsKept}
use Rattle.mux_model.specs.declared.mux.MuxService.{MuxService}
use Rattle.mux_model.specs.declared.mux.RemoteService.{RemoteService}
use Rattle.mux_model.specs.declared.mux.Other.{Other}
use Rattle.mux_model.specs.Order.{DoCome, all_placed, placed}
use Rattle.mux_model.specs.Sound.{AreSoundOthers, HasSoundCable, HasStreamIds, IsSoundOther, IsSoundRemote, comes_before, has_lower_id, has_stream_ids, remote_services}
use Rattle.mux_model.proofs.Placing.{all_in_place, all_with, come_with, length_placed, placed_more}
use Rattle.mux_lines.specs.declared.record.Place.TheVariants.{InOther, InService}
use Rattle.mux_lines.specs.declared.record.Record.{Record}
use Rattle.mux_lines.specs.declared.record.Record.TheVariants.{Stream, Elsewhere, Remote}
use Rattle.mux_lines.specs.declared.record.Numbered.{Numbered}
use Rattle.mux_config.specs.Descriptions.{all_of, first, first_line, has_any_id, has_ids, has_no_place, is_other, is_stream, mux_with, numbered, other_in, others_of, remote_in, remote_of, repeated_at, said, service_in, services_of, sorted, stream_in, with_own, with_parts, with_remotes}
use Rattle.mux_lines.specs.Fine.{IsFine, IsFineRemote}
use Rattle.mux_config.proofs.FineRecords.{AreFineOthers, AreInRooms, IsAlone, others_in, remotes_in}
use Rattle.mux_config.proofs.FurtherFacts.{sound_at}
use Rattle.mux_config.proofs.TakenFacts.{service_room}
use Rattle.mux_config.proofs.RecordFacts.{all_kept, all_more, differs, first_not, none_pass, or_false_right, said_all}
use Rattle.mux_config.proofs.Tallies.{different_of, tally, tally_append, tally_each, tally_either, tally_map, tally_of_each, tally_remotes, tally_sorted}

-- ---- ids

none_tally : (test : Record → Bool) (rs : List Numbered) → first_line test rs ≡ None → tally (λ (r : Numbered). test r.says) rs ≡ 0
none_tally test [] e = refl
none_tally test (r ∷ rs) e =
    let (a, b) = first_not test r rs e in
    rw a (none_tally test rs b)

-- a record whose id, where it has one, is new
ids_with : (rs : List Numbered) (line : ℕ) (says : Record) → ((id : ℕ) → tally (λ (r : Numbered). has_any_id id r.says) rs ≤ 1)
    → ((id : ℕ) → has_any_id id says ≡ true → first_line (has_any_id id) rs ≡ None) → (id : ℕ) → tally (λ (r : Numbered). has_any_id id r.says) (rs ++ numbered line says ∷ []) ≤ 1
ids_with rs line says few new id =
    let more = tally_append (λ (r : Numbered). has_any_id id r.says) rs (numbered line says ∷ []) in
    elim (cases_Bool (has_any_id id says)) [
      | inl is ↦
          let none = none_tally (has_any_id id) rs (new id is) in
          let m : tally (λ (r : Numbered). has_any_id id r.says) (rs ++ numbered line says ∷ []) ≡ tally (λ (r : Numbered). has_any_id id r.says) rs + 1 = rw is at more in
          omega (arith, m, none)
      | inr other ↦
          let m : tally (λ (r : Numbered). has_any_id id r.says) (rs ++ numbered line says ∷ []) ≡ tally (λ (r : Numbered). has_any_id id r.says) rs + 0 = rw other at more in
          let few_here = few id in
          omega (arith, m, few_here)
    ]

-- ---- records that keep the other streams

pub others_none : AreFineOthers []
others_none = record { few = omega arith; ascend = tt; few_remotes = omega arith; remotes_ascend = λ s o. tt; alone = tt; ids = λ id. omega arith }

pub others_kept : (rs : List Numbered) (line : ℕ) (says : Record) → AreFineOthers rs → other_in says ≡ None → remote_in says ≡ None → ((s o : ℕ) → remote_of s o says ≡ None)
    → IsAlone (others_in rs) (stream_in says) → ((id : ℕ) → has_any_id id says ≡ true → first_line (has_any_id id) rs ≡ None) → AreFineOthers (rs ++ numbered line says ∷ [])
others_kept rs line says f no_other no_remote none_of here new =
    let r = numbered line says in
    let same : others_in (rs ++ r ∷ []) ≡ others_in rs = ap (λ (l : List Other). all_placed comes_before l []) (all_kept other_in rs r no_other) in
    record {
      few = rw (all_kept other_in rs r no_other) f.few;
      ascend = rw same f.ascend;
      few_remotes = rw (all_kept remote_in rs r no_remote) f.few_remotes;
      remotes_ascend = λ s o. subst (λ (l : List RemoteService). DoCome has_lower_id (all_placed has_lower_id l [])) (sym (all_kept (remote_of s o) rs r (none_of s o))) (f.remotes_ascend s o);
      alone = rw same (all_push (λ (x : Numbered). IsAlone (others_in rs) (stream_in x.says)) rs r f.alone here);
      ids = ids_with rs line says f.ids new;
    }

-- ---- one other stream more

-- two pairs of ids that are not the same, either way
turned : (a b c d : ℕ) → (a == c && b == d) ≡ false → (c == a && d == b) ≡ false
turned a b c d h = elim (cases_Bool (c == a && d == b)) [
  | inl is ↦
      let e = eqb-true c a (first_true (c == a) (d == b) is) in
      let f = eqb-true d b (second_true (c == a) (d == b) is) in
      absurd (let w : (true && true) ≡ false = rw (eq-eqb a c (sym e), eq-eqb b d (sym f)) at h in cc w)
  | inr other ↦ other
]

other_said : (s o : ℕ) (r : Record) (p : Other) → has_ids s o r ≡ false → other_in r ≡ Some p → has_stream_ids s o p ≡ false
other_said s o (Elsewhere a b cable) p h e =
    let new : Other = record { stream = a; original = b; cable = cable; services = []; descriptors = [] } in
    let same : new ≡ p = cc e in
    subst (λ (q : Other). has_stream_ids s o q ≡ false) same (turned a b s o h)
other_said s o other p h e = cc e

no_others : (rs : List Numbered) (s o : ℕ) → first_line (has_ids s o) rs ≡ None → AllByRecursion (λ (p : Other). has_stream_ids s o p ≡ false) (others_in rs)
no_others rs s o e =
    all_in_place (λ (p : Other). has_stream_ids s o p ≡ false) comes_before (all_of other_in rs) []
    (said_all other_in (λ (p : Other). has_stream_ids s o p ≡ false) (λ r. has_ids s o r ≡ false) (other_said s o) rs (none_pass (has_ids s o) rs e)) tt

-- the stream of a first such line is none of the other ones
pub stream_alone : (rs : List Numbered) (s o : ℕ) → first_line (has_ids s o) rs ≡ None → IsAlone (others_in rs) (Some (s, o))
stream_alone rs s o e = no_others rs s o e

other_through : (a b c : Other) → comes_before a b ≡ true → comes_before b c ≡ true → comes_before a c ≡ true
other_through a b c h k = through a.stream a.original b.stream b.original c.stream c.original h k
  where
    through : (i j k l m n : ℕ) → (nat_lt i k || (i == k && nat_lt j l)) ≡ true → (nat_lt k m || (k == m && nat_lt l n)) ≡ true → (nat_lt i m || (i == m && nat_lt j n)) ≡ true
    through i j k l m n h g = grind (arith, nat_tests)

other_beside : (o p : Other) → has_stream_ids o.stream o.original p ≡ false → comes_before o p ≡ false → comes_before p o ≡ true
other_beside o p differ h = beside o.stream o.original p.stream p.original differ h
  where
    beside : (i j k l : ℕ) → (i == k && j == l) ≡ false → (nat_lt i k || (i == k && nat_lt j l)) ≡ false → (nat_lt k i || (k == i && nat_lt l j)) ≡ true
    beside i j k l d h = grind (arith, nat_tests)

still_alone : (s o : ℕ) (p : Other) (others : List Other) (r : Record) → p.stream ≡ s → p.original ≡ o → IsAlone others (stream_in r) → has_ids s o r ≡ false → IsAlone (placed comes_before p others) (stream_in r)
still_alone s o p others (Stream a b) es eo h no_ids =
    let apart : has_stream_ids a b p ≡ false = rw (es, eo) no_ids in
    all_with (λ (q : Other). has_stream_ids a b q ≡ false) comes_before p others apart h
still_alone s o p others other es eo h no_ids = tt

pub others_more : (rs : List Numbered) (line s o : ℕ) (cable : Option Cable) → AreFineOthers rs → has_no_place rs (Elsewhere s o cable) ≡ false → repeated_at rs (Elsewhere s o cable) ≡ None
    → AreFineOthers (rs ++ numbered line (Elsewhere s o cable) ∷ [])
others_more rs line s o cable f place once =
    let r = numbered line (Elsewhere s o cable) in
    let new : Other = record { stream = s; original = o; cable = cable; services = []; descriptors = [] } in
    let all : all_of other_in (rs ++ r ∷ []) ≡ all_of other_in rs ++ new ∷ [] = all_more other_in rs r in
    let same : others_in (rs ++ r ∷ []) ≡ placed comes_before new (others_in rs) = ap (λ (l : List Other). all_placed comes_before l []) all ∙ placed_more comes_before (all_of other_in rs) [] new in
    let room : length (all_of other_in rs) < 15 = fewer (length (all_of other_in rs)) place in
    let apart = no_others rs s o once in
    record {
      few = rw all (omega (arith, room, length-append (all_of other_in rs) (new ∷ [])));
      ascend = rw same (come_with comes_before other_through new (others_in rs)
          (all_map (λ (p : Other). has_stream_ids s o p ≡ false) (λ (p : Other). comes_before new p ≡ false → comes_before p new ≡ true) (other_beside new) (others_in rs) apart) f.ascend);
      few_remotes = rw (all_kept remote_in rs r refl) f.few_remotes;
      remotes_ascend = λ a b. subst (λ (l : List RemoteService). DoCome has_lower_id (all_placed has_lower_id l [])) (sym (all_kept (remote_of a b) rs r refl)) (f.remotes_ascend a b);
      alone = rw same (all_push (λ (x : Numbered). IsAlone (placed comes_before new (others_in rs)) (stream_in x.says)) rs r
          (all_two (λ (x : Numbered). IsAlone (others_in rs) (stream_in x.says)) (λ (x : Numbered). has_ids s o x.says ≡ false) (λ (x : Numbered). IsAlone (placed comes_before new (others_in rs)) (stream_in x.says))
          (λ x h no_ids. still_alone s o new (others_in rs) x.says refl refl h no_ids) rs f.alone (none_pass (has_ids s o) rs once)) tt);
      ids = ids_with rs line (Elsewhere s o cable) f.ids (λ id e. cc e);
    }
  where
    fewer : (n : ℕ) → nat_le 15 n ≡ false → n < 15
    fewer n e = grind (arith, nat_tests)

-- ---- one service of another stream more

remote_here : (P : RemoteService → Type 0) (b : Bool) (s t : RemoteService) → P s → cond b (Some s) None ≡ Some t → P t
remote_here P true s t h e = (let same : s ≡ t = cc e in subst P same h)
remote_here P false s t h e = cc e

id_said : (id a b : ℕ) (r : Record) (t : RemoteService) → has_any_id id r ≡ false → remote_of a b r ≡ Some t → id ≢ t.service
id_said id a b (Remote s o service) t h e = remote_here (λ (u : RemoteService). id ≢ u.service) (s == a && o == b) service t (differs service.service id h) e
id_said id a b other t h e = cc e

lower_through : (a b c : RemoteService) → has_lower_id a b ≡ true → has_lower_id b c ≡ true → has_lower_id a c ≡ true
lower_through a b c h k = grind (arith, nat_tests)

lower_beside : (s t : RemoteService) → s.service ≢ t.service → has_lower_id s t ≡ false → has_lower_id t s ≡ true
lower_beside s t differ h = elim (cases_Bool (s.service == t.service)) [
  | inl e ↦ absurd (differ (eqb-true s.service t.service e))
  | inr e ↦ grind (arith, nat_tests)
]

new_id : (rs : List Numbered) (s : RemoteService) (a b : ℕ) → first_line (has_any_id s.service) rs ≡ None → AllByRecursion (λ (t : RemoteService). s.service ≢ t.service) (remotes_in a b rs)
new_id rs s a b e =
    all_in_place (λ (t : RemoteService). s.service ≢ t.service) has_lower_id (all_of (remote_of a b) rs) []
    (said_all (remote_of a b) (λ (t : RemoteService). s.service ≢ t.service) (λ r. has_any_id s.service r ≡ false) (id_said s.service a b) rs (none_pass (has_any_id s.service) rs e)) tt

ascend_with : (rs : List Numbered) (s : RemoteService) (a b : ℕ) (here : Bool) → DoCome has_lower_id (remotes_in a b rs) → first_line (has_any_id s.service) rs ≡ None
    → DoCome has_lower_id (all_placed has_lower_id (all_of (remote_of a b) rs ++ cons_option (cond here (Some s) None) []) [])
ascend_with rs s a b true h e =
    subst (DoCome has_lower_id) (sym (placed_more has_lower_id (all_of (remote_of a b) rs) [] s))
    (come_with has_lower_id lower_through s (remotes_in a b rs)
    (all_map (λ (t : RemoteService). s.service ≢ t.service) (λ (t : RemoteService). has_lower_id s t ≡ false → has_lower_id t s ≡ true) (lower_beside s) (remotes_in a b rs) (new_id rs s a b e)) h)
ascend_with rs s a b false h e = subst (λ (l : List RemoteService). DoCome has_lower_id (all_placed has_lower_id l [])) (sym (append-nil (all_of (remote_of a b) rs))) h

pub remotes_more : (rs : List Numbered) (line s o : ℕ) (service : RemoteService) → AreFineOthers rs → has_no_place rs (Remote s o service) ≡ false → repeated_at rs (Remote s o service) ≡ None
    → AreFineOthers (rs ++ numbered line (Remote s o service) ∷ [])
remotes_more rs line s o service f place once =
    let r = numbered line (Remote s o service) in
    let same : others_in (rs ++ r ∷ []) ≡ others_in rs = ap (λ (l : List Other). all_placed comes_before l []) (all_kept other_in rs r refl) in
    let all : all_of remote_in (rs ++ r ∷ []) ≡ all_of remote_in rs ++ service ∷ [] = all_more remote_in rs r in
    let room : length (all_of remote_in rs) < 64 = fewer (length (all_of remote_in rs)) (or_false_right (not (list_any (λ (x : Numbered). is_other s o x.says) rs)) (nat_le 64 (length (all_of remote_in rs))) place) in
    record {
      few = rw (all_kept other_in rs r refl) f.few;
      ascend = rw same f.ascend;
      few_remotes = rw all (omega (arith, room, length-append (all_of remote_in rs) (service ∷ [])));
      remotes_ascend = λ a b. subst (λ (l : List RemoteService). DoCome has_lower_id (all_placed has_lower_id l [])) (sym (all_more (remote_of a b) rs r)) (ascend_with rs service a b (s == a && o == b) (f.remotes_ascend a b) once);
      alone = rw same (all_push (λ (x : Numbered). IsAlone (others_in rs) (stream_in x.says)) rs r f.alone tt);
      ids = ids_with rs line (Remote s o service) f.ids (λ id e. subst (λ (n : ℕ). first_line (has_any_id n) rs ≡ None) (eqb-true service.service id e) once);
    }
  where
    fewer : (n : ℕ) → nat_le 64 n ≡ false → n < 64
    fewer n e = grind (arith, nat_tests)

-- ---- the other streams of the multiplex

cable_said : (r : Record) (o : Other) → IsFine r → other_in r ≡ Some o → HasSoundCable o.cable
cable_said (Elsewhere a b cable) o h e =
    let new : Other = record { stream = a; original = b; cable = cable; services = []; descriptors = [] } in
    let same : new ≡ o = cc e in
    subst (λ (p : Other). HasSoundCable p.cable) same h.1
cable_said other o h e = cc e

remote_said : (a b : ℕ) (r : Record) (t : RemoteService) → IsFine r → remote_of a b r ≡ Some t → IsFineRemote t
remote_said a b (Remote s o service) t h e = remote_here IsFineRemote (s == a && o == b) service t h e
remote_said a b other t h e = cc e

fine_remotes : (rs : List Numbered) (a b : ℕ) → AllByRecursion (λ (r : Numbered). IsFine r.says) rs → AllByRecursion IsFineRemote (remotes_in a b rs)
fine_remotes rs a b each = all_in_place IsFineRemote has_lower_id (all_of (remote_of a b) rs) [] (said_all (remote_of a b) IsFineRemote IsFine (remote_said a b) rs each) tt

fine_cables : (rs : List Numbered) → AllByRecursion (λ (r : Numbered). IsFine r.says) rs → AllByRecursion (λ (o : Other). HasSoundCable o.cable) (others_in rs)
fine_cables rs each =
    all_in_place (λ (o : Other). HasSoundCable o.cable) comes_before (all_of other_in rs) [] (said_all other_in (λ (o : Other). HasSoundCable o.cable) IsFine cable_said rs each) tt

ids_said : (r : Record) (o : Other) → IsFine r → other_in r ≡ Some o → HasStreamIds o
ids_said (Elsewhere stream original cable) o h e =
    let new : Other = record { stream = stream; original = original; cable = cable; services = []; descriptors = [] } in
    let same : new ≡ o = cc e in
    subst HasStreamIds same (record { stream = h.0.0; original = h.0.1 })
ids_said other o h e = cc e

-- the ids of the other streams have 16 bits
pub fine_ids : (rs : List Numbered) → AllByRecursion (λ (r : Numbered). IsFine r.says) rs → AllByRecursion HasStreamIds (others_of rs)
fine_ids rs each =
    all_through HasStreamIds HasStreamIds (with_remotes rs) (λ o h. record { stream = h.stream; original = h.original }) (others_in rs)
    (all_in_place HasStreamIds comes_before (all_of other_in rs) [] (said_all other_in HasStreamIds IsFine ids_said rs each) tt)

-- a service with its further descriptors
sound_own : (rs : List Numbered) → AllByRecursion (λ (r : Numbered). IsFine r.says) rs → AreInRooms rs → (s : RemoteService) → IsFineRemote s → IsSoundRemote (with_own rs s)
sound_own rs each rooms s h = record {
  service = h.0.service;
  feed = h.0.feed;
  provider = h.0.provider;
  name = h.0.name;
  descriptors = sound_at (InService s.service) rs each;
  room = (let most = rooms.service s.service in omega (arith, most, service_room s.service rs));
}

own_ascends : (rs : List Numbered) (ss : List RemoteService) → DoCome has_lower_id ss → DoCome has_lower_id (map (with_own rs) ss)
own_ascends rs [] h = tt
own_ascends rs (s ∷ ss) h = (all_to_map (λ (t : RemoteService). has_lower_id s t ≡ true) (with_own rs) ss h.0, own_ascends rs ss h.1)

sound_each : (rs : List Numbered) → AllByRecursion (λ (r : Numbered). IsFine r.says) rs → AreFineOthers rs → AreInRooms rs → AllByRecursion IsSoundOther (others_of rs)
sound_each rs each f rooms =
    all_through (λ (o : Other). HasSoundCable o.cable) IsSoundOther (with_remotes rs)
    (λ o h. record {
      cable = h;
      services = all_through IsFineRemote IsSoundRemote (with_own rs) (sound_own rs each rooms) (remotes_in o.stream o.original rs) (fine_remotes rs o.stream o.original each);
      ascend = own_ascends rs (remotes_in o.stream o.original rs) (f.remotes_ascend o.stream o.original);
      descriptors = sound_at (InOther o.stream o.original) rs each;
    })
    (others_in rs) (fine_cables rs each)

each_ascends : (rs : List Numbered) (others : List Other) → DoCome comes_before others → DoCome comes_before (map (with_remotes rs) others)
each_ascends rs [] h = tt
each_ascends rs (o ∷ others) h = (all_to_map (λ (p : Other). comes_before o p ≡ true) (with_remotes rs) others h.0, each_ascends rs others h.1)

-- the stream is none of the other ones
pub first_alone : (others : List Other) (rs : List Numbered) → AllByRecursion (λ (r : Numbered). IsAlone others (stream_in r.says)) rs → IsAlone others (said stream_in (first is_stream rs))
first_alone others [] h = tt
first_alone others (r ∷ rs) h = elim (cases_Bool (is_stream r.says)) [
  | inl e ↦ rw e h.0
  | inr e ↦ rw e (first_alone others rs h.1)
]

-- no more services than records of them
pub remotes_few : (rs : List Numbered) → AreFineOthers rs → length (remote_services (others_of rs)) ≤ length (all_of remote_in rs)
remotes_few rs f =
    let all = remote_services (others_of rs) in
    let one = tally_each all in
    let two = tally_remotes (λ (s : RemoteService). true) rs (others_in rs) in
    let three = tally_of_each (λ (s : RemoteService). true) rs (others_in rs) f.ascend in
    let four = tally_each (all_of remote_in rs) in
    omega (arith, one, two, three, four)

few_services : (rs : List Numbered) → AreFineOthers rs → length (remote_services (others_of rs)) ≤ 64
few_services rs f = (let few = f.few_remotes in omega (arith, few, remotes_few rs f))

once_each : (rs : List Numbered) → AreFineOthers rs → (n : ℕ) → tally (λ m. m == n) (map (λ (s : MuxService). s.service) (services_of rs) ++ map (λ (s : RemoteService). s.service) (remote_services (others_of rs))) ≤ 1
once_each rs f n =
    let own = all_of service_in rs in
    let one = tally_append (λ m. m == n) (map (λ (s : MuxService). s.service) (services_of rs)) (map (λ (s : RemoteService). s.service) (remote_services (others_of rs))) in
    let two = tally_map (λ m. m == n) (λ (s : MuxService). s.service) (services_of rs) in
    let three = tally_map (λ (s : MuxService). s.service == n) (with_parts rs) (sorted own) in
    let four = tally_sorted (λ (s : MuxService). s.service == n) own in
    let five = tally_map (λ m. m == n) (λ (s : RemoteService). s.service) (remote_services (others_of rs)) in
    let six = tally_remotes (λ (s : RemoteService). s.service == n) rs (others_in rs) in
    let seven = tally_of_each (λ (s : RemoteService). s.service == n) rs (others_in rs) f.ascend in
    let eight = tally_either n rs in
    let most = f.ids n in
    omega (arith, one, two, three, four, five, six, seven, eight, most)

pub sound_others : (rs : List Numbered) (network : ℕ × List ℕ) (stream : ℕ × ℕ) → AllByRecursion (λ (r : Numbered). IsFine r.says) rs → AreFineOthers rs → AreInRooms rs → IsAlone (others_in rs) (Some stream)
    → AreSoundOthers (mux_with network stream rs)
sound_others rs network stream each f rooms alone = record {
  few = (let a = length-map (others_in rs) (with_remotes rs) in let b = length_placed comes_before (all_of other_in rs) [] in let few = f.few in omega (arith, a, b, few));
  each = sound_each rs each f rooms;
  ascend = each_ascends rs (others_in rs) f.ascend;
  apart = all_to_map (λ (o : Other). has_stream_ids stream.0 stream.1 o ≡ false) (with_remotes rs) (others_in rs) alone;
  few_services = few_services rs f;
  once = different_of _ (once_each rs f);
}

-- the names of their services may be kept
pub kept_names : (rs : List Numbered) → AllByRecursion (λ (r : Numbered). IsFine r.says) rs → AllByRecursion (λ (s : RemoteService). IsKept s.provider × IsKept s.name) (remote_services (others_of rs))
kept_names rs each =
    all_flat (λ (o : Other). AllByRecursion (λ (s : RemoteService). IsKept s.provider × IsKept s.name) o.services) (λ (s : RemoteService). IsKept s.provider × IsKept s.name) (λ (o : Other). o.services) (λ o h. h) (others_of rs)
    (all_through (λ (o : Other). HasSoundCable o.cable) (λ (o : Other). AllByRecursion (λ (s : RemoteService). IsKept s.provider × IsKept s.name) o.services) (with_remotes rs)
    (λ o h. all_through IsFineRemote (λ (s : RemoteService). IsKept s.provider × IsKept s.name) (with_own rs) (λ s h. h.1) (remotes_in o.stream o.original rs) (fine_remotes rs o.stream o.original each))
    (others_in rs) (fine_cables rs each))
