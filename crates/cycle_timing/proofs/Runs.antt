-- The sections of a cycle begin and end in the real packets that their timings say.
use Rattle.std.proofs.Common.{◌≡◌, ℕ, zero, suc, ◌+◌, ◌-◌, ◌/◌, ◌<◌, ◌≤◌, ◌⊎◌, inl, inr, List, [], ◌∷◌, ◌++◌, Bool, true, false, Option, Some, length, map, refl, sym, ap, ap₂, ◌∙◌, subst, subst₂, arith, append_assoc, append-nil, length-append}
use Rattle.std.specs.Prelude.{if◌then◌else◌, nat_lt, ◌==◌, filter_map, replicate}
use Rattle.std.specs.List.{AllByRecursion, cons_option}
use Rattle.std.proofs.lemmas.Bool.{ltb-true, ltb-false, leb-false, eqb-true, eq-eqb}
use Rattle.std.proofs.lemmas.List.{length-map}
use Rattle.si_lists.proofs.Lists.{all_append, all_front, all_behind, all_map}
use Rattle.si_lists.proofs.Truths.{first_true, second_true}
use Rattle.ts_packets.specs.Packets.{pieces, stretch}
use Rattle.ts_packets.specs.Bytes.{Packet, packet_on, packets_dense}
use Rattle.ts_packets.proofs.Carrying.{length-pieces}
use Rattle.ts_packets.proofs.Dense.{HaveBytes}
use Rattle.air_model.specs.Packing.{Packing, begun_at, used_at_end, packed_one, packets_so_far, need_of, has_room_needing, begins_needing, taken_needing}
use Rattle.air_model.proofs.Packings.{used_some, so_far-begun}
use Rattle.air_timing.specs.declared.timing.Timing.{Timing}
use Rattle.air_timing.specs.Pacing.{Timed, Place, place_at, timing_of, timings, is_free_at, begins_in, packing_with, first_of, taken_at, last_of, paced_one, HaveBytes as HaveLengths}
use Rattle.air_timing.proofs.Pacing.{closed_begins, so_far_with}
use Rattle.air_model.specs.Air.{Sent}
use Rattle.air_model.specs.Bursts.{null_packet, paced_packets}
use Rattle.air_model.specs.Making.{bytes_of, each_dense, front_on, behind_on, counted}
use Rattle.air_model.proofs.Counted.{counted-append, length-counted}
use Rattle.air_model.proofs.Dense.{first_packets}
use Rattle.cycle_timing.specs.Cycle.{Run, Runs, runs_from, runs_of, burst_of, bursts_of}
use Rattle.cycle_timing.specs.Places.{StandsIn}
use Rattle.cycle_timing.proofs.Stretches.{places, ending, Alike, alike-places, inside, stretch_at}
use Rattle.cycle_timing.proofs.Stands.{EachStands, on, stretch_stands, stands_counted}
use Rattle.cycle_timing.proofs.Sent.{parts_of, runs_part, runs_are}

-- ---- sections that share packets

-- sections of one lane that follow each other in packets, from packet c on, which has u bytes of sections
abbrev Chain : Timed → ℕ → ℕ → ℕ → List Timing → Type 0
Chain t lane c u [] = Unit {0}
Chain t lane c u (x ∷ xs) =
    (t.lane x.section ≡ lane) × (x.first ≡ c) × (u < 183) × (x.last ≡ c + (u + t.len x.section) / 184) × Chain t lane x.last (used_at_end (u + t.len x.section)) xs

-- the packets after sections, n before them
abbrev pub after : ℕ → List Timing → ℕ
after n [] = n
after n (x ∷ xs) = after (x.last + 1) xs

pub after-append : (n : ℕ) (xs ys : List Timing) → after n (xs ++ ys) ≡ after (after n xs) ys
after-append n [] ys = refl
after-append n (x ∷ xs) ys = after-append (x.last + 1) xs ys

-- runs, n packets before them
abbrev RunsAt : Timed → ℕ → List Run → Type 0
RunsAt t n [] = Unit {0}
RunsAt t n (r ∷ rs) = ((lane : ℕ) × Chain t lane (n + r.nulls) 0 r.part) × RunsAt t (after (n + r.nulls) r.part) rs

abbrev after_runs : ℕ → List Run → ℕ
after_runs n [] = n
after_runs n (r ∷ rs) = after_runs (after (n + r.nulls) r.part) rs

-- ---- the next section shares the packet begun, or does not

-- after n packets in all, or null packets
abbrev IsAfter : ℕ → Packing → Type 0
IsAfter n packing = (n ≡ packets_so_far packing) ⊎ ((packing.used ≡ 0) × (n ≤ packing.closed))

record Shares (t : Timed) (p : Place) (x : ℕ) : Type 0 where
  pub pid : t.lane x ≡ p.packing.pid
  pub first : first_of t p x ≡ p.packing.closed
  pub room : p.packing.used < 183
  pub taken_is : taken_at t p x ≡ p.packing.used

-- of a packing, in which a section needs `need` bytes: where it begins, and the bytes before it
record Begun (need : ℕ) (packing : Packing) (pid : ℕ) : Type 0 where
  pub pid_is : pid ≡ packing.pid
  pub first : begins_needing need packing pid ≡ packing.closed
  pub room : packing.used < 184 - need
  pub taken_is : taken_needing need packing pid ≡ packing.used

begun_or : (need : ℕ) (packing : Packing) (pid : ℕ) → Begun need packing pid ⊎ ((begins_needing need packing pid ≡ packets_so_far packing) × (taken_needing need packing pid ≡ 0))
begun_or need packing pid = go (packing.used == 0) refl (has_room_needing need packing pid) refl
  where
    go : (b : Bool) → (packing.used == 0) ≡ b → (c : Bool) → has_room_needing need packing pid ≡ c → Begun need packing pid ⊎ ((begins_needing need packing pid ≡ packets_so_far packing) × (taken_needing need packing pid ≡ 0))
    go true e c f = inr (
      ap (λ (b : Bool). if b then packing.closed else if has_room_needing need packing pid then packing.closed else packing.closed + 1) e ∙ sym (ap (λ (b : Bool). if b then packing.closed else packing.closed + 1) e),
      ap (λ (b : Bool). if b then 0 else if has_room_needing need packing pid then packing.used else 0) e,
    )
    go false e true f = inl (record {
      pid_is = sym (eqb-true packing.pid pid (first_true (packing.pid == pid) (nat_lt packing.used (184 - need)) f));
      first = ap₂ (λ (b c : Bool). if b then packing.closed else if c then packing.closed else packing.closed + 1) e f;
      room = ltb-true packing.used (184 - need) (second_true (packing.pid == pid) (nat_lt packing.used (184 - need)) f);
      taken_is = ap₂ (λ (b c : Bool). if b then 0 else if c then packing.used else 0) e f;
    })
    go false e false f = inr (
      ap₂ (λ (b c : Bool). if b then packing.closed else if c then packing.closed else packing.closed + 1) e f ∙ sym (ap (λ (b : Bool). if b then packing.closed else packing.closed + 1) e),
      ap₂ (λ (b c : Bool). if b then 0 else if c then packing.used else 0) e f,
    )

so_far_used : (packing : Packing) → packets_so_far packing ≤ packing.closed + 1
so_far_used packing = go (packing.used == 0)
  where
    go : (b : Bool) → (if b then packing.closed else packing.closed + 1) ≤ packing.closed + 1
    go true = omega arith
    go false = omega arith

so_far_none : (packing : Packing) → packing.used ≡ 0 → packets_so_far packing ≡ packing.closed
so_far_none packing e = ap (λ (b : Bool). if b then packing.closed else packing.closed + 1) (eq-eqb packing.used 0 e)

-- a section that begins before the end of the packets so far shares the last of them,
shares : (t : Timed) (p : Place) (x n : ℕ) → 0 < t.len x → 0 < t.least → IsAfter n p.packing → first_of t p x < n → Shares t p x
shares t p x n some least is lt = go (is_free_at t p x) refl (begun_or need p.packing (t.lane x))
  where
    need : ℕ
    need = need_of t.least (t.len x)

    go : (b : Bool) → is_free_at t p x ≡ b → Begun need p.packing (t.lane x) ⊎ ((begins_in t p.packing x ≡ packets_so_far p.packing) × (taken_needing need p.packing (t.lane x) ≡ 0)) → Shares t p x
    go false e h =
        let f : first_of t p x ≡ p.free (t.table x) = ap (λ (b : Bool). begins_in t (if b then p.packing else begun_at (p.free (t.table x))) x) e in
        let l = leb-false (p.free (t.table x)) (begins_in t p.packing x) e in
        let c = closed_begins t p.packing x in
        let s = so_far_used p.packing in
        absurd (late is f l c s)
      where
        late : IsAfter n p.packing → first_of t p x ≡ p.free (t.table x) → begins_in t p.packing x < p.free (t.table x) → p.packing.closed ≤ begins_in t p.packing x → packets_so_far p.packing ≤ p.packing.closed + 1 → Prim.⊥
        late (inl i) f l c s = omega arith
        late (inr i) f l c s = let i1 = i.1 in omega arith
    go true e (inr h) =
        let f : first_of t p x ≡ begins_in t p.packing x = ap (λ (b : Bool). begins_in t (if b then p.packing else begun_at (p.free (t.table x))) x) e in
        absurd (late is f h.0)
      where
        late : IsAfter n p.packing → first_of t p x ≡ begins_in t p.packing x → begins_in t p.packing x ≡ packets_so_far p.packing → Prim.⊥
        late (inl i) f h = omega arith
        late (inr i) f h = let z = so_far_none p.packing i.0 in let i1 = i.1 in omega arith
    go true e (inl h) = record {
      pid = h.pid_is;
      first = ap (λ (b : Bool). begins_in t (if b then p.packing else begun_at (p.free (t.table x))) x) e ∙ h.first;
      room = (let r = h.room in let m : 1 ≤ need_of t.least (t.len x) = omega arith in omega arith);
      taken_is = ap (λ (b : Bool). taken_needing (need_of t.least (t.len x)) (if b then p.packing else begun_at (p.free (t.table x))) (t.lane x)) e ∙ h.taken_is;
    }

-- and any other one has no section before it in its packet
alone : (t : Timed) (p : Place) (x n : ℕ) → IsAfter n p.packing → n ≤ first_of t p x → taken_at t p x ≡ 0
alone t p x n is le = go (is_free_at t p x) refl (begun_or (need_of t.least (t.len x)) p.packing (t.lane x))
  where
    need : ℕ
    need = need_of t.least (t.len x)

    go : (b : Bool) → is_free_at t p x ≡ b → Begun (need_of t.least (t.len x)) p.packing (t.lane x) ⊎ ((begins_in t p.packing x ≡ packets_so_far p.packing) × (taken_needing (need_of t.least (t.len x)) p.packing (t.lane x) ≡ 0)) → taken_at t p x ≡ 0
    go false e h = ap (λ (b : Bool). taken_needing (need_of t.least (t.len x)) (if b then p.packing else begun_at (p.free (t.table x))) (t.lane x)) e
    go true e (inr h) = ap (λ (b : Bool). taken_needing (need_of t.least (t.len x)) (if b then p.packing else begun_at (p.free (t.table x))) (t.lane x)) e ∙ h.1
    go true e (inl h) =
        let f : first_of t p x ≡ p.packing.closed = ap (λ (b : Bool). begins_in t (if b then p.packing else begun_at (p.free (t.table x))) x) e ∙ h.first in
        ap (λ (b : Bool). taken_needing (need_of t.least (t.len x)) (if b then p.packing else begun_at (p.free (t.table x))) (t.lane x)) e ∙ h.taken_is ∙ unused is f
      where
        unused : IsAfter n p.packing → first_of t p x ≡ p.packing.closed → p.packing.used ≡ 0
        unused (inr i) f = i.0
        unused (inl i) f = zero_or (p.packing.used == 0) refl
          where
            zero_or : (b : Bool) → (p.packing.used == 0) ≡ b → p.packing.used ≡ 0
            zero_or true e = eqb-true p.packing.used 0 e
            zero_or false e = let s : packets_so_far p.packing ≡ p.packing.closed + 1 = ap (λ (b : Bool). if b then p.packing.closed else p.packing.closed + 1) e in absurd (omega arith)

-- ---- runs

record Parted (t : Timed) (n : ℕ) (packing : Packing) (r : Runs) (ts : List Timing) : Type 0 where
  pub part : Chain t packing.pid packing.closed packing.used r.part
  pub runs : RunsAt t (after n r.part) r.runs
  pub end : after_runs (after n r.part) r.runs ≡ after n ts

parted : (t : Timed) → 0 < t.least → (n : ℕ) (p : Place) (xs : List ℕ) → HaveLengths t xs → IsAfter n p.packing → Parted t n p.packing (runs_from n (timings t p xs)) (timings t p xs)
parted t least n p [] all is = record { part = tt; runs = tt; end = refl }
parted t least n p (x ∷ xs) all is =
    let m = last_of t p x + 1 in
    go (nat_lt (first_of t p x) n) refl (runs_from m (timings t (paced_one t p x) xs)) (parted t least m (paced_one t p x) xs all.1 (inl (sym (so_far_with t p x all.0))))
  where
    go : (b : Bool) → nat_lt (first_of t p x) n ≡ b → (r : Runs) → Parted t (last_of t p x + 1) (packing_with t p x) r (timings t (paced_one t p x) xs)
        → Parted t n p.packing (if b then record { part = timing_of t p x ∷ r.part; runs = r.runs } else record { part = []; runs = record { nulls = first_of t p x - n; part = timing_of t p x ∷ r.part } ∷ r.runs }) (timings t p (x ∷ xs))
    go true e r h =
        let s = shares t p x n all.0 least is (ltb-true (first_of t p x) n e) in
        record {
          part = (s.pid, s.first, s.room, ap₂ (λ (f u : ℕ). f + (u + t.len x) / 184) s.first s.taken_is, subst₂ (λ (q u : ℕ). Chain t q (last_of t p x) (used_at_end (u + t.len x)) r.part) s.pid s.taken_is h.part);
          runs = h.runs;
          end = h.end;
        }
    go false e r h =
        let le = ltb-false (first_of t p x) n e in
        let u = alone t p x n is le in
        let f : first_of t p x ≡ n + (first_of t p x - n) = omega arith in
        record {
          part = tt;
          runs = (
            (
              t.lane x,
              (refl, f, omega arith, ap₂ (λ (m v : ℕ). m + (v + t.len x) / 184) f u, subst (λ (v : ℕ). Chain t (t.lane x) (last_of t p x) (used_at_end (v + t.len x)) r.part) u h.part),
            ),
            h.runs,
          );
          end = h.end;
        }

-- ---- their packets

abbrev HaveSome : Timed → List Timing → Type 0
HaveSome t xs = AllByRecursion (λ (x : Timing). 0 < t.len x.section) xs

-- what is sent of a section: it has its PID and its length
abbrev pub IsSentAs : Timed → (Timing → Option Sent) → Timing → Type 0
IsSentAs t sent x = (s : Sent) × (sent x ≡ Some s) × (s.pid ≡ t.lane x.section / 4) × (length s.bytes ≡ t.len x.section)

abbrev pub AreSentAs : Timed → (Timing → Option Sent) → List Timing → Type 0
AreSentAs t sent xs = AllByRecursion (IsSentAs t sent) xs

abbrev spot : ℕ → Timing → ℕ × ℕ
spot base x = (base + x.first, base + x.last)

abbrev packing_at : ℕ → ℕ → ℕ → Packing
packing_at pid c u = record { closed = c; pid = pid; used = u }

-- a chain against the arithmetic of lengths
record ChainIs (sent : Timing → Option Sent) (base pid c u : ℕ) (xs : List Timing) : Type 0 where
  pub spots : places pid (packing_at pid (base + c) u) (bytes_of (filter_map sent xs)) ≡ map (spot base) xs
  pub so_far : (n : ℕ) → packets_so_far (packing_at pid (base + c) u) ≡ base + n → packets_so_far (ending pid (packing_at pid (base + c) u) (bytes_of (filter_map sent xs))) ≡ base + after n xs

chain_is : (t : Timed) (sent : Timing → Option Sent) (base lane pid c u : ℕ) (xs : List Timing) → HaveSome t xs → AreSentAs t sent xs → Chain t lane c u xs → ChainIs sent base pid c u xs
chain_is t sent base lane pid c u [] some sents h = record { spots = refl; so_far = λ n e. e }
chain_is t sent base lane pid c u (x ∷ xs) some sents h =
    let s = sents.0.0 in
    let len : length s.bytes ≡ t.len x.section = sents.0.3 in
    let r = chain_is t sent base lane pid x.last (used_at_end (u + t.len x.section)) xs some.1 sents.1 h.4 in
    let i = inside (base + c) pid u h.2 in
    let last : base + c + (u + t.len x.section) / 184 ≡ base + x.last = (let l = h.3 in omega arith) in
    let next : packed_one (packing_at pid (base + c) u) pid (length s.bytes) ≡ packing_at pid (base + x.last) (used_at_end (u + t.len x.section)) =
    ap (λ (n : ℕ). packed_one (packing_at pid (base + c) u) pid n) len
    ∙ ap₂ (λ (a b : ℕ). record { closed = a + (b + t.len x.section) / 184; pid = pid; used = used_at_end (b + t.len x.section) }) i.0 i.1
    ∙ ap (λ (n : ℕ). record { closed = n; pid = pid; used = used_at_end (u + t.len x.section) }) last in
    let here : bytes_of (filter_map sent (x ∷ xs)) ≡ s.bytes ∷ bytes_of (filter_map sent xs) = ap (λ (o : Option Sent). bytes_of (cons_option o (filter_map sent xs))) sents.0.1 in
    let first : base + c ≡ base + x.first = (let f = h.1 in omega arith) in
    let begun : packets_so_far (packing_at pid (base + x.last) (used_at_end (u + t.len x.section))) ≡ base + (x.last + 1) =
    so_far-begun (packing_at pid (base + x.last) (used_at_end (u + t.len x.section))) (used_some (u + t.len x.section) (let l = some.0 in omega arith)) ∙ (let e : base + x.last + 1 ≡ base + (x.last + 1) = omega arith in e) in
    record {
      spots = ap (places pid (packing_at pid (base + c) u)) here
          ∙ ap₂ (λ (n : ℕ) (p : Packing). (n, p.closed) ∷ places pid p (bytes_of (filter_map sent xs))) (i.0 ∙ first) next
          ∙ ap (λ (l : List (ℕ × ℕ)). spot base x ∷ l) r.spots;
      so_far = λ n e. ap (λ (l : List (List ℕ)). packets_so_far (ending pid (packing_at pid (base + c) u) l)) here
          ∙ ap (λ (p : Packing). packets_so_far (ending pid p (bytes_of (filter_map sent xs)))) next ∙ r.so_far (x.last + 1) begun;
    }

-- sections of one PID are one stretch
front_whole : (pid : ℕ) (ss : List Sent) → AllByRecursion (λ (s : Sent). s.pid ≡ pid) ss → (front_on pid ss ≡ ss) × (behind_on pid ss ≡ [])
front_whole pid [] h = (refl, refl)
front_whole pid (s ∷ ss) h =
    let r = front_whole pid ss h.1 in
    let e = eq-eqb s.pid pid h.0 in (
      ap (λ (b : Bool). if b then s ∷ front_on pid ss else []) e ∙ ap (λ (l : List Sent). s ∷ l) r.0,
      ap (λ (b : Bool). if b then behind_on pid ss else s ∷ ss) e ∙ r.1,
    )

one_dense : (pid : ℕ) (ss : List Sent) → AllByRecursion (λ (s : Sent). s.pid ≡ pid) ss → each_dense ss ≡ packets_dense pid (bytes_of ss)
one_dense pid [] h = refl
one_dense pid (s ∷ ss) h =
    let w = front_whole s.pid ss (all_map (λ (t : Sent). t.pid ≡ pid) (λ (t : Sent). t.pid ≡ s.pid) (λ t e. e ∙ sym h.0) ss h.1) in
    first_packets s ss ∙ ap₂ (λ (f b : List Sent). packets_dense s.pid (s.bytes ∷ bytes_of f) ++ each_dense b) w.0 w.1 ∙ append-nil (packets_dense s.pid (s.bytes ∷ bytes_of ss))
    ∙ ap (λ (q : ℕ). packets_dense q (s.bytes ∷ bytes_of ss)) h.0

chain_pids : (t : Timed) (sent : Timing → Option Sent) (lane c u : ℕ) (xs : List Timing) → AreSentAs t sent xs → Chain t lane c u xs → AllByRecursion (λ (s : Sent). s.pid ≡ lane / 4) (filter_map sent xs)
chain_pids t sent lane c u [] sents h = tt
chain_pids t sent lane c u (x ∷ xs) sents h =
    subst (λ (o : Option Sent). AllByRecursion (λ (s : Sent). s.pid ≡ lane / 4) (cons_option o (filter_map sent xs))) (sym sents.0.1)
    (sents.0.2 ∙ ap (λ (n : ℕ). n / 4) h.0, chain_pids t sent lane x.last (used_at_end (u + t.len x.section)) xs sents.1 h.4)

chain_bytes : (t : Timed) (sent : Timing → Option Sent) (xs : List Timing) → HaveSome t xs → AreSentAs t sent xs → HaveBytes (bytes_of (filter_map sent xs))
chain_bytes t sent [] some sents = tt
chain_bytes t sent (x ∷ xs) some sents =
    subst (λ (o : Option Sent). HaveBytes (bytes_of (cons_option o (filter_map sent xs)))) (sym sents.0.1)
    ((let l = sents.0.3 in let m = some.0 in let r : 0 < length sents.0.0.bytes = omega arith in r), chain_bytes t sent xs some.1 sents.1)

-- a section of a cycle stands where its timing says, base packets before the cycle
abbrev pub Stands : List Packet → (Timing → Option Sent) → ℕ → Timing → Type 0
Stands packets sent base x = (s : Sent) × (sent x ≡ Some s) × StandsIn packets (base + x.first) (base + x.last) s

each_stands : (t : Timed) (sent : Timing → Option Sent) (packets : List Packet) (base lane c u : ℕ) (xs : List Timing) → AreSentAs t sent xs → Chain t lane c u xs
    → EachStands packets (map (spot base) xs) (on (lane / 4) (bytes_of (filter_map sent xs))) → AllByRecursion (Stands packets sent base) xs
each_stands t sent packets base lane c u [] sents h each = tt
each_stands t sent packets base lane c u (x ∷ xs) sents h each =
    let s = sents.0.0 in
    let pid = lane / 4 in
    let got : EachStands packets (map (spot base) (x ∷ xs)) (record { pid = pid; bytes = s.bytes } ∷ on pid (bytes_of (filter_map sent xs))) =
    subst (λ (o : Option Sent). EachStands packets (map (spot base) (x ∷ xs)) (on pid (bytes_of (cons_option o (filter_map sent xs))))) sents.0.1 each in
    let same : pid ≡ s.pid = sym (sents.0.2 ∙ ap (λ (n : ℕ). n / 4) h.0) in (
      (s, sents.0.1, subst (λ (q : ℕ). StandsIn packets (base + x.first) (base + x.last) (record { pid = q; bytes = s.bytes })) same got.0),
      each_stands t sent packets base lane x.last (used_at_end (u + t.len x.section)) xs sents.1 h.4 got.1,
    )

-- ---- all runs

module _ (t : Timed) (sent : Timing → Option Sent) (base : ℕ) where
  -- the packets of runs, n packets after the first of a cycle
  record RunsStand (n : ℕ) (rs : List Run) (front rest : List Packet) : Type 0 where
    pub stand : AllByRecursion (Stands (front ++ (counted front (paced_packets (map (burst_of sent) rs)) ++ rest)) sent base) (parts_of rs)
    pub size : n + length (paced_packets (map (burst_of sent) rs)) ≡ after_runs n rs

  length_nulls : (n : ℕ) → length (replicate n null_packet) ≡ n
  length_nulls zero = refl
  length_nulls (suc n) = ap suc (length_nulls n)

  -- one run after null packets
  record RunStands (n : ℕ) (xs : List Timing) (front rest : List Packet) : Type 0 where
    pub stand : AllByRecursion (Stands (front ++ (counted front (each_dense (filter_map sent xs)) ++ rest)) sent base) xs
    pub size : n + length (each_dense (filter_map sent xs)) ≡ after n xs

  run_stands : (lane n : ℕ) (xs : List Timing) → HaveSome t xs → AreSentAs t sent xs → Chain t lane n 0 xs → (front rest : List Packet) → length front ≡ base + n → RunStands n xs front rest
  run_stands lane n xs some sents h front rest e =
      let pid = lane / 4 in
      let ss = filter_map sent xs in
      let bytes = bytes_of ss in
      let have = chain_bytes t sent xs some sents in
      let dense = one_dense pid ss (chain_pids t sent lane n 0 xs sents h) in
      let c = chain_is t sent base lane pid n 0 xs some sents h in
      let alike : Alike pid (begun_at (base + n)) (packing_at pid (base + n) 0) = record { begins_same = refl; taken_same = refl; so_far = refl } in
      let same = alike-places pid (begun_at (base + n)) (packing_at pid (base + n) 0) alike bytes in
      let own = each_dense ss in
      let are : front ++ (own ++ rest) ≡ front ++ (packets_dense pid bytes ++ rest) = ap (λ (l : List Packet). front ++ (l ++ rest)) dense in
      let each = subst (λ (l : List (ℕ × ℕ)). EachStands (front ++ (own ++ rest)) l (on pid bytes)) (ap (λ (k : ℕ). places pid (begun_at k) bytes) e ∙ same.0 ∙ c.spots)
      (stretch_stands (front ++ (own ++ rest)) front rest pid bytes have are) in
      let plain = each_stands t sent (front ++ (own ++ rest)) base lane n 0 xs sents h each in
      let many : length own ≡ length (stretch bytes) = ap length dense ∙ length-map (pieces [] (stretch bytes)) (packet_on pid) ∙ length-pieces [] (stretch bytes) in
      let count = (stretch_at pid (base + n) bytes have).count ∙ same.1 ∙ c.so_far n refl in
      record {
        stand = all_map (Stands (front ++ (own ++ rest)) sent base) (Stands (front ++ (counted front own ++ rest)) sent base)
            (λ x b. (b.0, b.1, stands_counted front own rest (base + x.first) (base + x.last) b.0 b.2)) xs plain;
        size = omega arith;
      }

  runs_stand : (n : ℕ) (rs : List Run) → HaveSome t (parts_of rs) → AreSentAs t sent (parts_of rs) → RunsAt t n rs → (front rest : List Packet) → length front ≡ base + n → RunsStand n rs front rest
  runs_stand n [] some sents h front rest e = record { stand = tt; size = omega arith }
  runs_stand n (r ∷ rs) some sents h front rest e =
      let nulls : List Packet = replicate r.nulls null_packet in
      let dense : List Packet = each_dense (filter_map sent r.part) in
      let later : List Packet = paced_packets (map (burst_of sent) rs) in
      let sent_nulls : List Packet = counted front nulls in
      let one : List Packet = front ++ sent_nulls in
      let sent_dense : List Packet = counted one dense in
      let two : List Packet = one ++ sent_dense in
      let sent_later : List Packet = counted two later in
      let parted : counted front ((nulls ++ dense) ++ later) ≡ sent_nulls ++ (sent_dense ++ sent_later) =
      ap (counted front) (append_assoc nulls dense later) ∙ counted-append front nulls (dense ++ later) ∙ ap (λ (l : List Packet). sent_nulls ++ l) (counted-append one dense later) in
      let whole : one ++ (sent_dense ++ (sent_later ++ rest)) ≡ front ++ (counted front ((nulls ++ dense) ++ later) ++ rest) =
      append_assoc front sent_nulls (sent_dense ++ (sent_later ++ rest))
      ∙ ap (λ (l : List Packet). front ++ l)
      (ap (λ (l : List Packet). sent_nulls ++ l) (sym (append_assoc sent_dense sent_later rest)) ∙ sym (append_assoc sent_nulls (sent_dense ++ sent_later) rest) ∙ ap (λ (l : List Packet). l ++ rest) (sym parted)) in
      let nulls_long = length_nulls r.nulls in
      let size : length one ≡ base + (n + r.nulls) = omega (arith, length-append front sent_nulls, length-counted front nulls) in
      let here = run_stands h.0.0 (n + r.nulls) r.part (all_front (λ (x : Timing). 0 < t.len x.section) r.part (parts_of rs) some) (all_front (IsSentAs t sent) r.part (parts_of rs) sents) h.0.1 one (sent_later ++ rest) size in
      let here_size = here.size in
      let next : length two ≡ base + after (n + r.nulls) r.part = omega (arith, length-append one sent_dense, length-counted one dense) in
      let there = runs_stand (after (n + r.nulls) r.part) rs (all_behind (λ (x : Timing). 0 < t.len x.section) r.part (parts_of rs) some) (all_behind (IsSentAs t sent) r.part (parts_of rs) sents) h.1 two rest next in
      let there_size = there.size in
      record {
        stand = all_append (Stands (front ++ (counted front ((nulls ++ dense) ++ later) ++ rest)) sent base) r.part (parts_of rs)
            (subst (λ (l : List Packet). AllByRecursion (Stands l sent base) r.part) whole here.stand)
            (subst (λ (l : List Packet). AllByRecursion (Stands l sent base) (parts_of rs)) (append_assoc one sent_dense (sent_later ++ rest) ∙ whole) there.stand);
        size = omega (arith, length-append (nulls ++ dense) later, length-append nulls dense);
      }

-- ---- a cycle

-- the cycle of these sections, `gap` packets after its first one
pub record CycleStands (t : Timed) (sent : Timing → Option Sent) (ts : List Timing) (front rest : List Packet) : Type 0 where
  pub stand : AllByRecursion (Stands (front ++ (counted front (paced_packets (bursts_of sent ts)) ++ rest)) sent (length front)) ts
  pub size : length (paced_packets (bursts_of sent ts)) ≡ after 0 ts

pub cycle_stands : (t : Timed) → 0 < t.least → (sent : Timing → Option Sent) (gap : ℕ) (xs : List ℕ) → HaveLengths t xs → AreSentAs t sent (timings t (place_at gap) xs) → (front rest : List Packet)
    → CycleStands t sent (timings t (place_at gap) xs) front rest
cycle_stands t least sent gap xs some sents front rest =
    let ts = timings t (place_at gap) xs in
    let h = parted t least 0 (place_at gap) xs some (inr (refl, omega arith)) in
    let none = runs_part ts in
    let runs = subst (λ (l : List Timing). RunsAt t (after 0 l) (runs_of ts)) none h.runs in
    let end : after_runs 0 (runs_of ts) ≡ after 0 ts = ap (λ (l : List Timing). after_runs (after 0 l) (runs_of ts)) (sym none) ∙ h.end in
    let are = runs_are ts in
    let r = runs_stand t sent (length front) 0 (runs_of ts) (subst (HaveSome t) (sym are) (have_some t (place_at gap) xs some)) (subst (AreSentAs t sent) (sym are) sents) runs front rest (omega arith) in
    let size = r.size in
    record { stand = subst (AllByRecursion (Stands (front ++ (counted front (paced_packets (bursts_of sent ts)) ++ rest)) sent (length front))) are r.stand; size = omega arith }
  where
    have_some : (t : Timed) (p : Place) (xs : List ℕ) → HaveLengths t xs → HaveSome t (timings t p xs)
    have_some t p [] some = tt
    have_some t p (x ∷ xs) some = (some.0, have_some t (paced_one t p x) xs some.1)
