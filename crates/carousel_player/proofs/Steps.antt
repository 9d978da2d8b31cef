-- One section further in a packet.
use Rattle.std.proofs.Common.{◌≡◌, ℕ, zero, suc, ◌+◌, ◌-◌, ◌<◌, ◌≤◌, min, List, [], ◌∷◌, ◌++◌, Bool, true, false, not, Option, Some, None, length, refl, sym, ap, ap₂, ◌∙◌, subst, arith, take, drop, length-take, length-drop, length-append}
use Rattle.std.specs.Prelude.{◌==◌, is_some, if◌then◌else◌}
use Rattle.std.specs.List.{AllByRecursion}
use Rattle.std.proofs.lemmas.Bool.Decides.{nat_tests}
use Rattle.std.proofs.lemmas.List.{take_all, drop_all}
use Rattle.ts_packets.specs.Bytes.{Packet, bytes_of_packet}
use Rattle.ts_packets.specs.Packer.{Begun, empty_on, room_for, pointer_at, with_first, with_further, finished}
use Rattle.air_model.specs.Air.{Sent}
use Rattle.air_model.proofs.Dense.{HaveSome}
use Rattle.carousel_player.specs.Queue.{CanBeSent, first_pid, first_bytes, IsBegun}
use Rattle.carousel_player.specs.Packing.{packets_behind, not_put, packets_with, packets_from, CanTake, Took, IsFilled}
use Rattle.carousel_player.specs.Sending.{PutsFirst}
use Rattle.carousel_player.proofs.Packs.{begins_empty, some_packet, takes_first, is_full, is_other, holds_all, begins_past, goes_past, goes_whole}

have_some : (ss : List Sent) → AllByRecursion CanBeSent ss → HaveSome ss
have_some [] h = tt
have_some (s ∷ ss) h = (h.0.some, have_some ss h.1)

-- ---- the section that is next

pub some_left : (ss : List Sent) (pid : ℕ) → first_pid ss ≡ Some pid → 0 < length ss
some_left [] pid is = cc
some_left (s ∷ ss) pid is = omega arith

pub from_within : (ss : List Sent) (from pid : ℕ) → IsBegun from ss → first_pid ss ≡ Some pid → from < length (first_bytes ss)
from_within [] from pid begun is = cc
from_within (s ∷ ss) from pid begun is = begun

pub pid_fits : (ss : List Sent) (pid : ℕ) → AllByRecursion CanBeSent ss → first_pid ss ≡ Some pid → pid < 8192
pid_fits [] pid fit is = cc
pid_fits (s ∷ ss) pid fit is = let same : s.pid ≡ pid = cc in subst (λ (n : ℕ). n < 8192) same fit.0.pid

-- sections that can be sent can begin
can_begin : (ss : List Sent) → AllByRecursion CanBeSent ss → IsBegun 0 ss
can_begin [] fit = refl
can_begin (s ∷ ss) fit = fit.0.some

no_zero : (n : ℕ) → 0 < n → false ≡ (n == 0)
no_zero n some = grind (arith, nat_tests)

-- nothing is to come exactly where no section is next
pub ended_is : (ss : List Sent) (from : ℕ) (none : Bool) → IsBegun from ss → AllByRecursion CanBeSent ss → is_some (first_pid ss) ≡ not none → none ≡ (length (packets_behind ss from) == 0)
ended_is [] from none begun fit told = go none told
  where
    go : (none : Bool) → false ≡ not none → none ≡ (length (packets_behind [] from) == 0)
    go true e = ap (λ (n : ℕ). length (packets_behind [] n) == 0) (sym begun)
    go false e = cc
ended_is (s ∷ ss) from none begun fit told = go none told
  where
    go : (none : Bool) → true ≡ not none → none ≡ (length (packets_behind (s ∷ ss) from) == 0)
    go true e = cc
    go false e =
        let packet = some_packet s ss from (have_some (s ∷ ss) fit) begun in
        let more = ap length packet.2 in
        no_zero (length (packets_behind (s ∷ ss) from)) (omega (arith, more))

-- an empty packet of its PID can take it
pub can_take : (ss : List Sent) (from pid : ℕ) → IsBegun from ss → first_pid ss ≡ Some pid → CanTake (empty_on pid) ss from
can_take ss from pid begun is = record { begun = begun; fits = refl; empty = λ some. refl; some = λ none. is }

-- what is to come is taken from an empty packet on
taken_from : (ss : List Sent) (from pid : ℕ) → AllByRecursion CanBeSent ss → first_pid ss ≡ Some pid → packets_from (empty_on pid) ss from ≡ packets_behind ss from
taken_from [] from pid fit is = cc
taken_from (s ∷ ss) from pid fit is =
    let same : s.pid ≡ pid = cc in
    subst (λ (n : ℕ). packets_from (empty_on n) (s ∷ ss) from ≡ packets_behind (s ∷ ss) from) same (sym (begins_empty s ss from (have_some (s ∷ ss) fit)))

-- the first packet to come was written
pub puts_first : (ss left : List Sent) (from sent pid : ℕ) (new : Begun) (into : List ℕ) → AllByRecursion CanBeSent ss → first_pid ss ≡ Some pid → IsFilled (empty_on pid) new ss left from sent
    → into ≡ bytes_of_packet (finished new) → PutsFirst (packets_behind ss from) (packets_behind left sent) into
puts_first ss left from sent pid new into fit is filled put =
    subst (λ (l : List Packet). PutsFirst l (packets_behind left sent) into) (filled.same ∙ taken_from ss from pid fit is)
    (refl, put, record { pid = subst (λ (n : ℕ). n < 8192) (sym filled.pid) (pid_fits ss pid fit is); counter = refl })

-- ---- a packet takes what is next

has_some : (b : Begun) → (b.bytes ≡ [] → Prim.⊥) → 0 < length b.bytes
has_some b h = go b.bytes h
  where
    go : (l : List ℕ) → (l ≡ [] → Prim.⊥) → 0 < length l
    go [] none = absurd (none refl)
    go (x ∷ xs) none = omega arith

-- nothing is next
pub filled_none : (b : Begun) (ss : List Sent) (from : ℕ) → CanTake b ss from → first_pid ss ≡ None → IsFilled b b ss ss from from
filled_none b [] from h is = record {
  begun = h.begun;
  pid = refl;
  some = has_some b (λ none. let e = h.some none in cc);
  same = subst (λ (n : ℕ). finished b ∷ packets_behind [] n ≡ packets_from b [] n) (sym h.begun) (sym (holds_all b [] h.fits));
}
filled_none b (s ∷ ss) from h is = cc

-- what is next is of another PID
pub filled_other : (b : Begun) (ss : List Sent) (from pid : ℕ) → CanTake b ss from → first_pid ss ≡ Some pid → (pid ≡ b.pid → Prim.⊥) → IsFilled b b ss ss from from
filled_other b [] from pid h is other = cc
filled_other b (s ∷ ss) from pid h is other = go from h
  where
    same : s.pid ≡ pid
    same = cc

    no_on : (from : ℕ) → CanTake b (s ∷ ss) from → b.bytes ≡ [] → Prim.⊥
    no_on from h none = let e = h.some none in other (let on : pid ≡ b.pid = cc in on)

    apart : (s.pid == b.pid) ≡ false
    apart = go (s.pid == b.pid) refl
      where
        go : (x : Bool) → (s.pid == b.pid) ≡ x → (s.pid == b.pid) ≡ false
        go true e = absurd (other (sym same ∙ (let f : s.pid ≡ b.pid = grind (arith, nat_tests) in f)))
        go false e = e

    go : (from : ℕ) → CanTake b (s ∷ ss) from → IsFilled b b (s ∷ ss) (s ∷ ss) from from
    go zero h = record {
      begun = h.begun;
      pid = refl;
      some = has_some b (no_on 0 h);
      same = sym (is_other b s ss apart ∙ holds_all b (s ∷ ss) h.fits);
    }
    go (suc from) h = absurd (no_on (suc from) h (ap (λ (x : Begun). x.bytes) (h.empty (omega arith))))

-- what a call of `add` did
pub record Added (b new : Begun) (section : List ℕ) (from count : ℕ) : Type 0 where
  pub most : count ≡ min (length section - from) (room_for b from)
  pub full : count ≡ 0 → new ≡ b
  pub first : from ≡ 0 → 0 < count → new ≡ with_first b (take count section)
  pub further : 0 < from → new ≡ with_further b (take count (drop from section))

room_further : (b : Begun) (from : ℕ) → room_for b (suc from) ≡ 184
room_further b from = ap (λ (x : Bool). if x then 183 - length b.bytes else 184) (let e : (suc from == 0) ≡ false = grind (arith, nat_tests) in e)

-- the section goes on past the packet
pub filled_past : (b new : Begun) (ss : List Sent) (from count pid : ℕ) → CanTake b ss from → AllByRecursion CanBeSent ss → first_pid ss ≡ Some pid → pid ≡ b.pid → Added b new (first_bytes ss) from count
    → from + count < length (first_bytes ss) → IsFilled b new ss ss from (from + count)
filled_past b new [] from count pid h fit is on did lt = cc
filled_past b new (s ∷ ss) zero zero pid h fit is on did lt =
    let full : 183 ≤ length b.bytes = omega (arith, did.most) in
    let same = did.full refl in
    let begun : finished b ∷ packets_behind (s ∷ ss) 0 ≡ packets_with b (s ∷ ss) = sym (is_full b (s ∷ ss) full ∙ holds_all b (s ∷ ss) h.fits) in
    record {
      begun = lt;
      pid = ap (λ (x : Begun). x.pid) same;
      some = subst (λ (x : Begun). 0 < length x.bytes) (sym same) (omega arith);
      same = subst (λ (x : Begun). finished x ∷ packets_behind (s ∷ ss) 0 ≡ packets_with b (s ∷ ss)) (sym same) begun;
    }
filled_past b new (s ∷ ss) zero (suc k) pid h fit is on did lt =
    let own : s.pid ≡ b.pid = cc in
    let room : suc k ≡ 183 - length b.bytes = omega (arith, did.most) in
    let some : 0 < suc k = omega arith in
    let same = did.first refl some in
    let begun = begins_past b s ss (suc k) own (omega arith) room (omega arith) in
    let place : suc k ≡ 0 + suc k = omega arith in
    record {
      begun = lt;
      pid = ap (λ (x : Begun). x.pid) same;
      some = subst (λ (x : Begun). 0 < length x.bytes) (sym same) (omega (arith, length-append b.bytes (take (suc k) s.bytes), length-take (suc k) s.bytes));
      same = subst (λ (n : ℕ). finished new ∷ packets_behind (s ∷ ss) n ≡ packets_with b (s ∷ ss)) place (ap (λ (x : Begun). finished x ∷ packets_behind (s ∷ ss) (suc k)) same ∙ sym begun);
    }
filled_past b new (s ∷ ss) (suc from) count pid h fit is on did lt =
    let own : s.pid ≡ b.pid = cc in
    let most : count ≡ 184 = omega (arith, did.most, room_further b from) in
    let some : 0 < suc from = omega arith in
    let empty : b ≡ empty_on s.pid = h.empty some ∙ ap empty_on (sym own) in
    let same : new ≡ with_further (empty_on s.pid) (take 184 (drop (suc from) s.bytes)) =
    did.further some ∙ ap₂ (λ (x : Begun) (n : ℕ). with_further x (take n (drop (suc from) s.bytes))) empty most in
    let past = goes_past s ss from (have_some (s ∷ ss) fit).1 (omega arith) in
    record {
      begun = lt;
      pid = ap (λ (x : Begun). x.pid) same ∙ own;
      some = subst (λ (x : Begun). 0 < length x.bytes) (sym same) (omega (arith, length-take 184 (drop (suc from) s.bytes), length-drop (suc from) s.bytes));
      same = ap₂ (λ (x : Begun) (n : ℕ). finished x ∷ packets_behind (s ∷ ss) (suc from + n)) same most ∙ sym past;
    }

-- where all that was put into a packet has room
held_first : (pointer : Option ℕ) (n : ℕ) (l : List ℕ) → length l ≤ 183 → not_put (pointer_at pointer n) l ≡ []
held_first None n l le = drop_all 183 l le
held_first (Some q) n l le = drop_all 183 l le

-- the section has ended
pub took_next : (b new : Begun) (ss : List Sent) (from count pid : ℕ) → CanTake b ss from → AllByRecursion CanBeSent ss → first_pid ss ≡ Some pid → pid ≡ b.pid → Added b new (first_bytes ss) from count
    → length (first_bytes ss) ≤ from + count → Took b new ss (drop 1 ss) from
took_next b new [] from count pid h fit is on did le = cc
took_next b new (s ∷ ss) zero count pid h fit is on did le =
    let own : s.pid ≡ b.pid = cc in
    let bytes : 0 < length s.bytes = fit.0.some in
    let some : 0 < count = omega arith in
    let whole : take count s.bytes ≡ s.bytes = take_all count s.bytes (omega arith) in
    let same : new ≡ with_first b s.bytes = did.first refl some ∙ ap (with_first b) whole in
    let room : length b.bytes + length s.bytes ≤ 183 = omega (arith, did.most) in
    let joined = length-append b.bytes s.bytes in
    record {
      can = record {
        begun = can_begin ss fit.1;
        fits = subst (λ (x : Begun). not_put x.pointer x.bytes ≡ []) (sym same) (held_first b.pointer (length b.bytes) (b.bytes ++ s.bytes) (omega (arith, joined)));
        empty = λ none. absurd (omega arith);
        some = λ none. absurd (let e : length (b.bytes ++ s.bytes) ≡ 0 = ap length (ap (λ (x : Begun). x.bytes) (sym same) ∙ none) in omega (arith, joined));
      };
      pid = ap (λ (x : Begun). x.pid) same;
      same = ap (λ (x : Begun). packets_with x ss) same ∙ sym (takes_first b s ss own (omega arith));
      fewer = omega arith;
    }
took_next b new (s ∷ ss) (suc from) count pid h fit is on did le =
    let own : s.pid ≡ b.pid = cc in
    let rest = drop (suc from) s.bytes in
    let some : 0 < suc from = omega arith in
    let begun : suc from < length s.bytes = h.begun in
    let behind = length-drop (suc from) s.bytes in
    let empty : b ≡ empty_on s.pid = h.empty some ∙ ap empty_on (sym own) in
    let whole : take count rest ≡ rest = take_all count rest (omega (arith, behind)) in
    let same : new ≡ with_further (empty_on s.pid) rest = did.further some ∙ ap₂ with_further empty whole in
    let room : length rest ≤ 184 = omega (arith, did.most, room_further b from, behind) in
    record {
      can = record {
        begun = can_begin ss fit.1;
        fits = subst (λ (x : Begun). not_put x.pointer x.bytes ≡ []) (sym same) (drop_all 184 rest room);
        empty = λ none. absurd (omega arith);
        some = λ none. absurd (let e : length rest ≡ 0 = ap length (ap (λ (x : Begun). x.bytes) (sym same) ∙ none) in omega (arith, behind));
      };
      pid = ap (λ (x : Begun). x.pid) same ∙ own;
      same = ap (λ (x : Begun). packets_with x ss) same ∙ sym (goes_whole s ss from (have_some (s ∷ ss) fit).1 begun);
      fewer = omega arith;
    }
