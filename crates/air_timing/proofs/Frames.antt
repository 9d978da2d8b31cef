-- Frames: that they have all of a body, and how far apart they begin.
use Rattle.std.proofs.Common.{◌≡◌, ℕ, zero, suc, ◌+◌, ◌*◌, ◌<◌, ◌≤◌, List, [], ◌∷◌, ◌++◌, Bool, true, false, refl, sym, ap, subst, arith, length, append-nil, length-append}
use Rattle.std.specs.List.{AllByRecursion}
use Rattle.std.specs.Prelude.{if◌then◌else◌, nat_lt, ◌==◌, flat_map}
use Rattle.std.proofs.lemmas.Bool.{ltb-true, eqb-true}
use Rattle.std.proofs.Math.Nat.{mul-le-mul_right}
use Rattle.si_lists.proofs.Lists.{all_behind, all_at}
use Rattle.ts_packets.specs.Packets.{packets_of}
use Rattle.air_model.specs.Packing.{need_of, packets_so_far}
use Rattle.air_model.proofs.Packings.{starts_needing}
use Rattle.air_timing.specs.Pacing.{Timed, Place, first_of, last_of, paced_one, paced_all, HaveBytes, IsNear}
use Rattle.air_timing.specs.Frames.{Framed, Frame, Rest, start_of, begin_at, begin_of, bare, led_at, end_at, order_of, in_part, in_next, rest_from, Follow, FramesAreWhole, FramesAreShort, IsOther, AreOthers, packets, AreSized, LeadInTime, EndInTime, AreNear, LeadsInTime, FramesAreNear, LeadsRepeat}
use Rattle.air_timing.proofs.Pacing.{closed_begins, begins_first, first_most, first_last, last_most, so_far_with, so_far_most, near_one}

-- ---- the body

pub paced_all-append : (t : Timed) (p : Place) (xs ys : List ℕ) → paced_all t p (xs ++ ys) ≡ paced_all t (paced_all t p xs) ys
paced_all-append t p [] ys = refl
paced_all-append t p (x ∷ xs) ys = paced_all-append t (paced_one t p x) xs ys

abbrev parts_of : Rest → List ℕ
parts_of r = r.part ++ flat_map (λ (frame : Frame). frame.part) r.frames

bare_parts : (f : Framed) (k j : ℕ) (p : Place) → flat_map (λ (frame : Frame). frame.part) (bare f k j p) ≡ []
bare_parts f zero j p = refl
bare_parts f (suc k) j p = bare_parts f k (suc j) (led_at f p j)

body_is : (f : Framed) (j end : ℕ) (p : Place) (xs : List ℕ) → parts_of (rest_from f j end p xs) ≡ xs
body_is f j end p [] = bare_parts f (f.more j) (suc j) p
body_is f j end p (x ∷ xs) =
    let q = paced_one f.timed (paced_all f.timed p (f.lead (suc j))) x in
    let end_next = begin_at f p (suc j) + f.span in
    go (nat_lt (last_of f.timed p x) end) (rest_from f j end (paced_one f.timed p x) xs) (rest_from f (suc j) end_next q xs) (body_is f j end (paced_one f.timed p x) xs) (body_is f (suc j) end_next q xs)
  where
    go : (b : Bool) (one two : Rest) → parts_of one ≡ xs → parts_of two ≡ xs → parts_of (if b then in_part x one else in_next (suc j) p x two) ≡ x ∷ xs
    go true r q one two = ap (λ (l : List ℕ). x ∷ l) one
    go false r q one two = ap (λ (l : List ℕ). x ∷ l) two

-- a frame of a lead alone ends with its lead
bare_end : (f : Framed) (j : ℕ) (p : Place) → led_at f p j ≡ paced_all f.timed p (f.lead j ++ [])
bare_end f j p = ap (paced_all f.timed p) (sym (append-nil (f.lead j)))

bare_follow : (f : Framed) (k j : ℕ) (p : Place) → Follow f j p (bare f k j p)
bare_follow f zero j p = tt
bare_follow f (suc k) j p = (refl, refl, subst (λ (place : Place). Follow f (suc j) place (bare f k (suc j) (led_at f p j))) (bare_end f j p) (bare_follow f k (suc j) (led_at f p j)))

follow : (f : Framed) (j end : ℕ) (p : Place) (xs : List ℕ) → Follow f (suc j) (paced_all f.timed p (rest_from f j end p xs).part) (rest_from f j end p xs).frames
follow f j end p [] = bare_follow f (f.more j) (suc j) p
follow f j end p (x ∷ xs) =
    let q = paced_one f.timed (paced_all f.timed p (f.lead (suc j))) x in
    let end_next = begin_at f p (suc j) + f.span in
    go (nat_lt (last_of f.timed p x) end) (rest_from f j end (paced_one f.timed p x) xs) (rest_from f (suc j) end_next q xs) (follow f j end (paced_one f.timed p x) xs) (follow f (suc j) end_next q xs)
  where
    led : Place
    led = paced_all f.timed p (f.lead (suc j))

    go : (b : Bool) (one two : Rest) → Follow f (suc j) (paced_all f.timed (paced_one f.timed p x) one.part) one.frames → Follow f (suc (suc j)) (paced_all f.timed (paced_one f.timed led x) two.part) two.frames
        → Follow f (suc j) (paced_all f.timed p (if b then in_part x one else in_next (suc j) p x two).part) (if b then in_part x one else in_next (suc j) p x two).frames
    go true one two h k = h
    go false one two h k = (refl, refl, subst (λ (place : Place). Follow f (suc (suc j)) place two.frames) (sym (paced_all-append f.timed p (f.lead (suc j)) (x ∷ two.part))) k)

pub frames_are_whole : FramesAreWhole
frames_are_whole f j p body =
    let led = paced_all f.timed p (f.lead j) in
    let end = begin_at f p j + f.span in
    let r = rest_from f j end led body in
    record {
      body_is = body_is f j end led body;
      follow = (refl, refl, subst (λ (place : Place). Follow f (suc j) place r.frames) (sym (paced_all-append f.timed p (f.lead j) r.part)) (follow f j end led body));
    }

bare_short : (f : Framed) (most : ℕ) → ((j : ℕ) → length (f.lead j) ≤ most) → (k j : ℕ) (p : Place) → length (order_of f (bare f k j p)) ≤ k * most
bare_short f most few zero j p = omega arith
bare_short f most few (suc k) j p =
    let r = bare_short f most few k (suc j) (led_at f p j) in
    let here = few j in
    let one = length-append (f.lead j) [] in
    let all = length-append (f.lead j ++ []) (order_of f (bare f k (suc j) (led_at f p j))) in
    let step : suc k * most ≡ most + k * most = omega arith in
    omega arith

abbrev sections_in : Framed → Rest → ℕ
sections_in f r = length r.part + length (order_of f r.frames)

rest_short : (f : Framed) (most more : ℕ) → ((j : ℕ) → length (f.lead j) ≤ most) → ((j : ℕ) → f.more j ≤ more) → (j end : ℕ) (p : Place) (xs : List ℕ) → sections_in f (rest_from f j end p xs) ≤ length xs + (length xs + more) * most
rest_short f most more few ends j end p [] =
    let b = bare_short f most few (f.more j) (suc j) p in
    let m = mul-le-mul_right most (ends j) in
    omega arith
rest_short f most more few ends j end p (x ∷ xs) =
    let q = paced_one f.timed (paced_all f.timed p (f.lead (suc j))) x in
    let end_next = begin_at f p (suc j) + f.span in
    go (nat_lt (last_of f.timed p x) end) (rest_from f j end (paced_one f.timed p x) xs) (rest_from f (suc j) end_next q xs)
    (rest_short f most more few ends j end (paced_one f.timed p x) xs) (rest_short f most more few ends (suc j) end_next q xs)
  where
    go : (b : Bool) (one two : Rest) → sections_in f one ≤ length xs + (length xs + more) * most → sections_in f two ≤ length xs + (length xs + more) * most
        → sections_in f (if b then in_part x one else in_next (suc j) p x two) ≤ suc (length xs) + (suc (length xs) + more) * most
    go true one two h k = let step : (suc (length xs) + more) * most ≡ most + (length xs + more) * most = omega arith in omega arith
    go false one two h k =
        let step : (suc (length xs) + more) * most ≡ most + (length xs + more) * most = omega arith in
        let here = few (suc j) in
        let lead = length-append (f.lead (suc j)) (x ∷ two.part) in
        let all = length-append (f.lead (suc j) ++ x ∷ two.part) (order_of f two.frames) in
        omega arith

pub frames_are_short : FramesAreShort
frames_are_short f most more few ends j p body =
    let r = rest_from f j (end_at f p j) (led_at f p j) body in
    let s = rest_short f most more few ends j (end_at f p j) (led_at f p j) body in
    let here = few j in
    let lead = length-append (f.lead j) r.part in
    let all = length-append (f.lead j ++ r.part) (order_of f r.frames) in
    let step : (1 + length body + more) * most ≡ most + (length body + more) * most = omega arith in
    omega arith

-- ---- a lead

-- each of these sub-tables is free at n or before
abbrev AreFree : Timed → Place → ℕ → List ℕ → Type 0
AreFree t p n xs = AllByRecursion (λ (y : ℕ). p.free (t.table y) ≤ n) xs

free_others : (t : Timed) (p : Place) (x n : ℕ) (xs : List ℕ) → IsOther t x xs → AreFree t p n xs → AreFree t (paced_one t p x) (n + packets_of (t.len x)) xs
free_others t p x n [] other free = tt
free_others t p x n (y ∷ ys) other free = (go (t.table y == t.table x) refl, free_others t p x n ys other.1 free.1)
  where
    go : (b : Bool) → (t.table y == t.table x) ≡ b → (if b then last_of t p x + 1 + t.gap else p.free (t.table y)) ≤ n + packets_of (t.len x)
    go true e = absurd (other.0 (eqb-true (t.table y) (t.table x) e))
    go false e = let h = free.0 in omega arith

pub record LeadGoes (t : Timed) (p : Place) (n : ℕ) (xs : List ℕ) : Type 0 where
  pub end : packets_so_far (paced_all t p xs).packing ≤ n + packets t xs
  pub each : (front : List ℕ) (x : ℕ) (rest : List ℕ) → xs ≡ front ++ x ∷ rest → first_of t (paced_all t p front) x ≤ n + packets t front

lead_goes : (t : Timed) (p : Place) (n : ℕ) (xs : List ℕ) → AreOthers t xs → HaveBytes t xs → packets_so_far p.packing ≤ n → AreFree t p n xs → LeadGoes t p n xs
lead_goes t p n [] others some so free = record { end = omega arith; each = λ front x rest e. absurd (none front x rest e) }
  where
    none : (front : List ℕ) (x : ℕ) (rest : List ℕ) → [] ≡ front ++ x ∷ rest → Prim.⊥
    none [] x rest e = cc
    none (y ∷ front) x rest e = cc
lead_goes t p n (x ∷ xs) others some so free =
    let r = lead_goes t (paced_one t p x) (n + packets_of (t.len x)) xs others.1 some.1 (so_far_most t p x n some.0 so free.0) (free_others t p x n xs others.0 free.1) in
    let e = r.end in
    record { end = omega arith; each = each r }
  where
    each : LeadGoes t (paced_one t p x) (n + packets_of (t.len x)) xs → (front : List ℕ) (y : ℕ) (rest : List ℕ) → x ∷ xs ≡ front ++ y ∷ rest → first_of t (paced_all t p front) y ≤ n + packets t front
    each r [] y rest e =
        let same : x ≡ y = cc in
        let f = first_most t p x n so free.0 in
        subst (λ (z : ℕ). first_of t p z ≤ n + 0) same (omega arith)
    each r (z ∷ front) y rest e =
        let same : x ≡ z = cc in
        let more : xs ≡ front ++ y ∷ rest = cc in
        let g = r.each front y rest more in
        subst (λ (w : ℕ). first_of t (paced_all t (paced_one t p w) front) y ≤ n + (packets_of (t.len w) + packets t front)) same (omega arith)

near_all : (t : Timed) (p : Place) (xs : List ℕ) → HaveBytes t xs → IsNear t p → IsNear t (paced_all t p xs)
near_all t p [] some near = near
near_all t p (x ∷ xs) some near = near_all t (paced_one t p x) xs some.1 (near_one t p x some.0 near)

-- the packets that are closed stay so
closed_grows : (t : Timed) (p : Place) (xs : List ℕ) → p.packing.closed ≤ (paced_all t p xs).packing.closed
closed_grows t p [] = omega arith
closed_grows t p (x ∷ xs) =
    let c = closed_begins t p.packing x in
    let b = begins_first t p x in
    let l = first_last t p x in
    let r = closed_grows t (paced_one t p x) xs in
    omega arith

pub record LeadStands (t : Timed) (p : Place) (xs : List ℕ) : Type 0 where
  -- it begins at most a gap after the packets before,
  pub begin : start_of t p xs ≤ packets_so_far p.packing + t.gap
  -- ends in time, and its sections begin in time
  pub end : packets_so_far (paced_all t p xs).packing ≤ start_of t p xs + 1 + t.gap + packets t xs
  pub leads : (front : List ℕ) (x : ℕ) (rest : List ℕ) → xs ≡ front ++ x ∷ rest → LeadInTime t p xs front x

start_most : (t : Timed) (p : Place) (xs : List ℕ) → IsNear t p → start_of t p xs ≤ packets_so_far p.packing + t.gap
start_most t p [] near = omega arith
start_most t p (x ∷ xs) near = first_most t p x (packets_so_far p.packing + t.gap) (omega arith) (near (t.table x))

start_least : (t : Timed) (p : Place) (xs : List ℕ) → packets_so_far p.packing ≤ start_of t p xs + 1
start_least t p [] = omega arith
start_least t p (x ∷ xs) = let s = (starts_needing (need_of t.least (t.len x)) p.packing (t.lane x)).near_total in let b = begins_first t p x in omega arith

start_front : (t : Timed) (p : Place) (xs front : List ℕ) (x : ℕ) (rest : List ℕ) → xs ≡ front ++ x ∷ rest → start_of t p xs ≤ first_of t (paced_all t p front) x
start_front t p xs [] x rest e = subst (λ (l : List ℕ). start_of t p l ≤ first_of t p x) (sym e) (let r : first_of t p x ≤ first_of t p x = omega arith in r)
start_front t p xs (y ∷ front) x rest e =
    let l = first_last t p y in
    let c = closed_grows t (paced_one t p y) front in
    let d = closed_begins t (paced_all t p (y ∷ front)).packing x in
    let b = begins_first t (paced_all t p (y ∷ front)) x in
    subst (λ (l : List ℕ). start_of t p l ≤ first_of t (paced_all t p (y ∷ front)) x) (sym e) (omega arith)

all_free : (t : Timed) (p : Place) (n : ℕ) (xs : List ℕ) → ((k : ℕ) → p.free k ≤ n) → AreFree t p n xs
all_free t p n [] h = tt
all_free t p n (x ∷ xs) h = (h (t.table x), all_free t p n xs h)

lead_stands : (t : Timed) (p : Place) (xs : List ℕ) → AreOthers t xs → HaveBytes t xs → IsNear t p → LeadStands t p xs
lead_stands t p xs others some near =
    let least = start_least t p xs in
    let r = lead_goes t p (start_of t p xs + 1 + t.gap) xs others some (omega arith) (all_free t p (start_of t p xs + 1 + t.gap) xs (λ k. (let n = near k in omega arith))) in
    record {
      begin = start_most t p xs near;
      end = r.end;
      leads = λ front x rest e. record { least = start_front t p xs front x rest e; most = r.each front x rest e };
    }

-- ---- frames

-- frames after one that begins with packet b
abbrev Chain : Framed → ℕ → List Frame → Type 0
Chain f b [] = Unit {0}
Chain f b (frame ∷ frames) = (begin_of f frame ≤ b + f.span + f.timed.gap) × Chain f (begin_of f frame) frames

pub record BareGo (f : Framed) (b : ℕ) (frames : List Frame) : Type 0 where
  pub ends : EndInTime f frames
  pub near : Chain f b frames
  pub leads : LeadsInTime f frames

pub record Goes (f : Framed) (b : ℕ) (p : Place) (r : Rest) : Type 0 where
  pub end : packets_so_far (paced_all f.timed p r.part).packing ≤ b + f.span
  pub ends : EndInTime f r.frames
  pub near : Chain f b r.frames
  pub leads : LeadsInTime f r.frames

module _ (f : Framed) (most : ℕ) (others : (j : ℕ) → AreOthers f.timed (f.lead j)) (few : (j : ℕ) → packets f.timed (f.lead j) ≤ most)
    (some : (j : ℕ) → HaveBytes f.timed (f.lead j)) (room : most + 2 * f.timed.gap + 26 ≤ f.span) where
  lead_at : (j : ℕ) (p : Place) → IsNear f.timed p → LeadStands f.timed p (f.lead j)
  lead_at j p near = lead_stands f.timed p (f.lead j) (others j) (some j) near

  -- a section more after a lead ends in its frame
  fits_after : (j : ℕ) (p : Place) (x : ℕ) → IsNear f.timed p → f.timed.len x ≤ 4096 → last_of f.timed (paced_all f.timed p (f.lead j)) x + 1 ≤ begin_at f p j + f.span
  fits_after j p x near len =
      let q = paced_all f.timed p (f.lead j) in
      let l = lead_at j p near in
      let end = l.end in
      let little = few j in
      let nq = near_all f.timed p (f.lead j) (some j) near in
      let first = first_most f.timed q x (packets_so_far q.packing + f.timed.gap) (omega arith) (nq (f.timed.table x)) in
      let last = last_most f.timed q x len in
      omega arith

  -- the end of a lead, and what follows it
  lead_ends : (j : ℕ) (p : Place) → IsNear f.timed p → packets_so_far (led_at f p j).packing ≤ begin_at f p j + f.span
  lead_ends j p near =
      let end = (lead_at j p near).end in
      let little = few j in
      omega arith

  bare_goes : (k j b : ℕ) (p : Place) → IsNear f.timed p → packets_so_far p.packing ≤ b + f.span → BareGo f b (bare f k j p)
  bare_goes zero j b p near so = record { ends = tt; near = tt; leads = tt }
  bare_goes (suc k) j b p near so =
      let l = lead_at j p near in
      let begin = l.begin in
      let end = lead_ends j p near in
      let r = bare_goes k (suc j) (begin_at f p j) (led_at f p j) (near_all f.timed p (f.lead j) (some j) near) end in
      record {
        ends = (subst (λ (place : Place). packets_so_far place.packing ≤ begin_at f p j + f.span) (bare_end f j p) end, r.ends);
        near = (omega arith, r.near);
        leads = (l.leads, r.leads);
      }

  goes : (j b : ℕ) (p : Place) (xs : List ℕ) → AreSized f.timed xs → IsNear f.timed p → packets_so_far p.packing ≤ b + f.span → Goes f b p (rest_from f j (b + f.span) p xs)
  goes j b p [] sizes near so = let r = bare_goes (f.more j) (suc j) b p near so in record { end = so; ends = r.ends; near = r.near; leads = r.leads }
  goes j b p (x ∷ xs) sizes near so =
      let begin = begin_at f p (suc j) in
      let led = paced_all f.timed p (f.lead (suc j)) in
      let q = paced_one f.timed led x in
      let s = so_far_with f.timed p x sizes.0.0 in
      let nq = near_all f.timed p (f.lead (suc j)) (some (suc j)) near in
      let fit = fits_after (suc j) p x near sizes.0.1 in
      let sl = so_far_with f.timed led x sizes.0.0 in
      go (nat_lt (last_of f.timed p x) (b + f.span)) refl (rest_from f j (b + f.span) (paced_one f.timed p x) xs) (rest_from f (suc j) (begin + f.span) q xs)
      (λ lt. goes j b (paced_one f.timed p x) xs sizes.1 (near_one f.timed p x sizes.0.0 near) (omega arith))
      (goes (suc j) begin q xs sizes.1 (near_one f.timed led x sizes.0.0 nq) (omega arith))
    where
      led : Place
      led = paced_all f.timed p (f.lead (suc j))

      go : (c : Bool) → nat_lt (last_of f.timed p x) (b + f.span) ≡ c → (one two : Rest) → (last_of f.timed p x < b + f.span → Goes f b (paced_one f.timed p x) one)
          → Goes f (begin_at f p (suc j)) (paced_one f.timed led x) two → Goes f b p (if c then in_part x one else in_next (suc j) p x two)
      go true e one two h k =
          let r = h (ltb-true (last_of f.timed p x) (b + f.span) e) in
          record { end = r.end; ends = r.ends; near = r.near; leads = r.leads }
      go false e one two h k =
          let l = lead_at (suc j) p near in
          let lb = l.begin in
          let after : packets_so_far (paced_all f.timed p (f.lead (suc j) ++ x ∷ two.part)).packing ≤ begin_at f p (suc j) + f.span =
          subst (λ (place : Place). packets_so_far place.packing ≤ begin_at f p (suc j) + f.span) (sym (paced_all-append f.timed p (f.lead (suc j)) (x ∷ two.part))) k.end in
          record { end = so; ends = (after, k.ends); near = (omega arith, k.near); leads = (l.leads, k.leads) }

chain_near : (f : Framed) (frame : Frame) (frames : List Frame) → Chain f (begin_of f frame) frames → AreNear f (frame ∷ frames)
chain_near f frame [] h = tt
chain_near f frame (next ∷ frames) h = (h.0, chain_near f next frames h.1)

pub frames_are_near : FramesAreNear
frames_are_near f most j p body has near =
    let led = paced_all f.timed p (f.lead j) in
    let begin = begin_at f p j in
    let l = lead_stands f.timed p (f.lead j) (has.others j) (has.some j) near in
    let end = l.end in
    let little = has.few j in
    let room = has.room in
    let nl = near_all f.timed p (f.lead j) (has.some j) near in
    let r = goes f most has.others has.few has.some has.room j begin led body has.sizes nl (omega arith) in
    let rest = rest_from f j (begin + f.span) led body in
    let after : packets_so_far (paced_all f.timed p (f.lead j ++ rest.part)).packing ≤ begin + f.span =
    subst (λ (place : Place). packets_so_far place.packing ≤ begin + f.span) (sym (paced_all-append f.timed p (f.lead j) rest.part)) r.end in
    record {
      end = (after, r.ends);
      near = chain_near f (record { number = j; place = p; part = rest.part }) rest.frames r.near;
      leads = (l.leads, r.leads);
    }

-- ---- how often

near_tail : (f : Framed) (a : Frame) (frames : List Frame) → AreNear f (a ∷ frames) → AreNear f frames
near_tail f a [] h = tt
near_tail f a (b ∷ frames) h = h.1

near_after : (f : Framed) (before frames : List Frame) → AreNear f (before ++ frames) → AreNear f frames
near_after f [] frames h = h
near_after f (a ∷ before) frames h = near_after f before frames (near_tail f a (before ++ frames) h)

near_over : (f : Framed) (a : Frame) (between : List Frame) (b : Frame) (after : List Frame) → AreNear f (a ∷ (between ++ b ∷ after))
    → begin_of f b ≤ begin_of f a + (1 + length between) * (f.span + f.timed.gap)
near_over f a [] b after h = (let n = h.0 in omega arith)
near_over f a (c ∷ between) b after h =
    let n = h.0 in
    let r = near_over f c between b after h.1 in
    let e : (1 + suc (length between)) * (f.span + f.timed.gap) ≡ f.span + f.timed.gap + (1 + length between) * (f.span + f.timed.gap) = omega arith in
    omega arith

pub leads_repeat : LeadsRepeat
leads_repeat f most j p body has near between a b front front_b x r =
    let all = frames_are_near f most j p body has near in
    let frames = subst (AreNear f) r.are all.near in
    let begins = near_over f a between b r.after (near_after f r.before (a ∷ (between ++ b ∷ r.after)) frames) in
    let leads = subst (LeadsInTime f) r.are all.leads in
    let here = all_behind _ r.before (a ∷ (between ++ b ∷ r.after)) leads in
    let first = (here.0 front x r.rest r.at_a).least in
    let second = ((all_at _ between b r.after here.1) front_b x r.rest_b r.at_b).most in
    omega arith
