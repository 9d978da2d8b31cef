-- The leads of a plan have room, so its frames are near to each other.
use Rattle.std.proofs.Common.{◌≡◌, ℕ, suc, ◌+◌, ◌*◌, ◌%◌, ◌<◌, ◌≤◌, List, [], ◌∷◌, ◌++◌, length, map, refl, sym, ap, ◌∙◌, subst, arith, append-nil}
use Rattle.std.specs.Prelude.{flat_map}
use Rattle.std.specs.List.{AllByRecursion}
use Rattle.si_lists.proofs.Lists.{all_of_map, all_to_map}
use Rattle.section_codec.specs.Contents.{numbers_from}
use Rattle.air_model.specs.Cycle.{Planned as Tiers, fast_of}
use Rattle.air_model.specs.Packing.{packets_so_far}
use Rattle.air_model.proofs.Lists.{all-numbers}
use Rattle.air_timing.specs.declared.pace.Paced.{Paced}
use Rattle.air_timing.specs.declared.timing.Timing.{Timing}
use Rattle.air_timing.specs.Pacing.{Place, place_at, paced_all, timings, HaveBytes, IsNear}
use Rattle.air_timing.specs.Frames.{Framed, Frame, sections_of, place_after, order_of, Follow, AreOthers, HasRoom, AreInTime}
use Rattle.air_timing.specs.Plan.{Planned, section_at, framed_of, frames_in}
use Rattle.air_timing.specs.Rate.{gap_at, span_at}
use Rattle.air_timing.specs.Turns.{often_of, round_of}
use Rattle.air_timing.proofs.Frames.{paced_all-append, frames_are_whole, frames_are_near}
use Rattle.cycle_timing.specs.Leads.{most_sections, lead_from, leads_of, lead_packets, most_packets, measure}
use Rattle.cycle_timing.specs.Planning.{table_at, body_of, fast_groups, plan_at}
use Rattle.cycle_timing.proofs.PacedGroups.{are_groups}
use Rattle.cycle_timing.proofs.PacedLeads.{largest_least, all_or, lead_others}
use Rattle.cycle_timing.proofs.Plans.{total, all_body, all_fast, all_leads}
use Rattle.cycle_timing.proofs.Sent.{timings-append}

-- each of these leads has no more packets than the most
pub most_least : (ss : List Paced) (leads : List (List ℕ)) → AllByRecursion (λ (lead : List ℕ). lead_packets ss lead ≤ most_packets ss leads) leads
most_least ss leads = all_of_map (λ (n : ℕ). n ≤ most_packets ss leads) (lead_packets ss) leads (largest_least (map (lead_packets ss) leads))

-- a section has 1 to 4,096 bytes
abbrev pub AreSizedOnce : List Paced → Tiers → Type 0
AreSizedOnce ss p = (i : ℕ) → i < total p → (0 < (section_at ss i).len) × ((section_at ss i).len ≤ 4096)

module _ (rate : ℕ) (ss : List Paced) (p : Tiers) (sized : AreSizedOnce ss p) where
  abbrev pub plan : Planned
  plan = plan_at rate ss p

  abbrev pub framed : Framed
  framed = framed_of plan

  abbrev pub tables : List (List ℕ)
  tables = fast_groups ss p

  abbrev pub begin : Place
  begin = place_at (gap_at rate)

  abbrev pub frames : List Frame
  frames = frames_in plan begin

  pub room : HasRoom framed (measure ss tables).most (body_of ss p)
  room = record {
    others = λ j. all_or (AreOthers framed.timed) (leads_of tables) [] (j % length (leads_of tables))
        (all_to_map (AreOthers framed.timed) (λ (i : ℕ). lead_from (often_of n) i 0 tables) (numbers_from 0 (round_of n))
        (all-numbers (λ (i : ℕ). AreOthers framed.timed (lead_from (often_of n) i 0 tables)) 0 (round_of n) (λ i a b. lead_others framed.timed (often_of n) i 0 tables (are_groups (table_at ss) (fast_of p))))) tt;
    few = λ j. all_or (λ (lead : List ℕ). lead_packets ss lead ≤ most_packets ss (leads_of tables)) (leads_of tables) [] (j % length (leads_of tables)) (most_least ss (leads_of tables)) (omega arith);
    some = λ j. all_or (HaveBytes framed.timed) (leads_of tables) [] (j % length (leads_of tables)) (all_leads (λ (i : ℕ). 0 < framed.timed.len i) tables (all_fast (λ (i : ℕ). 0 < framed.timed.len i) ss p (λ i l. (sized i l).0))) tt;
    sizes = all_body (λ (i : ℕ). (0 < framed.timed.len i) × (framed.timed.len i ≤ 4096)) ss p (λ i a l. sized i l);
    room = span_room;
  }
    where
      n : ℕ
      n = most_sections tables

      span_room : (measure ss tables).most + 2 * gap_at rate + 26 ≤ span_at rate (measure ss tables)
      span_room = omega arith

  pub near : IsNear framed.timed begin
  near table = omega arith

  pub in_time : AreInTime framed frames
  in_time = frames_are_near framed (measure ss tables).most 0 begin (body_of ss p) room near

  pub follow : Follow framed 0 begin frames
  follow = (frames_are_whole framed 0 begin (body_of ss p)).follow

  -- the sections of the body in each frame
  pub parts : (P : ℕ → Type 0) → AllByRecursion P (body_of ss p) → AllByRecursion (λ (frame : Frame). AllByRecursion P frame.part) frames
  parts P all = go frames (subst (AllByRecursion P) (sym (frames_are_whole framed 0 begin (body_of ss p)).body_is) all)
    where
      front : (xs ys : List ℕ) → AllByRecursion P (xs ++ ys) → AllByRecursion P xs
      front [] ys h = tt
      front (x ∷ xs) ys h = (h.0, front xs ys h.1)

      behind : (xs ys : List ℕ) → AllByRecursion P (xs ++ ys) → AllByRecursion P ys
      behind [] ys h = h
      behind (x ∷ xs) ys h = behind xs ys h.1

      go : (fs : List Frame) → AllByRecursion P (flat_map (λ (frame : Frame). frame.part) fs) → AllByRecursion (λ (frame : Frame). AllByRecursion P frame.part) fs
      go [] h = tt
      go (frame ∷ fs) h = (front frame.part (flat_map (λ (frame : Frame). frame.part) fs) h, go fs (behind frame.part (flat_map (λ (frame : Frame). frame.part) fs) h))

-- ---- timings and packets, frame by frame

pub frame_timings : (f : Framed) (j : ℕ) (p : Place) (fs : List Frame) → Follow f j p fs
    → timings f.timed p (order_of f fs) ≡ flat_map (λ (frame : Frame). timings f.timed frame.place (sections_of f frame)) fs
frame_timings f j p [] h = refl
frame_timings f j p (frame ∷ fs) h =
    let place : p ≡ frame.place = sym h.1 in
    timings-append f.timed p (sections_of f frame) (order_of f fs)
    ∙ ap (λ (q : Place). timings f.timed q (sections_of f frame) ++ timings f.timed (paced_all f.timed q (sections_of f frame)) (order_of f fs)) place
    ∙ ap (λ (l : List Timing). timings f.timed frame.place (sections_of f frame) ++ l) (frame_timings f (suc j) (place_after f frame) fs h.2)

-- the packets after frames are those after the last
abbrev pub end_of : Framed → Place → List Frame → ℕ
end_of f p fs = packets_so_far (paced_all f.timed p (order_of f fs)).packing

pub end_one : (f : Framed) (j : ℕ) (p : Place) (frame : Frame) → Follow f j p (frame ∷ []) → end_of f p (frame ∷ []) ≡ packets_so_far (place_after f frame).packing
end_one f j p frame h =
    ap (λ (l : List ℕ). packets_so_far (paced_all f.timed p l).packing) (append-nil (sections_of f frame)) ∙ ap (λ (q : Place). packets_so_far (paced_all f.timed q (sections_of f frame)).packing) (sym h.1)

pub end_more : (f : Framed) (j : ℕ) (p : Place) (frame : Frame) (fs : List Frame) → Follow f j p (frame ∷ fs) → end_of f p (frame ∷ fs) ≡ end_of f (place_after f frame) fs
end_more f j p frame fs h =
    ap (λ (q : Place). packets_so_far q.packing) (paced_all-append f.timed p (sections_of f frame) (order_of f fs))
    ∙ ap (λ (q : Place). packets_so_far (paced_all f.timed (paced_all f.timed q (sections_of f frame)) (order_of f fs)).packing) (sym h.1)
