-- What is heard of a run of packets that all came: the sections that begin and end in it.
use Rattle.std.proofs.Common.{◌≡◌, ℕ, ◌+◌, ◌<◌, List, [], ◌∷◌, ◌++◌, length, take, drop, map, refl, sym, ap, ap₂, ◌∙◌, subst, arith, append_assoc, length-append, take-append-drop, length-take, length-drop}
use Rattle.std.specs.List.{AllByRecursion}
use Rattle.std.proofs.lemmas.List.{map-append, length-map}
use Rattle.si_lists.proofs.Lists.{all_front, all_behind}
use Rattle.version_book.specs.Airings.{AiredTables}
use Rattle.ts_packets.specs.Bytes.{HasFields, bytes_of_packet}
use Rattle.ts_packets.specs.Packets.{Piece, pieces, left, HaveSectionBytes, all_of}
use Rattle.ts_packets.specs.Counting.{Load, loads_on, Count}
use Rattle.ts_demux.specs.Hearing.{heard, IsSection}
use Rattle.ts_demux.specs.Arrivals.{Arrival, arrivals_on, heard_of}
use Rattle.ts_demux.specs.Laws.{ended, within}
use Rattle.ts_demux.proofs.Hear.{heard_of-counting}
use Rattle.ts_demux.proofs.Heard.{AllSections}
use Rattle.ts_demux.proofs.Written.{arrive, pieces_of_loads, each_group}
use Rattle.ts_demux.proofs.Windows.{length-pieces, left-append, heard_part}
use Rattle.air_model.specs.Air.{Aired, air, CanBeSent}
use Rattle.air_model.specs.Repeating.{IsRepeatingAirOf, sent_by}
use Rattle.air_laws.proofs.Sections.{each_on}
use Rattle.air_laws.proofs.Joined.{groups_by, pieces_by, room_by, sections_by, sent_each}
use Rattle.ts_demux.specs.Breaks.{Before.Never, parts}
use Rattle.loss_laws.specs.Thinned.{Fate, came_of, IsThinnedAir}
use Rattle.loss_laws.proofs.Lanes.{Slot, Lane, lane, loads, loads-lane, kept-lane, few_in, came-fields}
use Rattle.loss_laws.proofs.Covers.{arrived, came_in, Covers, covers}

-- the sections that are heard of pieces among those that carry groups
window_heard : (groups : List (List (List ℕ))) (A B C : List Piece) → HaveSectionBytes [] groups → AllByRecursion IsSection (all_of groups) → A ++ (B ++ C) ≡ pieces [] groups
    → heard B ≡ within (length A) (length A + length B) groups
window_heard groups A B C room each are =
    let end = length A + length B in
    let front = take end groups in
    let one = take (length A) front in
    let two = drop (length A) front in
    let three = drop end groups in
    let all : length A + (length B + length C) ≡ length groups =
    sym (length-append A (B ++ C) ∙ ap (λ (n : ℕ). length A + n) (length-append B C)) ∙ ap length are ∙ length-pieces [] groups in
    let split : groups ≡ one ++ (two ++ three) =
    sym (sym (append_assoc one two three) ∙ ap (λ (x : List (List (List ℕ))). x ++ three) (take-append-drop (length A) front) ∙ take-append-drop end groups) in
    let ends : end ≡ length A + length B = refl in
    let fronts : length front ≡ end = omega (arith, length-take end groups, ends, all) in
    let first : length A ≡ length one = omega (arith, length-take (length A) front, fronts, ends) in
    let second : length B ≡ length two = omega (arith, length-drop (length A) front, fronts, ends) in
    let r = heard_part one two three A B C (subst (HaveSectionBytes []) split room) (subst AllSections split (each_group groups each)) (are ∙ ap (pieces []) split) first second in
    let rest : r.0 ≡ left [] front = r.2 ∙ sym (left-append [] one two) ∙ ap (left []) (take-append-drop (length A) front) in
    r.1 ∙ ap (λ (x : List ℕ). ended x (all_of two)) rest

pub Count-part : (n : ℕ) (before here after : List Load) → Count n (before ++ (here ++ after)) → (m : ℕ) × Count m here
Count-part n [] here after h = (n, front n here h)
  where
    front : (n : ℕ) (xs : List Load) → Count n (xs ++ after) → Count n xs
    front n [] h = tt
    front n (x ∷ xs) h = (h.0, front (1 + n) xs h.1)
Count-part n (x ∷ before) here after h = Count-part (1 + n) before here after h.1

arrived-loads : (slots : Lane) → arrived slots ≡ map Arrival.Came (loads slots)
arrived-loads [] = refl
arrived-loads (s ∷ ss) = ap (λ (l : List Arrival). Arrival.Came s.load ∷ l) (arrived-loads ss)

abbrev piece_of : Load → Piece
piece_of l = l.piece

length-loads : (slots : Lane) → length (map piece_of (loads slots)) ≡ length slots
length-loads slots = length-map (loads slots) piece_of ∙ length-map slots (λ (s : Slot). s.load)

module _ (airings : List AiredTables) (xs : List Aired) (is : IsRepeatingAirOf airings xs) (can : CanBeSent airings) (pid : ℕ) (small : pid < 8191) (fates : List Fate) (thin : IsThinnedAir xs fates) where
  loads_all : loads (lane pid fates) ≡ loads_on pid (air xs)
  loads_all = loads-lane pid fates ∙ ap (loads_on pid) thin.all

  counts : Count 0 (loads (lane pid fates))
  counts = subst (Count 0) (sym loads_all) (is.counted pid)

  -- what comes on the PID are its packets that came,
  pub arrivals_are : arrivals_on pid (map bytes_of_packet (came_of fates)) ≡ came_in (lane pid fates)
  arrivals_are =
      arrive pid small (came_of fates) (came-fields fates (subst (AllByRecursion HasFields) (sym thin.all) is.fields))
      ∙ ap (map Arrival.Came) (sym (kept-lane pid fates))

  -- and their parts between breaks cover them
  abbrev pub parts_on : List (List Arrival)
  parts_on = parts Never (came_in (lane pid fates))

  pub covers_on : Covers (lane pid fates) parts_on
  covers_on = covers (lane pid fates) 0 counts (few_in pid fates thin.few)

  each_section : AllByRecursion IsSection (all_of (groups_by pid small [] xs is.cycles))
  each_section =
      subst (AllByRecursion IsSection) (sections_by pid small [] xs is.cycles)
      (each_on pid (sent_by [] xs is.cycles) (sent_each [] xs is.cycles (subst CanBeSent (sym is.airings_are) can)))

  pub run_heard : (before here after : Lane) (part : List Arrival) → lane pid fates ≡ before ++ (here ++ after) → part ≡ arrived here
      → heard_of part ≡ within (length before) (length before + length here) (groups_by pid small [] xs is.cycles)
  run_heard before here after part cut_is part_is =
      let A : List Piece = map piece_of (loads before) in
      let B : List Piece = map piece_of (loads here) in
      let C : List Piece = map piece_of (loads after) in
      let split : loads (lane pid fates) ≡ loads before ++ (loads here ++ loads after) =
      ap loads cut_is ∙ map-append (λ (s : Slot). s.load) before (here ++ after) ∙ ap (λ (l : List Load). loads before ++ l) (map-append (λ (s : Slot). s.load) here after) in
      let cut : A ++ (B ++ C) ≡ pieces [] (groups_by pid small [] xs is.cycles) =
      sym (ap (map piece_of) split ∙ map-append piece_of (loads before) (loads here ++ loads after) ∙ ap (λ (l : List Piece). A ++ l) (map-append piece_of (loads here) (loads after)))
      ∙ ap (map piece_of) loads_all ∙ pieces_of_loads pid (air xs) ∙ pieces_by pid small [] xs is.cycles in
      let counted = Count-part 0 (loads before) (loads here) (loads after) (subst (Count 0) split counts) in
      ap heard_of (part_is ∙ arrived-loads here) ∙ heard_of-counting counted.0 (loads here) counted.1
      ∙ window_heard (groups_by pid small [] xs is.cycles) A B C (room_by pid small [] xs is.cycles) each_section cut
      ∙ ap₂ (λ (n m : ℕ). within n (n + m) (groups_by pid small [] xs is.cycles)) (length-loads before) (length-loads here)
