-- The contents of what stays on air are heard.
use Rattle.std.proofs.Common.{◌≡◌, ℕ, ◌+◌, ◌-◌, ◌<◌, ◌≤◌, ◌⊎◌, inl, inr, List, [], ◌∷◌, ◌++◌, Option, Some, None, length, map, refl, sym, ap, ap₂, ◌∙◌, subst}
use Rattle.std.proofs.Common.{arith, append_assoc, length-append}
use Rattle.std.specs.Prelude.{filter_map, option_map}
use Rattle.std.specs.List.{AllByRecursion, Contains}
use Rattle.std.proofs.lemmas.List.Concat.{flat_map-append}
use Rattle.si_lists.proofs.Parts.{lt_or, chosen-fewer}
use Rattle.section_codec.specs.declared.table.SubTable.{SubTable}
use Rattle.section_codec.specs.Contents.{Content}
use Rattle.version_book.specs.Airings.{AiredTables, content_in as content_among, version_at}
use Rattle.ts_packets.specs.Packets.{Carries, all_of}
use Rattle.ts_packets.specs.Bytes.{Packet}
use Rattle.ts_packets.specs.Counting.{piece_on, of_pid}
use Rattle.sub_collect.specs.Runs.{Counted, latest_section, completed}
use Rattle.sub_collect.specs.Completions.{done_at, completion_at, completions, latest_done}
use Rattle.sub_collect.specs.declared.completed.Completed.{Completed}
use Rattle.sub_collect.proofs.Done.{latest-whole}
use Rattle.sub_collect.proofs.Runs.{no-latest}
use Rattle.air_model.specs.Air.{Aired, sent_on, tdt, air, airings_of}
use Rattle.air_model.specs.Repeating.{IsRepeatingCycle, RepeatingCycles}
use Rattle.air_laws.specs.Counting.{CanBeHeard}
use Rattle.air_laws.proofs.Blocks.{numbered_of}
use Rattle.air_laws.specs.Joining.{HasPacketIn, count_before}
use Rattle.air_laws.proofs.Cycles.{length_groups, contains-sent, count_both}
use Rattle.air_laws.proofs.Places.{before_up, count_at, count_behind}
use Rattle.air_laws.proofs.CoherenceTold.{section_of}
use Rattle.air_laws.proofs.Steady.{steady_told}
use Rattle.air_laws.proofs.Coherent.{part_heard, part_sections, part_each}
use Rattle.air_laws.specs.ExactnessLaws.{ContentsAreHeard}
use Rattle.air_laws.proofs.Counts.{counted_below}
use Rattle.air_laws.proofs.Ends.{CarryWhileHeard, ends_whole, ends_completed}

-- ---- a cycle among others

pub cycle_at : (past : List AiredTables) (before : List Aired) (x : Aired) (after : List Aired) → RepeatingCycles past (before ++ x ∷ after) → (p : List AiredTables) × IsRepeatingCycle p x
cycle_at past [] x after h = (past, h.0)
cycle_at past (y ∷ before) x after h = cycle_at (past ++ y.airing ∷ []) before x after h.1

pub can_at : (before : List Aired) (x : Aired) (after : List Aired) → AllByRecursion CanBeHeard (airings_of (before ++ x ∷ after)) → CanBeHeard x.airing
can_at [] x after can = can.0
can_at (y ∷ before) x after can = can_at before x after can.1

-- it has a packet: that of its time
some_packet : (past : List AiredTables) (x : Aired) → IsRepeatingCycle past x → 0 < length x.packets
some_packet past x h =
    let own : Carries (of_pid 0x0014 x.packets) (filter_map (sent_on 0x0014) h.sections) = h.carried 0x0014 (omega arith) in
    let has = contains-sent h.sections (tdt h.are.time.0) h.are.time.2 in
    go own.groups (length_groups (of_pid 0x0014 x.packets) (filter_map (sent_on 0x0014) h.sections) own)
    (subst (λ (l : List (List ℕ)). Contains l (tdt h.are.time.0).bytes) own.sections has)
  where
    go : (gs : List (List (List ℕ))) → length gs ≡ length (of_pid 0x0014 x.packets) → Contains (all_of gs) (tdt h.are.time.0).bytes → 0 < length x.packets
    go [] size has = absurd (let none : has.0 < 0 = has.1 in let z : Prim.⊥ = omega (arith, none) in z)
    go (g ∷ gs) size has = (let fewer = chosen-fewer (piece_on 0x0014) x.packets in omega (arith, size, fewer))

-- ---- the last completion of a key

pub last_content : (heard : List Counted) (c : Content) → completed heard ≡ Some c → option_map (λ (d : Completed). d.sections) (latest_done (completions [] heard)) ≡ Some c
last_content heard c e = go (latest_section heard) refl
  where
    go : (o : Option Counted) → latest_section heard ≡ o → option_map (λ (d : Completed). d.sections) (latest_done (completions [] heard)) ≡ Some c
    go None f =
        let none : None ≡ Some c = ap completed (sym (no-latest heard f)) ∙ e in
        absurd (let z : Prim.⊥ = cc in z)
    go (Some s) f =
        ap (option_map (λ (d : Completed). d.sections)) (latest-whole heard (done_at s c) (ap₂ completion_at f e))

pub contents_heard : ContentsAreHeard
contents_heard airings before x after is can join end stays k counted c content =
    let xs : List Aired = before ++ x ∷ after in
    let low : ℕ = count_before k.pid (air xs) join in
    let high : ℕ = count_before k.pid (air xs) end in
    let all : AllByRecursion CanBeHeard (airings_of xs) = subst (AllByRecursion CanBeHeard) (sym is.airings_are) can in
    let under : low ≤ length (of_pid k.pid (air before)) =
    subst (λ (n : ℕ). low ≤ n) (count_at k.pid before after x) (before_up k.pid (air xs) join (length (air before)) stays.joined) in
    let over : length (of_pid k.pid (air before)) + length (of_pid k.pid x.packets) ≤ high =
    subst (λ (n : ℕ). n ≤ high) (count_behind k.pid before after x) (before_up k.pid (air xs) (length (air before) + length x.packets) end stays.whole) in
    let ends = ends_whole k (counted_below k.pid k.table counted) counted c [] [] before x after is.cycles all content low high under over carry in
    let done = ends_completed k low high xs c (version_at k (airings_of before ++ x.airing ∷ [])) (part_heard airings xs is can k counted join end)
    (numbered_of [] x.airing (can_at before x after all) k c content) (part_each airings xs is can k counted join end) (steady_told k (counted_below k.pid k.table counted) counted [] [] xs is.cycles all low high) ends in
    ap (λ (ss : List Counted). option_map (λ (d : Completed). d.sections) (latest_done (completions [] ss))) (part_sections airings xs is can k counted join end)
    ∙ last_content (map section_of (part_heard airings xs is can k counted join end)) c done
  where
    carry : CarryWhileHeard k (counted_below k.pid k.table counted) counted c (count_before k.pid (air (before ++ x ∷ after)) end - (length (of_pid k.pid (air before)) + length (of_pid k.pid x.packets))) after
    carry one two y e has lt =
        let xs : List Aired = before ++ x ∷ after in
        let front : List Aired = before ++ x ∷ one in
        let cut : xs ≡ front ++ y ∷ two = ap (λ (l : List Aired). before ++ x ∷ l) e ∙ sym (append_assoc before (x ∷ one) (y ∷ two)) in
        let start : ℕ = length (air front) in
        let parts : air front ≡ air before ++ (x.packets ++ air one) = flat_map-append (λ (z : Aired). z.packets) before (x ∷ one) in
        let counts : length (of_pid k.pid (air front)) ≡ length (of_pid k.pid (air before)) + (length (of_pid k.pid x.packets) + length (of_pid k.pid (air one))) =
        ap (λ (l : List Packet). length (of_pid k.pid l)) parts ∙ count_both k.pid (air before) (x.packets ++ air one)
        ∙ ap (λ (n : ℕ). length (of_pid k.pid (air before)) + n) (count_both k.pid x.packets (air one)) in
        let places : start ≡ length (air before) + length (x.packets ++ air one) = ap length parts ∙ length-append (air before) (x.packets ++ air one) in
        let at : count_before k.pid (air xs) start ≡ length (of_pid k.pid (air front)) =
        ap (λ (l : List Aired). count_before k.pid (air l) start) cut ∙ count_at k.pid front two y in
        let near : start < end = in_range (air xs) start (let less : count_before k.pid (air xs) start < count_before k.pid (air xs) end = omega (arith, at, counts, lt) in less) in
        let past = cycle_at [] front y two (subst (RepeatingCycles []) cut is.cycles) in
        let some = some_packet past.0 y past.1 in
        let behind : join ≤ start = omega (arith, stays.joined, places) in
        let there : HasPacketIn join end start y = (start, omega arith, omega (arith, some), behind, near) in
        ap (λ (ts : List SubTable). content_among k ts) (stays.same one two y e there) ∙ content
      where
        in_range : (ps : List Packet) (start : ℕ) → count_before k.pid ps start < count_before k.pid ps end → start < end
        in_range ps start less = go (lt_or start end)
          where
            go : (start < end) ⊎ (end ≤ start) → start < end
            go (inl lt) = lt
            go (inr le) = absurd (let up = before_up k.pid ps end start le in let z : Prim.⊥ = omega (arith, up, less) in z)
