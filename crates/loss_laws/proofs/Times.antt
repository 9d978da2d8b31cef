-- What tells the time of a cycle that came whole is heard, whatever was lost before.
use Rattle.std.proofs.Common.{◌≡◌, ℕ, ◌+◌, ◌*◌, ◌<◌, ◌≤◌, ◌⊎◌, inl, inr, List, [], ◌∷◌, ◌++◌, Some, length, map, refl, sym, ap, ◌∙◌, subst, arith}
use Rattle.std.specs.Prelude.{flat_map, filter_map}
use Rattle.std.specs.List.{AllByRecursion, Contains}
use Rattle.std.proofs.lemmas.List.Concat.{flat_map-append}
use Rattle.std.proofs.lemmas.List.Elements.{Contains-append_left, Contains-append_right}
use Rattle.si_lists.proofs.Lists.{all_map, all_flat}
use Rattle.si_lists.proofs.Parts.{lt_or}
use Rattle.version_book.specs.Airings.{AiredTables}
use Rattle.ts_packets.specs.Packets.{Carries, all_of}
use Rattle.ts_packets.specs.Bytes.{bytes_of_packet}
use Rattle.ts_packets.specs.Counting.{of_pid}
use Rattle.ts_demux.specs.Arrivals.{Arrival, heard_of}
use Rattle.ts_demux.specs.Breaks.{Before.Never, parts}
use Rattle.ts_demux.specs.Laws.{within}
use Rattle.ts_demux.specs.Sections.{sections_on, heard_all}
use Rattle.ts_demux.proofs.Adding.{order_kept}
use Rattle.ts_demux.proofs.Splitting.{by_all_parts}
use Rattle.guide_receiver.specs.Latest.{moment_in, clock_of, offsets_heard}
use Rattle.air_model.specs.Air.{Sent, Aired, tdt, sent_on, air, airings_of}
use Rattle.air_model.specs.Repeating.{IsRepeatingAirOf}
use Rattle.air_model.proofs.Repeating.{around}
use Rattle.air_laws.specs.Counting.{CanBeHeard}
use Rattle.air_laws.proofs.HearingTold.{sent_of}
use Rattle.air_laws.proofs.Cycles.{IsOfCycle, each_of_cycle, length_groups, contains-sent}
use Rattle.air_laws.proofs.Joined.{groups_by}
use Rattle.air_laws.proofs.Whole.{sections_at, are_at, cycle_part, tot_among}
use Rattle.air_laws.specs.Exact.{TellOffsetsOf}
use Rattle.air_laws.proofs.Contents.{can_at, cycle_at}
use Rattle.air_laws.proofs.Clock.{some_last, on_own_pid, told_moment, some_moment}
use Rattle.air_laws.proofs.Offsets.{IsTold, told_last, cycle_told}
use Rattle.loss_laws.specs.Thinned.{Fate, came_of, IsThinnedAir, CameWhole}
use Rattle.loss_laws.proofs.Lanes.{lane, all_came}
use Rattle.loss_laws.proofs.Covers.{came_in, IsRunOf, cover_runs, find}
use Rattle.loss_laws.proofs.ThinnedAirHeard.{arrivals_are, covers_on, run_heard}
use Rattle.loss_laws.proofs.Exact.{start_on, end_on}

module _ (airings : List AiredTables) (before : List Aired) (x : Aired) (after : List Aired) (is : IsRepeatingAirOf airings (before ++ x ∷ after)) (can : AllByRecursion CanBeHeard airings)
    (fates : List Fate) (thin : IsThinnedAir (before ++ x ∷ after) fates) where
  abbrev xs : List Aired
  xs = before ++ x ∷ after

  abbrev packets : List (List ℕ)
  packets = map bytes_of_packet (came_of fates)

  -- the packets on the PID of the time, part by part between breaks
  abbrev own_parts : List (List Arrival)
  own_parts = parts Never (came_in (lane 0x0014 fates))

  by_parts : sections_on 0x0014 packets ≡ flat_map heard_of own_parts
  by_parts = ap heard_of (arrivals_are airings xs is (sent_of airings can) 0x0014 (omega arith) fates thin) ∙ by_all_parts (came_in (lane 0x0014 fates))

  -- ---- each section that is heard there tells the offsets of this airing, or none

  run_told : TellOffsetsOf x.airing airings → (part : List Arrival) → IsRunOf (lane 0x0014 fates) 0 part → AllByRecursion (IsTold x.airing.form.offsets) (heard_of part)
  run_told same part run =
      let low : ℕ = length run.before in
      let high : ℕ = low + length run.here in
      subst (AllByRecursion (IsTold x.airing.form.offsets))
      (sym (run_heard airings xs is (sent_of airings can) 0x0014 (omega arith) fates thin run.before run.here run.after part run.cut run.is))
      (all_map (IsOfCycle 0x0014 low high [] xs) (IsTold x.airing.form.offsets) (one low high) (within low high (groups_by 0x0014 (omega arith) [] xs is.cycles))
      (each_of_cycle 0x0014 (omega arith) [] xs is.cycles low high))
    where
      one : (low high : ℕ) (bytes : List ℕ) → IsOfCycle 0x0014 low high [] xs bytes → IsTold x.airing.form.offsets bytes
      one low high bytes r = subst (IsTold x.airing.form.offsets) r.has_bytes (cycle_told x.airing airings xs is can same r.before r.cycle r.after r.cut r.section r.sent)

  each_told : TellOffsetsOf x.airing airings → AllByRecursion (IsTold x.airing.form.offsets) (sections_on 0x0014 packets)
  each_told same =
      subst (AllByRecursion (IsTold x.airing.form.offsets)) (sym by_parts)
      (all_flat (IsRunOf (lane 0x0014 fates) 0) (IsTold x.airing.form.offsets) heard_of (run_told same) own_parts
      (cover_runs (lane 0x0014 fates) 0 [] (lane 0x0014 fates) own_parts refl (let z : 0 ≤ 0 = omega arith in z)
      (covers_on airings xs is (sent_of airings can) 0x0014 (omega arith) fates thin)))

  module _ (whole : CameWhole fates before x after) where
    -- ---- a section of the cycle that came whole

    has_packets : start_on 0x0014 before < end_on 0x0014 before x
    has_packets = go (lt_or 0 (length (of_pid 0x0014 x.packets)))
      where
        nothing : (gs : List (List (List ℕ))) (bytes : List ℕ) → length gs ≤ 0 → Contains (all_of gs) bytes → Prim.⊥
        nothing [] bytes le has = (let none : has.0 < 0 = has.1 in let z : Prim.⊥ = omega (arith, none) in z)
        nothing (g ∷ gs) bytes le has = (let z : Prim.⊥ = omega (arith, le) in z)

        none : length (of_pid 0x0014 x.packets) ≤ 0 → Prim.⊥
        none le =
            let at = cycle_at [] before x after is.cycles in
            let own : Carries (of_pid 0x0014 x.packets) (filter_map (sent_on 0x0014) at.1.sections) = at.1.carried 0x0014 (omega arith) in
            let size : length own.groups ≡ length (of_pid 0x0014 x.packets) = length_groups (of_pid 0x0014 x.packets) (filter_map (sent_on 0x0014) at.1.sections) own in
            let time : Sent = tdt at.1.are.time.0 in
            nothing own.groups time.bytes (let z : length own.groups ≤ 0 = omega (arith, size, le) in z)
            (subst (λ (l : List (List ℕ)). Contains l time.bytes) own.sections (contains-sent at.1.sections time at.1.are.time.2))

        go : (0 < length (of_pid 0x0014 x.packets)) ⊎ (length (of_pid 0x0014 x.packets) ≤ 0) → start_on 0x0014 before < end_on 0x0014 before x
        go (inl some) = omega (arith, some)
        go (inr le) = absurd (none le)

    own_heard : (s : Sent) → s.pid ≡ 0x0014 → Contains (sections_at [] before x after is.cycles) s → Contains (sections_on 0x0014 packets) s.bytes
    own_heard s pid has =
        let small : 0x0014 < 8191 = omega arith in
        let found = find (lane 0x0014 fates) [] (lane 0x0014 fates) own_parts (start_on 0x0014 before) (end_on 0x0014 before x) refl
        (covers_on airings xs is (sent_of airings can) 0x0014 small fates thin) (let z : 0 ≤ start_on 0x0014 before = omega arith in z) has_packets
        (all_came 0x0014 fates before x after thin.all whole.whole) in
        let heard = run_heard airings xs is (sent_of airings can) 0x0014 small fates thin found.before found.here found.after found.part found.cut found.is in
        let r = cycle_part 0x0014 small [] before x after is.cycles (length found.before) (length found.before + length found.here) found.from found.up_to in
        let ss : List Sent = sections_at [] before x after is.cycles in
        let sent : Contains (filter_map (sent_on 0x0014) ss) s.bytes = subst (λ (n : ℕ). Contains (filter_map (sent_on n) ss) s.bytes) pid (contains-sent ss s has) in
        let here : Contains (heard_of found.part) s.bytes =
        subst (λ (l : List (List ℕ)). Contains l s.bytes) (sym (heard ∙ r.2))
        (Contains-append_right r.0 (filter_map (sent_on 0x0014) ss ++ r.1) s.bytes (Contains-append_left (filter_map (sent_on 0x0014) ss) r.1 s.bytes sent)) in
        let cut : sections_on 0x0014 packets ≡ flat_map heard_of found.earlier ++ (heard_of found.part ++ flat_map heard_of found.later) =
        by_parts ∙ ap (flat_map heard_of) found.parts_are ∙ flat_map-append heard_of found.earlier (found.part ∷ found.later) in
        subst (λ (l : List (List ℕ)). Contains l s.bytes) (sym cut)
        (Contains-append_right (flat_map heard_of found.earlier) (heard_of found.part ++ flat_map heard_of found.later) s.bytes
        (Contains-append_left (heard_of found.part) (flat_map heard_of found.later) s.bytes here))

    pub clock_heard : x.airing.moment < 65536 * 86400 → (at : ℕ) × (clock_of (heard_all [] packets) ≡ Some at)
    clock_heard within =
        let time = (are_at [] before x after is.cycles).time in
        let s : Sent = tdt time.0 in
        let about = around (sections_on 0x0014 packets) s.bytes (own_heard s refl time.2) in
        let found = on_own_pid 0x0014 s.bytes about.0 about.1 (heard_all [] packets) (order_kept packets 0x0014 ∙ about.2) in
        let told = told_moment found.1 time.0 (time.1.written within) found.4 found.5 in
        some_last (filter_map moment_in (heard_all [] packets))
        (λ none. some_moment found.0 found.2 found.1 time.0 told (ap (filter_map moment_in) (sym found.3) ∙ none))

    pub offsets_heard_last : x.airing.moment < 65536 * 86400 → TellOffsetsOf x.airing airings → offsets_heard (heard_all [] packets) ≡ x.airing.form.offsets
    offsets_heard_last within same =
        let time = (are_at [] before x after is.cycles).local_time in
        told_last x.airing.form.offsets packets time.0 (time.1.written within) (can_at before x after (subst (AllByRecursion CanBeHeard) (sym is.airings_are) can)).offsets (each_told same)
        (tot_among time.0 x.airing.form.offsets (sections_at [] before x after is.cycles) (sections_on 0x0014 packets) own_heard time.2)
