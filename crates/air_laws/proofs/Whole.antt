-- What is heard of the cycles of an air.
use Rattle.std.proofs.Common.{◌≡◌, ℕ, ◌+◌, ◌-◌, ◌<◌, ◌≤◌, inl, inr, List, [], ◌∷◌, ◌++◌, length, refl, sym, ap, ◌∙◌, subst, arith}
use Rattle.std.proofs.Common.{append_assoc, append-nil}
use Rattle.std.specs.Prelude.{filter_map}
use Rattle.std.specs.List.{AllByRecursion, Contains}
use Rattle.std.proofs.lemmas.List.Elements.{Contains-append_left, Contains-append_right}
use Rattle.si_lists.proofs.Lists.{all_map}
use Rattle.guide_model.specs.declared.offset.Offset.{Offset}
use Rattle.time_tables.specs.Tot.{tot_section}
use Rattle.version_book.specs.Airings.{AiredTables}
use Rattle.ts_packets.specs.Packets.{Carries}
use Rattle.ts_packets.specs.Counting.{of_pid}
use Rattle.ts_demux.specs.Laws.{within}
use Rattle.air_model.specs.Air.{Sent, Aired, tdt, tot, sent_on, air, airings_of, CanBeSent}
use Rattle.air_model.specs.Repeating.{IsTimeFrom, AreSentOf, RepeatingCycles, IsRepeatingAirOf}
use Rattle.air_laws.specs.Joining.{count_before, heard_between, IsOfCycleIn}
use Rattle.air_laws.specs.JoiningLaws.{HeardIsSent, CycleIsHeard, CycleTellsTime, CycleTellsLocalTime}
use Rattle.ts_demux.proofs.Parts.{within-append, within-all}
use Rattle.air_laws.proofs.Joined.{groups_by, joined_by}
use Rattle.air_laws.proofs.Cycles.{IsOfCycle, each_of_cycle, length_groups, count_both, contains-sent}
use Rattle.air_laws.proofs.Places.{before_up, count_at, count_behind, has_packet}

pub heard_is_sent : HeardIsSent
heard_is_sent airings xs is fit pid lt join end =
    subst (AllByRecursion (IsOfCycleIn join end pid xs)) (sym (joined_by airings xs is fit pid lt join end))
    (all_map (IsOfCycle pid low high [] xs) (IsOfCycleIn join end pid xs) one (within low high (groups_by pid lt [] xs is.cycles))
    (each_of_cycle pid lt [] xs is.cycles low high))
  where
    low : ℕ
    low = count_before pid (air xs) join

    high : ℕ
    high = count_before pid (air xs) end

    one : (bytes : List ℕ) → IsOfCycle pid low high [] xs bytes → IsOfCycleIn join end pid xs bytes
    one bytes r =
        let joins : low ≡ count_before pid (air (r.before ++ r.cycle ∷ r.after)) join =
        ap (λ (l : List Aired). count_before pid (air l) join) r.cut in
        let ends : high ≡ count_before pid (air (r.before ++ r.cycle ∷ r.after)) end =
        ap (λ (l : List Aired). count_before pid (air l) end) r.cut in
        let sum : ℕ = length (of_pid pid (air r.before)) + length (of_pid pid r.cycle.packets) in
        record {
          before = r.before;
          cycle = r.cycle;
          after = r.after;
          section = r.section;
          cut = r.cut;
          there =
              has_packet pid r.before r.after r.cycle join end (subst (λ (n : ℕ). n < sum) joins r.reaches)
              (subst (λ (n : ℕ). length (of_pid pid (air r.before)) < n) ends r.begins) r.some
              (subst (λ (n : ℕ). n < count_before pid (air (r.before ++ r.cycle ∷ r.after)) end) joins
              (subst (λ (n : ℕ). low < n) ends r.order));
          sent = r.sent;
          on_pid = r.on_pid;
          has_bytes = r.has_bytes;
        }

-- ---- a cycle that is heard whole

-- what the cycle behind others sends
abbrev pub sections_at : (past : List AiredTables) (before : List Aired) (x : Aired) (after : List Aired)
    → RepeatingCycles past (before ++ x ∷ after) → List Sent
sections_at past [] x after h = h.0.sections
sections_at past (y ∷ before) x after h = sections_at (past ++ y.airing ∷ []) before x after h.1

pub are_at : (past : List AiredTables) (before : List Aired) (x : Aired) (after : List Aired) (h : RepeatingCycles past (before ++ x ∷ after))
    → AreSentOf (past ++ airings_of before) x.airing (sections_at past before x after h)
are_at past [] x after h = subst (λ (l : List AiredTables). AreSentOf l x.airing h.0.sections) (sym (append-nil past)) h.0.are
are_at past (y ∷ before) x after h =
    subst (λ (l : List AiredTables). AreSentOf l x.airing (sections_at (past ++ y.airing ∷ []) before x after h.1))
    (append_assoc past (y.airing ∷ []) (airings_of before))
    (are_at (past ++ y.airing ∷ []) before x after h.1)

no_more : (n m : ℕ) → n ≤ m → m ≡ 0 → n ≡ 0
no_more n m le e = omega (arith, le, e)

behind_low : (low n a b : ℕ) → b ≡ n + a → low ≤ b → low - n ≤ a
behind_low low n a b e le = omega (arith, e, le)

behind_high : (high n a b l : ℕ) → b ≡ n + a → b + l ≤ high → a + l ≤ high - n
behind_high high n a b l e le = omega (arith, e, le)

first_high : (high n l z : ℕ) → n ≡ l → z ≡ 0 → z + l ≤ high → n ≤ high
first_high high n l z e f le = omega (arith, e, f, le)

-- all of it is heard, behind and before others
pub cycle_part : (pid : ℕ) (lt : pid < 8191) (past : List AiredTables) (before : List Aired) (x : Aired) (after : List Aired)
    (h : RepeatingCycles past (before ++ x ∷ after)) (low high : ℕ)
    → low ≤ length (of_pid pid (air before)) → length (of_pid pid (air before)) + length (of_pid pid x.packets) ≤ high
    → (front back : List (List ℕ))
    × (within low high (groups_by pid lt past (before ++ x ∷ after) h)
    ≡ front ++ (filter_map (sent_on pid) (sections_at past before x after h) ++ back))
cycle_part pid lt past [] x after h low high under over =
    let own : Carries (of_pid pid x.packets) (filter_map (sent_on pid) h.0.sections) = h.0.carried pid lt in
    let gs : List (List (List ℕ)) = own.groups in
    let hs : List (List (List ℕ)) = groups_by pid lt (past ++ x.airing ∷ []) after h.1 in
    let size : length gs ≡ length (of_pid pid x.packets) =
    length_groups (of_pid pid x.packets) (filter_map (sent_on pid) h.0.sections) own in
    let back : List (List ℕ) = within (low - length gs) (high - length gs) hs in (
      [],
      back,
      within-append low high gs hs own.ended
          ∙ ap (λ (l : List (List ℕ)). l ++ back)
          (within-all low high gs (no_more low 0 under refl)
          (first_high high (length gs) (length (of_pid pid x.packets)) 0 size refl over) own.ended ∙ sym own.sections),
    )
cycle_part pid lt past (y ∷ before) x after h low high under over =
    let own : Carries (of_pid pid y.packets) (filter_map (sent_on pid) h.0.sections) = h.0.carried pid lt in
    let gs : List (List (List ℕ)) = own.groups in
    let hs : List (List (List ℕ)) = groups_by pid lt (past ++ y.airing ∷ []) (before ++ x ∷ after) h.1 in
    let size : length gs ≡ length (of_pid pid y.packets) =
    length_groups (of_pid pid y.packets) (filter_map (sent_on pid) h.0.sections) own in
    let a : ℕ = length (of_pid pid (air before)) in
    let b : ℕ = length (of_pid pid (y.packets ++ air before)) in
    let both : b ≡ length gs + a = count_both pid y.packets (air before) ∙ ap (λ (n : ℕ). n + a) (sym size) in
    let first : List (List ℕ) = within low high gs in
    let r = cycle_part pid lt (past ++ y.airing ∷ []) before x after h.1 (low - length gs) (high - length gs)
    (behind_low low (length gs) a b both under) (behind_high high (length gs) a b (length (of_pid pid x.packets)) both over) in
    let sections : List (List ℕ) = filter_map (sent_on pid) (sections_at (past ++ y.airing ∷ []) before x after h.1) in (
      first ++ r.0,
      r.1,
      within-append low high gs hs own.ended ∙ ap (λ (l : List (List ℕ)). first ++ l) r.2
          ∙ sym (append_assoc first r.0 (sections ++ r.1)),
    )

-- what it sends is heard
cycle_holds : (airings : List AiredTables) (before after : List Aired) (x : Aired) (is : IsRepeatingAirOf airings (before ++ x ∷ after)) → CanBeSent airings
    → (join end : ℕ) → join ≤ length (air before) → length (air before) + length x.packets ≤ end → (s : Sent) → s.pid < 8191
    → Contains (sections_at [] before x after is.cycles) s → Contains (heard_between join end s.pid (air (before ++ x ∷ after))) s.bytes
cycle_holds airings before after x is fit join end low high s lt there =
    let xs : List Aired = before ++ x ∷ after in
    let under =
    subst (λ (n : ℕ). count_before s.pid (air xs) join ≤ n) (count_at s.pid before after x)
    (before_up s.pid (air xs) join (length (air before)) low) in
    let over =
    subst (λ (n : ℕ). n ≤ count_before s.pid (air xs) end) (count_behind s.pid before after x)
    (before_up s.pid (air xs) (length (air before) + length x.packets) end high) in
    let r = cycle_part s.pid lt [] before x after is.cycles (count_before s.pid (air xs) join) (count_before s.pid (air xs) end) under over in
    let ss : List Sent = sections_at [] before x after is.cycles in
    subst (λ (l : List (List ℕ)). Contains l s.bytes) (sym (joined_by airings xs is fit s.pid lt join end ∙ r.2))
    (Contains-append_right r.0 (filter_map (sent_on s.pid) ss ++ r.1) s.bytes
    (Contains-append_left (filter_map (sent_on s.pid) ss) r.1 s.bytes (contains-sent ss s there)))

pub cycle_is_heard : CycleIsHeard
cycle_is_heard airings before after x is fit join end low high s (t, p, has_t, has_p, e) lt =
    cycle_holds airings before after x is fit join end low high s lt
    (subst (Contains (sections_at [] before x after is.cycles)) (sym e) ((are_at [] before x after is.cycles).all t p has_t has_p))

pub cycle_tells_time : CycleTellsTime
cycle_tells_time airings before after x is fit join end low high =
    let time = (are_at [] before x after is.cycles).time in
    (time.0, time.1, cycle_holds airings before after x is fit join end low high (tdt time.0) (omega arith) time.2)

-- the TOT of these offsets, where there are any
pub tot_among : (at : ℕ) (offsets : List Offset) (ss : List Sent) (heard : List (List ℕ)) → ((s : Sent) → s.pid ≡ 0x0014 → Contains ss s → Contains heard s.bytes)
    → AllByRecursion (Contains ss) (tot at offsets) → AllByRecursion (λ (s : Sent). Contains heard s.bytes) (tot at offsets)
tot_among at [] ss heard each all = tt
tot_among at (o ∷ offsets) ss heard each all = (each (record { pid = 0x0014; bytes = tot_section at (o ∷ offsets) }) refl all.0, tt)

pub cycle_tells_local_time : CycleTellsLocalTime
cycle_tells_local_time airings before after x is fit join end low high = (time.0, time.1, tot_among time.0 x.airing.form.offsets sent (heard_between join end 0x0014 (air (before ++ x ∷ after))) one time.2)
  where
    sent : List Sent
    sent = sections_at [] before x after is.cycles

    time : (at : ℕ) × IsTimeFrom x.airing at × AllByRecursion (Contains sent) (tot at x.airing.form.offsets)
    time = (are_at [] before x after is.cycles).local_time

    one : (s : Sent) → s.pid ≡ 0x0014 → Contains sent s → Contains (heard_between join end 0x0014 (air (before ++ x ∷ after))) s.bytes
    one s pid has =
        subst (λ (n : ℕ). Contains (heard_between join end n (air (before ++ x ∷ after))) s.bytes) pid
        (cycle_holds airings before after x is fit join end low high s (let lt : s.pid < 8191 = omega (arith, pid) in lt) has)
