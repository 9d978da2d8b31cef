-- Sections of an air that is made begin where the packing of the plan says, and are spaced.
use Rattle.std.proofs.Common.{◌≡◌, ℕ, zero, suc, ◌+◌, ◌<◌, ◌≤◌, ◌⊎◌, inl, inr, List, [], ◌∷◌, ◌++◌, Bool, true, false, cond, Option, Some, length, map, get_or, refl, sym, ap, ap₂, ◌∙◌, subst, arith, append_assoc, append-nil, length-append}
use Rattle.std.specs.Prelude.{slice_get, slice_index, option_map, count_by, take, flat_map, not, ◌&&◌}
use Rattle.std.specs.List.{All, AllByRecursion, prefix_len}
use Rattle.std.proofs.lemmas.Option.{slice_get-map, get_or_from_slice_get}
use Rattle.std.proofs.lemmas.List.{get_or-map, map-append}
use Rattle.std.proofs.lemmas.List.Concat.{flat_map-append}
use Rattle.std.proofs.lemmas.List.Sums.{sum_by-cons}
use Rattle.std.proofs.lemmas.List.Elements.{recursion_from_All, All-from_recursion, All-take, All-drop}
use Rattle.si_lists.proofs.Lists.{all_append, all_at}
use Rattle.section_codec.specs.declared.table.NumberedBody.{NumberedBody}
use Rattle.section_codec.specs.declared.table.SubTable.{SubTable}
use Rattle.section_codec.specs.declared.table.Tier3.{Tier3}
use Rattle.section_codec.specs.declared.table.Tier3.TheVariants.{Fast, Near, Far}
use Rattle.section_codec.specs.Contents.{Content}
use Rattle.section_codec.specs.SubTables.{IsFit, AreFit, header_of}
use Rattle.section_codec.specs.Tables.{tier_rank}
use Rattle.section_codec.proofs.ReadBack.{length-section_bytes}
use Rattle.air_model.specs.Cycle.{Planned, cycle_of}
use Rattle.air_model.specs.Sections.{is_fast, AreInTiers, planned}
use Rattle.air_model.specs.Packing.{Start, begun_at, packed_all, packets_so_far, starts_dense, starts_of_cycles, IsPacked}
use Rattle.air_model.specs.Spacing.{AreSpaced, IsWithinLimits}
use Rattle.air_model.proofs.Cursors.{planned_all}
use Rattle.air_model.proofs.Order.{cycles_are_whole}
use Rattle.air_model.proofs.Spaced.{cycles_are_spaced, one_cycle_is_spaced}
use Rattle.version_book.specs.Airings.{CycleForm, AiredTables, version_at}
use Rattle.ts_packets.specs.Packets.{packets_of}
use Rattle.ts_packets.specs.Bytes.{Packet}
use Rattle.air_model.specs.Air.{Sent, Aired, sent_section, sections_of, table_sections, tdt, tot, times, CanBeTold, leads, before_tdt, behind_tdt, sections_once, cycle_sections, weight, table_weights, weights_once, air, airings_of}
use Rattle.air_model.specs.Making.{each_dense, cycle_dense, AreMade}
use Rattle.air_model.proofs.Counted.{length-counted}
use Rattle.air_model.proofs.Dense.{once_some, eight}
use Rattle.guide_model.specs.declared.offset.Offset.{Offset}
use Rattle.time_tables.specs.LocalOffsets.{offsets_body}
use Rattle.time_tables.proofs.Offsets.{length-offsets_body}
use Rattle.time_tables.proofs.Loops.{length-tot_section}
use Rattle.air_model.proofs.Airs.{air-push}
use Rattle.air_model.proofs.Planned.{weights_each}
use Rattle.air_model.specs.Planning.{weights_in, weights_of, time_weights, weights_under}
use Rattle.carousel_player.specs.Spacing.{plan_of, pid_at, length_at, starts_of, starts_of_two, AreStarts, RunsBeginAlone, CanBeSpaced, MadeAirsAreSpaced, MadeCyclesAreSpaced, MadeNeighboursAreSpaced}
use Rattle.section_codec.specs.Section.{longest_body}
use Rattle.section_codec.specs.Tables.{is_eit}
use Rattle.air_model.proofs.Begun.{longest}
use Rattle.carousel_player.proofs.DenseStarts.{AreOf, CycleStarts, cycle_starts}
use Rattle.air_model.proofs.Weights.{in_tiers, weights_given}

-- ---- the sections of an airing

-- their sizes are those of the plan
size_of : Sent → ℕ
size_of s = packets_of (length s.bytes)

sizes_weighed : (tier : Tier3) (ss : List Sent) → map (λ (w : Tier3 × ℕ). w.1) (map (weight tier) ss) ≡ map size_of ss
unfolding size_of
sizes_weighed tier [] = refl
sizes_weighed tier (s ∷ ss) = ap (λ (l : List ℕ). size_of s ∷ l) (sizes_weighed tier ss)

map-both : {X Y : Type 0} (f : X → Y) (xs ys : List X) → map f (xs ++ ys) ≡ map f xs ++ map f ys
map-both f [] ys = refl
map-both f (x ∷ xs) ys = ap (λ (l : List _). f x ∷ l) (map-both f xs ys)

sizes_tables : (airings : List AiredTables) (ts : List SubTable) → map (λ (w : Tier3 × ℕ). w.1) (table_weights airings ts) ≡ map size_of (table_sections airings ts)
sizes_tables airings [] = refl
sizes_tables airings (t ∷ ts) =
    let ss = sections_of (version_at t.key airings) t in
    map-both (λ (w : Tier3 × ℕ). w.1) (map (weight t.tier) ss) (table_weights airings ts) ∙ ap₂ (λ (x y : List ℕ). x ++ y) (sizes_weighed t.tier ss) (sizes_tables airings ts)
    ∙ sym (map-both size_of ss (table_sections airings ts))

sizes_once : (past : List AiredTables) (a : AiredTables) → map (λ (w : Tier3 × ℕ). w.1) (weights_once past a) ≡ map size_of (sections_once past a)
unfolding size_of
sizes_once past a =
    let all = past ++ a ∷ [] in
    let ts = times a.form a.moment in
    let w = map-both (λ (w : Tier3 × ℕ). w.1) (map (weight Fast) ts) (table_weights all (behind_tdt a.tables)) in
    let s = map-both size_of ts (table_sections all (behind_tdt a.tables)) in
    map-both (λ (w : Tier3 × ℕ). w.1) (table_weights all (before_tdt a.tables)) (map (weight Fast) ts ++ table_weights all (behind_tdt a.tables))
    ∙ ap₂ (λ (x y : List ℕ). x ++ y) (sizes_tables all (before_tdt a.tables)) (w ∙ ap₂ (λ (x y : List ℕ). x ++ y) (sizes_weighed Fast ts) (sizes_tables all (behind_tdt a.tables)) ∙ sym s)
    ∙ sym (map-both size_of (table_sections all (before_tdt a.tables)) (ts ++ table_sections all (behind_tdt a.tables)))

-- the PIDs and lengths that the starts are counted with are those of the sections
are_of : (past : List AiredTables) (a : AiredTables) → AreOf (sections_once past a) (pid_at past a) (length_at past a)
are_of past a i s e =
    let ss = sections_once past a in
    let at : (f : Sent → ℕ) → slice_get (map f ss) i ≡ Some (f s) = λ f. slice_get-map f ss i ∙ ap (λ (o : Option Sent). option_map f o) e in (
      get_or_from_slice_get (map (λ (x : Sent). x.pid) ss) i s.pid 0 (at (λ x. x.pid)),
      get_or_from_slice_get (map (λ (x : Sent). length x.bytes) ss) i (length s.bytes) 0 (at (λ x. length x.bytes)),
    )

within_once : (past : List AiredTables) (a : AiredTables) → AllByRecursion (λ (i : ℕ). i < length (sections_once past a)) (cycle_of (plan_of past a))
within_once past a =
    let many = planned_all (weights_once past a) a.form.quota ∙ weights_each past a in
    subst (λ (n : ℕ). AllByRecursion (λ (i : ℕ). i < n) (cycle_of (plan_of past a))) many (cycles_are_whole (plan_of past a)).known

-- ---- the limits of what is planned

small_table : (t : SubTable) (ss : Content) → AllByRecursion (λ (s : NumberedBody). length s.body ≤ longest_body t.key.table) ss → AllByRecursion (λ (w : Tier3 × ℕ). (1 ≤ w.1) × (w.1 ≤ 23)) (map (λ (s : NumberedBody). (t.tier, packets_of (12 + length s.body))) ss)
small_table t [] fit = tt
small_table t (s ∷ ss) fit =
    let most : length s.body ≤ longest_body t.key.table = fit.0 in
    let top : longest_body t.key.table ≤ 4084 = longest (is_eit t.key.table) in
    ((omega (arith, most, top), omega (arith, most, top)), small_table t ss fit.1)

small_tables : (ts : List SubTable) → AllByRecursion IsFit ts → AllByRecursion (λ (w : Tier3 × ℕ). (1 ≤ w.1) × (w.1 ≤ 23)) (weights_of ts)
small_tables [] fit = tt
small_tables (t ∷ ts) fit =
    all_append (λ (w : Tier3 × ℕ). (1 ≤ w.1) × (w.1 ≤ 23)) (weights_in t) (weights_of ts) (small_table t t.sections (recursion_from_All _ t.sections fit.0.bodies)) (small_tables ts fit.1)

small_times : (offsets : List Offset) → CanBeTold offsets → AllByRecursion (λ (w : Tier3 × ℕ). (1 ≤ w.1) × (w.1 ≤ 23)) (time_weights offsets)
small_times [] can = ((omega arith, omega arith), tt)
small_times (o ∷ offsets) can =
    let body = length-offsets_body (o ∷ offsets) can.each in
    let few = can.few in
    ((omega arith, omega arith), ((omega (arith, body, few), omega (arith, body, few)), tt))

small_under : (ts : List SubTable) (offsets : List Offset) → All IsFit ts → CanBeTold offsets → AllByRecursion (λ (w : Tier3 × ℕ). (1 ≤ w.1) × (w.1 ≤ 23)) (weights_under ts offsets)
small_under ts offsets fit can =
    let n = prefix_len leads ts in
    all_append (λ (w : Tier3 × ℕ). (1 ≤ w.1) × (w.1 ≤ 23)) (weights_of (before_tdt ts)) (time_weights offsets ++ weights_of (behind_tdt ts))
    (small_tables (before_tdt ts) (recursion_from_All IsFit (before_tdt ts) (All-take IsFit n ts fit)))
    (all_append (λ (w : Tier3 × ℕ). (1 ≤ w.1) × (w.1 ≤ 23)) (time_weights offsets) (weights_of (behind_tdt ts)) (small_times offsets can)
    (small_tables (behind_tdt ts) (recursion_from_All IsFit (behind_tdt ts) (All-drop IsFit n ts fit))))

within_limits : (past : List AiredTables) (a : AiredTables) → AreFit a.tables → 1 ≤ a.form.quota → CanBeTold a.form.offsets → IsWithinLimits (plan_of past a)
within_limits past a fit quota can =
    let ws = weights_once past a in
    let small : AllByRecursion (λ (w : Tier3 × ℕ). (1 ≤ w.1) × (w.1 ≤ 23)) ws =
    subst (AllByRecursion (λ (w : Tier3 × ℕ). (1 ≤ w.1) × (w.1 ≤ 23))) (weights_given past a.moment a.form a.tables) (small_under a.tables a.form.offsets fit.each can) in
    record {
      some_quota = quota;
      sized = λ i l. (
          let k : i < length ws = omega (arith, planned_all ws a.form.quota, l) in
          let e : slice_index (map (λ (w : Tier3 × ℕ). w.1) ws) i ≡ (get_or ws i (Fast, 0)).1 = get_or-map (λ (w : Tier3 × ℕ). w.1) ws i (Fast, 0) 0 k in
          let both = All-from_recursion (λ (w : Tier3 × ℕ). (1 ≤ w.1) × (w.1 ≤ 23)) ws small i (Fast, 0) k in
          let low = both.0 in
          let high = both.1 in
          (omega arith, omega arith));
    }

tiers_once : (past : List AiredTables) (a : AiredTables) → AreFit a.tables → AreInTiers (weights_once past a)
tiers_once past a fit = subst AreInTiers (weights_given past a.moment a.form a.tables) (in_tiers a.tables a.form.offsets fit.ordered)

-- ---- each run begins with a packet of its own

fast_leads : (t : SubTable) → leads t ≡ true → is_fast t.tier ≡ true
fast_leads t h = go (is_fast t.tier) (not (is_eit t.key.table)) h
  where
    go : (fast other : Bool) → (fast && other) ≡ true → fast ≡ true
    go true other e = refl
    go false other e = let f : false ≡ true = e in cc

-- each section is Fast, or is not on this PID
abbrev Apart : ℕ → List (Tier3 × ℕ) → List Sent → Type 0
Apart q [] [] = Unit {0}
Apart q [] (s ∷ ss) = Prim.⊥
Apart q (w ∷ ws) [] = Prim.⊥
Apart q (w ∷ ws) (s ∷ ss) = ((is_fast w.0 ≡ true) ⊎ (s.pid ≡ q → Prim.⊥)) × Apart q ws ss

apart-append : (q : ℕ) (vs ws : List (Tier3 × ℕ)) (rs ss : List Sent) → Apart q vs rs → Apart q ws ss → Apart q (vs ++ ws) (rs ++ ss)
apart-append q [] ws [] ss h k = k
apart-append q [] ws (r ∷ rs) ss h k = absurd h
apart-append q (v ∷ vs) ws [] ss h k = absurd h
apart-append q (v ∷ vs) ws (r ∷ rs) ss h k = (h.0, apart-append q vs ws rs ss h.1 k)

abbrev IsApart : ℕ → SubTable → Type 0
IsApart q t = (is_fast t.tier ≡ true) ⊎ (t.key.pid ≡ q → Prim.⊥)

apart_table : (q v : ℕ) (t : SubTable) (ss : Content) → IsApart q t → Apart q (map (weight t.tier) (map (sent_section v t) ss)) (map (sent_section v t) ss)
apart_table q v t [] h = tt
apart_table q v t (s ∷ ss) h = (h, apart_table q v t ss h)

apart_tables : (q : ℕ) (airings : List AiredTables) (ts : List SubTable) → AllByRecursion (IsApart q) ts → Apart q (table_weights airings ts) (table_sections airings ts)
apart_tables q airings [] h = tt
apart_tables q airings (t ∷ ts) h =
    let v = version_at t.key airings in
    apart-append q (map (weight t.tier) (sections_of v t)) (table_weights airings ts) (sections_of v t) (table_sections airings ts) (apart_table q v t t.sections h.0) (apart_tables q airings ts h.1)

apart_fast : (q : ℕ) (ss : List Sent) → Apart q (map (weight Fast) ss) ss
apart_fast q [] = tt
apart_fast q (s ∷ ss) = (inl refl, apart_fast q ss)

apart_once : (q : ℕ) (past : List AiredTables) (a : AiredTables) → All (IsApart q) a.tables → Apart q (weights_once past a) (sections_once past a)
apart_once q past a h =
    let all = past ++ a ∷ [] in
    let n = prefix_len leads a.tables in
    let ts = times a.form a.moment in
    apart-append q (table_weights all (before_tdt a.tables)) (map (weight Fast) ts ++ table_weights all (behind_tdt a.tables))
    (table_sections all (before_tdt a.tables)) (ts ++ table_sections all (behind_tdt a.tables))
    (apart_tables q all (before_tdt a.tables) (recursion_from_All (IsApart q) (before_tdt a.tables) (All-take (IsApart q) n a.tables h)))
    (apart-append q (map (weight Fast) ts) (table_weights all (behind_tdt a.tables)) ts (table_sections all (behind_tdt a.tables)) (apart_fast q ts)
    (apart_tables q all (behind_tdt a.tables) (recursion_from_All (IsApart q) (behind_tdt a.tables) (All-drop (IsApart q) n a.tables h))))

counted_one : (b : Bool) (n : ℕ) → b ≡ true → cond b 1 0 + n ≡ suc n
counted_one b n e = ap (λ (x : Bool). cond x 1 0 + n) e ∙ (let f : 1 + n ≡ suc n = omega arith in f)

counted_none : (b : Bool) (n : ℕ) → b ≡ false → cond b 1 0 + n ≡ n
counted_none b n e = ap (λ (x : Bool). cond x 1 0 + n) e ∙ (let f : 0 + n ≡ n = omega arith in f)

-- behind a section that is not Fast none is
not_fast : (t u : Tier3) → tier_rank t ≤ tier_rank u → is_fast t ≡ false → is_fast u ≡ false
not_fast t Near le e = refl
not_fast t Far le e = refl
not_fast Fast Fast le e = e
not_fast Near Fast le e = absurd (omega (arith, le))
not_fast Far Fast le e = absurd (omega (arith, le))

none_fast : (w : Tier3 × ℕ) (ws : List (Tier3 × ℕ)) → AreInTiers (w ∷ ws) → is_fast w.0 ≡ false → count_by (λ (s : Tier3 × ℕ). is_fast s.0) ws ≡ 0
none_fast w [] h e = refl
none_fast w (v ∷ ws) h e =
    let slow = not_fast w.0 v.0 h.0 e in
    let rest = none_fast v ws h.1 slow in
    sum_by-cons (λ (s : Tier3 × ℕ). cond (is_fast s.0) 1 0) v ws ∙ counted_none (is_fast v.0) (count_by (λ (s : Tier3 × ℕ). is_fast s.0) ws) slow ∙ rest

in_tiers_behind : (w : Tier3 × ℕ) (ws : List (Tier3 × ℕ)) → AreInTiers (w ∷ ws) → AreInTiers ws
in_tiers_behind w [] h = tt
in_tiers_behind w (v ∷ ws) h = h.1

apart_at : (q : ℕ) (ws : List (Tier3 × ℕ)) (ss : List Sent) (i : ℕ) → Apart q ws ss → AreInTiers ws → count_by (λ (s : Tier3 × ℕ). is_fast s.0) ws ≤ i → i < length ws
    → slice_index (map (λ (s : Sent). s.pid) ss) i ≡ q → Prim.⊥
apart_at q [] ss i h tiers le lt e = omega (arith, lt)
apart_at q (w ∷ ws) [] i h tiers le lt e = h
apart_at q (w ∷ ws) (s ∷ ss) i h tiers le lt e =
    go (is_fast w.0) refl (λ j k l f. apart_at q ws ss j h.1 (in_tiers_behind w ws tiers) k l f) i (omega (arith, le, sum_by-cons (λ (x : Tier3 × ℕ). cond (is_fast x.0) 1 0) w ws)) lt e
  where
    others : ℕ
    others = count_by (λ (x : Tier3 × ℕ). is_fast x.0) ws

    go : (b : Bool) → is_fast w.0 ≡ b → ((j : ℕ) → others ≤ j → j < length ws → slice_index (map (λ (x : Sent). x.pid) ss) j ≡ q → Prim.⊥)
        → (i : ℕ) → cond (is_fast w.0) 1 0 + others ≤ i → i < suc (length ws) → slice_index (s.pid ∷ map (λ (x : Sent). x.pid) ss) i ≡ q → Prim.⊥
    go true f again zero le lt e = omega (arith, le, counted_one (is_fast w.0) others f)
    go true f again (suc i) le lt e = again i (omega (arith, le, counted_one (is_fast w.0) others f)) (omega (arith, lt)) e
    go false f again zero le lt e = here h.0
      where
        here : ((is_fast w.0 ≡ true) ⊎ (s.pid ≡ q → Prim.⊥)) → Prim.⊥
        here (inl fast) = let b : false ≡ true = sym f ∙ fast in cc
        here (inr apart) = apart e
    go false f again (suc i) le lt e = again i (omega (arith, none_fast w ws tiers f)) (omega (arith, lt)) e

-- the first section has the PID of the first sub-table
first_pid : (past : List AiredTables) (a : AiredTables) (first : SubTable) (others : List SubTable) → a.tables ≡ first ∷ others → leads first ≡ true → 0 < length first.sections → pid_at past a 0 ≡ first.key.pid
first_pid past a first others are lead some = ap (λ (l : List Sent). slice_index (map (λ (s : Sent). s.pid) l) 0) front ∙ at first.sections some
  where
    all : List AiredTables
    all = past ++ a ∷ []

    v : ℕ
    v = version_at first.key all

    more : List Sent
    more = table_sections all (before_tdt others) ++ (times a.form a.moment ++ table_sections all (behind_tdt a.tables))

    led : before_tdt (first ∷ others) ≡ first ∷ before_tdt others
    led =
        let n = prefix_len leads others in
        ap (λ (b : Bool). take (cond b (1 + n) 0) (first ∷ others)) lead ∙ ap (λ (k : ℕ). take k (first ∷ others)) (let e : 1 + n ≡ suc n = omega arith in e)

    front : sections_once past a ≡ sections_of v first ++ more
    front =
        ap (λ (ts : List SubTable). table_sections all (before_tdt ts) ++ (times a.form a.moment ++ table_sections all (behind_tdt a.tables))) are
        ∙ ap (λ (ts : List SubTable). table_sections all ts ++ (times a.form a.moment ++ table_sections all (behind_tdt a.tables))) led
        ∙ append_assoc (sections_of v first) (table_sections all (before_tdt others)) (times a.form a.moment ++ table_sections all (behind_tdt a.tables))

    at : (ss : Content) → 0 < length ss → slice_index (map (λ (s : Sent). s.pid) (map (sent_section v first) ss ++ more)) 0 ≡ first.key.pid
    at [] lt = absurd (omega (arith, lt))
    at (s ∷ ss) lt = refl

runs_end : (past : List AiredTables) (a : AiredTables) → AreFit a.tables → RunsBeginAlone a.tables → (i : ℕ) → (plan_of past a).fasts ≤ i → i < (plan_of past a).fasts + (plan_of past a).nears + (plan_of past a).fars
    → pid_at past a i ≡ pid_at past a 0 → Prim.⊥
runs_end past a fit alone i le lt e =
    let q = alone.first.key.pid in
    let ws = weights_once past a in
    let each : AllByRecursion IsFit (alone.first ∷ alone.others) = subst (AllByRecursion IsFit) alone.are (recursion_from_All IsFit a.tables fit.each) in
    let apart : AllByRecursion (IsApart q) a.tables = subst (AllByRecursion (IsApart q)) (sym alone.are) (inl (fast_leads alone.first alone.leads), alone.apart) in
    let first = first_pid past a alone.first alone.others alone.are alone.leads each.0.some in
    apart_at q ws (sections_once past a) i (apart_once q past a (All-from_recursion (IsApart q) a.tables apart)) (tiers_once past a fit) le (omega (arith, planned_all ws a.form.quota, lt)) (e ∙ first)

packed_so : (past : List AiredTables) (a : AiredTables) → CanBeSpaced a → IsPacked (plan_of past a) (pid_at past a) (length_at past a)
unfolding size_of
packed_so past a can = record {
  counted = record {
    some = λ i lt. (
        let k = placed_at i lt in
        subst (λ (n : ℕ). 0 < n) (sym (get_or-map (λ (s : Sent). length s.bytes) ss i time 0 k)) (All-from_recursion (λ (s : Sent). 0 < length s.bytes) ss (once_some past a) i time k));
    size = λ i lt. (
        let k = placed_at i lt in
        ap (λ (l : List ℕ). slice_index l i) (sizes_once past a) ∙ get_or-map size_of ss i time 0 k ∙ ap packets_of (sym (get_or-map (λ (s : Sent). length s.bytes) ss i time 0 k)));
  };
  ends = runs_end past a can.fit can.alone;
}
  where
    ss : List Sent
    ss = sections_once past a

    time : Sent
    time = tdt a.moment

    placed_at : (i : ℕ) → i < (plan_of past a).fasts + (plan_of past a).nears + (plan_of past a).fars → i < length (sections_once past a)
    placed_at i lt = omega (arith, planned_all (weights_once past a) a.form.quota, weights_each past a, lt)

-- ---- two cycles

-- what is counted with is the same whatever the versions and the moment are
abbrev pids_of : List SubTable → List ℕ
pids_of ts = flat_map (λ (t : SubTable). map (λ (s : NumberedBody). t.key.pid) t.sections) ts

abbrev lengths_of : List SubTable → List ℕ
lengths_of ts = flat_map (λ (t : SubTable). map (λ (s : NumberedBody). 12 + length s.body) t.sections) ts

pids_section : (v : ℕ) (t : SubTable) (ss : Content) → map (λ (s : Sent). s.pid) (map (sent_section v t) ss) ≡ map (λ (s : NumberedBody). t.key.pid) ss
pids_section v t [] = refl
pids_section v t (s ∷ ss) = ap (λ (l : List ℕ). t.key.pid ∷ l) (pids_section v t ss)

lengths_section : (v : ℕ) (t : SubTable) (ss : Content) → map (λ (s : Sent). length s.bytes) (map (sent_section v t) ss) ≡ map (λ (s : NumberedBody). 12 + length s.body) ss
lengths_section v t [] = refl
lengths_section v t (s ∷ ss) = ap₂ (λ (n : ℕ) (l : List ℕ). n ∷ l) (length-section_bytes (header_of v t s) s.body) (lengths_section v t ss)

pids_tables : (airings : List AiredTables) (ts : List SubTable) → map (λ (s : Sent). s.pid) (table_sections airings ts) ≡ pids_of ts
pids_tables airings [] = refl
pids_tables airings (t ∷ ts) =
    let v = version_at t.key airings in
    map-append (λ (s : Sent). s.pid) (sections_of v t) (table_sections airings ts) ∙ ap₂ (λ (x y : List ℕ). x ++ y) (pids_section v t t.sections) (pids_tables airings ts)

lengths_tables : (airings : List AiredTables) (ts : List SubTable) → map (λ (s : Sent). length s.bytes) (table_sections airings ts) ≡ lengths_of ts
lengths_tables airings [] = refl
lengths_tables airings (t ∷ ts) =
    let v = version_at t.key airings in
    map-append (λ (s : Sent). length s.bytes) (sections_of v t) (table_sections airings ts) ∙ ap₂ (λ (x y : List ℕ). x ++ y) (lengths_section v t t.sections) (lengths_tables airings ts)

-- those that tell the time
abbrev time_pids : List Offset → List ℕ
time_pids [] = 20 ∷ []
time_pids (o ∷ offsets) = 20 ∷ 20 ∷ []

abbrev time_lengths : List Offset → List ℕ
time_lengths [] = 8 ∷ []
time_lengths (o ∷ offsets) = 8 ∷ (16 + length (offsets_body (o ∷ offsets))) ∷ []

pids_times : (form : CycleForm) (moment : ℕ) → map (λ (s : Sent). s.pid) (times form moment) ≡ time_pids form.offsets
pids_times form moment = go form.offsets
  where
    go : (offsets : List Offset) → 20 ∷ map (λ (s : Sent). s.pid) (tot moment offsets) ≡ time_pids offsets
    go [] = refl
    go (o ∷ offsets) = refl

lengths_times : (form : CycleForm) (moment : ℕ) → map (λ (s : Sent). length s.bytes) (times form moment) ≡ time_lengths form.offsets
lengths_times form moment = go form.offsets
  where
    go : (offsets : List Offset) → length (tdt moment).bytes ∷ map (λ (s : Sent). length s.bytes) (tot moment offsets) ≡ time_lengths offsets
    go [] = ap (λ (n : ℕ). n ∷ []) (eight moment)
    go (o ∷ offsets) = ap₂ (λ (n m : ℕ). n ∷ m ∷ []) (eight moment) (length-tot_section moment (o ∷ offsets))

pids_given : (past : List AiredTables) (a : AiredTables) → map (λ (s : Sent). s.pid) (sections_once past a) ≡ pids_of (before_tdt a.tables) ++ (time_pids a.form.offsets ++ pids_of (behind_tdt a.tables))
pids_given past a =
    let all = past ++ a ∷ [] in
    let ts = times a.form a.moment in
    map-append (λ (s : Sent). s.pid) (table_sections all (before_tdt a.tables)) (ts ++ table_sections all (behind_tdt a.tables))
    ∙ ap₂ (λ (x y : List ℕ). x ++ y) (pids_tables all (before_tdt a.tables))
    (map-append (λ (s : Sent). s.pid) ts (table_sections all (behind_tdt a.tables)) ∙ ap₂ (λ (x y : List ℕ). x ++ y) (pids_times a.form a.moment) (pids_tables all (behind_tdt a.tables)))

lengths_given : (past : List AiredTables) (a : AiredTables) → map (λ (s : Sent). length s.bytes) (sections_once past a) ≡ lengths_of (before_tdt a.tables) ++ (time_lengths a.form.offsets ++ lengths_of (behind_tdt a.tables))
lengths_given past a =
    let all = past ++ a ∷ [] in
    let ts = times a.form a.moment in
    map-append (λ (s : Sent). length s.bytes) (table_sections all (before_tdt a.tables)) (ts ++ table_sections all (behind_tdt a.tables))
    ∙ ap₂ (λ (x y : List ℕ). x ++ y) (lengths_tables all (before_tdt a.tables))
    (map-append (λ (s : Sent). length s.bytes) ts (table_sections all (behind_tdt a.tables)) ∙ ap₂ (λ (x y : List ℕ). x ++ y) (lengths_times a.form a.moment) (lengths_tables all (behind_tdt a.tables)))

same_plan : (past later : List AiredTables) (a b : AiredTables) → b.tables ≡ a.tables → b.form ≡ a.form → plan_of later b ≡ plan_of past a
same_plan past later a b tables form =
    ap₂ planned
    (sym (weights_given later b.moment b.form b.tables) ∙ ap₂ (λ (ts : List SubTable) (f : CycleForm). weights_under ts f.offsets) tables form ∙ weights_given past a.moment a.form a.tables)
    (ap (λ (f : CycleForm). f.quota) form)

same_pids : (past later : List AiredTables) (a b : AiredTables) → b.tables ≡ a.tables → b.form ≡ a.form → pid_at later b ≡ pid_at past a
same_pids past later a b tables form =
    ap slice_index (pids_given later b ∙ ap₂ (λ (ts : List SubTable) (f : CycleForm). pids_of (before_tdt ts) ++ (time_pids f.offsets ++ pids_of (behind_tdt ts))) tables form ∙ sym (pids_given past a))

same_lengths : (past later : List AiredTables) (a b : AiredTables) → b.tables ≡ a.tables → b.form ≡ a.form → length_at later b ≡ length_at past a
same_lengths past later a b tables form =
    ap slice_index (lengths_given later b ∙ ap₂ (λ (ts : List SubTable) (f : CycleForm). lengths_of (before_tdt ts) ++ (time_lengths f.offsets ++ lengths_of (behind_tdt ts))) tables form ∙ sym (lengths_given past a))

made_at : (front before : List Aired) (x : Aired) (after : List Aired) → AreMade front (before ++ x ∷ after) → x.packets ≡ cycle_dense (airings_of (front ++ before)) (air (front ++ before)) x.airing
made_at front [] x after made = subst (λ (l : List Aired). x.packets ≡ cycle_dense (airings_of l) (air l) x.airing) (sym (append-nil front)) made.0
made_at front (y ∷ before) x after made =
    subst (λ (l : List Aired). x.packets ≡ cycle_dense (airings_of l) (air l) x.airing) (append_assoc front (y ∷ []) before) (made_at (front ++ y ∷ []) before x after made.1)

-- the cycle of an airing within an air
cycle_along : (before : List Aired) (x : Aired) (after : List Aired) →
    CycleStarts (sections_once (airings_of before) x.airing) (pid_at (airings_of before) x.airing) (length_at (airings_of before) x.airing) (cycle_of (plan_of (airings_of before) x.airing)) (air before) (air after)
cycle_along before x after =
    let past = airings_of before in
    cycle_starts (sections_once past x.airing) (pid_at past x.airing) (length_at past x.airing) (are_of past x.airing) (once_some past x.airing) (cycle_of (plan_of past x.airing)) (within_once past x.airing) (air before) (air after)

pub made_cycles_are_spaced : MadeCyclesAreSpaced
made_cycles_are_spaced before x after made can =
    let past = airings_of before in
    let p = plan_of past x.airing in
    let n = length (air before) in
    let parts : air (before ++ x ∷ after) ≡ air before ++ (cycle_dense past (air before) x.airing ++ air after) =
    flat_map-append (λ (z : Aired). z.packets) before (x ∷ after) ∙ ap (λ (l : List Packet). air before ++ (l ++ air after)) (made_at [] before x after made) in
    record {
      tiers = tiers_once past x.airing can.fit;
      starts = subst (λ (l : List Packet). AreStarts l (sections_once past x.airing) (starts_of n past x.airing)) (sym parts) (cycle_along before x after).starts;
      spaced = subst (AreSpaced p) (append-nil (starts_of n past x.airing))
          (one_cycle_is_spaced p (within_limits past x.airing can.fit can.quota can.offsets) (pid_at past x.airing) (length_at past x.airing) (packed_so past x.airing can) n);
    }

pub made_neighbours_are_spaced : MadeNeighboursAreSpaced
made_neighbours_are_spaced before x y after made can tables form =
    let past = airings_of before in
    let later = airings_of (before ++ x ∷ []) in
    let p = plan_of past x.airing in
    let order = cycle_of p in
    let pid = pid_at past x.airing in
    let len = length_at past x.airing in
    let n = length (air before) in
    let m = length (air (before ++ x ∷ [])) in
    let packets : x.packets ≡ cycle_dense past (air before) x.airing = made_at [] before x (y ∷ after) made in
    let size : length x.packets ≡ length (each_dense (cycle_sections past x.airing)) = ap length packets ∙ length-counted (air before) (each_dense (cycle_sections past x.airing)) in
    let end : packets_so_far (packed_all pid len (begun_at n) order) ≡ m =
    sym (cycle_along before x (y ∷ after)).count ∙ omega (arith, size, ap length (air-push before x), length-append (air before) x.packets) in
    let starts : starts_of_cycles pid len n (order ∷ order ∷ []) ≡ starts_of_two before x y =
    ap (λ (k : ℕ). starts_dense pid len (begun_at n) order ++ (starts_dense pid len (begun_at k) order ++ [])) end
    ∙ ap (λ (l : List Start). starts_dense pid len (begun_at n) order ++ l) (append-nil (starts_dense pid len (begun_at m) order))
    ∙ ap (λ (q : Planned). starts_dense pid len (begun_at n) order ++ starts_dense pid len (begun_at m) (cycle_of q)) (sym (same_plan past later x.airing y.airing tables form))
    ∙ ap₂ (λ (f g : ℕ → ℕ). starts_dense pid len (begun_at n) order ++ starts_dense f g (begun_at m) (cycle_of (plan_of later y.airing)))
    (sym (same_pids past later x.airing y.airing tables form)) (sym (same_lengths past later x.airing y.airing tables form)) in
    subst (AreSpaced p) starts (cycles_are_spaced p (within_limits past x.airing can.fit can.quota can.offsets) pid len (packed_so past x.airing can) n)

pub made_airs_are_spaced : MadeAirsAreSpaced
made_airs_are_spaced form xs made all = record {
  cycles = λ before x after e. (
      made_cycles_are_spaced before x after (subst (AreMade []) e made) (all_at Can before x after (subst (AllByRecursion Can) e all)).0);
  neighbours = λ before x y after e tables. (
      let each = subst (AllByRecursion Can) e all in
      let here = all_at Can before x (y ∷ after) each in
      let next = all_at Can (before ++ x ∷ []) y after (subst (AllByRecursion Can) (sym (append_assoc before (x ∷ []) (y ∷ after))) each) in
      made_neighbours_are_spaced before x y after (subst (AreMade []) e made) here.0 tables (next.1 ∙ sym here.1));
}
  where
    Can : Aired → Type 0
    Can z = CanBeSpaced z.airing × (z.airing.form ≡ form)
