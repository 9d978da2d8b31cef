-- Airs at a bit rate send the sections of leads again soon enough.
use Rattle.std.proofs.Common.{◌≡◌, ℕ, zero, suc, ◌+◌, ◌*◌, ◌<◌, ◌≤◌, ◌⊎◌, inl, inr, List, [], ◌∷◌, ◌++◌, Bool, true, false, length, map, drop, refl, sym, ap, ap₂, ◌∙◌, subst, subst₂, arith, append_assoc}
use Rattle.std.specs.Prelude.{cond, if◌then◌else◌, not}
use Rattle.std.specs.List.{AllByRecursion, Contains, prefix_len}
use Rattle.std.proofs.lemmas.List.{length-map, take-append-drop}
use Rattle.std.proofs.lemmas.List.Concat.{flat_map-append}
use Rattle.std.proofs.lemmas.List.Elements.{All-take, All-drop, recursion_from_All, Contains-append_right}
use Rattle.std.proofs.lemmas.List.Sums.{sum_by-append, sum_by-cons}
use Rattle.si_lists.proofs.Lists.{all_append, all_two, all_through}
use Rattle.guide_model.specs.declared.offset.Offset.{Offset}
use Rattle.section_codec.specs.Contents.{numbers_from}
use Rattle.section_codec.specs.Section.{longest_body}
use Rattle.section_codec.specs.SubTables.{IsFit, header_of}
use Rattle.section_codec.specs.Tables.{is_eit}
use Rattle.section_codec.specs.declared.table.NumberedBody.{NumberedBody}
use Rattle.section_codec.specs.declared.table.SubTable.{SubTable}
use Rattle.section_codec.specs.declared.table.Tier3.{Tier3}
use Rattle.section_codec.specs.declared.table.Tier3.TheVariants.{Fast}
use Rattle.section_codec.proofs.ReadBack.{length-section_bytes}
use Rattle.time_tables.proofs.Loops.{length-tot_section}
use Rattle.time_tables.proofs.Offsets.{length-offsets_body}
use Rattle.ts_packets.specs.Packets.{packets_of}
use Rattle.version_book.specs.Airings.{AiredTables, version_at}
use Rattle.air_model.specs.Cycle.{Planned as Tiers}
use Rattle.air_model.specs.Packing.{packets_so_far}
use Rattle.air_model.specs.Sections.{is_fast, planned}
use Rattle.air_model.proofs.Cursors.{planned_all}
use Rattle.air_model.proofs.Lists.{packets-append}
use Rattle.air_timing.specs.declared.pace.Paced.{Paced}
use Rattle.air_timing.specs.declared.span.Leads.{Leads}
use Rattle.air_timing.specs.declared.timing.Timing.{Timing}
use Rattle.air_timing.specs.Pacing.{Place, place_at, paced_one, paced_all, timings, HaveBytes}
use Rattle.air_timing.specs.Frames.{Framed, Frame, Follow, start_of, begin_of}
use Rattle.air_timing.specs.Plan.{Planned, section_at, timed_of, framed_of, order_in}
use Rattle.air_timing.specs.Rate.{gap_at, half_second}
use Rattle.air_timing.specs.Turns.{often_of, round_of}
use Rattle.air_timing.proofs.Pacing.{first_most, so_far_with}
use Rattle.air_model.specs.Air.{Sent, CanBeTold, IsSendable, sent_section, sections_of, table_sections, tdt, tot, times, leads, before_tdt, behind_tdt, sections_once, weight, table_weights, weights_once, air, airings_of}
use Rattle.air_model.proofs.Dense.{eight, once_some}
use Rattle.air_model.proofs.Elements.{of_element, first_of, around, mapped}
use Rattle.air_model.proofs.Planned.{all_got, weights_each}
use Rattle.cycle_timing.specs.Again.{IsRight, moved, timings_after, AreSoonAgain, AreRepeated, first_tables, leads_in, TimedCyclesRepeat, TimedNeighboursRepeat}
use Rattle.cycle_timing.specs.Leads.{lead_from, leads_within, leads_of, lead_packets, most_packets, is_of_events, most_sections}
use Rattle.cycle_timing.specs.Planning.{paced_in, fast_groups, plan_of, timings_of}
use Rattle.cycle_timing.proofs.Again.{beat, beats, flat_beats, beats_numbered, beats_close, end, some_round, fast_low, section_plays, table_plays, IsSlow, InTime, Stands, Turns}
use Rattle.cycle_timing.proofs.Apart.{after_all, air_next}
use Rattle.cycle_timing.proofs.Beats.{Beat, flat, AreClose, AreNumbered, close_append, close_less, numbered_append, Plays, soon_again}
use Rattle.cycle_timing.proofs.Cycles.{got_within, planned_at, have_bytes, within}
use Rattle.cycle_timing.proofs.Growing.{timed_after}
use Rattle.cycle_timing.proofs.PacedLeads.{lead_append}
use Rattle.cycle_timing.proofs.Order.{IsRounds, rounds_in}
use Rattle.cycle_timing.proofs.Plans.{in_numbers, all_body, leads_length, each_planned}
use Rattle.cycle_timing.proofs.Rooms.{most_least, AreSizedOnce, begin, frames, in_time, follow, parts}
use Rattle.cycle_timing.proofs.Runs.{after}
use Rattle.cycle_timing.proofs.Same.{plans_same}

-- ---- sections have 1 to 4,096 bytes

abbrev IsShort : Sent → Type 0
IsShort s = length s.bytes ≤ 4096

longest : (table : ℕ) → longest_body table ≤ 4084
longest table = go (is_eit table)
  where
    go : (b : Bool) → (if b then 4084 else 1012) ≤ 4084
    go true = omega arith
    go false = omega arith

short_sections : (v : ℕ) (t : SubTable) (ss : List NumberedBody) → AllByRecursion (λ (s : NumberedBody). length s.body ≤ longest_body t.key.table) ss → AllByRecursion IsShort (map (sent_section v t) ss)
short_sections v t [] h = tt
short_sections v t (s ∷ ss) h = (let l = h.0 in let m = longest t.key.table in omega (arith, length-section_bytes (header_of v t s) s.body), short_sections v t ss h.1)

short_tables : (airings : List AiredTables) (ts : List SubTable) → AllByRecursion IsFit ts → AllByRecursion IsShort (table_sections airings ts)
short_tables airings [] h = tt
short_tables airings (t ∷ ts) h =
    all_append IsShort (sections_of (version_at t.key airings) t) (table_sections airings ts)
    (short_sections (version_at t.key airings) t t.sections (recursion_from_All (λ (s : NumberedBody). length s.body ≤ longest_body t.key.table) t.sections h.0.bodies)) (short_tables airings ts h.1)

short_tot : (m : ℕ) (offsets : List Offset) → CanBeTold offsets → AllByRecursion IsShort (tot m offsets)
short_tot m [] can = tt
short_tot m (o ∷ offsets) can = (let few = can.few in omega (arith, length-tot_section m (o ∷ offsets), length-offsets_body (o ∷ offsets) can.each), tt)

short_once : (past : List AiredTables) (a : AiredTables) → IsSendable a → AllByRecursion IsShort (sections_once past a)
short_once past a can =
    let n = prefix_len leads a.tables in
    let all = past ++ a ∷ [] in
    all_append IsShort (table_sections all (before_tdt a.tables)) (times a.form a.moment ++ table_sections all (behind_tdt a.tables))
    (short_tables all (before_tdt a.tables) (recursion_from_All IsFit (before_tdt a.tables) (All-take IsFit n a.tables can.tables)))
    (all_append IsShort (times a.form a.moment) (table_sections all (behind_tdt a.tables)) (omega (arith, eight a.moment), short_tot a.moment a.form.offsets can.offsets)
    (short_tables all (behind_tdt a.tables) (recursion_from_All IsFit (behind_tdt a.tables) (All-drop IsFit n a.tables can.tables))))

abbrev tiers : List AiredTables → AiredTables → Tiers
tiers past a = planned (weights_once past a) a.form.quota

sized_once : (past : List AiredTables) (a : AiredTables) → IsSendable a → AreSizedOnce (paced_in (sections_once past a)) (tiers past a)
sized_once past a can i l =
    let once = sections_once past a in
    let w = weights_each past a in
    let all = planned_all (weights_once past a) a.form.quota in
    let g = got_within once i (omega arith) in
    let some = all_got (λ (s : Sent). 0 < length s.bytes) once i g.0 (once_some past a) g.1 in
    let few = all_got IsShort once i g.0 (short_once past a can) g.1 in
    subst (λ (q : Paced). (0 < q.len) × (q.len ≤ 4096)) (sym (planned_at once i g.0 g.1)) (some, few)

-- the TDT is a Fast section
some_fast : (past : List AiredTables) (a : AiredTables) → 0 < (tiers past a).fasts
some_fast past a =
    let all = past ++ a ∷ [] in
    let one : Tier3 × ℕ → ℕ = λ s. cond (is_fast s.0) 1 0 in
    let front = table_weights all (before_tdt a.tables) in
    let own = map (weight Fast) (times a.form a.moment) in
    let back = table_weights all (behind_tdt a.tables) in
    let x = sum_by-append one front (own ++ back) in
    let y = sum_by-cons one (weight Fast (tdt a.moment)) (map (weight Fast) (tot a.moment a.form.offsets) ++ back) in
    omega arith

-- ---- bounds

wider : (Is : ℕ → Type 0) (one two last : ℕ) (ts : List Timing) → one ≤ two → AreSoonAgain Is one last ts → AreSoonAgain Is two last ts
wider Is one two last ts l h before behind t e is = go (h before behind t e is)
  where
    go : ((u : Timing) × Contains behind u × Is u.section × (u.first ≤ t.first + one)) ⊎ (last ≤ t.first + one) → ((u : Timing) × Contains behind u × Is u.section × (u.first ≤ t.first + two)) ⊎ (last ≤ t.first + two)
    go (inl (u, has, i, f)) = inl (u, has, i, omega arith)
    go (inr f) = inr (omega arith)

-- ---- beats of one cycle, and of two

module _ (rate : ℕ) (past : List AiredTables) (a : AiredTables) (can : IsSendable a) where
  abbrev ss : List Paced
  ss = paced_in (sections_once past a)

  abbrev p : Tiers
  p = tiers past a

  sized : AreSizedOnce ss p
  sized = sized_once past a can

  some : 0 < p.fasts
  some = some_fast past a

  abbrev fs : List Frame
  fs = frames rate ss p sized

  abbrev f : Framed
  f = framed_of (plan_of rate past a)

  abbrev step : ℕ
  step = f.span + gap_at rate

  abbrev ts : List Timing
  ts = timings_of rate past a

  abbrev last : ℕ
  last = end rate ss p sized some

  abbrev beats_at : ℕ → ℕ → List Beat
  beats_at n j = beats rate ss p sized some n j

  flat_at : (n j : ℕ) → flat (beats_at n j) ≡ map (moved n) ts
  flat_at n j = flat_beats rate ss p sized some n j

  rounds : IsRounds (length (leads_of (fast_groups ss p))) (length fs)
  rounds = rounds_in (plan_of rate past a) (some_round rate ss p sized some) (begin rate ss p sized)

  some_frame : 0 < length fs
  some_frame = more rounds.many rounds.some rounds.are
    where
      more : (many : ℕ) → 0 < many → length fs ≡ many * length (leads_of (fast_groups ss p)) → 0 < length fs
      more zero h e = absurd (omega arith)
      more (suc many) h e =
          let r = some_round rate ss p sized some in
          let s : suc many * length (leads_of (fast_groups ss p)) ≡ length (leads_of (fast_groups ss p)) + many * length (leads_of (fast_groups ss p)) = omega arith in
          omega arith

  -- a cycle begins at most a gap after the packets before it
  first_beat : (xs : List ℕ) → start_of f.timed (place_at (gap_at rate)) xs ≤ gap_at rate
  first_beat [] = omega arith
  first_beat (x ∷ xs) = first_most f.timed (place_at (gap_at rate)) x (gap_at rate) (omega arith) (omega arith)

  -- the packets of the cycle
  size : after 0 ts ≡ last
  size = go (order_in (plan_of rate past a) (place_at (gap_at rate))) (each_planned rate ss p (place_at (gap_at rate)) 0 (let s = some in omega arith)) bytes
    where
      bytes : HaveBytes f.timed (order_in (plan_of rate past a) (place_at (gap_at rate)))
      bytes = have_bytes rate past a (order_in (plan_of rate past a) (place_at (gap_at rate))) (within rate past a)

      go : (xs : List ℕ) → Contains xs 0 → HaveBytes f.timed xs → after 0 (timings f.timed (place_at (gap_at rate)) xs) ≡ packets_so_far (paced_all f.timed (place_at (gap_at rate)) xs).packing
      go [] has h = absurd (let l = has.1 in omega arith)
      go (x ∷ xs) has h = after_all f.timed _ (paced_one f.timed (place_at (gap_at rate)) x) xs h.1 (sym (so_far_with f.timed (place_at (gap_at rate)) x h.0))

  pair_close : (n m : ℕ) → m ≡ n + last → AreClose step (m + last) (beats_at n 0 ++ beats_at m (length fs))
  pair_close n m e = go fs some_frame (follow rate ss p sized) refl (beats_close rate ss p sized some m (length fs))
    where
      go : (gs : List Frame) → 0 < length gs → Follow f 0 (place_at (gap_at rate)) gs → gs ≡ fs → AreClose step (m + last + gap_at rate) (beats_at m (length fs)) → AreClose step (m + last) (beats_at n 0 ++ beats_at m (length fs))
      go [] one h same close = absurd (omega arith)
      go (frame ∷ gs) one h same close =
          let own : beats_at m (length fs) ≡ beat rate ss p sized some m (length fs) frame ∷ map (beat rate ss p sized some m (length fs)) gs = ap (map (beat rate ss p sized some m (length fs))) (sym same) in
          let at : begin_of f frame ≤ gap_at rate = subst (λ (q : Place). start_of f.timed q (f.lead frame.number) ≤ gap_at rate) (sym h.1) (first_beat (f.lead frame.number)) in
          let long : length (beats_at n 0) ≡ length fs = length-map fs (beat rate ss p sized some n 0) in
          subst (λ (l : List Beat). AreClose step (m + last) (beats_at n 0 ++ l)) (sym own)
          (close_append step (n + last + gap_at rate) (m + last) (beats_at n 0) (beat rate ss p sized some m (length fs) frame) (map (beat rate ss p sized some m (length fs)) gs) (let s = some_frame in omega arith)
          (beats_close rate ss p sized some n 0) (omega arith) (close_less step (m + last + gap_at rate) (m + last) (beat rate ss p sized some m (length fs) frame ∷ map (beat rate ss p sized some m (length fs)) gs) (omega arith) (subst (AreClose step (m + last + gap_at rate)) own close)))

  pair_numbered : (n m : ℕ) → AreNumbered 0 (beats_at n 0 ++ beats_at m (length fs))
  pair_numbered n m =
      let long : length (beats_at n 0) ≡ length fs = length-map fs (beat rate ss p sized some n 0) in
      numbered_append 0 (beats_at n 0) (beats_at m (length fs)) (beats_numbered rate ss p sized some n 0)
      (subst (λ (k : ℕ). AreNumbered k (beats_at m (length fs))) (let e : length fs ≡ 0 + length (beats_at n 0) = omega arith in e) (beats_numbered rate ss p sized some m (length fs)))

  -- what is known of each frame
  abbrev Known : Frame → Type 0
  Known frame = InTime rate ss p sized some frame × IsSlow rate ss p sized some frame

  known : AllByRecursion Known fs
  known =
      let slow = parts rate ss p sized (λ (i : ℕ). p.fasts ≤ i) (all_body (λ (i : ℕ). p.fasts ≤ i) ss p (λ i a l. a)) in
      all_two (InTime rate ss p sized some) (IsSlow rate ss p sized some) Known (λ frame t s. (t, s)) fs (in_time rate ss p sized).leads slow

  -- ---- bounds of a right span

  abbrev groups : List (List ℕ)
  groups = fast_groups ss p

  abbrev round : ℕ
  round = length (leads_of groups)

  abbrev often : ℕ
  often = often_of (most_sections groups)

  abbrev measured : Leads
  measured = leads_in rate past a

  -- of beats of one cycle or of two
  record AreBeats (bs : List Beat) (stop : ℕ) : Type 0 where
    pub close : AreClose step stop bs
    pub numbered : AreNumbered 0 bs
    pub section : (x : ℕ) → x < p.fasts → AllByRecursion (Plays (λ (i : ℕ). i ≡ x) (Stands rate ss p sized some x) step round (1 + gap_at rate + measured.most) stop) bs
    pub table : (before : List (List ℕ)) (table : List ℕ) (rest : List (List ℕ)) (are : groups ≡ before ++ table ∷ rest) (ahead : ℕ)
        (few : (i : ℕ) → i < round → lead_packets ss (lead_from often i 0 before) ≤ ahead) (low : (x : ℕ) → Contains table x → x < p.fasts)
        → AllByRecursion (Plays (Contains table) (Turns rate ss p sized some before table rest are) step often (1 + gap_at rate + ahead) stop) bs

  section_all : (n j many stop x : ℕ) → j ≡ many * round → x < p.fasts → AllByRecursion (Plays (λ (i : ℕ). i ≡ x) (Stands rate ss p sized some x) step round (1 + gap_at rate + measured.most) stop) (beats_at n j)
  section_all n j many stop x is low = all_through Known (Plays (λ (i : ℕ). i ≡ x) (Stands rate ss p sized some x) step round (1 + gap_at rate + measured.most) stop) (beat rate ss p sized some n j)
      (λ frame k. section_plays rate ss p sized some n j many x stop frame is low k.0 k.1) fs known

  table_all : (n j many stop : ℕ) → j ≡ many * round → (before : List (List ℕ)) (table : List ℕ) (rest : List (List ℕ)) (are : groups ≡ before ++ table ∷ rest) (ahead : ℕ)
      (few : (i : ℕ) → i < round → lead_packets ss (lead_from often i 0 before) ≤ ahead) (low : (x : ℕ) → Contains table x → x < p.fasts)
      → AllByRecursion (Plays (Contains table) (Turns rate ss p sized some before table rest are) step often (1 + gap_at rate + ahead) stop) (beats_at n j)
  table_all n j many stop is before table rest are ahead few low =
      all_through Known (Plays (Contains table) (Turns rate ss p sized some before table rest are) step often (1 + gap_at rate + ahead) stop) (beat rate ss p sized some n j)
      (λ frame k. table_plays rate ss p sized some before table rest are ahead few n j many stop frame is low k.0 k.1) fs known

  one_beats : (n : ℕ) → AreBeats (beats_at n 0) (n + last)
  one_beats n = record {
    close = close_less step (n + last + gap_at rate) (n + last) (beats_at n 0) (omega arith) (beats_close rate ss p sized some n 0);
    numbered = beats_numbered rate ss p sized some n 0;
    section = λ x low. section_all n 0 0 (n + last) x (omega arith) low;
    table = λ before table rest are ahead few low. table_all n 0 0 (n + last) (omega arith) before table rest are ahead few low;
  }

  two_beats : (n m : ℕ) → m ≡ n + last → AreBeats (beats_at n 0 ++ beats_at m (length fs)) (m + last)
  two_beats n m e = record {
    close = pair_close n m e;
    numbered = pair_numbered n m;
    section = λ x low. all_append _ (beats_at n 0) (beats_at m (length fs)) (section_all n 0 0 (m + last) x (omega arith) low) (section_all m (length fs) rounds.many (m + last) x rounds.are low);
    table = λ before table rest are ahead few low. all_append _ (beats_at n 0) (beats_at m (length fs)) (table_all n 0 0 (m + last) (omega arith) before table rest are ahead few low)
        (table_all m (length fs) rounds.many (m + last) rounds.are before table rest are ahead few low);
  }

  -- what stands before a sub-table that is sent before events has no more packets than all of these
  first_few : (before : List (List ℕ)) (table : List ℕ) (rest : List (List ℕ)) → first_tables rate past a ≡ before ++ table ∷ rest → (i : ℕ) → i < round → lead_packets ss (lead_from often i 0 before) ≤ measured.first
  first_few before table rest e i l =
      let first = first_tables rate past a in
      let n = most_sections groups in
      let size = leads_length groups in
      let within : Contains (leads_within n first) (lead_from often i 0 first) = mapped (λ (k : ℕ). lead_from often k 0 first) (numbers_from 0 (round_of n)) i (in_numbers i 0 (round_of n) (omega arith) (omega arith)) in
      let most = of_element (λ (lead : List ℕ). lead_packets ss lead ≤ most_packets ss (leads_within n first)) (leads_within n first) (lead_from often i 0 first) (most_least ss (leads_within n first)) within in
      let parted : lead_packets ss (lead_from often i 0 first) ≡ lead_packets ss (lead_from often i 0 before) + lead_packets ss (lead_from often i (0 + length before) (table ∷ rest)) =
      ap (lead_packets ss) (ap (lead_from often i 0) e ∙ lead_append often i 0 before (table ∷ rest)) ∙ packets-append (λ (x : ℕ). packets_of (section_at ss x).len) (lead_from often i 0 before) (lead_from often i (0 + length before) (table ∷ rest)) in
      omega arith

  repeated : IsRight rate past a → (bs : List Beat) (stop : ℕ) → AreBeats bs stop → AreRepeated rate past a stop (flat bs)
  repeated right bs stop b = record { half = half; two = two }
    where
      half : (table : List ℕ) → Contains (first_tables rate past a) table → AreSoonAgain (Contains table) (half_second rate) stop (flat bs)
      half table has =
          let w = around (first_tables rate past a) table has in
          let n = prefix_len (λ (group : List ℕ). not (is_of_events ss group)) groups in
          let behind = drop n groups in
          let are : groups ≡ w.0 ++ table ∷ (w.1 ++ behind) = sym (take-append-drop n groups) ∙ ap (λ (l : List (List ℕ)). l ++ behind) w.2 ∙ append_assoc w.0 (table ∷ w.1) behind in
          let in_groups : Contains groups table = subst (λ (l : List (List ℕ)). Contains l table) (sym are) (Contains-append_right w.0 (table ∷ (w.1 ++ behind)) table (first_of table (w.1 ++ behind))) in
          let plays = b.table w.0 table (w.1 ++ behind) are measured.first (first_few w.0 table w.1 w.2) (λ x h. fast_low rate ss p sized some table x in_groups h) in
          let often_some : 0 < often = omega arith in
          let bound = right.half in
          wider (Contains table) (often * step + (1 + gap_at rate + measured.first)) (half_second rate) stop (flat bs) (omega arith)
          (soon_again (Contains table) (Turns rate ss p sized some w.0 table (w.1 ++ behind) are) step often (1 + gap_at rate + measured.first) stop often_some 0 bs b.close b.numbered plays)

      two : (table : List ℕ) (x : ℕ) → Contains groups table → Contains table x → AreSoonAgain (λ (i : ℕ). i ≡ x) (4 * half_second rate) stop (flat bs)
      two table x has_table has =
          let low = fast_low rate ss p sized some table x has_table has in
          let size : round * step ≡ measured.round * step = ap (λ (n : ℕ). n * step) (leads_length groups) in
          let bound = right.two in
          wider (λ (i : ℕ). i ≡ x) (round * step + (1 + gap_at rate + measured.most)) (4 * half_second rate) stop (flat bs) (omega arith)
          (soon_again (λ (i : ℕ). i ≡ x) (Stands rate ss p sized some x) step round (1 + gap_at rate + measured.most) stop (some_round rate ss p sized some) 0 bs b.close b.numbered (b.section x low))

  cycle_repeated : IsRight rate past a → (n : ℕ) → AreRepeated rate past a (n + last) (map (moved n) ts)
  cycle_repeated right n = subst (AreRepeated rate past a (n + last)) (flat_at n 0) (repeated right (beats_at n 0) (n + last) (one_beats n))

  pair_repeated : IsRight rate past a → (n m : ℕ) → m ≡ n + last → AreRepeated rate past a (m + last) (map (moved n) ts ++ map (moved m) ts)
  pair_repeated right n m e =
      let both : flat (beats_at n 0 ++ beats_at m (length fs)) ≡ map (moved n) ts ++ map (moved m) ts =
      flat_map-append (λ (b : Beat). b.part) (beats_at n 0) (beats_at m (length fs)) ∙ ap₂ (λ (l r : List Timing). l ++ r) (flat_at n 0) (flat_at m (length fs)) in
      subst (AreRepeated rate past a (m + last)) both (repeated right (beats_at n 0 ++ beats_at m (length fs)) (m + last) (two_beats n m e))

-- ---- cycles within an air

pub timed_cycles_repeat : TimedCyclesRepeat
timed_cycles_repeat rate before x others h can right =
    let past = airings_of before in
    let a = x.airing in
    let here = timed_after rate [] before (x ∷ others) h in
    let next = air_next rate before x others here in
    let size = size rate past a can.sendable in
    subst (λ (n : ℕ). AreRepeated rate past a n (timings_after rate before a)) (let e : length (air before) + last rate past a can.sendable ≡ length (air (before ++ x ∷ [])) = omega arith in e)
    (cycle_repeated rate past a can.sendable right (length (air before)))

pub timed_neighbours_repeat : TimedNeighboursRepeat
timed_neighbours_repeat rate before x y others h tables form can right =
    let past = airings_of before in
    let a = x.airing in
    let first = before ++ x ∷ [] in
    let here = timed_after rate [] before (x ∷ y ∷ others) h in
    let next = air_next rate before x (y ∷ others) here in
    let third = air_next rate first y others here.1 in
    let size = size rate past a can.sendable in
    let same = plans_same rate past (airings_of first) a y.airing tables form in
    let same_timings : timings_of rate (airings_of first) y.airing ≡ timings_of rate past a = ap (λ (f : Planned). timings (timed_of f) (place_at (gap_at rate)) (order_in f (place_at (gap_at rate)))) same in
    let long = ap (after 0) same_timings in
    let whole : air (before ++ x ∷ y ∷ []) ≡ air (first ++ y ∷ []) = ap air (sym (append_assoc before (x ∷ []) (y ∷ []))) in
    let many = ap length whole in
    let end_is : length (air first) + last rate past a can.sendable ≡ length (air (before ++ x ∷ y ∷ [])) = omega arith in
    let parts : map (moved (length (air before))) (timings_of rate past a) ++ map (moved (length (air first))) (timings_of rate past a) ≡ timings_after rate before a ++ timings_after rate first y.airing =
    ap (λ (l : List Timing). timings_after rate before a ++ map (moved (length (air first))) l) (sym same_timings) in
    subst₂ (AreRepeated rate past a) end_is parts (pair_repeated rate past a can.sendable right (length (air before)) (length (air first)) (omega arith))
