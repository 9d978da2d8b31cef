-- The clock of an air at a bit rate.
use Rattle.std.proofs.Common.{◌≡◌, ℕ, ◌+◌, ◌-◌, ◌*◌, ◌/◌, ◌%◌, ◌<◌, ◌≤◌, ◌⊎◌, inl, inr, List, [], ◌∷◌, ◌++◌, Bool, true, false, Some, length, map, refl, sym, ap, ◌∙◌, subst, arith, length-append}
use Rattle.std.specs.Prelude.{if◌then◌else◌, nat_le, min, filter_map, option_map, slice_index}
use Rattle.std.specs.List.{AllByRecursion, prefix_len}
use Rattle.std.proofs.lemmas.Bool.{leb-false}
use Rattle.std.proofs.lemmas.Nat.{div-add-mod', mod_below}
use Rattle.std.proofs.lemmas.List.Elements.{All-take, All-drop, recursion_from_All}
use Rattle.std.proofs.Math.Nat.{mul-le-mul_right}
use Rattle.si_lists.proofs.Lists.{all_append, all_at, all_map, all_two, each_unit}
use Rattle.si_lists.proofs.Parts.{lt_or}
use Rattle.guide_model.specs.declared.offset.Offset.{Offset}
use Rattle.section_codec.specs.declared.table.NumberedBody.{NumberedBody}
use Rattle.section_codec.specs.declared.table.SubTable.{SubTable}
use Rattle.section_codec.specs.SubTables.{IsFit}
use Rattle.section_codec.specs.Tables.{has_short_form}
use Rattle.time_tables.specs.Tdt.{tdt_section}
use Rattle.time_tables.specs.Tot.{tot_section}
use Rattle.version_book.specs.Airings.{AiredTables, version_at}
use Rattle.air_timing.specs.declared.timing.Timing.{Timing}
use Rattle.air_timing.specs.Pacing.{Timed, Place, first_of, paced_one, timings}
use Rattle.air_timing.specs.Rate.{gap_at}
use Rattle.air_timing.proofs.Pacing.{first_last}
use Rattle.air_model.specs.Air.{Sent, Aired, IsSendable, sent_section, sections_of, table_sections, sections_once, tot, times, leads, before_tdt, behind_tdt, air, airings_of}
use Rattle.air_model.proofs.Airs.{air-push}
use Rattle.air_model.proofs.Planned.{all_got}
use Rattle.cycle_timing.specs.Airs.{CanBeTimed, CanAllBeTimed}
use Rattle.cycle_timing.specs.Clock.{Clock, later, at_swap, last_moment, told_at}
use Rattle.cycle_timing.specs.Cycle.{at_moment, sent_at, clock_after, clock_of, AreTimed}
use Rattle.cycle_timing.specs.OnAir.{OnAir, on_air, cycle_on_air, sections_on_air}
use Rattle.cycle_timing.specs.Planning.{timings_of}
use Rattle.cycle_timing.specs.Times.{TellsIts, GoesOn, IsOnTime, TimedAirsTellTheTime}
use Rattle.cycle_timing.proofs.Airs.{all_from, sent_is}
use Rattle.cycle_timing.proofs.Apart.{inside, begun, air_next, later_begin}
use Rattle.cycle_timing.proofs.Cycles.{timed, start, order, sent_once, timings_within}
use Rattle.cycle_timing.proofs.Growing.{clock_push}
use Rattle.cycle_timing.proofs.Moments.{front_of, back_of, once_at}
use Rattle.cycle_timing.proofs.Pairs.{Pairs, pairs_append, pair_at, pairs_chosen, pairs_map}
use Rattle.cycle_timing.proofs.Runs.{after}
use Rattle.cycle_timing.proofs.Sent.{swap_least, told_least}

-- ---- what TDT and TOT tell

pub record Tells (m : ℕ) (s : Sent) : Type 0 where
  pub tdt : slice_index s.bytes 0 ≡ 0x70 → s.bytes ≡ tdt_section m
  pub tot : slice_index s.bytes 0 ≡ 0x73 → (offsets : List Offset) × (s.bytes ≡ tot_section m offsets)

short : (table n : ℕ) → has_short_form table ≡ false → has_short_form n ≡ true → table ≡ n → Prim.⊥
short table n long is e = let f : has_short_form n ≡ false = ap has_short_form (sym e) ∙ long in cc

tells_table : (m v : ℕ) (t : SubTable) → has_short_form t.key.table ≡ false → (ss : List NumberedBody) → AllByRecursion (Tells m) (map (sent_section v t) ss)
tells_table m v t long [] = tt
tells_table m v t long (s ∷ ss) = (record { tdt = λ e. absurd (short t.key.table 0x70 long refl e); tot = λ e. absurd (short t.key.table 0x73 long refl e) }, tells_table m v t long ss)

tells_tables : (m : ℕ) (airings : List AiredTables) (ts : List SubTable) → AllByRecursion IsFit ts → AllByRecursion (Tells m) (table_sections airings ts)
tells_tables m airings [] fit = tt
tells_tables m airings (t ∷ ts) fit =
    all_append (Tells m) (sections_of (version_at t.key airings) t) (table_sections airings ts) (tells_table m (version_at t.key airings) t fit.0.long t.sections) (tells_tables m airings ts fit.1)

tells_times : (m : ℕ) (a : AiredTables) → AllByRecursion (Tells m) (times a.form m)
tells_times m a = (record { tdt = λ e. refl; tot = λ e. absurd (let f : 0x70 ≡ 0x73 = e in let b : Prim.⊥ = omega arith in b) }, go a.form.offsets)
  where
    go : (offsets : List Offset) → AllByRecursion (Tells m) (tot m offsets)
    go [] = tt
    go (o ∷ offsets) = (record { tdt = λ e. absurd (let f : 0x73 ≡ 0x70 = e in let b : Prim.⊥ = omega arith in b); tot = λ e. (o ∷ offsets, refl) }, tt)

tells_once : (past : List AiredTables) (a : AiredTables) (m : ℕ) → IsSendable a → AllByRecursion (Tells m) (sections_once past (at_moment m a))
tells_once past a m can =
    let n = prefix_len leads a.tables in
    subst (AllByRecursion (Tells m)) (sym (once_at past a m))
    (all_append (Tells m) (front_of past a) (times a.form m ++ back_of past a)
    (tells_tables m (past ++ a ∷ []) (before_tdt a.tables) (recursion_from_All IsFit (before_tdt a.tables) (All-take IsFit n a.tables can.tables)))
    (all_append (Tells m) (times a.form m) (back_of past a) (tells_times m a)
    (tells_tables m (past ++ a ∷ []) (behind_tdt a.tables) (recursion_from_All IsFit (behind_tdt a.tables) (All-drop IsFit n a.tables can.tables)))))

cycle_tells : (rate n : ℕ) (past : List AiredTables) (c : Clock) (a : AiredTables) → IsSendable a → AllByRecursion TellsIts (filter_map (λ (t : Timing). option_map (on_air rate n c t) (sent_at rate past c a t)) (timings_of rate past a))
cycle_tells rate n past c a can =
    all_from (λ (t : Timing). t.section < length (sections_once past a)) TellsIts (λ (t : Timing). option_map (on_air rate n c t) (sent_at rate past c a t)) each (timings_of rate past a) (timings_within rate past a)
  where
    each : (t : Timing) (y : OnAir) → t.section < length (sections_once past a) → option_map (on_air rate n c t) (sent_at rate past c a t) ≡ Some y → TellsIts y
    each t y l e =
        let o = sent_once rate past a c t l in
        let m = told_at rate c t.first in
        let r = all_got (Tells m) (sections_once past (at_moment m a)) t.section o.sent (tells_once past a m can) o.are in
        subst TellsIts (sent_is rate n c t (sent_at rate past c a t) o.sent y o.are e) (record { tdt = r.tdt; tot = r.tot })

air_tells : (rate : ℕ) (before xs : List Aired) → CanAllBeTimed xs → AllByRecursion TellsIts (sections_on_air rate before xs)
air_tells rate before [] can = tt
air_tells rate before (x ∷ xs) can =
    all_append TellsIts (cycle_on_air rate before x.airing) (sections_on_air rate (before ++ x ∷ []) xs)
    (cycle_tells rate (length (air before)) (airings_of before) (clock_of rate before x.airing) x.airing can.0.sendable) (air_tells rate (before ++ x ∷ []) xs can.1)

-- ---- clocks in bits

abbrev bits_of : ℕ → Clock → ℕ
bits_of rate c = c.moment * rate + c.bits

bits_later : (rate n : ℕ) (c : Clock) → bits_of rate (later rate n c) ≡ bits_of rate c + n * 1504
bits_later rate n c =
    let d = div-add-mod' (c.bits + n * 1504) rate in
    let e : (c.moment + (c.bits + n * 1504) / rate) * rate ≡ c.moment * rate + (c.bits + n * 1504) / rate * rate = omega arith in
    omega arith

bits_swap : (rate moment : ℕ) (c : Clock) → c.bits < rate → bits_of rate c ≤ bits_of rate (at_swap moment c)
bits_swap rate moment c l = go (nat_le moment c.moment) refl
  where
    go : (b : Bool) → nat_le moment c.moment ≡ b → bits_of rate c ≤ bits_of rate (if b then c else record { moment = moment; bits = 0 })
    go true e = let r : bits_of rate c ≤ bits_of rate c = omega arith in r
    go false e =
        let f = leb-false moment c.moment e in
        let m : (c.moment + 1) * rate ≤ moment * rate = mul-le-mul_right rate (let h : c.moment + 1 ≤ moment = omega arith in h) in
        let s : (c.moment + 1) * rate ≡ c.moment * rate + rate = omega arith in
        let r : c.moment * rate + c.bits ≤ moment * rate + 0 = omega arith in r

swap_bits : (rate moment : ℕ) (c : Clock) → c.bits < rate → (at_swap moment c).bits < rate
swap_bits rate moment c l = go (nat_le moment c.moment)
  where
    go : (b : Bool) → (if b then c else record { moment = moment; bits = 0 }).bits < rate
    go true = l
    go false = omega arith

-- so many seconds are no more than so many, in bits
slower : (a b rate r : ℕ) → a * rate ≤ b * rate + r → r < rate → a ≤ b
slower a b rate r h l = go (lt_or b a)
  where
    go : (b < a) ⊎ (a ≤ b) → a ≤ b
    go (inr le) = le
    go (inl lt) =
        let m : (b + 1) * rate ≤ a * rate = mul-le-mul_right rate (let k : b + 1 ≤ a = omega arith in k) in
        let s : (b + 1) * rate ≡ b * rate + rate = omega arith in
        absurd (omega arith)

-- ---- what the clock reads at a section

-- n packets before, where V bits had been sent: it reads so many seconds, up to the last moment
record ReadsAfter (rate n V : ℕ) (s : OnAir) : Type 0 where
  pub seconds : ℕ
  pub rest : ℕ
  pub moment : s.moment ≡ min last_moment seconds
  pub below : rest < rate
  pub least : V + s.first * 1504 ≤ seconds * rate + rest + n * 1504

record Reads (rate n V : ℕ) (s : OnAir) : Type 0 where
  pub seconds : ℕ
  pub rest : ℕ
  pub moment : s.moment ≡ min last_moment seconds
  pub below : rest < rate
  pub is : seconds * rate + rest + n * 1504 ≡ V + s.first * 1504

reads_after : (rate n V : ℕ) (s : OnAir) → Reads rate n V s → ReadsAfter rate n V s
reads_after rate n V s h = record { seconds = h.seconds; rest = h.rest; moment = h.moment; below = h.below; least = (let i = h.is in omega arith) }

goes_on : (rate n V : ℕ) (one two : OnAir) → Reads rate n V one → ReadsAfter rate n V two → one.first ≤ two.first → GoesOn rate one two
goes_on rate n V one two h k l =
    let d : ℕ = two.first - one.first in
    let s : ℕ = d * 1504 / rate in
    let parts = div-add-mod' (d * 1504) rate in
    let i = h.is in
    let j = k.least in
    let sum : (h.seconds + s) * rate ≡ h.seconds * rate + s * rate = omega arith in
    let less : (h.seconds + s) * rate ≤ k.seconds * rate + k.rest = omega arith in
    let m = slower (h.seconds + s) k.seconds rate k.rest less k.below in
    let a = h.moment in
    let b = k.moment in
    omega arith

keeps_time : (rate n V : ℕ) (one two : OnAir) → 0 < rate → Reads rate n V one → Reads rate n V two → one.first ≤ two.first → two.moment ≤ one.moment + (two.first - one.first) * 1504 / rate + 1
keeps_time rate n V one two some h k l =
    let d : ℕ = two.first - one.first in
    let s : ℕ = d * 1504 / rate in
    let parts = div-add-mod' (d * 1504) rate in
    let below = mod_below (d * 1504) rate some in
    let i = h.is in
    let j = k.is in
    let r = h.below in
    let sum : (h.seconds + s + 1) * rate ≡ h.seconds * rate + s * rate + rate = omega arith in
    let less : k.seconds * rate ≤ (h.seconds + s + 1) * rate + d * 1504 % rate = omega arith in
    let m = slower k.seconds (h.seconds + s + 1) rate (d * 1504 % rate) less below in
    let a = h.moment in
    let b = k.moment in
    omega arith

-- ---- a cycle

module _ (rate : ℕ) (past : List AiredTables) (a : AiredTables) where
  abbrev chosen : ℕ → Clock → List OnAir
  chosen n c = filter_map (λ (t : Timing). option_map (on_air rate n c t) (sent_at rate past c a t)) (timings_of rate past a)

  abbrev Within : Timing → Type 0
  Within t = t.section < length (sections_once past a)

  -- what holds of each timing holds of its section on air
  of_timings : (P : Timing → Type 0) (Q : OnAir → Type 0) (n : ℕ) (c : Clock) → ((t : Timing) (s : Sent) → P t → Q (on_air rate n c t s)) → AllByRecursion P (timings_of rate past a) → AllByRecursion Q (chosen n c)
  of_timings P Q n c each all =
      all_from (λ (t : Timing). P t × Within t) Q (λ (t : Timing). option_map (on_air rate n c t) (sent_at rate past c a t))
      (λ t y h e. (let o = sent_once rate past a c t h.1 in subst Q (sent_is rate n c t (sent_at rate past c a t) o.sent y o.are e) (each t o.sent h.0)))
      (timings_of rate past a) (all_two P Within (λ (t : Timing). P t × Within t) (λ t p w. (p, w)) (timings_of rate past a) all (timings_within rate past a))

  cycle_reads : (n : ℕ) (c : Clock) → 0 < rate → AllByRecursion (Reads rate n (bits_of rate c)) (chosen n c)
  cycle_reads n c some = of_timings (λ (t : Timing). Unit {0}) (Reads rate n (bits_of rate c)) n c each (each_unit (timings_of rate past a))
    where
      each : (t : Timing) (s : Sent) → Unit {0} → Reads rate n (bits_of rate c) (on_air rate n c t s)
      each t s u = record {
        seconds = (later rate t.first c).moment;
        rest = (later rate t.first c).bits;
        moment = refl;
        below = mod_below (c.bits + t.first * 1504) rate some;
        is = (let b = bits_later rate t.first c in omega arith);
      }

  -- its sections begin one after the other
  abbrev Sorted : Timing → Timing → Type 0
  Sorted one two = one.first ≤ two.first

  sorted_timings : (t : Timed) (p : Place) (xs : List ℕ) → Pairs Sorted (timings t p xs)
  sorted_timings t p [] = tt
  sorted_timings t p (x ∷ xs) = (begun t (first_of t p x) (paced_one t p x) xs (first_last t p x), sorted_timings t (paced_one t p x) xs)

  cycle_sorted : (n : ℕ) (c : Clock) → Pairs (λ (one two : OnAir). one.first ≤ two.first) (chosen n c)
  cycle_sorted n c =
      pairs_chosen Within Sorted (λ (one two : OnAir). one.first ≤ two.first) (λ (t : Timing). option_map (on_air rate n c t) (sent_at rate past c a t)) each (timings_of rate past a) (timings_within rate past a)
      (sorted_timings (timed rate past a) (start rate past a) (order rate past a))
    where
      each : (one two : Timing) (x y : OnAir) → Within one → Within two → Sorted one two → option_map (on_air rate n c one) (sent_at rate past c a one) ≡ Some x
          → option_map (on_air rate n c two) (sent_at rate past c a two) ≡ Some y → x.first ≤ y.first
      each one two x y l m h e f =
          let o = sent_once rate past a c one l in
          let u = sent_once rate past a c two m in
          let first = ap (λ (s : OnAir). s.first) (sent_is rate n c one (sent_at rate past c a one) o.sent x o.are e) in
          let second = ap (λ (s : OnAir). s.first) (sent_is rate n c two (sent_at rate past c a two) u.sent y u.are f) in
          omega arith

  ordered_timings : (t : Timed) (p : Place) (xs : List ℕ) → AllByRecursion (λ (s : Timing). s.first ≤ s.last) (timings t p xs)
  ordered_timings t p [] = tt
  ordered_timings t p (x ∷ xs) = (first_last t p x, ordered_timings t (paced_one t p x) xs)

  cycle_ordered : (n : ℕ) (c : Clock) → AllByRecursion (λ (s : OnAir). s.first ≤ s.last) (chosen n c)
  cycle_ordered n c = of_timings (λ (t : Timing). t.first ≤ t.last) (λ (s : OnAir). s.first ≤ s.last) n c (λ t s h. (let r : n + t.first ≤ n + t.last = omega arith in r)) (ordered_timings (timed rate past a) (start rate past a) (order rate past a))

  cycle_goes : (n : ℕ) (c : Clock) → 0 < rate → Pairs (GoesOn rate) (chosen n c)
  cycle_goes n c some =
      pairs_map (Reads rate n (bits_of rate c)) (λ (one two : OnAir). one.first ≤ two.first) (GoesOn rate) (λ one two h k l. goes_on rate n (bits_of rate c) one two h (reads_after rate n (bits_of rate c) two k) l)
      (chosen n c) (cycle_reads n c some) (cycle_sorted n c)

  abbrev InTime : OnAir → OnAir → Type 0
  InTime one two = two.moment ≤ one.moment + (two.first - one.first) * 1504 / rate + 1

  cycle_keeps : (n : ℕ) (c : Clock) → 0 < rate → Pairs InTime (chosen n c)
  cycle_keeps n c some =
      pairs_map (Reads rate n (bits_of rate c)) (λ (one two : OnAir). one.first ≤ two.first) InTime (λ one two h k l. keeps_time rate n (bits_of rate c) one two some h k l) (chosen n c) (cycle_reads n c some) (cycle_sorted n c)

-- ---- an air

abbrev zero_clock : Clock
zero_clock = record { moment = 0; bits = 0 }

clock_bits : (rate : ℕ) (c : Clock) (xs : List Aired) → 0 < rate → c.bits < rate → (clock_after rate c xs).bits < rate
clock_bits rate c [] some l = l
clock_bits rate c (x ∷ xs) some l = clock_bits rate (later rate (length x.packets) (at_swap x.airing.moment c)) xs some (mod_below ((at_swap x.airing.moment c).bits + length x.packets * 1504) rate some)

-- the clock after these cycles has not less than V bits, n packets before
abbrev HasBits : ℕ → ℕ → ℕ → List Aired → Type 0
HasBits rate n V before = V + length (air before) * 1504 ≤ bits_of rate (clock_after rate zero_clock before) + n * 1504

bits_next : (rate n V : ℕ) (before : List Aired) (x : Aired) → V + length (air before) * 1504 ≤ bits_of rate (clock_of rate before x.airing) + n * 1504 → HasBits rate n V (before ++ x ∷ [])
bits_next rate n V before x h =
    let c = clock_of rate before x.airing in
    let l = bits_later rate (length x.packets) c in
    let e = ap (bits_of rate) (clock_push rate zero_clock before x) in
    let s : length (air (before ++ x ∷ [])) ≡ length (air before) + length x.packets = omega (arith, ap length (air-push before x), length-append (air before) x.packets) in
    omega arith

bits_swapped : (rate n V : ℕ) (before : List Aired) (a : AiredTables) → 0 < rate → HasBits rate n V before → V + length (air before) * 1504 ≤ bits_of rate (clock_of rate before a) + n * 1504
bits_swapped rate n V before a some h = let s = bits_swap rate a.moment (clock_after rate zero_clock before) (clock_bits rate zero_clock before some some) in omega arith

air_reads : (rate n V : ℕ) (before xs : List Aired) → 0 < rate → HasBits rate n V before → AllByRecursion (ReadsAfter rate n V) (sections_on_air rate before xs)
air_reads rate n V before [] some h = tt
air_reads rate n V before (x ∷ xs) some h =
    let c = clock_of rate before x.airing in
    let m = length (air before) in
    let s = bits_swapped rate n V before x.airing some h in
    all_append (ReadsAfter rate n V) (cycle_on_air rate before x.airing) (sections_on_air rate (before ++ x ∷ []) xs)
    (all_map (Reads rate m (bits_of rate c)) (ReadsAfter rate n V)
    (λ o r. record { seconds = r.seconds; rest = r.rest; moment = r.moment; below = r.below; least = (let i = r.is in omega arith) })
    (cycle_on_air rate before x.airing) (cycle_reads rate (airings_of before) x.airing m c some))
    (air_reads rate n V (before ++ x ∷ []) xs some (bits_next rate n V before x s))

air_goes : (rate : ℕ) (before xs : List Aired) → 0 < rate → AreTimed rate before xs → Pairs (GoesOn rate) (sections_on_air rate before xs)
air_goes rate before [] some h = tt
air_goes rate before (x ∷ xs) some h =
    let c = clock_of rate before x.airing in
    let past = airings_of before in
    let n = length (air before) in
    let V = bits_of rate c in
    let own = cycle_on_air rate before x.airing in
    let rest = sections_on_air rate (before ++ x ∷ []) xs in
    let next = air_next rate before x xs h in
    let reads = cycle_reads rate past x.airing n c some in
    let ends = all_two (λ (s : OnAir). s.first ≤ s.last) (λ (s : OnAir). (n + gap_at rate ≤ s.first) × (s.last + 1 ≤ n + after 0 (timings_of rate past x.airing))) (λ (s : OnAir). s.first ≤ length (air (before ++ x ∷ [])))
    (λ s a b. (let l = b.1 in omega arith)) own (cycle_ordered rate past x.airing n c) (inside rate past x.airing n c) in
    let ones = all_two (Reads rate n V) (λ (s : OnAir). s.first ≤ length (air (before ++ x ∷ []))) (λ (s : OnAir). Reads rate n V s × (s.first ≤ length (air (before ++ x ∷ [])))) (λ s a b. (a, b)) own reads ends in
    let after_reads = air_reads rate n V (before ++ x ∷ []) xs some (bits_next rate n V before x (omega arith)) in
    let begin = later_begin rate (length (air (before ++ x ∷ []))) (before ++ x ∷ []) xs h.1 (omega arith) in
    let twos = all_two (ReadsAfter rate n V) (λ (s : OnAir). length (air (before ++ x ∷ [])) + gap_at rate ≤ s.first) (λ (s : OnAir). ReadsAfter rate n V s × (length (air (before ++ x ∷ [])) ≤ s.first)) (λ s a b. (a, omega arith)) rest after_reads begin in
    pairs_append (GoesOn rate) own rest (cycle_goes rate past x.airing n c some) (air_goes rate (before ++ x ∷ []) xs some h.1)
    (all_map (λ (s : OnAir). Reads rate n V s × (s.first ≤ length (air (before ++ x ∷ [])))) (λ (s : OnAir). AllByRecursion (GoesOn rate s) rest)
    (λ one p. all_map (λ (s : OnAir). ReadsAfter rate n V s × (length (air (before ++ x ∷ [])) ≤ s.first)) (GoesOn rate one) (λ two q. (let a = p.1 in let b = q.1 in goes_on rate n V one two p.0 q.0 (omega arith))) rest twos) own ones)

cycle_on_time : (rate : ℕ) (before : List Aired) (x : Aired) → 0 < rate → CanBeTimed x.airing → IsOnTime rate before x.airing
cycle_on_time rate before x some can =
    let a = x.airing in
    let c = clock_of rate before a in
    let past = airings_of before in
    let n = length (air before) in
    let from = swap_least a.moment (clock_after rate zero_clock before) in
    record {
      keeps = λ front between behind one two e. pair_at (InTime rate past a) (cycle_on_air rate before a) front between behind one two (cycle_keeps rate past a n c some) e;
      swapped = of_timings rate past a (λ (t : Timing). Unit {0}) (λ (s : OnAir). a.moment ≤ s.moment) n c (λ t s u. told_least rate c t.first a.moment from can.moment) (each_unit (timings_of rate past a));
    }

pub timed_airs_tell_the_time : TimedAirsTellTheTime
timed_airs_tell_the_time rate xs some h can = record {
  tell = air_tells rate [] xs can;
  go_on = λ before between behind one two e. pair_at (GoesOn rate) (sections_on_air rate [] xs) before between behind one two (air_goes rate [] xs some h) e;
  cycles = λ before x behind e. cycle_on_time rate before x some (all_at (λ (y : Aired). CanBeTimed y.airing) before x behind (subst CanAllBeTimed e can));
}
