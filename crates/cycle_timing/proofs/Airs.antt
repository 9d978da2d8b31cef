-- Cycles at a bit rate are an air of their airings, with these sections.
use Rattle.std.proofs.Common.{◌≡◌, ℕ, ◌<◌, inl, inr, List, [], ◌∷◌, ◌++◌, Option, Some, None, length, map, refl, sym, ap, ◌∙◌, subst, subst₂, arith, append_assoc, append-nil}
use Rattle.std.specs.Prelude.{filter_map, option_map}
use Rattle.std.specs.List.{AllByRecursion, cons_option}
use Rattle.std.proofs.lemmas.List.{map-append}
use Rattle.std.proofs.lemmas.List.Elements.{All-contains, filter_map-append}
use Rattle.si_lists.proofs.Lists.{all_append, all_map}
use Rattle.guide_model.specs.declared.offset.Offset.{Offset}
use Rattle.section_codec.specs.SubTables.{IsFit}
use Rattle.version_book.specs.Airings.{AiredTables}
use Rattle.ts_packets.specs.Bytes.{Packet}
use Rattle.ts_packets.specs.Counting.{of_pid}
use Rattle.ts_packets.specs.Packets.{Carries}
use Rattle.ts_packets.proofs.Carrying.{Carries-none, Carries-append}
use Rattle.ts_packets.proofs.Stamps.{of_pid-append}
use Rattle.air_timing.specs.declared.timing.Timing.{Timing}
use Rattle.air_model.specs.Air.{Sent, Aired, IsSendable, sections_once, times, tot, sent_on, air, airings_of}
use Rattle.air_model.specs.Bursts.{cycle_paced, paced_packets, sent_in}
use Rattle.air_model.specs.Repeating.{IsSentOf, IsRepeatingAirOf}
use Rattle.air_model.proofs.Airs.{IsAirOf-none, air-push, airings_of-push}
use Rattle.air_model.proofs.Bursts.{bursts_go_on}
use Rattle.air_model.proofs.Counted.{of_pid-counted}
use Rattle.air_model.proofs.Dense.{HaveSome, once_some}
use Rattle.air_model.proofs.Elements.{of_element}
use Rattle.air_model.proofs.Planned.{all_got}
use Rattle.air_model.proofs.Repeating.{airs_repeat}
use Rattle.cycle_timing.specs.Airs.{CanAllBeTimed, TimedAirsAreAirs}
use Rattle.cycle_timing.specs.Clock.{Clock}
use Rattle.cycle_timing.specs.Cycle.{sent_at, bursts_of, clock_of, AreTimed}
use Rattle.cycle_timing.specs.OnAir.{OnAir, on_air, cycle_on_air, sections_on_air, TimedSectionsAreOnAir}
use Rattle.cycle_timing.specs.Places.{StandsIn}
use Rattle.cycle_timing.specs.Planning.{timings_of}
use Rattle.cycle_timing.proofs.Carried.{bursts_carry}
use Rattle.cycle_timing.proofs.Cycles.{sent_once, timings_within, stands}
use Rattle.cycle_timing.proofs.Runs.{Stands}
use Rattle.cycle_timing.proofs.Sent.{bursts_sent, sent_bursts, swap_least}

-- ---- PIDs

times_fit : (a : AiredTables) (m : ℕ) → AllByRecursion (λ (s : Sent). s.pid < 8191) (times a.form m)
times_fit a m = (omega arith, go a.form.offsets)
  where
    go : (offsets : List Offset) → AllByRecursion (λ (s : Sent). s.pid < 8191) (tot m offsets)
    go [] = tt
    go (o ∷ offsets) = (omega arith, tt)

sent_fit : (past : List AiredTables) (a : AiredTables) → IsSendable a → (s : Sent) → IsSentOf past a s → s.pid < 8191
sent_fit past a can s (inl (t, p, has_t, has_p, e)) = subst (λ (x : Sent). x.pid < 8191) (sym e) (All-contains IsFit a.tables t can.tables has_t).pid
sent_fit past a can s (inr (at, later, has)) = of_element (λ (x : Sent). x.pid < 8191) (times a.form at) s (times_fit a at) has

-- ---- an air of its airings

air_goes_on : (rate : ℕ) (before xs : List Aired) → IsRepeatingAirOf (airings_of before) before → AreTimed rate before xs → CanAllBeTimed xs → IsRepeatingAirOf (airings_of (before ++ xs)) (before ++ xs)
air_goes_on rate before [] is h can = subst (λ (l : List Aired). IsRepeatingAirOf (airings_of l) l) (sym (append-nil before)) is
air_goes_on rate before (x ∷ xs) is h can =
    let past = airings_of before in
    let a = x.airing in
    let c = clock_of rate before a in
    let bursts = bursts_of (sent_at rate past c a) (timings_of rate past a) in
    let are = bursts_sent rate past c a can.0 (swap_least a.moment _) in
    let fit = all_map (IsSentOf past a) (λ (s : Sent). s.pid < 8191) (sent_fit past a can.0.sendable) (sent_in bursts) are.each in
    let more = bursts_go_on past before a bursts is are fit in
    let same : cycle_paced (air before) a bursts ≡ x = ap (λ (l : List Packet). record { airing = a; packets = l }) (sym h.0) in
    let next : IsRepeatingAirOf (airings_of (before ++ x ∷ [])) (before ++ x ∷ []) =
    subst₂ IsRepeatingAirOf (sym (airings_of-push before x)) (ap (λ (y : Aired). before ++ y ∷ []) same) more in
    subst (λ (l : List Aired). IsRepeatingAirOf (airings_of l) l) (append_assoc before (x ∷ []) xs) (air_goes_on rate (before ++ x ∷ []) xs next h.1 can.1)

pub timed_airs_are_airs : TimedAirsAreAirs
timed_airs_are_airs rate xs h can = air_goes_on rate [] xs (airs_repeat [] [] IsAirOf-none) h can

-- ---- its sections

pub all_from : {X Y : Type 0} (P : X → Type 0) (Q : Y → Type 0) (h : X → Option Y) → ((x : X) (y : Y) → P x → h x ≡ Some y → Q y) → (xs : List X) → AllByRecursion P xs → AllByRecursion Q (filter_map h xs)
all_from P Q h each [] all = tt
all_from P Q h each (x ∷ xs) all = go (h x) refl (all_from P Q h each xs all.1)
  where
    go : (o : Option _) → h x ≡ o → AllByRecursion Q (filter_map h xs) → AllByRecursion Q (cons_option o (filter_map h xs))
    go None e r = r
    go (Some y) e r = (each x y all.0 e, r)

-- a section of a cycle that is on air
pub sent_is : (rate n : ℕ) (c : Clock) (t : Timing) (o : Option Sent) (s : Sent) (y : OnAir) → o ≡ Some s → option_map (on_air rate n c t) o ≡ Some y → on_air rate n c t s ≡ y
sent_is rate n c t o s y e f = let g : option_map (on_air rate n c t) (Some s) ≡ Some y = ap (option_map (on_air rate n c t)) (sym e) ∙ f in let r : on_air rate n c t s ≡ y = cc in r

stand_there : (rate : ℕ) (before xs : List Aired) → AreTimed rate before xs
    → AllByRecursion (λ (s : OnAir). StandsIn (air before ++ air xs) s.first s.last s.sent) (sections_on_air rate before xs)
stand_there rate before [] h = tt
stand_there rate before (x ∷ xs) h =
    let past = airings_of before in
    let a = x.airing in
    let c = clock_of rate before a in
    let n = length (air before) in
    let sent = sent_at rate past c a in
    let packets = air before ++ (x.packets ++ air xs) in
    let own = (stands rate past a c (air before) (air xs)).stand in
    let here = subst (λ (l : List Packet). AllByRecursion (Stands (air before ++ (l ++ air xs)) sent n) (timings_of rate past a)) (sym h.0) own in
    let there = stand_there rate (before ++ x ∷ []) xs h.1 in
    let same : air (before ++ x ∷ []) ++ air xs ≡ packets = ap (λ (l : List Packet). l ++ air xs) (air-push before x) ∙ append_assoc (air before) x.packets (air xs) in
    all_append (λ (s : OnAir). StandsIn packets s.first s.last s.sent) (cycle_on_air rate before a) (sections_on_air rate (before ++ x ∷ []) xs)
    (all_from (Stands packets sent n) (λ (s : OnAir). StandsIn packets s.first s.last s.sent) (λ (t : Timing). option_map (on_air rate n c t) (sent t))
    (λ t y s e. subst (λ (o : OnAir). StandsIn packets o.first o.last o.sent) (sent_is rate n c t (sent t) s.0 y s.1 e) s.2) (timings_of rate past a) here)
    (subst (λ (l : List Packet). AllByRecursion (λ (s : OnAir). StandsIn l s.first s.last s.sent) (sections_on_air rate (before ++ x ∷ []) xs)) same there)

-- what is sent in a cycle
cycle_sent : (rate n : ℕ) (c : Clock) (sent : Timing → Option Sent) (ts : List Timing) → map (λ (s : OnAir). s.sent) (filter_map (λ (t : Timing). option_map (on_air rate n c t) (sent t)) ts) ≡ filter_map sent ts
cycle_sent rate n c sent [] = refl
cycle_sent rate n c sent (t ∷ ts) = go (sent t) (cycle_sent rate n c sent ts)
  where
    rest : List OnAir
    rest = filter_map (λ (t : Timing). option_map (on_air rate n c t) (sent t)) ts

    go : (o : Option Sent) → map (λ (s : OnAir). s.sent) rest ≡ filter_map sent ts → map (λ (s : OnAir). s.sent) (cons_option (option_map (on_air rate n c t) o) rest) ≡ cons_option o (filter_map sent ts)
    go None e = e
    go (Some s) e = ap (λ (l : List Sent). s ∷ l) e

cycle_some : (rate : ℕ) (past : List AiredTables) (c : Clock) (a : AiredTables) → HaveSome (filter_map (sent_at rate past c a) (timings_of rate past a))
cycle_some rate past c a = all_from (λ (t : Timing). t.section < length (sections_once past a)) (λ (s : Sent). 0 < length s.bytes) (sent_at rate past c a) some (timings_of rate past a) (timings_within rate past a)
  where
    some : (t : Timing) (s : Sent) → t.section < length (sections_once past a) → sent_at rate past c a t ≡ Some s → 0 < length s.bytes
    some t s l e =
        let o = sent_once rate past a c t l in
        let same : o.sent ≡ s = (let f : Some o.sent ≡ Some s = sym o.are ∙ e in let r : o.sent ≡ s = cc in r) in
        let own : 0 < length o.own.bytes = all_got (λ (s : Sent). 0 < length s.bytes) (sections_once past a) t.section o.own (once_some past a) o.got in
        subst (λ (n : ℕ). 0 < n) (o.alike.len ∙ ap (λ (s : Sent). length s.bytes) same) own

air_carries : (rate : ℕ) (before xs : List Aired) → AreTimed rate before xs → (pid : ℕ) → pid < 8191
    → Carries (of_pid pid (air xs)) (filter_map (sent_on pid) (map (λ (s : OnAir). s.sent) (sections_on_air rate before xs)))
air_carries rate before [] h pid lt = Carries-none
air_carries rate before (x ∷ xs) h pid lt =
    let past = airings_of before in
    let a = x.airing in
    let c = clock_of rate before a in
    let n = length (air before) in
    let sent = sent_at rate past c a in
    let ts = timings_of rate past a in
    let bursts = bursts_of sent ts in
    let later = sections_on_air rate (before ++ x ∷ []) xs in
    let own = bursts_carry pid lt bursts (subst HaveSome (sym (sent_bursts sent ts)) (cycle_some rate past c a)) in
    let packets : of_pid pid (paced_packets bursts) ≡ of_pid pid x.packets = sym (of_pid-counted pid (air before) (paced_packets bursts)) ∙ ap (of_pid pid) (sym h.0) in
    let sections : sent_in bursts ≡ map (λ (s : OnAir). s.sent) (cycle_on_air rate before a) = sent_bursts sent ts ∙ sym (cycle_sent rate n c sent ts) in
    let one = subst₂ Carries packets (ap (filter_map (sent_on pid)) sections) own in
    let rest = air_carries rate (before ++ x ∷ []) xs h.1 pid lt in
    subst₂ Carries (sym (of_pid-append pid x.packets (air xs)))
    (sym (ap (filter_map (sent_on pid)) (map-append (λ (s : OnAir). s.sent) (cycle_on_air rate before a) later)
    ∙ filter_map-append (sent_on pid) (map (λ (s : OnAir). s.sent) (cycle_on_air rate before a)) (map (λ (s : OnAir). s.sent) later)))
    (Carries-append (of_pid pid x.packets) (of_pid pid (air xs)) (filter_map (sent_on pid) (map (λ (s : OnAir). s.sent) (cycle_on_air rate before a)))
    (filter_map (sent_on pid) (map (λ (s : OnAir). s.sent) later)) one rest)

pub timed_sections_are_on_air : TimedSectionsAreOnAir
timed_sections_are_on_air rate xs h = record { stand = stand_there rate [] xs h; all = λ pid lt. air_carries rate [] xs h pid lt }
