-- A part of an air without losses has no break.
use Rattle.std.proofs.Common.{◌≡◌, ℕ, ◌+◌, ◌%◌, ◌<◌, ◌≤◌, List, [], ◌∷◌, ◌++◌, Bool, true, false, ◌||◌, Option, Some, None, ⊎_elim, map, refl, sym, ap, ap₂, ◌∙◌, subst, arith, eq-eqb}
use Rattle.std.specs.Prelude.{◌==◌, if◌then◌else◌, nat_lt, option_map, Ok}
use Rattle.std.specs.List.{AllByRecursion, cons_option}
use Rattle.std.proofs.lemmas.Bool.{cases_lt}
use Rattle.std.proofs.lemmas.List.Elements.{filter_map-append}
use Rattle.si_lists.proofs.Lists.{all_front, all_behind}
use Rattle.ts_packets.specs.Bytes.{Packet, HasFields, bytes_of_packet, pid_in, shape_in, transport_error_indicator, transport_scrambling_control, adaptation_field_control, adaptation_field_length, load_at}
use Rattle.ts_packets.specs.Counting.{Load, load_on, loads_on, Count}
use Rattle.ts_packets.specs.declared.shape.Shape.{Shape}
use Rattle.ts_packets.specs.declared.shape.Shape.TheVariants as shape
use Rattle.ts_packets.proofs.Headers.{pid_in-bytes, fixed-written}
use Rattle.ts_demux.specs.Arrivals.{Arrival, arrival_by, arrival_on, arrivals_on}
use Rattle.ts_demux.specs.Keeping.{seen}
use Rattle.ts_demux.specs.Breaks.{Before.Never, Before.Had, before_all, is_break, breaks, came_before, is_lost}
use Rattle.ts_demux.proofs.Written.{arrive, arrives}
use Rattle.strict_receiver.specs.Laws.{HasNoBreak}
use Rattle.strict_receiver.proofs.Alike.{unbroken_alike}
use Rattle.air_model.specs.Air.{Aired, air}
use Rattle.loss_laws.specs.ThinnedAirLaws.{PartOfAirIsHeardAlike}
use Rattle.loss_laws.proofs.Covers.{follows}
use Rattle.loss_laws.proofs.ThinnedAirHeard.{Count-part}

-- ---- loads that are counted go on with one another

goes_on : (k : Load) (c : ℕ) (ls : List Load) (l : Load) (more : List Load) → k.counter ≡ c % 16 → Count (1 + c) (ls ++ l ∷ more)
    → is_break (before_all (Had (seen k)) (map Arrival.Came ls)) (Arrival.Came l) ≡ false
goes_on k c [] l more e h = follows k l c e h.0
goes_on k c (m ∷ ls) l more e h = goes_on m (1 + c) ls l more h.0 h.1

no_break : (c : ℕ) (ls : List Load) (l : Load) (more : List Load) → Count c (ls ++ l ∷ more) → is_break (before_all Never (map Arrival.Came ls)) (Arrival.Came l) ≡ false
no_break c [] l more h = refl
no_break c (m ∷ ls) l more h = goes_on m c ls l more h.0 h.1

-- ---- a packet after others

-- a null packet is nothing on its PID
second_case : (error scrambled null one two : Bool) (gap skip other : Shape) → error ≡ false → scrambled ≡ false → null ≡ true
    → (if error || scrambled then gap else if null || one || two then skip else other) ≡ skip
second_case true scrambled null one two gap skip other e s n = cc
second_case false true null one two gap skip other e s n = cc
second_case false false false one two gap skip other e s n = cc
second_case false false true one two gap skip other e s n = refl

null_passes : (p : Packet) → HasFields p → p.pid ≡ 8191 → shape_in (bytes_of_packet p) ≡ Ok shape.Pass
null_passes p h e =
    let bytes : List ℕ = bytes_of_packet p in
    let fixed = fixed-written p h in
    ap Ok (second_case (transport_error_indicator bytes) (nat_lt 0 (transport_scrambling_control bytes)) (pid_in bytes == 8191)
    (adaptation_field_control bytes == 0) (adaptation_field_control bytes == 2) (shape.Gap (pid_in bytes)) shape.Pass
    (if adaptation_field_control bytes == 1 then load_at bytes 4 else if nat_lt 182 (adaptation_field_length bytes) then shape.Gap (pid_in bytes) else load_at bytes (5 + adaptation_field_length bytes))
    fixed.sound (ap (nat_lt 0) fixed.clear) (ap (λ (n : ℕ). n == 8191) (pid_in-bytes p h.pid ∙ e)))

not_lost : (c : ℕ) (before : List Packet) (p : Packet) (after : List Packet) → AllByRecursion HasFields before → HasFields p
    → Count c (loads_on p.pid (before ++ p ∷ after)) → is_lost (map bytes_of_packet before) (bytes_of_packet p) ≡ false
not_lost c before p after fields own count =
    ap (λ (n : ℕ). breaks (came_before n (map bytes_of_packet before)) (arrival_on n (bytes_of_packet p))) (pid_in-bytes p own.pid)
    ∙ ⊎_elim used unused (cases_lt p.pid 8191)
  where
    load : Load
    load = record { counter = p.counter; piece = p.piece }

    here : load_on p.pid p ≡ Some load
    here = ap (λ (b : Bool). if b then Some load else None) (eq-eqb p.pid p.pid refl)

    counted : Count c (loads_on p.pid before ++ load ∷ loads_on p.pid after)
    counted =
        subst (Count c) (filter_map-append (load_on p.pid) before (p ∷ after) ∙ ap (λ (o : Option Load). loads_on p.pid before ++ cons_option o (loads_on p.pid after)) here) count

    used : p.pid < 8191 → breaks (came_before p.pid (map bytes_of_packet before)) (arrival_on p.pid (bytes_of_packet p)) ≡ false
    used small =
        ap₂ (λ (xs : List Arrival) (o : Option Arrival). breaks (before_all Never xs) o) (arrive p.pid small before fields)
        (arrives p.pid small p own ∙ ap (option_map Arrival.Came) here)
        ∙ no_break c (loads_on p.pid before) load (loads_on p.pid after) counted

    unused : 8191 ≤ p.pid → breaks (came_before p.pid (map bytes_of_packet before)) (arrival_on p.pid (bytes_of_packet p)) ≡ false
    unused large =
        let least = own.pid in
        ap (λ (s : _). breaks (came_before p.pid (map bytes_of_packet before)) (arrival_by p.pid (bytes_of_packet p) s))
        (null_passes p own (let e : p.pid ≡ 8191 = omega (arith, least, large) in e))

-- ---- a part of an air

record IsMapped (ps : List Packet) (past rest : List (List ℕ)) (packet : List ℕ) : Type 0 where
  before : List Packet
  one : Packet
  after : List Packet
  whole : ps ≡ before ++ one ∷ after
  fronts : past ≡ map bytes_of_packet before
  is : packet ≡ bytes_of_packet one

mapped_at : (ps : List Packet) (past rest : List (List ℕ)) (packet : List ℕ) → map bytes_of_packet ps ≡ past ++ packet ∷ rest → IsMapped ps past rest packet
mapped_at [] past rest packet e = absurd (none past e)
  where
    none : (past : List (List ℕ)) → [] ≡ past ++ packet ∷ rest → Prim.⊥
    none [] f = cc
    none (b ∷ past) f = cc
mapped_at (p ∷ ps) [] rest packet e =
    let same : bytes_of_packet p ≡ packet = cc in
    record { before = []; one = p; after = ps; whole = refl; fronts = refl; is = sym same }
mapped_at (p ∷ ps) (b ∷ past) rest packet e =
    let same : bytes_of_packet p ≡ b = cc in
    let more : map bytes_of_packet ps ≡ past ++ packet ∷ rest = cc in
    let r = mapped_at ps past rest packet more in
    record {
      before = p ∷ r.before;
      one = r.one;
      after = r.after;
      whole = ap (λ (l : List Packet). p ∷ l) r.whole;
      fronts = ap₂ (λ (x : List ℕ) (l : List (List ℕ)). x ∷ l) (sym same) r.fronts;
      is = r.is;
    }

counted_part : (pid : ℕ) (all front part back : List Packet) → all ≡ front ++ (part ++ back) → Count 0 (loads_on pid all) → (c : ℕ) × Count c (loads_on pid part)
counted_part pid all front part back cut count =
    Count-part 0 (loads_on pid front) (loads_on pid part) (loads_on pid back)
    (subst (Count 0) (ap (loads_on pid) cut ∙ filter_map-append (load_on pid) front (part ++ back)
    ∙ ap (λ (l : List Load). loads_on pid front ++ l) (filter_map-append (load_on pid) part back)) count)

part_unbroken : (all front part back : List Packet) → all ≡ front ++ (part ++ back) → AllByRecursion HasFields all → ((pid : ℕ) → Count 0 (loads_on pid all))
    → HasNoBreak (map bytes_of_packet part)
part_unbroken all front part back cut fields counts past rest packet e =
    let m = mapped_at part past rest packet e in
    let own : AllByRecursion HasFields part = all_front HasFields part back (all_behind HasFields front (part ++ back) (subst (AllByRecursion HasFields) cut fields)) in
    let split : AllByRecursion HasFields (m.before ++ m.one ∷ m.after) = subst (AllByRecursion HasFields) m.whole own in
    let count = counted_part m.one.pid all front part back cut (counts m.one.pid) in
    ap₂ is_lost m.fronts m.is
    ∙ not_lost count.0 m.before m.one m.after (all_front HasFields m.before (m.one ∷ m.after) split) (all_behind HasFields m.before (m.one ∷ m.after) split).0
    (subst (λ (l : List Packet). Count count.0 (loads_on m.one.pid l)) m.whole count.1)

pub part_alike : PartOfAirIsHeardAlike
part_alike airings xs is front part back cut =
    unbroken_alike (map bytes_of_packet part) (part_unbroken (air xs) front part back cut is.fields is.counted)
