-- Packets that are consistent so far are a prefix of an air, and those of a prefix are consistent.
use Rattle.std.proofs.Common.{◌≡◌, ℕ, ◌+◌, ◌%◌, ◌<◌, ◌≤◌, inl, inr, List, [], ◌∷◌, ◌++◌, Option, Some, None, length, refl, sym, ap, ◌∙◌, subst, arith, map, append_assoc, append-nil}
use Rattle.std.specs.List.{AllByRecursion}
use Rattle.std.proofs.lemmas.Bool.{cases_lt, cases_eq}
use Rattle.std.proofs.lemmas.List.{map-append}
use Rattle.version_book.specs.Airings.{AiredTables}
use Rattle.ts_packets.specs.Packets.{Piece, Carries}
use Rattle.ts_packets.specs.Bytes.{Packet, HasFields, bytes_of_packet}
use Rattle.ts_packets.specs.Counting.{Load, of_pid, loads_on, Count}
use Rattle.ts_packets.proofs.Stamps.{of_pid-append, loads_on-append, counter_at, Count-append}
use Rattle.air_model.specs.Air.{cycle_sections, Aired, HasNoNull, Cycles, air, airings_of, IsAirOf}
use Rattle.air_model.specs.Making.{counted}
use Rattle.air_model.proofs.Counted.{of_pid-counted, count-counted, fields-counted}
use Rattle.air_model.proofs.Airs.{air_more, air-push, null_or_other}
use Rattle.air_audit.specs.Fronts.{ToCome, nothing, all_waiting, CarrySoFar, GoesTo, IsApart}
use Rattle.air_audit.specs.Audits.{AreAnAir, BeginAnAir, on_pid, last_cycle, and_last, SoFar}
use Rattle.air_audit.specs.Laws.{IsConsistent, ConsistentIsPrefix}
use Rattle.si_lists.proofs.Lists.{all_front, all_behind, all_append}
use Rattle.air_audit.proofs.Lists.{Count-front, none_on_any, bytes_front, laid_out, laid-inside, laid-outside, laid-fit, of_own_pid, of_other_pid, own_load, other_load}
use Rattle.air_audit.proofs.Runs.{Run, so_far-Run, Run-so_far, Carries-so_far, so_far-Carries, none_so_far, Run-append, Run-cut, run_one_way, nothing_stays, nothing_runs, rest_pieces, Carries-completed}
use Rattle.air_audit.proofs.Cycles.{AiringFits, cycle_apart, cycle_beyond, carries_none, no_null_of, each_pid, Follow, same_cycles}

-- the finished airings of packets that are consistent so far
pub finished : (airings : List AiredTables) (packets : List Packet) (f : ℕ → ToCome) → (h : SoFar airings packets f) → IsAirOf (airings_of h.xs) h.xs
finished airings packets f h = record {
  airings_are = refl;
  cycles = h.cycles;
  counted = λ pid. Count-front 0 (loads_on pid (air h.xs)) (loads_on pid h.handed) (subst (Count 0) (ap (loads_on pid) h.packets_are ∙ loads_on-append pid (air h.xs) h.handed) (h.counted pid));
  fields = all_front HasFields (air h.xs) h.handed (subst (AllByRecursion HasFields) h.packets_are h.fields);
  nulls = null_or_other (air h.xs) h.no_null;
}

-- no packet carries no section
none_handed : (handed : List Packet) (f : ℕ → ToCome) → ((pid : ℕ) → CarrySoFar (of_pid pid handed) [] (f pid)) → handed ≡ []
none_handed handed f h = none_on_any handed (λ (pid : ℕ). nothing_runs (of_pid pid handed) (f pid) (so_far-Run [] (of_pid pid handed) (f pid) (h pid)))

-- ---- to the end

-- packets of the rest of a cycle
rest_of : (ℕ → ToCome) → List Packet → List Packet
rest_of f packets = counted packets (laid_out 8192 (λ (pid : ℕ). rest_pieces (f pid)))

rest_on : (f : ℕ → ToCome) (packets : List Packet) (past : List AiredTables) (a : AiredTables) (handed : List Packet) → AiringFits a
    → ((pid : ℕ) → CarrySoFar (of_pid pid handed) (on_pid pid (cycle_sections past a)) (f pid)) → (pid : ℕ) → Carries (of_pid pid (handed ++ rest_of f packets)) (on_pid pid (cycle_sections past a))
unfolding rest_of
rest_on f packets past a handed told h pid =
    let g = λ (q : ℕ). rest_pieces (f q) in
    let ss = on_pid pid (cycle_sections past a) in
    let cut : of_pid pid (handed ++ rest_of f packets) ≡ of_pid pid handed ++ of_pid pid (laid_out 8192 g) =
    of_pid-append pid handed (rest_of f packets) ∙ ap (λ (l : List Piece). of_pid pid handed ++ l) (of_pid-counted pid packets (laid_out 8192 g)) in
    subst (λ (l : List Piece). Carries l ss) (sym cut) (elim (cases_lt pid 8192) [
      | inl lt ↦ subst (λ (l : List Piece). Carries (of_pid pid handed ++ l) ss) (sym (laid-inside 8192 pid g lt)) (Carries-completed (of_pid pid handed) ss (f pid) (h pid))
      | inr le ↦
          let none : ss ≡ [] = cycle_beyond pid past a told (let z : 8191 ≤ pid = omega (arith, le) in z) in
          let run : Run nothing (of_pid pid handed) (f pid) = so_far-Run [] (of_pid pid handed) (f pid) (subst (λ (l : List (List ℕ)). CarrySoFar (of_pid pid handed) l (f pid)) none (h pid)) in
          let still : f pid ≡ nothing = nothing_stays (of_pid pid handed) (f pid) run in
          subst (λ (l : List Piece). Carries (of_pid pid handed ++ l) ss) (sym (laid-outside 8192 pid g le))
          (subst (λ (l : List Piece). Carries l ss) (sym (append-nil (of_pid pid handed))) (so_far-Carries ss (of_pid pid handed) (subst (CarrySoFar (of_pid pid handed) ss) still (h pid))))
    ])

-- a cycle that carries its sections on each PID has no null packet
cycle_no_null : (past : List AiredTables) (x : Aired) → AiringFits x.airing → AllByRecursion HasFields x.packets → ((pid : ℕ) → Carries (of_pid pid x.packets) (on_pid pid (cycle_sections past x.airing))) → HasNoNull x.packets
cycle_no_null past x told fields each =
    let none : on_pid 8191 (cycle_sections past x.airing) ≡ [] = cycle_beyond 8191 past x.airing told (omega arith) in
    no_null_of x.packets fields (carries_none (of_pid 8191 x.packets) (subst (Carries (of_pid 8191 x.packets)) none (each 8191)))

-- Packets that are consistent so far are a prefix of an air.
pub so_far-begins : (airings : List AiredTables) (packets : List Packet) (f : ℕ → ToCome) → AllByRecursion AiringFits airings → SoFar airings packets f → BeginAnAir airings (map bytes_of_packet packets)
unfolding rest_of
so_far-begins airings packets f told h = go h.last h.airings_are h.carried
  where
    go : (last : Option AiredTables) → airings ≡ and_last (airings_of h.xs) last → ((pid : ℕ) → CarrySoFar (of_pid pid h.handed) (on_pid pid (last_cycle (airings_of h.xs) last)) (f pid))
        → BeginAnAir airings (map bytes_of_packet packets)
    go None e carried =
        let none = none_handed h.handed f carried in
        let are : air h.xs ≡ packets = sym (h.packets_are ∙ ap (λ (l : List Packet). air h.xs ++ l) none ∙ append-nil (air h.xs)) in
        record {
          more = [];
          whole = record {
            xs = h.xs;
            is_air = subst (λ (l : List AiredTables). IsAirOf l h.xs) (sym e) (finished airings packets f h);
            no_null = h.no_null;
            packets_are = ap (map bytes_of_packet) are ∙ sym (append-nil (map bytes_of_packet packets));
          };
        }
    go (Some a) e carried =
        let units = laid_out 8192 (λ (pid : ℕ). rest_pieces (f pid)) in
        let M = rest_of f packets in
        let x : Aired = record { airing = a; packets = h.handed ++ M } in
        let told_last : AiringFits a = (all_behind AiringFits (airings_of h.xs) (a ∷ []) (subst (AllByRecursion AiringFits) e told)).0 in
        let joined : packets ++ M ≡ air h.xs ++ (h.handed ++ M) = ap (λ (l : List Packet). l ++ M) h.packets_are ∙ append_assoc (air h.xs) h.handed M in
        let counts = λ (pid : ℕ). subst (λ (l : List Packet). Count 0 (loads_on pid l)) joined (count-counted packets units pid (h.counted pid)) in
        let handed_fields : AllByRecursion HasFields h.handed = all_behind HasFields (air h.xs) h.handed (subst (AllByRecursion HasFields) h.packets_are h.fields) in
        let fields = all_append HasFields h.handed M handed_fields (fields-counted packets units (laid-fit 8192 (λ (pid : ℕ). rest_pieces (f pid)) (omega arith))) in
        let each = rest_on f packets (airings_of h.xs) a h.handed told_last carried in
        let none : HasNoNull x.packets = cycle_no_null (airings_of h.xs) x told_last fields each in
        let is = air_more (airings_of h.xs) h.xs x (finished airings packets f h) (λ pid lt. each pid) counts fields (null_or_other x.packets none) in
        record {
          more = map bytes_of_packet M;
          whole = record {
            xs = h.xs ++ x ∷ [];
            is_air = subst (λ (l : List AiredTables). IsAirOf l (h.xs ++ x ∷ [])) (sym e) is;
            no_null = subst HasNoNull (sym (air-push h.xs x)) (all_append (λ (p : Packet). p.pid < 8191) (air h.xs) x.packets h.no_null none);
            packets_are = ap (map bytes_of_packet) (air-push h.xs x ∙ sym joined) ∙ map-append bytes_of_packet packets M;
          };
        }

-- ---- back from an air

-- an air that begins with packets that are consistent so far goes on behind them with the rest of its last cycle
record GoesBehind (airings : List AiredTables) (packets : List Packet) (f : ℕ → ToCome) (more : List Packet) : Type 0 where
  counts : (pid : ℕ) → Count 0 (loads_on pid (packets ++ more))
  fields : AllByRecursion HasFields more
  runs : (pid : ℕ) → Run (f pid) (of_pid pid more) nothing

told_front : (airings past : List AiredTables) (last : Option AiredTables) → airings ≡ and_last past last → AllByRecursion AiringFits airings → AllByRecursion AiringFits past
told_front airings past None e told = subst (AllByRecursion AiringFits) e told
told_front airings past (Some a) e told = all_front AiringFits past (a ∷ []) (subst (AllByRecursion AiringFits) e told)

abbrev pub list_of : Option AiredTables → List AiredTables
list_of None = []
list_of (Some a) = a ∷ []

pub last_behind : (past : List AiredTables) (last : Option AiredTables) → and_last past last ≡ past ++ list_of last
last_behind past None = sym (append-nil past)
last_behind past (Some a) = refl

-- the last cycle of an air, where this much of it was handed out
last_runs : (past : List AiredTables) (last : Option AiredTables) (handed more : List Packet) (f : ℕ → ToCome) → AllByRecursion AiringFits (list_of last) → Follow past (list_of last) (handed ++ more)
    → ((pid : ℕ) → CarrySoFar (of_pid pid handed) (on_pid pid (last_cycle past last)) (f pid)) → (pid : ℕ) → Run (f pid) (of_pid pid more) nothing
last_runs past last handed more f told w carried pid = go last told (carried pid) w.zs w.airings_are w.cycles w.packets_are w.no_null
  where
    of_carried : (ss : List (List ℕ)) → AllByRecursion IsApart ss → CarrySoFar (of_pid pid handed) ss (f pid) → Carries (of_pid pid (handed ++ more)) ss → Run (f pid) (of_pid pid more) nothing
    of_carried ss apart c d = cut (Run-cut (of_pid pid handed) (of_pid pid more) (all_waiting ss) nothing
        (subst (λ (l : List Piece). Run (all_waiting ss) l nothing) (of_pid-append pid handed more) (so_far-Run ss (of_pid pid (handed ++ more)) nothing (Carries-so_far ss (of_pid pid (handed ++ more)) d))))
      where
        cut : (v : ToCome) × Run (all_waiting ss) (of_pid pid handed) v × Run v (of_pid pid more) nothing → Run (f pid) (of_pid pid more) nothing
        cut (v, front, behind) =
            subst (λ (x : ToCome). Run x (of_pid pid more) nothing) (run_one_way (of_pid pid handed) (all_waiting ss) v (f pid) apart front (so_far-Run ss (of_pid pid handed) (f pid) c)) behind

    go : (last : Option AiredTables) → AllByRecursion AiringFits (list_of last) → CarrySoFar (of_pid pid handed) (on_pid pid (last_cycle past last)) (f pid)
        → (zs : List Aired) → airings_of zs ≡ list_of last → Cycles past zs → handed ++ more ≡ air zs → HasNoNull (air zs) → Run (f pid) (of_pid pid more) nothing
    go None told c [] e cycles are no_null = of_carried [] tt c (subst (λ (l : List Packet). Carries (of_pid pid l) []) (sym are) (so_far-Carries [] [] (none_so_far [])))
    go None told c (z ∷ zs) e cycles are no_null = cc
    go (Some a) told c [] e cycles are no_null = cc
    go (Some a) told c (z ∷ y ∷ zs) e cycles are no_null = cc
    go (Some a) told c (z ∷ []) e cycles are no_null =
        let same : z.airing ≡ a = cc in
        let each = each_pid past z (subst AiringFits (sym same) told.0) cycles.0 (all_front (λ (p : Packet). p.pid < 8191) z.packets [] no_null) in
        let all : handed ++ more ≡ z.packets = are ∙ append-nil z.packets in
        let ss = on_pid pid (cycle_sections past a) in
        of_carried ss (cycle_apart pid past a told.0) c
        (subst (λ (l : List Packet). Carries (of_pid pid l) ss) (sym all) (subst (λ (b : AiredTables). Carries (of_pid pid z.packets) (on_pid pid (cycle_sections past b))) same (each pid)))

goes_behind : (airings : List AiredTables) (packets : List Packet) (f : ℕ → ToCome) (ys : List Aired) (more : List Packet) → AllByRecursion AiringFits airings → SoFar airings packets f → IsAirOf airings ys → HasNoNull (air ys)
    → air ys ≡ packets ++ more → GoesBehind airings packets f more
goes_behind airings packets f ys more told h is no_null e =
    let past = airings_of h.xs in
    let cut : airings ≡ past ++ list_of h.last = h.airings_are ∙ last_behind past h.last in
    let joined : air ys ≡ air h.xs ++ (h.handed ++ more) = e ∙ ap (λ (l : List Packet). l ++ more) h.packets_are ∙ append_assoc (air h.xs) h.handed more in
    let told_cut = subst (AllByRecursion AiringFits) cut told in
    let follow = same_cycles [] h.xs ys (list_of h.last) (h.handed ++ more) (all_front AiringFits past (list_of h.last) told_cut) h.cycles is.cycles h.no_null no_null (is.airings_are ∙ cut) joined in
    record {
      counts = λ pid. subst (λ (l : List Packet). Count 0 (loads_on pid l)) e (is.counted pid);
      fields = all_behind HasFields packets more (subst (AllByRecursion HasFields) e is.fields);
      runs = last_runs past h.last h.handed more f (all_behind AiringFits past (list_of h.last) told_cut) follow h.carried;
    }

-- a packet that goes on with packets that are consistent so far
pub record GoesOn (packets : List Packet) (f : ℕ → ToCome) (bytes : List ℕ) : Type 0 where
  pub packet : Packet
  pub bytes_are : bytes ≡ bytes_of_packet packet
  pub fields : HasFields packet
  pub counter : packet.counter ≡ length (loads_on packet.pid packets) % 16
  pub behind : ToCome
  pub goes : GoesTo (f packet.pid) packet.piece behind

-- What goes on to a prefix of an air goes on so.
pub begins-goes : (airings : List AiredTables) (packets : List Packet) (f : ℕ → ToCome) (bytes : List ℕ) → AllByRecursion AiringFits airings → SoFar airings packets f
    → BeginAnAir airings (map bytes_of_packet packets ++ bytes ∷ []) → GoesOn packets f bytes
begins-goes airings packets f bytes told h b =
    of (bytes_front packets (air b.whole.xs) (bytes ∷ b.more) h.fields b.whole.is_air.fields (b.whole.packets_are ∙ append_assoc (map bytes_of_packet packets) (bytes ∷ []) b.more))
  where
    of : (rs : List Packet) × (air b.whole.xs ≡ packets ++ rs) × (map bytes_of_packet rs ≡ bytes ∷ b.more) → GoesOn packets f bytes
    of ([], e, m) = cc
    of (p ∷ rs, e, m) = first (goes_behind airings packets f b.whole.xs (p ∷ rs) told h b.whole.is_air b.whole.no_null e)
      where
        load : Load
        load = record { counter = p.counter; piece = p.piece }

        first : GoesBehind airings packets f (p ∷ rs) → GoesOn packets f bytes
        first g =
            let run : Run (f p.pid) (p.piece ∷ of_pid p.pid rs) nothing = subst (λ (l : List Piece). Run (f p.pid) l nothing) (of_own_pid p rs) (g.runs p.pid) in
            let own : loads_on p.pid (p ∷ rs) ≡ load ∷ loads_on p.pid rs = own_load p rs in
            let counts : Count 0 (loads_on p.pid packets ++ load ∷ loads_on p.pid rs) =
            subst (Count 0) (loads_on-append p.pid packets (p ∷ rs) ∙ ap (λ (l : List Load). loads_on p.pid packets ++ l) own) (g.counts p.pid) in
            record {
              packet = p;
              bytes_are = (let e : bytes ≡ bytes_of_packet p = cc in e);
              fields = g.fields.0;
              counter = counter_at 0 (loads_on p.pid packets) load (loads_on p.pid rs) counts ∙ ap (λ (n : ℕ). n % 16) (let e : 0 + length (loads_on p.pid packets) ≡ length (loads_on p.pid packets) = omega arith in e);
              behind = run.0;
              goes = run.1;
            }

-- ---- one packet more

pub goes-packet : (airings : List AiredTables) (packets : List Packet) (f g : ℕ → ToCome) (p : Packet) → SoFar airings packets f → HasFields p → p.counter ≡ length (loads_on p.pid packets) % 16
    → GoesTo (f p.pid) p.piece (g p.pid) → ((pid : ℕ) → (p.pid ≡ pid → ⊥) → g pid ≡ f pid) → SoFar airings (packets ++ p ∷ []) g
goes-packet airings packets f g p h fields counter goes others = record {
  xs = h.xs;
  last = h.last;
  handed = h.handed ++ p ∷ [];
  airings_are = h.airings_are;
  packets_are = ap (λ (l : List Packet). l ++ p ∷ []) h.packets_are ∙ append_assoc (air h.xs) h.handed (p ∷ []);
  cycles = h.cycles;
  no_null = h.no_null;
  carried = carried;
  counted = counts;
  fields = all_append HasFields packets (p ∷ []) h.fields (fields, tt);
}
  where
    carried : (pid : ℕ) → CarrySoFar (of_pid pid (h.handed ++ p ∷ [])) (on_pid pid (last_cycle (airings_of h.xs) h.last)) (g pid)
    carried pid = subst (λ (l : List Piece). CarrySoFar l (on_pid pid (last_cycle (airings_of h.xs) h.last)) (g pid)) (sym (of_pid-append pid h.handed (p ∷ []))) (elim (cases_eq p.pid pid) [
      | inl same ↦
          let here : GoesTo (f pid) p.piece (g pid) = subst (λ (n : ℕ). GoesTo (f n) p.piece (g n)) same goes in
          let own : of_pid pid (p ∷ []) ≡ p.piece ∷ [] = subst (λ (n : ℕ). of_pid n (p ∷ []) ≡ p.piece ∷ []) same (of_own_pid p []) in
          let ss = on_pid pid (last_cycle (airings_of h.xs) h.last) in
          subst (λ (l : List Piece). CarrySoFar (of_pid pid h.handed ++ l) ss (g pid)) (sym own)
          (Run-so_far ss (of_pid pid h.handed ++ p.piece ∷ []) (g pid) (Run-append (of_pid pid h.handed) (p.piece ∷ []) (all_waiting ss) (f pid) (g pid) (so_far-Run ss (of_pid pid h.handed) (f pid) (h.carried pid)) (g pid, here, refl)))
      | inr apart ↦
          let ss = on_pid pid (last_cycle (airings_of h.xs) h.last) in
          subst (λ (l : List Piece). CarrySoFar (of_pid pid h.handed ++ l) ss (g pid)) (sym (of_other_pid pid p [] apart))
          (subst (λ (l : List Piece). CarrySoFar l ss (g pid)) (sym (append-nil (of_pid pid h.handed))) (subst (CarrySoFar (of_pid pid h.handed) ss) (sym (others pid apart)) (h.carried pid)))
    ])

    counts : (pid : ℕ) → Count 0 (loads_on pid (packets ++ p ∷ []))
    counts pid = subst (Count 0) (sym (loads_on-append pid packets (p ∷ []))) (elim (cases_eq p.pid pid) [
      | inl same ↦
          let load : Load = record { counter = p.counter; piece = p.piece } in
          let own : loads_on pid (p ∷ []) ≡ load ∷ [] = subst (λ (n : ℕ). loads_on n (p ∷ []) ≡ load ∷ []) same (own_load p []) in
          let at : p.counter ≡ (0 + length (loads_on pid packets)) % 16 = counter ∙ ap (λ (n : ℕ). length (loads_on n packets) % 16) same ∙ ap (λ (n : ℕ). n % 16) (let e : length (loads_on pid packets) ≡ 0 + length (loads_on pid packets) = omega arith in e) in
          subst (λ (l : List Load). Count 0 (loads_on pid packets ++ l)) (sym own) (Count-append 0 (loads_on pid packets) (load ∷ []) (h.counted pid) (at, tt))
      | inr apart ↦
          subst (λ (l : List Load). Count 0 (loads_on pid packets ++ l)) (sym (other_load pid p [] apart)) (subst (Count 0) (sym (append-nil (loads_on pid packets))) (h.counted pid))
    ])

-- ---- the end of a cycle

-- where nothing is to come, the packets are an air
pub so_far-whole : (airings : List AiredTables) (packets : List Packet) (f : ℕ → ToCome) → AllByRecursion AiringFits airings → SoFar airings packets f → ((pid : ℕ) → f pid ≡ nothing)
    → (xs : List Aired) × IsAirOf airings xs × HasNoNull (air xs) × (air xs ≡ packets)
so_far-whole airings packets f told h none = go h.last h.airings_are h.carried
  where
    go : (last : Option AiredTables) → airings ≡ and_last (airings_of h.xs) last → ((pid : ℕ) → CarrySoFar (of_pid pid h.handed) (on_pid pid (last_cycle (airings_of h.xs) last)) (f pid))
        → (xs : List Aired) × IsAirOf airings xs × HasNoNull (air xs) × (air xs ≡ packets)
    go None e carried =
        let no = none_handed h.handed f carried in
        (h.xs, subst (λ (l : List AiredTables). IsAirOf l h.xs) (sym e) (finished airings packets f h), h.no_null, sym (h.packets_are ∙ ap (λ (l : List Packet). air h.xs ++ l) no ∙ append-nil (air h.xs)))
    go (Some a) e carried =
        let x : Aired = record { airing = a; packets = h.handed } in
        let told_last : AiringFits a = (all_behind AiringFits (airings_of h.xs) (a ∷ []) (subst (AllByRecursion AiringFits) e told)).0 in
        let each : (pid : ℕ) → Carries (of_pid pid h.handed) (on_pid pid (cycle_sections (airings_of h.xs) a)) = λ (pid : ℕ). so_far-Carries (on_pid pid (cycle_sections (airings_of h.xs) a)) (of_pid pid h.handed)
        (subst (CarrySoFar (of_pid pid h.handed) (on_pid pid (cycle_sections (airings_of h.xs) a))) (none pid) (carried pid)) in
        let counts = λ (pid : ℕ). subst (λ (l : List Packet). Count 0 (loads_on pid l)) h.packets_are (h.counted pid) in
        let fields : AllByRecursion HasFields h.handed = all_behind HasFields (air h.xs) h.handed (subst (AllByRecursion HasFields) h.packets_are h.fields) in
        let own : HasNoNull x.packets = cycle_no_null (airings_of h.xs) x told_last fields each in (
          h.xs ++ x ∷ [],
          subst (λ (l : List AiredTables). IsAirOf l (h.xs ++ x ∷ [])) (sym e) (air_more (airings_of h.xs) h.xs x (finished airings packets f h) (λ pid lt. each pid) counts fields (null_or_other x.packets own)),
          subst HasNoNull (sym (air-push h.xs x)) (all_append (λ (p : Packet). p.pid < 8191) (air h.xs) x.packets h.no_null own),
          air-push h.xs x ∙ sym h.packets_are,
        )

pub so_far-air : (airings : List AiredTables) (packets : List Packet) (f : ℕ → ToCome) → AllByRecursion AiringFits airings → SoFar airings packets f → ((pid : ℕ) → f pid ≡ nothing)
    → AreAnAir airings (map bytes_of_packet packets)
so_far-air airings packets f told h none = of (so_far-whole airings packets f told h none)
  where
    of : (xs : List Aired) × IsAirOf airings xs × HasNoNull (air xs) × (air xs ≡ packets) → AreAnAir airings (map bytes_of_packet packets)
    of (xs, is, no_null, e) = record { xs = xs; is_air = is; no_null = no_null; packets_are = ap (map bytes_of_packet) e }

-- where the packets are an air, nothing is to come
pub air-nothing : (airings : List AiredTables) (packets : List Packet) (f : ℕ → ToCome) → AllByRecursion AiringFits airings → SoFar airings packets f → AreAnAir airings (map bytes_of_packet packets) → (pid : ℕ) → f pid ≡ nothing
air-nothing airings packets f told h is pid = of (bytes_front packets (air is.xs) [] h.fields is.is_air.fields (is.packets_are ∙ sym (append-nil (map bytes_of_packet packets))))
  where
    of : (rs : List Packet) × (air is.xs ≡ packets ++ rs) × (map bytes_of_packet rs ≡ []) → f pid ≡ nothing
    of ([], e, m) = (goes_behind airings packets f is.xs [] told h is.is_air is.no_null e).runs pid
    of (r ∷ rs, e, m) = cc

-- ---- the next airing

pub next_airing : (airings : List AiredTables) (packets : List Packet) (f g : ℕ → ToCome) (a : AiredTables) → AllByRecursion AiringFits airings → SoFar airings packets f → ((pid : ℕ) → f pid ≡ nothing)
    → ((pid : ℕ) → g pid ≡ all_waiting (on_pid pid (cycle_sections airings a))) → SoFar (airings ++ a ∷ []) packets g
next_airing airings packets f g a told h none begins = of (so_far-whole airings packets f told h none)
  where
    of : (xs : List Aired) × IsAirOf airings xs × HasNoNull (air xs) × (air xs ≡ packets) → SoFar (airings ++ a ∷ []) packets g
    of (xs, is, no_null, e) = record {
      xs = xs;
      last = Some a;
      handed = [];
      airings_are = ap (λ (l : List AiredTables). l ++ a ∷ []) (sym is.airings_are);
      packets_are = sym (append-nil (air xs) ∙ e);
      cycles = is.cycles;
      no_null = no_null;
      carried = λ pid. subst (CarrySoFar [] (on_pid pid (cycle_sections (airings_of xs) a))) (sym (begins pid ∙ ap (λ (l : List AiredTables). all_waiting (on_pid pid (cycle_sections l a))) (sym is.airings_are)))
          (none_so_far (on_pid pid (cycle_sections (airings_of xs) a)));
      counted = h.counted;
      fields = h.fields;
    }

-- before the first airing
pub none_aired : SoFar [] [] (λ (pid : ℕ). nothing)
none_aired = record { xs = []; last = None; handed = []; airings_are = refl; packets_are = refl; cycles = tt; no_null = tt; carried = λ pid. none_so_far []; counted = λ pid. tt; fields = tt }

-- ---- the law

-- a front of the cycle of an airing carries its sections so far
front_carried : (past : List AiredTables) (a : AiredTables) (handed rs : List Packet) → AiringFits a → Follow past (a ∷ []) (handed ++ rs) → (pid : ℕ) → (t : ToCome) × CarrySoFar (of_pid pid handed) (on_pid pid (cycle_sections past a)) t
front_carried past a handed rs told w pid = last w.zs w.airings_are w.cycles w.packets_are w.no_null
  where
    of_carried : (ss : List (List ℕ)) → Carries (of_pid pid (handed ++ rs)) ss → (t : ToCome) × CarrySoFar (of_pid pid handed) ss t
    of_carried ss c = cut (Run-cut (of_pid pid handed) (of_pid pid rs) (all_waiting ss) nothing
        (subst (λ (l : List Piece). Run (all_waiting ss) l nothing) (of_pid-append pid handed rs) (so_far-Run ss (of_pid pid (handed ++ rs)) nothing (Carries-so_far ss (of_pid pid (handed ++ rs)) c))))
      where
        cut : (v : ToCome) × Run (all_waiting ss) (of_pid pid handed) v × Run v (of_pid pid rs) nothing → (t : ToCome) × CarrySoFar (of_pid pid handed) ss t
        cut (v, front, behind) = (v, Run-so_far ss (of_pid pid handed) v front)

    last : (zs : List Aired) → airings_of zs ≡ a ∷ [] → Cycles past zs → handed ++ rs ≡ air zs → HasNoNull (air zs) → (t : ToCome) × CarrySoFar (of_pid pid handed) (on_pid pid (cycle_sections past a)) t
    last [] e cycles are no_null = cc
    last (z ∷ y ∷ zs) e cycles are no_null = cc
    last (z ∷ []) e cycles are no_null =
        let same : z.airing ≡ a = cc in
        let each = each_pid past z (subst AiringFits (sym same) told) cycles.0 (all_front (λ (p : Packet). p.pid < 8191) z.packets [] no_null) in
        let all : handed ++ rs ≡ z.packets = are ∙ append-nil z.packets in
        let ss = on_pid pid (cycle_sections past a) in
        of_carried ss (subst (λ (l : List Packet). Carries (of_pid pid l) ss) (sym all) (subst (λ (b : AiredTables). Carries (of_pid pid z.packets) (on_pid pid (cycle_sections past b))) same (each pid)))

prefix-consistent : (xs : List Aired) (a : AiredTables) (handed : List Packet) → IsAirOf (airings_of xs) xs → HasNoNull (air xs) → AllByRecursion AiringFits (airings_of xs ++ a ∷ []) → AllByRecursion HasFields handed
    → BeginAnAir (airings_of xs ++ a ∷ []) (map bytes_of_packet (air xs ++ handed)) → IsConsistent xs a handed
prefix-consistent xs a handed is no_null told fit b = of (bytes_front (air xs ++ handed) (air b.whole.xs) b.more fields b.whole.is_air.fields b.whole.packets_are)
  where
    fields : AllByRecursion HasFields (air xs ++ handed)
    fields = all_append HasFields (air xs) handed is.fields fit

    of : (rs : List Packet) × (air b.whole.xs ≡ (air xs ++ handed) ++ rs) × (map bytes_of_packet rs ≡ b.more) → IsConsistent xs a handed
    of (rs, e, m) =
        let past = airings_of xs in
        let follow = same_cycles [] xs b.whole.xs (a ∷ []) (handed ++ rs) (all_front AiringFits past (a ∷ []) told) is.cycles b.whole.is_air.cycles no_null b.whole.no_null b.whole.is_air.airings_are (e ∙ append_assoc (air xs) handed rs) in
        record {
          counted = λ pid. Count-front 0 (loads_on pid (air xs ++ handed)) (loads_on pid rs) (subst (Count 0) (ap (loads_on pid) e ∙ loads_on-append pid (air xs ++ handed) rs) (b.whole.is_air.counted pid));
          fields = all_append HasFields (air xs) handed is.fields fit;
          carried = front_carried past a handed rs (all_behind AiringFits past (a ∷ []) told).0 follow;
        }

pub consistent-prefix : ConsistentIsPrefix
consistent-prefix xs a handed is no_null told fit = (to, prefix-consistent xs a handed is no_null told fit)
  where
    to : IsConsistent xs a handed → BeginAnAir (airings_of xs ++ a ∷ []) (map bytes_of_packet (air xs ++ handed))
    to h = so_far-begins (airings_of xs ++ a ∷ []) (air xs ++ handed) (λ (pid : ℕ). (h.carried pid).0) told
        (record { xs = xs; last = Some a; handed = handed; airings_are = refl; packets_are = refl; cycles = is.cycles; no_null = no_null; carried = λ pid. (h.carried pid).1; counted = h.counted; fields = h.fields })
