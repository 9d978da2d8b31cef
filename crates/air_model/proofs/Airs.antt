-- An air grows by one cycle.
use Rattle.std.proofs.Common.{◌≡◌, ℕ, zero, suc, ◌≤◌, map, List, [], ◌∷◌, ◌++◌, Bool, true, false, Some, None, length, refl, sym, ap, ◌∙◌, subst, arith, append_assoc, append-nil, eq-eqb}
use Rattle.std.specs.Prelude.{◌<◌, ◌==◌, if◌then◌else◌, flat_map, filter_map}
use Rattle.std.proofs.lemmas.Bool.{eqb-true, eqb-false}
use Rattle.si_lists.proofs.Lists.{all_front, all_behind, all_append, all_map}
use Rattle.std.specs.List.{AllByRecursion, cons_option}
use Rattle.std.proofs.lemmas.List.Concat.{flat_map-append}
use Rattle.version_book.specs.Airings.{AiredTables}
use Rattle.ts_packets.specs.Packets.{Piece, pieces, stretch, IsWhole, Carries}
use Rattle.ts_packets.specs.Bytes.{Packet, HasFields, packet_on, packets_dense, bytes_of_packet}
use Rattle.ts_packets.specs.Counting.{of_pid, loads_on, Count}
use Rattle.ts_packets.proofs.Carrying.{Carries-whole}
use Rattle.air_model.specs.Air.{Sent, Aired, sent_on, cycle_sections, IsNullOrOther, HasNoNull, IsCycle, Cycles, air, airings_of, air_bytes, IsAirOf}
use Rattle.air_model.specs.Repeating.{RepeatingCycles, IsRepeatingAirOf}
use Rattle.air_model.specs.Making.{bytes_of, front_on, behind_on, each_dense, count_behind, counted, cycle_dense, AreMade}
use Rattle.air_model.proofs.Repeating.{airs_repeat}
use Rattle.air_model.proofs.Counted.{PidsFit, of_pid-counted, fields-counted, count-counted}
use Rattle.air_model.proofs.Dense.{first_packets, fewer, behind_all, pids_fit, Carries-each_dense, cycle_some}

-- the air of no airing
pub IsAirOf-none : IsAirOf [] []
IsAirOf-none = record { airings_are = refl; cycles = tt; counted = λ pid. tt; fields = tt; nulls = tt }

-- sections one after the other, neighbours of one PID in packets that they share, are a cycle
pub IsCycle-dense : (past : List AiredTables) (sent : List Packet) (a : AiredTables) → IsCycle past (record { airing = a; packets = cycle_dense past sent a })
IsCycle-dense past sent a pid lt =
    subst (λ (x : List Piece). Carries x (filter_map (sent_on pid) (cycle_sections past a))) (sym (of_pid-counted pid sent (each_dense (cycle_sections past a)))) (Carries-each_dense pid (cycle_sections past a) (cycle_some past a))

pub air-push : (xs : List Aired) (x : Aired) → air (xs ++ x ∷ []) ≡ air xs ++ x.packets
air-push xs x = flat_map-append (λ (y : Aired). y.packets) xs (x ∷ []) ∙ ap (λ (l : List Packet). air xs ++ l) (append-nil x.packets)

pub air_bytes-push : (xs : List Aired) (x : Aired) → air_bytes (xs ++ x ∷ []) ≡ air_bytes xs ++ flat_map bytes_of_packet x.packets
air_bytes-push xs x = ap (flat_map bytes_of_packet) (air-push xs x) ∙ flat_map-append bytes_of_packet (air xs) x.packets

pub airings_of-push : (xs : List Aired) (x : Aired) → airings_of (xs ++ x ∷ []) ≡ airings_of xs ++ x.airing ∷ []
airings_of-push [] x = refl
airings_of-push (y ∷ ys) x = ap (λ (l : List AiredTables). y.airing ∷ l) (airings_of-push ys x)

Cycles-push : (past : List AiredTables) (xs : List Aired) (x : Aired) → Cycles past xs → IsCycle (past ++ airings_of xs) x → Cycles past (xs ++ x ∷ [])
Cycles-push past [] x h c = (subst (λ (l : List AiredTables). IsCycle l x) (append-nil past) c, tt)
Cycles-push past (y ∷ ys) x h c = (h.0, Cycles-push (past ++ y.airing ∷ []) ys x h.1 (subst (λ (l : List AiredTables). IsCycle l x) (sym (append_assoc past (y.airing ∷ []) (airings_of ys))) c))

all-both : (P : Packet → Type 0) (xs ys : List Packet) → AllByRecursion P xs → AllByRecursion P ys → AllByRecursion P (xs ++ ys)
all-both P [] ys p q = q
all-both P (x ∷ xs) ys p q = (p.0, all-both P xs ys p.1 q)

-- one airing more, with a cycle of it whose counters go on, makes a longer air
pub air_more : (airings : List AiredTables) (xs : List Aired) (x : Aired) → IsAirOf airings xs → IsCycle airings x → ((pid : ℕ) → Count 0 (loads_on pid (air xs ++ x.packets))) → AllByRecursion HasFields x.packets → AllByRecursion IsNullOrOther x.packets
    → IsAirOf (airings ++ x.airing ∷ []) (xs ++ x ∷ [])
air_more airings xs x h cycle counts fields nulls = record {
  airings_are = airings_of-push xs x ∙ ap (λ (l : List AiredTables). l ++ x.airing ∷ []) h.airings_are;
  cycles = Cycles-push [] xs x h.cycles (subst (λ (l : List AiredTables). IsCycle l x) (sym h.airings_are) cycle);
  counted = λ pid. subst (λ (l : List Packet). Count 0 (loads_on pid l)) (sym (air-push xs x)) (counts pid);
  fields = subst (λ (l : List Packet). AllByRecursion HasFields l) (sym (air-push xs x)) (all-both HasFields (air xs) x.packets h.fields fields);
  nulls = subst (λ (l : List Packet). AllByRecursion IsNullOrOther l) (sym (air-push xs x)) (all-both IsNullOrOther (air xs) x.packets h.nulls nulls);
}

-- cycles that are made, and one more
pub AreMade-push : (before xs : List Aired) (x : Aired) → AreMade before xs → x.packets ≡ cycle_dense (airings_of (before ++ xs)) (air (before ++ xs)) x.airing → AreMade before (xs ++ x ∷ [])
AreMade-push before [] x made is = (subst (λ (l : List Aired). x.packets ≡ cycle_dense (airings_of l) (air l) x.airing) (append-nil before) is, tt)
AreMade-push before (y ∷ ys) x made is =
    (made.0, AreMade-push (before ++ y ∷ []) ys x made.1 (subst (λ (l : List Aired). x.packets ≡ cycle_dense (airings_of l) (air l) x.airing) (sym (append_assoc before (y ∷ []) ys)) is))

-- ---- null packets

pids_below : (pid : ℕ) (ps : List Piece) → pid < 8191 → HasNoNull (map (packet_on pid) ps)
pids_below pid [] lt = tt
pids_below pid (p ∷ ps) lt = (lt, pids_below pid ps lt)

other_within : (n : ℕ) (ss : List Sent) → length ss ≤ n → AllByRecursion (λ (s : Sent). s.pid < 8191) ss → HasNoNull (each_dense ss)
other_within n [] h fit = tt
other_within zero (s ∷ ss) h fit = absurd (omega arith)
other_within (suc n) (s ∷ ss) h fit =
    let here = s.bytes ∷ bytes_of (front_on s.pid ss) in
    let behind = behind_on s.pid ss in
    subst HasNoNull (sym (first_packets s ss))
    (all_append (λ (p : Packet). p.pid < 8191) (packets_dense s.pid here) (each_dense behind) (pids_below s.pid (pieces [] (stretch here)) fit.0)
    (other_within n behind (omega (arith, fewer s.pid ss)) (behind_all (λ (t : Sent). t.pid < 8191) s.pid ss fit.1)))

pub dense_no_null : (ss : List Sent) → AllByRecursion (λ (s : Sent). s.pid < 8191) ss → HasNoNull (each_dense ss)
dense_no_null ss fit = other_within (length ss) ss (omega arith) fit

pub counted_nulls : (past ps : List Packet) → AllByRecursion IsNullOrOther ps → AllByRecursion IsNullOrOther (counted past ps)
counted_nulls past [] h = tt
counted_nulls past (p ∷ ps) h = (h.0, counted_nulls (past ++ count_behind past p ∷ []) ps h.1)

counted_no_null : (past ps : List Packet) → HasNoNull ps → HasNoNull (counted past ps)
counted_no_null past [] h = tt
counted_no_null past (p ∷ ps) h = (h.0, counted_no_null (past ++ count_behind past p ∷ []) ps h.1)

pub null_or_other : (ps : List Packet) → HasNoNull ps → AllByRecursion IsNullOrOther ps
null_or_other ps none = all_map (λ (p : Packet). p.pid < 8191) IsNullOrOther (λ p lt e. absurd (omega (arith, lt, e))) ps none

-- a cycle that is made of sections below the PID of null packets has none
pub no_null-dense : (past : List AiredTables) (sent : List Packet) (a : AiredTables) → AllByRecursion (λ (s : Sent). s.pid < 8191) (cycle_sections past a) → HasNoNull (cycle_dense past sent a)
no_null-dense past sent a below = counted_no_null sent (each_dense (cycle_sections past a)) (dense_no_null (cycle_sections past a) below)

-- the cycle that is made behind an air makes a longer air
pub air_more-dense : (airings : List AiredTables) (xs : List Aired) (a : AiredTables) → IsAirOf airings xs → AllByRecursion (λ (s : Sent). s.pid < 8191) (cycle_sections airings a)
    → IsAirOf (airings ++ a ∷ []) (xs ++ record { airing = a; packets = cycle_dense airings (air xs) a } ∷ [])
air_more-dense airings xs a h below =
    let units = each_dense (cycle_sections airings a) in
    let fit = pids_fit (cycle_sections airings a) (all_map (λ (s : Sent). s.pid < 8191) (λ (s : Sent). s.pid < 8192) (λ s lt. omega arith) (cycle_sections airings a) below) in
    air_more airings xs (record { airing = a; packets = counted (air xs) units }) h (IsCycle-dense airings (air xs) a)
    (λ pid. count-counted (air xs) units pid (h.counted pid)) (fields-counted (air xs) units fit) (null_or_other (counted (air xs) units) (no_null-dense airings (air xs) a below))

whole_packets : (ps : List Packet) → AllByRecursion HasFields ps → AllByRecursion IsNullOrOther ps → ((pid : ℕ) → pid < 8191 → AllByRecursion IsWhole (of_pid pid ps))
    → AllByRecursion (λ (p : Packet). IsWhole p.piece) ps
whole_packets [] fields nulls h = tt
whole_packets (p ∷ ps) fields nulls h = (first (p.pid == 8191) refl, whole_packets ps fields.1 nulls.1 others)
  where
    first : (b : Bool) → (p.pid == 8191) ≡ b → IsWhole p.piece
    first true e = subst IsWhole (sym (nulls.0 (eqb-true p.pid 8191 e))) refl
    first false e =
        let other = eqb-false p.pid 8191 e in
        let fit = fields.0.pid in
        let here = h p.pid (grind arith) in
        let same : (p.pid == p.pid) ≡ true = eq-eqb p.pid p.pid refl in
        (subst (λ (b : Bool). AllByRecursion IsWhole (cons_option (if b then Some p.piece else None) (of_pid p.pid ps))) same here).0

    others : (pid : ℕ) → pid < 8191 → AllByRecursion IsWhole (of_pid pid ps)
    others pid lt = go (p.pid == pid) (h pid lt)
      where
        go : (b : Bool) → AllByRecursion IsWhole (cons_option (if b then Some p.piece else None) (of_pid pid ps)) → AllByRecursion IsWhole (of_pid pid ps)
        go true all = all.1
        go false all = all

whole_cycles : (past : List AiredTables) (xs : List Aired) → RepeatingCycles past xs → AllByRecursion HasFields (air xs) → AllByRecursion IsNullOrOther (air xs)
    → AllByRecursion (λ (p : Packet). IsWhole p.piece) (air xs)
whole_cycles past [] h fields nulls = tt
whole_cycles past (x ∷ xs) h fields nulls =
    all-both (λ (p : Packet). IsWhole p.piece) x.packets (air xs)
    (whole_packets x.packets (all_front HasFields x.packets (air xs) fields) (all_front IsNullOrOther x.packets (air xs) nulls) (λ pid lt. Carries-whole (of_pid pid x.packets) (filter_map (sent_on pid) h.0.sections) (h.0.carried pid lt)))
    (whole_cycles (past ++ x.airing ∷ []) xs h.1 (all_behind HasFields x.packets (air xs) fields) (all_behind IsNullOrOther x.packets (air xs) nulls))

bytes_whole : (ps : List Packet) → AllByRecursion (λ (p : Packet). IsWhole p.piece) ps → AllByRecursion (λ (p : Packet). length (bytes_of_packet p) ≡ 188) ps
bytes_whole [] h = tt
bytes_whole (p ∷ ps) h = (omega (arith, h.0), bytes_whole ps h.1)

-- each packet of an air has 188 bytes
pub repeating-whole : (airings : List AiredTables) (xs : List Aired) → IsRepeatingAirOf airings xs → AllByRecursion (λ (p : Packet). length (bytes_of_packet p) ≡ 188) (air xs)
repeating-whole airings xs h = bytes_whole (air xs) (whole_cycles [] xs h.cycles h.fields h.nulls)

pub air-whole : (airings : List AiredTables) (xs : List Aired) → IsAirOf airings xs → AllByRecursion (λ (p : Packet). length (bytes_of_packet p) ≡ 188) (air xs)
air-whole airings xs h = repeating-whole airings xs (airs_repeat airings xs h)
