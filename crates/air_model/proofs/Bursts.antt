-- Bursts are a cycle.
use Rattle.std.proofs.Common.{◌≡◌, ℕ, zero, suc, ◌<◌, inl, inr, List, [], ◌∷◌, ◌++◌, Bool, Some, None, length, refl, sym, ap, ◌∙◌, subst, subst₂, arith, append_assoc, append-nil}
use Rattle.std.specs.Prelude.{if◌then◌else◌, replicate, filter_map}
use Rattle.std.specs.List.{AllByRecursion, cons_option}
use Rattle.std.proofs.lemmas.Bool.{ne_eqb}
use Rattle.std.proofs.lemmas.List.Elements.{filter_map-append}
use Rattle.si_lists.proofs.Lists.{all_append, all_front, all_behind, all_map}
use Rattle.section_codec.specs.SubTables.{header_of}
use Rattle.section_codec.proofs.ReadBack.{length-section_bytes}
use Rattle.version_book.specs.Airings.{AiredTables, version_at}
use Rattle.ts_packets.specs.Packets.{Piece, Carries}
use Rattle.ts_packets.specs.Bytes.{Packet, HasFields}
use Rattle.ts_packets.specs.Counting.{of_pid, loads_on, Count}
use Rattle.ts_packets.proofs.Carrying.{Carries-none, Carries-append}
use Rattle.ts_packets.proofs.Stamps.{of_pid-append}
use Rattle.air_model.specs.Air.{Sent, Aired, times, sent_on, null_piece, IsNullOrOther, air, airings_of}
use Rattle.air_model.specs.Making.{each_dense}
use Rattle.air_model.specs.Repeating.{IsSentOf, IsRepeatingCycle, RepeatingCycles}
use Rattle.air_model.proofs.Counted.{PidsFit, of_pid-counted, fields-counted, count-counted}
use Rattle.air_model.proofs.Dense.{HaveSome, Carries-each_dense, times_some, pids_fit}
use Rattle.air_model.proofs.Elements.{of_element}
use Rattle.air_model.proofs.Airs.{air-push, airings_of-push, counted_nulls, dense_no_null, null_or_other}
use Rattle.air_model.specs.Bursts.{Burst, null_packet, burst_packets, paced_packets, sent_in, cycle_paced, BurstsAreCycles, BurstsGoOn}

-- ---- what is carried

-- null packets are on no other PID
no_nulls : (pid : ℕ) → pid < 8191 → (n : ℕ) → of_pid pid (replicate n null_packet) ≡ []
no_nulls pid lt zero = refl
no_nulls pid lt (suc n) =
    ap (λ (b : Bool). cons_option (if b then Some null_piece else None) (of_pid pid (replicate n null_packet))) (ne_eqb 8191 pid (λ e. omega arith)) ∙ no_nulls pid lt n

burst_on : (pid : ℕ) → pid < 8191 → (b : Burst) → of_pid pid (burst_packets b) ≡ of_pid pid (each_dense b.sections)
burst_on pid lt b = of_pid-append pid (replicate b.nulls null_packet) (each_dense b.sections) ∙ ap (λ (l : List Piece). l ++ of_pid pid (each_dense b.sections)) (no_nulls pid lt b.nulls)

bursts_carry : (pid : ℕ) → pid < 8191 → (bursts : List Burst) → HaveSome (sent_in bursts) → Carries (of_pid pid (paced_packets bursts)) (filter_map (sent_on pid) (sent_in bursts))
bursts_carry pid lt [] some = Carries-none
bursts_carry pid lt (b ∷ bursts) some =
    let rest = sent_in bursts in
    let own = Carries-each_dense pid b.sections (all_front (λ (s : Sent). 0 < length s.bytes) b.sections rest some) in
    let later = bursts_carry pid lt bursts (all_behind (λ (s : Sent). 0 < length s.bytes) b.sections rest some) in
    subst₂ Carries (sym (of_pid-append pid (burst_packets b) (paced_packets bursts) ∙ ap (λ (l : List Piece). l ++ of_pid pid (paced_packets bursts)) (burst_on pid lt b)))
    (sym (filter_map-append (sent_on pid) b.sections rest))
    (Carries-append (of_pid pid (each_dense b.sections)) (of_pid pid (paced_packets bursts)) (filter_map (sent_on pid) b.sections) (filter_map (sent_on pid) rest) own later)

-- sections of an airing have bytes
one_some : (past : List AiredTables) (a : AiredTables) (s : Sent) → IsSentOf past a s → 0 < length s.bytes
one_some past a s (inl (t, p, has_t, has_p, e)) =
    subst (λ (x : Sent). 0 < length x.bytes) (sym e) (omega (arith, length-section_bytes (header_of (version_at t.key (past ++ a ∷ [])) t p) p.body))
one_some past a s (inr (at, later, has)) = of_element (λ (x : Sent). 0 < length x.bytes) (times a.form at) s (times_some a.form at) has

pub bursts_are_cycles : BurstsAreCycles
bursts_are_cycles past sent a bursts are = record {
  sections = sent_in bursts;
  are = are;
  carried = λ pid lt.
      subst (λ (l : List Piece). Carries l (filter_map (sent_on pid) (sent_in bursts))) (sym (of_pid-counted pid sent (paced_packets bursts)))
      (bursts_carry pid lt bursts (all_map (IsSentOf past a) (λ (s : Sent). 0 < length s.bytes) (one_some past a) (sent_in bursts) are.each));
}

-- ---- fields and null packets

nulls_fit : (n : ℕ) → PidsFit (replicate n null_packet)
nulls_fit zero = tt
nulls_fit (suc n) = (omega arith, nulls_fit n)

bursts_fit : (bursts : List Burst) → AllByRecursion (λ (s : Sent). s.pid < 8191) (sent_in bursts) → PidsFit (paced_packets bursts)
bursts_fit [] fit = tt
bursts_fit (b ∷ bursts) fit =
    let own = all_front (λ (s : Sent). s.pid < 8191) b.sections (sent_in bursts) fit in
    let dense = pids_fit b.sections (all_map (λ (s : Sent). s.pid < 8191) (λ (s : Sent). s.pid < 8192) (λ s h. omega arith) b.sections own) in
    all_append (λ (p : Packet). p.pid < 8192) (burst_packets b) (paced_packets bursts)
    (all_append (λ (p : Packet). p.pid < 8192) (replicate b.nulls null_packet) (each_dense b.sections) (nulls_fit b.nulls) dense)
    (bursts_fit bursts (all_behind (λ (s : Sent). s.pid < 8191) b.sections (sent_in bursts) fit))

are_null : (n : ℕ) → AllByRecursion IsNullOrOther (replicate n null_packet)
are_null zero = tt
are_null (suc n) = ((λ e. refl), are_null n)

pub bursts_null : (bursts : List Burst) → AllByRecursion (λ (s : Sent). s.pid < 8191) (sent_in bursts) → AllByRecursion IsNullOrOther (paced_packets bursts)
bursts_null [] fit = tt
bursts_null (b ∷ bursts) fit =
    let own = all_front (λ (s : Sent). s.pid < 8191) b.sections (sent_in bursts) fit in
    all_append IsNullOrOther (burst_packets b) (paced_packets bursts)
    (all_append IsNullOrOther (replicate b.nulls null_packet) (each_dense b.sections) (are_null b.nulls) (null_or_other (each_dense b.sections) (dense_no_null b.sections own)))
    (bursts_null bursts (all_behind (λ (s : Sent). s.pid < 8191) b.sections (sent_in bursts) fit))

-- ---- an air grows

Cycles-push : (past : List AiredTables) (xs : List Aired) (x : Aired) → RepeatingCycles past xs → IsRepeatingCycle (past ++ airings_of xs) x → RepeatingCycles past (xs ++ x ∷ [])
Cycles-push past [] x h c = (subst (λ (l : List AiredTables). IsRepeatingCycle l x) (append-nil past) c, tt)
Cycles-push past (y ∷ ys) x h c = (h.0, Cycles-push (past ++ y.airing ∷ []) ys x h.1 (subst (λ (l : List AiredTables). IsRepeatingCycle l x) (sym (append_assoc past (y.airing ∷ []) (airings_of ys))) c))

pub bursts_go_on : BurstsGoOn
bursts_go_on airings xs a bursts is are fit =
    let x = cycle_paced (air xs) a bursts in
    let cycle = bursts_are_cycles airings (air xs) a bursts are in
    record {
      airings_are = airings_of-push xs x ∙ ap (λ (l : List AiredTables). l ++ a ∷ []) is.airings_are;
      cycles = Cycles-push [] xs x is.cycles (subst (λ (l : List AiredTables). IsRepeatingCycle l x) (sym is.airings_are) cycle);
      counted = λ pid. subst (λ (l : List Packet). Count 0 (loads_on pid l)) (sym (air-push xs x)) (count-counted (air xs) (paced_packets bursts) pid (is.counted pid));
      fields = subst (λ (l : List Packet). AllByRecursion HasFields l) (sym (air-push xs x))
          (all_append HasFields (air xs) x.packets is.fields (fields-counted (air xs) (paced_packets bursts) (bursts_fit bursts fit)));
      nulls = subst (λ (l : List Packet). AllByRecursion IsNullOrOther l) (sym (air-push xs x))
          (all_append IsNullOrOther (air xs) x.packets is.nulls (counted_nulls (air xs) (paced_packets bursts) (bursts_null bursts fit)));
    }
