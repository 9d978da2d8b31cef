-- A demux that stands for packets, and one packet more.
use Rattle.std.proofs.Common.{◌≡◌, ℕ, ◌+◌, ◌<◌, ◌≤◌, List, [], ◌∷◌, ◌++◌, Bool, true, false, ◌==◌, Option, Some, None, refl, sym, ap, ◌∙◌, arith, map, append-nil}
use Rattle.std.specs.Prelude.{if◌then◌else◌, nat_lt, ◌||◌, Ok, Err, slice_index}
use Rattle.std.specs.List.{cons_option}
use Rattle.std.proofs.lemmas.Bool.Decides.{nat_tests}
use Rattle.std.proofs.lemmas.Bool.{eqb-true}
use Rattle.ts_packets.specs.declared.shape.Shape.TheVariants as shape
use Rattle.ts_packets.specs.declared.shape.BadPacket.TheVariants.{Sync}
use Rattle.ts_packets.specs.Bytes.{pid_in, shape_in, transport_error_indicator, transport_scrambling_control, adaptation_field_control, adaptation_field_length, payload_unit_start_indicator, continuity_counter}
use Rattle.ts_demux.specs.Arrivals.{Arrival, load_in, arrival_by, arrival_on, arrivals_on, Arrival.Gap, Arrival.Came}
use Rattle.ts_demux.specs.Sections.{on_pid, ended_by}
use Rattle.ts_demux.specs.Keeping.{PidState, nothing, kept_on, DemuxStandsFor}
use Rattle.ts_demux.specs.Steps.{given_after, kept_after, kept_behind}
use Rattle.ts_demux.proofs.Stretches.{kept_behind-push}
use Rattle.ts_demux.proofs.Keeping.{keeps_told, keeps_is}
use Rattle.ts_demux.proofs.Adding.{elsewhere, adds, arrivals_on-push, ended_by-is}

-- what is kept of a PID to which the packet is nothing
stays : (past : List (List ℕ)) (packet : List ℕ) (q : ℕ) → arrival_on q packet ≡ None → kept_behind nothing (arrivals_on q past) ≡ kept_behind nothing (arrivals_on q (past ++ packet ∷ []))
stays past packet q e =
    sym (ap (kept_behind nothing) (arrivals_on-push q past packet ∙ ap (λ (o : Option Arrival). arrivals_on q past ++ cons_option o []) e ∙ append-nil (arrivals_on q past)))

changes : (past : List (List ℕ)) (packet : List ℕ) (q : ℕ) (x : Arrival) → arrival_on q packet ≡ Some x → kept_after (kept_behind nothing (arrivals_on q past)) x ≡ kept_behind nothing (arrivals_on q (past ++ packet ∷ []))
changes past packet q x e =
    sym (ap (kept_behind nothing) (arrivals_on-push q past packet ∙ ap (λ (o : Option Arrival). arrivals_on q past ++ cons_option o []) e) ∙ kept_behind-push nothing (arrivals_on q past) x)

-- a packet that is nothing on any PID
pub nothing_came : (past : List (List ℕ)) (packet : List ℕ) (slots : List (Option PidState)) → ((q : ℕ) → arrival_on q packet ≡ None) → DemuxStandsFor past slots →
    (ended_by past packet ≡ []) × DemuxStandsFor (past ++ packet ∷ []) slots
nothing_came past packet slots none stands = (
  ended_by-is past packet ∙ ap (λ (o : Option Arrival). map (on_pid (pid_in packet)) (adds (pid_in packet) past o)) (none (pid_in packet)),
  λ q lt. keeps_is (arrivals_on q (past ++ packet ∷ [])) (kept_on q slots) (keeps_told (arrivals_on q past) (kept_on q slots) (stands q lt) ∙ stays past packet q (none q)),
)

-- a packet that arrives on its PID
pub one_came : (past : List (List ℕ)) (packet : List ℕ) (old new : List (Option PidState)) (pid : ℕ) (x : Arrival) → pid ≡ pid_in packet → pid < 8192 → arrival_on pid packet ≡ Some x
    → ((q : ℕ) → kept_on q new ≡ (if pid == q then kept_after (kept_on pid old) x else kept_on q old)) → DemuxStandsFor past old → DemuxStandsFor (past ++ packet ∷ []) new
one_came past packet old new pid x its small came after stands q lt = keeps_is (arrivals_on q (past ++ packet ∷ [])) (kept_on q new) (after q ∙ go (pid == q) refl)
  where
    told : (n : ℕ) → n < 8192 → kept_on n old ≡ kept_behind nothing (arrivals_on n past)
    told n less = keeps_told (arrivals_on n past) (kept_on n old) (stands n less)

    go : (b : Bool) → (pid == q) ≡ b → (if b then kept_after (kept_on pid old) x else kept_on q old) ≡ kept_behind nothing (arrivals_on q (past ++ packet ∷ []))
    go false e = told q lt ∙ stays past packet q (elsewhere q packet (ap (λ (n : ℕ). n == q) (sym its) ∙ e))
    go true e =
        ap (λ (kept : PidState). kept_after kept x) (told pid small) ∙ changes past packet pid x came
        ∙ ap (λ (n : ℕ). kept_behind nothing (arrivals_on n (past ++ packet ∷ []))) (eqb-true pid q e)

pub one_ended : (past : List (List ℕ)) (packet : List ℕ) (old : List (Option PidState)) (pid : ℕ) (x : Arrival) → pid ≡ pid_in packet → pid < 8192 → arrival_on pid packet ≡ Some x
    → DemuxStandsFor past old → map (on_pid pid) (given_after (kept_on pid old) x) ≡ ended_by past packet
one_ended past packet old pid x its small came stands =
    ap (λ (kept : PidState). map (on_pid pid) (given_after kept x)) (keeps_told (arrivals_on pid past) (kept_on pid old) (stands pid small))
    ∙ ap (λ (o : Option Arrival). map (on_pid pid) (adds pid past o)) (sym came)
    ∙ sym (ended_by-is past packet ∙ ap (λ (n : ℕ). map (on_pid n) (adds n past (arrival_on n packet))) (sym its))

-- ---- what a shape tells

eq_itself : (n : ℕ) → (n == n) ≡ true
eq_itself n = grind (arith, nat_tests)

pub passes : (packet : List ℕ) → shape_in packet ≡ Ok shape.Pass → (q : ℕ) → arrival_on q packet ≡ None
passes packet e q = ap (arrival_by q packet) e

pub gap_came : (packet : List ℕ) (pid : ℕ) → shape_in packet ≡ Ok (shape.Gap pid) → arrival_on pid packet ≡ Some Gap
gap_came packet pid e = ap (arrival_by pid packet) e ∙ ap (λ (b : Bool). if b then Some Gap else None) (eq_itself pid)

pub load_came : (packet : List ℕ) (pid counter at : ℕ) (start : Bool) → shape_in packet ≡ Ok (shape.Load pid start counter at) → arrival_on pid packet ≡ Some (Came (load_in start counter at packet))
load_came packet pid counter at start e = ap (arrival_by pid packet) e ∙ ap (λ (b : Bool). if b then Some (Came (load_in start counter at packet)) else None) (eq_itself pid)

-- a gap and a load are on the PID of the packet
pub gap_told : (packet : List ℕ) (pid : ℕ) → shape_in packet ≡ Ok (shape.Gap pid) → pid ≡ pid_in packet
gap_told packet pid e =
    go (slice_index packet 0 == 71) (transport_error_indicator packet || nat_lt 0 (transport_scrambling_control packet))
    ((pid_in packet == 8191) || (adaptation_field_control packet == 0) || (adaptation_field_control packet == 2))
    (adaptation_field_control packet == 1) (nat_lt 182 (adaptation_field_length packet)) e
  where
    own : ℕ
    own = pid_in packet

    go : (sync error pass four long : Bool) → (if sync then Ok (if error then shape.Gap own else if pass then shape.Pass else if four then shape.Load own (payload_unit_start_indicator packet) (continuity_counter packet) 4
        else if long then shape.Gap own else shape.Load own (payload_unit_start_indicator packet) (continuity_counter packet) (5 + adaptation_field_length packet)) else Err Sync) ≡ Ok (shape.Gap pid) → pid ≡ own
    go false error pass four long f = cc
    go true true pass four long f = cc
    go true false true four long f = cc
    go true false false true long f = cc
    go true false false false true f = cc
    go true false false false false f = cc

lt_false : (a b : ℕ) → nat_lt a b ≡ false → b ≤ a
lt_false a b h = grind (arith, nat_tests)

pub load_told : (packet : List ℕ) (pid counter at : ℕ) (start : Bool) → shape_in packet ≡ Ok (shape.Load pid start counter at) → (pid ≡ pid_in packet) × (at < 188)
load_told packet pid counter at start e =
    go (slice_index packet 0 == 71) (transport_error_indicator packet || nat_lt 0 (transport_scrambling_control packet))
    ((pid_in packet == 8191) || (adaptation_field_control packet == 0) || (adaptation_field_control packet == 2))
    (adaptation_field_control packet == 1) (nat_lt 182 (adaptation_field_length packet)) refl e
  where
    own : ℕ
    own = pid_in packet

    len : ℕ
    len = adaptation_field_length packet

    at_four : 4 < 188
    at_four = omega arith

    go : (sync error pass four long : Bool) → nat_lt 182 len ≡ long
        → (if sync then Ok (if error then shape.Gap own else if pass then shape.Pass else if four then shape.Load own (payload_unit_start_indicator packet) (continuity_counter packet) 4
        else if long then shape.Gap own else shape.Load own (payload_unit_start_indicator packet) (continuity_counter packet) (5 + len)) else Err Sync) ≡ Ok (shape.Load pid start counter at) → (pid ≡ own) × (at < 188)
    go false error pass four long l f = cc
    go true true pass four long l f = cc
    go true false true four long l f = cc
    go true false false true long l f = let p : pid ≡ own = cc in let a : at ≡ 4 = cc in (p, omega arith)
    go true false false false true l f = cc
    go true false false false false l f = let p : pid ≡ own = cc in let a : at ≡ 5 + len = cc in let small : len ≤ 182 = lt_false 182 len l in (p, omega arith)

pub small_pid : (packet : List ℕ) → slice_index packet 2 < 256 → pid_in packet < 8192
small_pid packet h = omega arith
