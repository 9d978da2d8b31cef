-- What one packet more adds on each PID.
use Rattle.std.proofs.Common.{◌≡◌, ℕ, ◌+◌, List, [], ◌∷◌, ◌++◌, Bool, true, false, ◌==◌, Option, Some, None, length, refl, sym, ap, ◌∙◌, drop, map, filter_map, append_assoc, append-nil}
use Rattle.std.specs.Prelude.{if◌then◌else◌, nat_lt, ◌||◌, Ok, Err}
use Rattle.std.specs.List.{cons_option}
use Rattle.std.proofs.lemmas.List.{drop_at}
use Rattle.std.proofs.lemmas.List.Elements.{filter_map-append}
use Rattle.std.proofs.lemmas.Bool.{eqb-true}
use Rattle.ts_packets.specs.declared.shape.Shape.TheVariants as shape
use Rattle.ts_packets.specs.declared.shape.BadPacket.TheVariants.{Sync}
use Rattle.ts_packets.specs.Bytes.{pid_in, transport_error_indicator, transport_scrambling_control, adaptation_field_control, adaptation_field_length, payload_unit_start_indicator, continuity_counter}
use Rattle.ts_demux.specs.declared.section.RawSection.{RawSection}
use Rattle.ts_demux.specs.Arrivals.{Arrival, arrival_by, arrival_on, arrivals_on, heard_of}
use Rattle.ts_demux.specs.Sections.{sections_on, on_pid, ended_by, heard_all, bytes_on}
use Rattle.ts_demux.specs.Keeping.{nothing}
use Rattle.ts_demux.specs.Steps.{given_after, kept_behind}
use Rattle.ts_demux.specs.Laws.{OrderKept}
use Rattle.ts_demux.proofs.Stretches.{heard_of-push}

-- a packet is nothing on a PID that is not its own
gap_elsewhere : (pid q : ℕ) (bytes : List ℕ) → (q == pid) ≡ false → arrival_by pid bytes (Ok (shape.Gap q)) ≡ None
gap_elsewhere pid q bytes e = ap (λ (b : Bool). if b then Some Arrival.Gap else None) e

load_elsewhere : (pid q counter at : ℕ) (start : Bool) (bytes : List ℕ) → (q == pid) ≡ false → arrival_by pid bytes (Ok (shape.Load q start counter at)) ≡ None
load_elsewhere pid q counter at start bytes e =
    ap (λ (b : Bool). if b then Some (Arrival.Came (record { counter = counter; piece = record { start = start; payload = drop at bytes } })) else None) e

case_elsewhere : (pid q counter at : ℕ) (start : Bool) (bytes : List ℕ) (sync error scrambled pass four long : Bool) → (q == pid) ≡ false →
    arrival_by pid bytes (if sync then Ok (if error then shape.Gap q else if scrambled then shape.Pass else if pass then shape.Load q start counter 4 else if four then shape.Gap q else shape.Load q start counter at) else Err Sync) ≡ None
case_elsewhere pid q counter at start bytes false error scrambled pass four long e = refl
case_elsewhere pid q counter at start bytes true true scrambled pass four long e = gap_elsewhere pid q bytes e
case_elsewhere pid q counter at start bytes true false true pass four long e = refl
case_elsewhere pid q counter at start bytes true false false true four long e = load_elsewhere pid q counter 4 start bytes e
case_elsewhere pid q counter at start bytes true false false false true long e = gap_elsewhere pid q bytes e
case_elsewhere pid q counter at start bytes true false false false false long e = load_elsewhere pid q counter at start bytes e

pub elsewhere : (pid : ℕ) (bytes : List ℕ) → (pid_in bytes == pid) ≡ false → arrival_on pid bytes ≡ None
elsewhere pid [] e = refl
elsewhere pid (a ∷ rest) e =
    let bytes = a ∷ rest in
    case_elsewhere pid (pid_in bytes) (continuity_counter bytes) (5 + adaptation_field_length bytes) (payload_unit_start_indicator bytes) bytes (a == 71)
    (transport_error_indicator bytes || nat_lt 0 (transport_scrambling_control bytes))
    ((pid_in bytes == 8191) || (adaptation_field_control bytes == 0) || (adaptation_field_control bytes == 2))
    (adaptation_field_control bytes == 1) (nat_lt 182 (adaptation_field_length bytes)) true e

-- what an arrival, where there is one, adds behind a past
abbrev pub adds : ℕ → List (List ℕ) → Option Arrival → List (List ℕ)
adds pid past None = []
adds pid past (Some x) = given_after (kept_behind nothing (arrivals_on pid past)) x

pub arrivals_on-push : (pid : ℕ) (past : List (List ℕ)) (packet : List ℕ) → arrivals_on pid (past ++ packet ∷ []) ≡ arrivals_on pid past ++ cons_option (arrival_on pid packet) []
arrivals_on-push pid past packet = filter_map-append (arrival_on pid) past (packet ∷ [])

pub sections_on-push : (pid : ℕ) (past : List (List ℕ)) (packet : List ℕ) → sections_on pid (past ++ packet ∷ []) ≡ sections_on pid past ++ adds pid past (arrival_on pid packet)
sections_on-push pid past packet = ap heard_of (arrivals_on-push pid past packet) ∙ go (arrival_on pid packet)
  where
    go : (o : Option Arrival) → heard_of (arrivals_on pid past ++ cons_option o []) ≡ heard_of (arrivals_on pid past) ++ adds pid past o
    go None = ap heard_of (append-nil (arrivals_on pid past)) ∙ sym (append-nil (heard_of (arrivals_on pid past)))
    go (Some x) = heard_of-push (arrivals_on pid past) x

-- The sections that a packet ends are those that its arrival adds.
pub ended_by-is : (past : List (List ℕ)) (packet : List ℕ) → ended_by past packet ≡ map (on_pid (pid_in packet)) (adds (pid_in packet) past (arrival_on (pid_in packet) packet))
ended_by-is past packet =
    let pid = pid_in packet in
    let old = sections_on pid past in
    let new = adds pid past (arrival_on pid packet) in
    ap (λ (x : List (List ℕ)). map (on_pid pid) (drop (length old) x)) (sections_on-push pid past packet) ∙ ap (map (on_pid pid)) (drop_at old new (length old) refl)

pub mapped : (pid q : ℕ) (b : Bool) → (q == pid) ≡ b → (ss : List (List ℕ)) → filter_map (bytes_on pid) (map (on_pid q) ss) ≡ (if b then ss else [])
mapped pid q true e [] = refl
mapped pid q false e [] = refl
mapped pid q true e (s ∷ ss) = ap (λ (x : Bool). cons_option (if x then Some s else None) (filter_map (bytes_on pid) (map (on_pid q) ss))) e ∙ ap (λ (x : List (List ℕ)). s ∷ x) (mapped pid q true e ss)
mapped pid q false e (s ∷ ss) = ap (λ (x : Bool). cons_option (if x then Some s else None) (filter_map (bytes_on pid) (map (on_pid q) ss))) e ∙ mapped pid q false e ss

-- what a packet ends on a PID
ended_on : (pid : ℕ) (past : List (List ℕ)) (packet : List ℕ) → sections_on pid past ++ filter_map (bytes_on pid) (ended_by past packet) ≡ sections_on pid (past ++ packet ∷ [])
ended_on pid past packet = go (pid_in packet == pid) refl
  where
    q : ℕ
    q = pid_in packet

    old : List (List ℕ)
    old = sections_on pid past

    go : (b : Bool) → (q == pid) ≡ b → old ++ filter_map (bytes_on pid) (ended_by past packet) ≡ sections_on pid (past ++ packet ∷ [])
    go false e =
        ap (λ (x : List RawSection). old ++ filter_map (bytes_on pid) x) (ended_by-is past packet)
        ∙ ap (λ (x : List (List ℕ)). old ++ x) (mapped pid q false e (adds q past (arrival_on q packet)))
        ∙ sym (sections_on-push pid past packet ∙ ap (λ (o : Option Arrival). old ++ adds pid past o) (elsewhere pid packet e))
    go true e =
        ap (λ (x : List RawSection). old ++ filter_map (bytes_on pid) x) (ended_by-is past packet)
        ∙ ap (λ (x : List (List ℕ)). old ++ x) (mapped pid q true e (adds q past (arrival_on q packet)))
        ∙ ap (λ (k : ℕ). old ++ adds k past (arrival_on k packet)) (eqb-true q pid e)
        ∙ sym (sections_on-push pid past packet)

order : (past packets : List (List ℕ)) (pid : ℕ) → sections_on pid past ++ filter_map (bytes_on pid) (heard_all past packets) ≡ sections_on pid (past ++ packets)
order past [] pid = append-nil (sections_on pid past) ∙ ap (sections_on pid) (sym (append-nil past))
order past (p ∷ packets) pid =
    let here = ended_by past p in
    let later = heard_all (past ++ p ∷ []) packets in
    ap (λ (x : List (List ℕ)). sections_on pid past ++ x) (filter_map-append (bytes_on pid) here later)
    ∙ sym (append_assoc (sections_on pid past) (filter_map (bytes_on pid) here) (filter_map (bytes_on pid) later))
    ∙ ap (λ (x : List (List ℕ)). x ++ filter_map (bytes_on pid) later) (ended_on pid past p)
    ∙ order (past ++ p ∷ []) packets pid
    ∙ ap (sections_on pid) (append_assoc past (p ∷ []) packets)

pub order_kept : OrderKept
order_kept packets pid = order [] packets pid
