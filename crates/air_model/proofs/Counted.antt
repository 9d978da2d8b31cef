-- Packets with their counters.
use Rattle.std.proofs.Common.{◌≡◌, ℕ, suc, ◌+◌, ◌%◌, ◌<◌, List, [], ◌∷◌, ◌++◌, Bool, true, false, Some, None, length, refl, sym, ap, ◌∙◌, subst, arith, append_assoc, append-nil}
use Rattle.std.specs.Prelude.{◌==◌, if◌then◌else◌}
use Rattle.std.specs.List.{AllByRecursion, cons_option}
use Rattle.std.proofs.lemmas.Bool.{eqb-true}
use Rattle.ts_packets.specs.Packets.{Piece}
use Rattle.ts_packets.specs.Bytes.{Packet, HasFields}
use Rattle.ts_packets.specs.Counting.{Load, loads_on, piece_on, of_pid, Count}
use Rattle.ts_packets.proofs.Stamps.{loads_on-append, Count-append}
use Rattle.air_model.specs.Making.{count_behind, counted}

-- counters change no piece
pub of_pid-counted : (pid : ℕ) (past ps : List Packet) → of_pid pid (counted past ps) ≡ of_pid pid ps
of_pid-counted pid past [] = refl
of_pid-counted pid past (p ∷ ps) = ap (λ (x : List Piece). cons_option (piece_on pid p) x) (of_pid-counted pid (past ++ count_behind past p ∷ []) ps)

pub counted-append : (past ps qs : List Packet) → counted past (ps ++ qs) ≡ counted past ps ++ counted (past ++ counted past ps) qs
counted-append past [] qs = ap (λ (x : List Packet). counted x qs) (sym (append-nil past))
counted-append past (p ∷ ps) qs =
    let q = count_behind past p in
    ap (λ (x : List Packet). q ∷ x) (counted-append (past ++ q ∷ []) ps qs)
    ∙ ap (λ (x : List Packet). q ∷ counted (past ++ q ∷ []) ps ++ counted x qs) (append_assoc past (q ∷ []) (counted (past ++ q ∷ []) ps))

pub length-counted : (past ps : List Packet) → length (counted past ps) ≡ length ps
length-counted past [] = refl
length-counted past (p ∷ ps) = ap suc (length-counted (past ++ count_behind past p ∷ []) ps)

-- the fields of packets whose PIDs fit
abbrev pub PidsFit : List Packet → Type 0
PidsFit ps = AllByRecursion (λ (p : Packet). p.pid < 8192) ps

pub fields-counted : (past ps : List Packet) → PidsFit ps → AllByRecursion HasFields (counted past ps)
fields-counted past [] h = tt
fields-counted past (p ∷ ps) h = (record { pid = h.0; counter = omega arith }, fields-counted (past ++ count_behind past p ∷ []) ps h.1)

count_one : (past : List Packet) (p : Packet) (pid : ℕ) → Count 0 (loads_on pid past) → Count 0 (loads_on pid (past ++ count_behind past p ∷ []))
count_one past p pid h = subst (Count 0) (sym (loads_on-append pid past (q ∷ []))) (go (p.pid == pid) refl)
  where
    q : Packet
    q = count_behind past p

    load : Load
    load = record { counter = length (loads_on p.pid past) % 16; piece = p.piece }

    go : (b : Bool) → (p.pid == pid) ≡ b → Count 0 (loads_on pid past ++ cons_option (if p.pid == pid then Some load else None) [])
    go true e =
        let same : p.pid ≡ pid = eqb-true p.pid pid e in
        let one : length (loads_on p.pid past) % 16 ≡ (0 + length (loads_on pid past)) % 16 = ap (λ (n : ℕ). length (loads_on n past) % 16) same ∙ ap (λ (n : ℕ). n % 16) (omega arith) in
        subst (λ (x : Bool). Count 0 (loads_on pid past ++ cons_option (if x then Some load else None) [])) (sym e)
        (Count-append 0 (loads_on pid past) (load ∷ []) h (one, tt))
    go false e = subst (λ (x : Bool). Count 0 (loads_on pid past ++ cons_option (if x then Some load else None) [])) (sym e)
        (subst (Count 0) (sym (append-nil (loads_on pid past))) h)

-- packets behind the past go on counting
pub count-counted : (past ps : List Packet) (pid : ℕ) → Count 0 (loads_on pid past) → Count 0 (loads_on pid (past ++ counted past ps))
count-counted past [] pid h = subst (λ (x : List Packet). Count 0 (loads_on pid x)) (sym (append-nil past)) h
count-counted past (p ∷ ps) pid h =
    let q = count_behind past p in
    subst (λ (x : List Packet). Count 0 (loads_on pid x)) (append_assoc past (q ∷ []) (counted (past ++ q ∷ []) ps)) (count-counted (past ++ q ∷ []) ps pid (count_one past p pid h))
