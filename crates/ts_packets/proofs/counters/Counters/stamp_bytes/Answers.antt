use Rattle.std.proofs.Common.{◌≡◌, ◌∷◌, ◌++◌, [], set, ◌+◌, ◌*◌, ◌/◌, ◌%◌, ℕ, List, slice_set, slice_index, get_or-set_other, ap, ap₂, sym, ◌∙◌, subst, arith}
use Rattle.std.specs.Prelude.{Option, Some}
use Rattle.ts_packets.specs.Bytes.{pid_in}
use Rattle.ts_packets.specs.Counting.{StandFor, count_on}
use Rattle.ts_packets.proofs.Stamps.{StandFor-push, stamped_counter}
use Rattle.ts_packets.proofs.counters.Counters.stamp_bytes.Goals as goal

pub returns-clause-stamped : goal.returns-clause-stamped
returns-clause-stamped c past s =
    let packet = c.args.packet.now in
    let pid = c.from.result * 256 + c.from-2.result in
    let counters = c.self.inside.next in
    let told : pid_in packet ≡ pid = ap₂ (λ (a b : ℕ). a * 256 + b) (sym c.from.ensures) (sym c.from-2.ensures) in
    let stands : StandFor past counters = subst (λ (x : List (Option ℕ)). StandFor past x) (sym c.self.view_is) s in
    let counter : c.unwrap_or-counter.result % 16 ≡ count_on (pid_in packet) past % 16 =
    ap (λ (n : ℕ). n % 16) c.unwrap_or-counter.ensures ∙ stamped_counter past counters pid stands (omega arith) ∙ ap (λ (q : ℕ). count_on q past % 16) (sym told) in
    ap (slice_set packet 3) (let e : slice_index packet 3 / 16 * 16 + c.unwrap_or-counter.result % 16 ≡ 16 * (slice_index packet 3 / 16) + count_on (pid_in packet) past % 16 = omega (arith, counter) in e)

pub returns-clause-counted : goal.returns-clause-counted
returns-clause-counted c past s =
    let packet = c.args.packet.now in
    let pid = c.from.result * 256 + c.from-2.result in
    let counters = c.self.inside.next in
    let told : pid_in packet ≡ pid = ap₂ (λ (a b : ℕ). a * 256 + b) (sym c.from.ensures) (sym c.from-2.ensures) in
    let byte = slice_index packet 3 / 16 * 16 + c.unwrap_or-counter.result % 16 in
    let same : pid_in (slice_set packet 3 byte) ≡ pid_in packet =
    ap₂ (λ (a b : ℕ). (a % 32) * 256 + b) (get_or-set_other packet 3 1 byte 0 (omega arith)) (get_or-set_other packet 3 2 byte 0 (omega arith)) in
    let stands : StandFor past counters = subst (λ (x : List (Option ℕ)). StandFor past x) (sym c.self.view_is) s in
    subst (λ (n : ℕ). StandFor (past ++ slice_set packet 3 byte ∷ []) (set counters pid (Some ((n % 16 + 1) % 16)))) (sym c.unwrap_or-counter.ensures)
    (StandFor-push past counters (slice_set packet 3 byte) pid stands c.self.invariant.size (omega arith) (same ∙ told))
