use Rattle.std.proofs.Common.{◌≡◌, ◌∷◌, ◌++◌, [], set, ◌+◌, ◌*◌, ◌%◌, ℕ, List, ap₂, sym, subst, arith}
use Rattle.std.specs.Prelude.{Option, Some}
use Rattle.ts_packets.specs.Bytes.{pid_in}
use Rattle.ts_packets.specs.Counting.{StandFor}
use Rattle.ts_packets.proofs.Stamps.{StandFor-push}
use Rattle.ts_packets.proofs.counters.Counters.count.Goals as goal

pub returns : goal.returns
returns c past s =
    let packet = c.args.packet.now in
    let pid = c.from.result * 256 + c.from-2.result in
    let counters = c.self.inside.next in
    let told : pid_in packet ≡ pid = ap₂ (λ (a b : ℕ). a * 256 + b) (sym c.from.ensures) (sym c.from-2.ensures) in
    let stands : StandFor past counters = subst (λ (x : List (Option ℕ)). StandFor past x) (sym c.self.view_is) s in
    subst (λ (n : ℕ). StandFor (past ++ packet ∷ []) (set counters pid (Some ((n % 16 + 1) % 16)))) (sym c.unwrap_or-counter.ensures)
    (StandFor-push past counters packet pid stands c.self.invariant.size (omega arith) told)
