use Rattle.std.proofs.Common.{◌%◌, ℕ, List, ap, sym, ◌∙◌, subst, arith}
use Rattle.std.specs.Prelude.{Option}
use Rattle.ts_packets.specs.Counting.{StandFor, count_on}
use Rattle.ts_packets.proofs.Stamps.{stamped_counter}
use Rattle.ts_packets.proofs.counters.Counters.next.Goals as goal

pub returns : goal.returns
returns c past s =
    let stands : StandFor past c.self.inside.next = subst (λ (x : List (Option ℕ)). StandFor past x) (sym c.self.view_is) s in
    ap (λ (n : ℕ). n % 16) c.unwrap_or.ensures ∙ stamped_counter past c.self.inside.next c.from.result stands (omega (arith, c.from.ensures, c.requires)) ∙ ap (λ (k : ℕ). count_on k past % 16) c.from.ensures
