use Rattle.std.proofs.Common.{◌<◌, length, sym, ap, ◌∙◌, subst, arith, length-append}
use Rattle.std.proofs.lemmas.Bool.{leb-false}
use Rattle.std.proofs.lemmas.List.{drop_more}
use Rattle.air_timing.specs.declared.timing.Timing.{Timing}
use Rattle.air_model.specs.Bursts.{paced_packets}
use Rattle.carousel_player.specs.Packing.{packets_behind}
use Rattle.cycle_player.specs.Running.{Course, IsCourse, run_of, bursts_of}
use Rattle.cycle_player.proofs.Numbers.{some_first}
use Rattle.cycle_player.proofs.Courses.{some_at_hand, some_left}
use Rattle.cycle_player.proofs.Queues.{some_of, none_of}
use Rattle.cycle_player.proofs.runs.RunQueue.is_over.Goals as goal

pub returns-then-is_none-clause-some : goal.returns-then-is_none-clause-some
returns-then-is_none-clause-some c e from begun =
    let i = c.self.inside in
    let none : Timing = record { section = 0; first = 0; last = 0 } in
    let at = none_of i.at c.is_none.result c.is_none.ensures c.if-is_none.true in
    let before = leb-false c.len.result i.next e in
    let lt : i.next < length i.timings.items = omega (arith, before, c.len.ensures, i.timings.ok.0) in
    some_left c.args.self.now _ _ from (subst IsCourse c.self.view_is c.self.invariant.course) (ap (λ (x : Course). x.at) (sym c.self.view_is) ∙ at)
    (ap (λ (x : Course). x.left) (sym c.self.view_is) ∙ drop_more i.timings.items i.next none lt)

pub returns-else-is_none-clause-some : goal.returns-else-is_none-clause-some
returns-else-is_none-clause-some c e from begun =
    let q = c.args.self.now in
    let some = some_of c.self.inside.at c.is_none.result c.is_none.ensures e in
    let hand = some_at_hand q some.0 from (subst IsCourse c.self.view_is c.self.invariant.course) (ap (λ (x : Course). x.at) (sym c.self.view_is) ∙ some.1) begun in
    let front = packets_behind (run_of q) from in
    let rest = paced_packets (bursts_of q) in
    some_first _ (length front) (length rest) (length-append front rest) hand
