use Rattle.std.proofs.Common.{◌≡◌, ℕ, List, length, sym, ap, subst, ◌∙◌}
use Rattle.std.specs.Prelude.{Option}
use Rattle.ts_packets.specs.PidCounters.{AreCountersOf}
use Rattle.ts_packets.proofs.KeptCounters.{kept_are, kept_all, kept_at_end}
use Rattle.ts_packets.proofs.counters.Counters.kept.Goals as goal

pub returns-clause-kept : goal.returns-clause-kept
returns-clause-kept c = kept_at_end c.loop-pid.kept c.self.inside.next c.args.self.now c.loop-pid.pid c.self.view_is c.self.invariant c.loop-pid-test.false c.loop-pid.invariant

pub returns-clause-counters : goal.returns-clause-counters
returns-clause-counters c past stands =
    let kept = kept_at_end c.loop-pid.kept c.self.inside.next c.args.self.now c.loop-pid.pid c.self.view_is c.self.invariant c.loop-pid-test.false c.loop-pid.invariant in
    subst (AreCountersOf past) (sym kept.all) (kept_are past c.args.self.now stands)

pub returns-clause-all : goal.returns-clause-all
returns-clause-all c past stands =
    let kept = kept_at_end c.loop-pid.kept c.self.inside.next c.args.self.now c.loop-pid.pid c.self.view_is c.self.invariant c.loop-pid-test.false c.loop-pid.invariant in
    let size : length c.args.self.now ≡ 8192 = ap (λ (l : List (Option ℕ)). length l) (sym c.self.view_is) ∙ c.self.invariant.size in
    kept.all ∙ kept_all past c.args.self.now size stands
