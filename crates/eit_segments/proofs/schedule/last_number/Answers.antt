use Rattle.std.proofs.Common.{◌≡◌, ℕ, ◌+◌, ◌-◌, ◌*◌, length, arith, ap, ◌∙◌}
use Rattle.eit_segments.specs.Schedule.{block_runs}
use Rattle.eit_segments.proofs.Order.{runs_between, runs_few, used_less}
use Rattle.eit_segments.proofs.schedule.last_number.Goals as goal

-- how many runs the last segment has
abbrev runs_of : goal.After-count_runs → ℕ
runs_of c = length (block_runs (c.args.first + c.args.used) c.args.events.now)

counted : (c : goal.After-count_runs) → c.count_runs.result ≡ runs_of c
counted c =
    c.count_runs.ensures
    ∙ ap length (runs_between (c.args.first + c.args.used) c.block_begin-from.result c.block_end-to.result c.args.events.now c.requires.events.order c.block_begin-from.ensures.place c.block_end-to.ensures.place c.block_end-to.ensures.bound.0)

pub overflow_sub-result : goal.overflow_sub-result
overflow_sub-result c =
    let few = runs_few (c.args.first + c.args.used) c.args.events.now c.requires.events.fit in
    omega (arith, counted c, few.0)

pub overflow_cast-result-2 : goal.overflow_cast-result-2
overflow_cast-result-2 c =
    let few = runs_few (c.args.first + c.args.used) c.args.events.now c.requires.events.fit in
    omega (arith, counted c, few.1)

pub overflow_add-result : goal.overflow_add-result
overflow_add-result c =
    let few = runs_few (c.args.first + c.args.used) c.args.events.now c.requires.events.fit in
    omega (arith, counted c, few.0, few.1, c.requires.used, used_less c.args.first 32 c.args.events.now (omega arith))

pub returns : goal.returns
returns c =
    let last = λ (n : ℕ). 8 * n + (length (block_runs (c.args.first + n) c.args.events.now) - 1) in
    ap (λ (n : ℕ). 8 * c.args.used + (n - 1)) (counted c) ∙ ap last c.requires.used
