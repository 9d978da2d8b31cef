use Rattle.std.proofs.Common.{◌+◌, ◌≤◌, length, arith, ◌∙◌, ap, drop}
use Rattle.si_lists.proofs.Lists.{range_drop, range_length}
use Rattle.si_causes.proofs.read_buffer.ReadBuffer.consume.Goals as goal

pub returns : goal.returns
returns g c =
    let inside = c.self.inside in
    let le : inside.start + c.args.count ≤ inside.end = omega (arith, range_length inside.buffer.items inside.start inside.end c.self.invariant.1, ap length c.self.view_is) in
    range_drop inside.buffer.items inside.start c.args.count inside.end le ∙ ap (drop c.args.count) c.self.view_is
