use Rattle.std.proofs.Common.{◌≡◌, drop}
use Rattle.sub_collect.specs.Collectors.{body_in}
use Rattle.sub_collect.specs.Slots.{held_with, content_by}
use Rattle.sub_collect.proofs.Gathering.{with_front}
use Rattle.sub_collect.proofs.run.Run.bodies_with.Given as goal

abbrev pub invariant-loop-i : goal.invariant-loop-i
invariant-loop-i l =
    let held = held_with (λ n. body_in n l.self.held.entries) l.put l.body in
    content_by held l.numbers ≡ with_front l.sections.items (content_by held (drop l.i l.numbers))
