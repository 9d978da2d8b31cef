use Rattle.std.proofs.Common.{ℕ, ◌≡◌, ◌++◌, drop}
use Rattle.sub_collect.specs.Collectors.{body_in}
use Rattle.sub_collect.specs.PartSlots.{held_by}
use Rattle.sub_collect.proofs.run.Run.held_of.Given as goal

abbrev pub invariant-loop-i : goal.invariant-loop-i
invariant-loop-i l =
    let bodies = λ (n : ℕ). body_in n l.self.held.entries in
    l.sections.items ++ held_by bodies (drop l.i l.numbers) ≡ held_by bodies l.numbers
