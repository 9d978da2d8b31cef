use Rattle.std.proofs.Common.{◌∙◌, sym, false, ℕ}
use Rattle.std.proofs.Common.{get_or}
use Rattle.sub_collect.specs.Collectors.{body_in}
use Rattle.sub_collect.specs.Slots.{held_with}
use Rattle.sub_collect.proofs.Fronts.{with_other, is_some-none, held-get}
use Rattle.sub_collect.proofs.Slots.{content_by-missing}
use Rattle.sub_collect.proofs.run.Run.misses.Goals as goal

pub returns-then-not-contains_key : goal.returns-then-not-contains_key
returns-then-not-contains_key c = λ body found.
    let entries = c.args.self.now.held.entries in
    let held = λ (n : ℕ). body_in n entries in
    let n = get_or c.args.numbers.now c.loop-i.i 0 in
    content_by-missing (held_with held c.args.put body) c.args.numbers.now c.loop-i.i 0 c.loop-i-test.true
    (with_other held c.args.put body n c.if-numbers-i.true ∙ is_some-none (held n) (held-get entries n false (sym c.if-not-contains_key.true ∙ c.contains_key.ensures)))
