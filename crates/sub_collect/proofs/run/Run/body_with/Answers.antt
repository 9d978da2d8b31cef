use Rattle.std.proofs.Common.{Some, ap, sym, ◌∙◌}
use Rattle.sub_collect.specs.Collectors.{body_in}
use Rattle.sub_collect.proofs.Slots.{body_in-get}
use Rattle.sub_collect.proofs.Fronts.{with_other}
use Rattle.sub_collect.proofs.run.Run.body_with.Goals as goal

pub returns-in-Some : goal.returns-in-Some
returns-in-Some c =
    let entries = c.args.self.now.held.entries in
    ap Some c.as_slice.ensures ∙ c.in-Some.ensures.value ∙ body_in-get c.args.number entries
    ∙ sym (with_other (λ n. body_in n entries) c.args.put c.args.body.now c.args.number c.if-number-put.false)

pub returns-in-None : goal.returns-in-None
returns-in-None c =
    let entries = c.args.self.now.held.entries in
    c.in-None.ensures.value ∙ body_in-get c.args.number entries
    ∙ sym (with_other (λ n. body_in n entries) c.args.put c.args.body.now c.args.number c.if-number-put.false)
