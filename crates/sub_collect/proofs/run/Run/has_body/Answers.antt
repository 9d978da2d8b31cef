use Rattle.std.proofs.Common.{List, ℕ, ap, ◌∙◌}
use Rattle.std.specs.Prelude.{bytes_eq}
use Rattle.sub_collect.specs.Slots.{is_body}
use Rattle.sub_collect.proofs.Slots.{body_in-get}
use Rattle.sub_collect.proofs.run.Run.has_body.Goals as goal

pub returns-in-Some : goal.returns-in-Some
returns-in-Some c =
    let entries = c.args.self.now.held.entries in
    c.eq.ensures ∙ ap (λ (x : List ℕ). bytes_eq x c.args.body.now) c.as_slice.ensures
    ∙ ap (λ o. is_body o c.args.body.now) (c.in-Some.ensures.value ∙ body_in-get c.args.number entries)

pub returns-in-None : goal.returns-in-None
returns-in-None c =
    let entries = c.args.self.now.held.entries in
    ap (λ o. is_body o c.args.body.now) (c.in-None.ensures.value ∙ body_in-get c.args.number entries)
