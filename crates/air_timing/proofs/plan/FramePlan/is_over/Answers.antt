use Rattle.std.proofs.Common.{◌<◌, sym, ap, ◌∙◌, arith, length}
use Rattle.std.proofs.lemmas.Bool.{lt-leb}
use Rattle.air_timing.specs.PlanView.{course_of, is_over}
use Rattle.air_timing.proofs.Courses.{not_over}
use Rattle.air_timing.proofs.plan.FramePlan.is_over.Goals as goal

pub returns-else-self-len : goal.returns-else-self-len
returns-else-self-len c =
    let p = course_of c.self.inside in
    let less = c.if-self-len.false in
    let size = c.len.ensures in
    let l : p.sent < length p.plan.body = omega arith in
    lt-leb c.len.result c.self.inside.sent less ∙ sym (not_over p l) ∙ ap is_over c.self.view_is
