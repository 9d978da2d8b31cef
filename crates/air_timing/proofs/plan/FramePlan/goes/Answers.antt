use Rattle.std.proofs.Common.{◌≡◌, ◌<◌, sym, ap, ◌∙◌, subst, arith, length}
use Rattle.std.proofs.lemmas.List.{get_or_default}
use Rattle.air_timing.specs.PlanView.{Course, course_of, goes}
use Rattle.air_timing.specs.Plan.{timed_of, section_at}
use Rattle.air_timing.proofs.Courses.{goes_is, are_of}
use Rattle.air_timing.proofs.plan.FramePlan.goes.Goals as goal

pub returns-else-self : goal.returns-else-self
returns-else-self c =
    let p = course_of c.self.inside in
    let x = c.index.result.now in
    let size : c.len.result ≡ length p.plan.body = omega (arith, c.len.ensures, c.self.inside.body.ok.0) in
    let less = c.if-self-len.false in
    let l : p.sent < length p.plan.body = omega arith in
    let section = subst (λ (q : Course). c.section-section.result ≡ section_at q.plan.sections x) (sym c.self.view_is) c.section-section.ensures.section in
    goes_is p x c.last.result l (c.index.ensures ∙ get_or_default p.plan.body p.sent x 0 l) c.if-self.false (c.last.ensures (timed_of p.plan) x (are_of p.plan x c.section-section.result section))
    ∙ ap goes c.self.view_is
