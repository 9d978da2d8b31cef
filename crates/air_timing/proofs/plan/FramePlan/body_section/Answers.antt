use Rattle.std.proofs.Common.{◌≡◌, ℕ, ◌<◌, true, sym, ◌∙◌, subst, length}
use Rattle.std.specs.Prelude.{slice_index}
use Rattle.std.proofs.lemmas.List.{get_or_default}
use Rattle.air_timing.specs.PlanView.{Course, course_of, goes}
use Rattle.air_timing.proofs.Courses.{goes_sent}
use Rattle.air_timing.proofs.plan.FramePlan.body_section.Goals as goal

pub returns-clause-bound : goal.returns-clause-bound
returns-clause-bound c =
    let p = course_of c.self.inside in
    let l = goes_sent p (subst (λ (q : Course). goes q ≡ true) (sym c.self.view_is) c.requires) in
    let at : c.index.result.now ≡ slice_index p.plan.body p.sent = c.index.ensures ∙ get_or_default p.plan.body p.sent c.index.result.now 0 l in
    subst (λ (q : Course). c.index.result.now < length q.plan.sections) c.self.view_is
    (subst (λ (n : ℕ). n < length p.plan.sections) (sym at) (c.self.invariant.plan.body_is p.sent l))
