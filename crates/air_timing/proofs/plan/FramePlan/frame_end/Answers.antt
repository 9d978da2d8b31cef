use Rattle.std.proofs.Common.{◌≡◌, true, refl, sym, ap, ◌∙◌, subst}
use Rattle.std.specs.Prelude.{slice_index}
use Rattle.air_timing.specs.PlanView.{Course, course_of, lead_of, end_of, leads_on}
use Rattle.air_timing.specs.Plan.{timed_of, section_at}
use Rattle.air_timing.proofs.Courses.{end_first, are_of}
use Rattle.air_timing.proofs.plan.FramePlan.frame_end.Goals as goal

pub returns-then-self-eq0 : goal.returns-then-self-eq0
returns-then-self-eq0 c =
    let p = course_of c.self.inside in
    let x = slice_index (lead_of p) p.led in
    let on = subst (λ (q : Course). leads_on q ≡ true) (sym c.self.view_is) c.requires.lead in
    let section = subst (λ (q : Course). c.args.section ≡ section_at q.plan.sections (slice_index (lead_of q) q.led)) (sym c.self.view_is) c.requires.section in
    end_first p x c.first.result on refl c.if-self-eq0.true (c.first.ensures.first (timed_of p.plan) x (are_of p.plan x c.args.section section)) ∙ ap end_of c.self.view_is
