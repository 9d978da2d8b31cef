use Rattle.std.proofs.Common.{◌≡◌, false, sym, ap, ◌∙◌, subst, arith, length}
use Rattle.air_timing.specs.PlanView.{Course, course_of, left_of, leads_on, goes, is_over}
use Rattle.air_timing.specs.Plan.{next_lead}
use Rattle.air_timing.proofs.Courses.{begins, next_first, next_more}
use Rattle.air_timing.proofs.plan.FramePlan.begin_lead.Goals.{then-next-len, else-next-len}
use Rattle.air_timing.proofs.plan.FramePlan.begin_lead.Goals as goal

pub returns-clause-left : goal.returns-clause-left
returns-clause-left c =
    let p = course_of c.self.inside in
    let size : c.len.result ≡ length p.plan.leads = omega (arith, c.len.ensures, c.self.inside.leads.ok.0) in
    let at : c.if-next-len.self ≡ next_lead p.plan.leads p.lead = elim c.if-next-len.branch [
      | then-next-len w ↦ w.self-is ∙ sym (next_first p.plan.leads p.lead c.len.result size w.if-next-len.true)
      | else-next-len w ↦ w.self-is ∙ sym (next_more p.plan.leads p.lead c.len.result size w.if-next-len.false)
    ] in
    (begins p c.self.invariant (subst (λ (q : Course). leads_on q ≡ false) (sym c.self.view_is) c.requires.lead) (subst (λ (q : Course). goes q ≡ false) (sym c.self.view_is) c.requires.goes)
    (subst (λ (q : Course). is_over q ≡ false) (sym c.self.view_is) c.requires.more) c.if-next-len.self at).left ∙ ap left_of c.self.view_is

pub invariant_of-self : goal.invariant_of-self
invariant_of-self c =
    let p = course_of c.self.inside in
    let size : c.len.result ≡ length p.plan.leads = omega (arith, c.len.ensures, c.self.inside.leads.ok.0) in
    let at : c.if-next-len.self ≡ next_lead p.plan.leads p.lead = elim c.if-next-len.branch [
      | then-next-len w ↦ w.self-is ∙ sym (next_first p.plan.leads p.lead c.len.result size w.if-next-len.true)
      | else-next-len w ↦ w.self-is ∙ sym (next_more p.plan.leads p.lead c.len.result size w.if-next-len.false)
    ] in
    (begins p c.self.invariant (subst (λ (q : Course). leads_on q ≡ false) (sym c.self.view_is) c.requires.lead) (subst (λ (q : Course). goes q ≡ false) (sym c.self.view_is) c.requires.goes)
    (subst (λ (q : Course). is_over q ≡ false) (sym c.self.view_is) c.requires.more) c.if-next-len.self at).is
