use Rattle.std.proofs.Common.{◌≡◌, true, false, sym, ap, ◌∙◌, subst}
use Rattle.std.specs.Prelude.{slice_index}
use Rattle.air_timing.specs.PlanView.{Course, course_of, left_of, leads_on, goes}
use Rattle.air_timing.specs.Plan.{timed_of, section_at}
use Rattle.air_timing.proofs.Courses.{IsSent, sends_body, goes_sent, are_of}
use Rattle.air_timing.proofs.plan.FramePlan.send_body.Goals as goal

pub invariant_of-self : goal.invariant_of-self
invariant_of-self c =
    let p = course_of c.self.inside in
    let x = c.body_section-index.result in
    let off = subst (λ (q : Course). leads_on q ≡ false) (sym c.self.view_is) c.requires.lead in
    let on = subst (λ (q : Course). goes q ≡ true) (sym c.self.view_is) c.requires.goes in
    let at = subst (λ (q : Course). x ≡ slice_index q.plan.body q.sent) (sym c.self.view_is) c.body_section-index.ensures.value in
    let section = subst (λ (q : Course). c.section-section.result ≡ section_at q.plan.sections x) (sym c.self.view_is) c.section-section.ensures.section in
    let sent : IsSent p c.put-extent.new.self x c.put-extent.result.first c.put-extent.result.last = record {
      puts = c.put-extent.ensures.puts (timed_of p.plan) x (are_of p.plan x c.section-section.result section);
      tables = c.put-extent.ensures.tables;
      spacing = c.put-extent.ensures.spacing;
      most = c.put-extent.ensures.most;
    } in
    let s = sends_body p c.put-extent.new.self x c.put-extent.result.first c.put-extent.result.last c.self.invariant off on (goes_sent p on) at sent in
    s.is

pub returns : goal.returns
returns c =
    let p = course_of c.self.inside in
    let x = c.body_section-index.result in
    let off = subst (λ (q : Course). leads_on q ≡ false) (sym c.self.view_is) c.requires.lead in
    let on = subst (λ (q : Course). goes q ≡ true) (sym c.self.view_is) c.requires.goes in
    let at = subst (λ (q : Course). x ≡ slice_index q.plan.body q.sent) (sym c.self.view_is) c.body_section-index.ensures.value in
    let section = subst (λ (q : Course). c.section-section.result ≡ section_at q.plan.sections x) (sym c.self.view_is) c.section-section.ensures.section in
    let sent : IsSent p c.put-extent.new.self x c.put-extent.result.first c.put-extent.result.last = record {
      puts = c.put-extent.ensures.puts (timed_of p.plan) x (are_of p.plan x c.section-section.result section);
      tables = c.put-extent.ensures.tables;
      spacing = c.put-extent.ensures.spacing;
      most = c.put-extent.ensures.most;
    } in
    let s = sends_body p c.put-extent.new.self x c.put-extent.result.first c.put-extent.result.last c.self.invariant off on (goes_sent p on) at sent in
    sym (ap left_of c.self.view_is) ∙ s.left
