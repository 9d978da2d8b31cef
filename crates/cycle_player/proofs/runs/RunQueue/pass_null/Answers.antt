use Rattle.std.proofs.Common.{◌≡◌, ◌≤◌, [], Some, sym, ◌∙◌, subst}
use Rattle.cycle_player.specs.Running.{Course, course_of, first_of, run_of, IsCourse, PassesNull}
use Rattle.cycle_player.proofs.Courses.{with_null, null_passed, begins_run}
use Rattle.cycle_player.proofs.runs.RunQueue.pass_null.Goals as goal

pub returns-then-self-timing-clause-null : goal.returns-then-self-timing-clause-null
returns-then-self-timing-clause-null c _ =
    let i = c.self.inside in
    let t = c.in-Some.timing in
    let first : first_of (course_of i).left ≡ Some t = subst (λ (x : Course). first_of x.left ≡ Some t) (sym c.self.view_is) (sym c.following.ensures ∙ c.in-Some.is) in
    let between : run_of (course_of i) ≡ [] = subst (λ (x : Course). run_of x ≡ []) (sym c.self.view_is) c.requires.between in
    subst (λ (x : Course). PassesNull x (with_null (course_of i))) c.self.view_is (null_passed t (course_of i) c.self.invariant.course between first c.if-self-timing.true)

pub returns-clause-run : goal.returns-clause-run
returns-clause-run c _ =
    let t = c.in-Some.timing in
    let first : first_of c.args.self.now.left ≡ Some t = sym c.following.ensures ∙ c.in-Some.is in
    begins_run t c.args.self.now c.begin_section.new.self (subst IsCourse c.self.view_is c.self.invariant.course) c.requires.between c.begin_section.ensures first
    (subst (λ (x : Course). t.first ≤ x.end) c.self.view_is c.if-self-timing.false)
