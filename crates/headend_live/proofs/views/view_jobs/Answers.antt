use Rattle.std.proofs.Common.{◌≡◌, ◌+◌, ◌∷◌, [], length, length-append, arith, ap, ◌∙◌}
use Rattle.headend_live.proofs.Viewed.{jobs_none, jobs_more}
use Rattle.headend_live.proofs.views.view_jobs.Goals as goal

pub loop-service-init : goal.loop-service-init
loop-service-init c = record {
  left = omega (arith, c.requires.viewers);
  have = λ board all. jobs_none board c.args.cycles c.args.services.now c.args.viewers.items c.in_ok-jobs.jobs.items c.in_ok-jobs.ensures.items all;
}

pub loop-service-preserved : goal.loop-service-preserved
loop-service-preserved c =
    let i = c.loop-service.invariant in
    let one : length c.loop-service.viewers.items ≡ length c.pop.new.self.items + 1 = ap length c.in-Some.ensures.items ∙ length-append c.pop.new.self.items (c.in-Some.viewer ∷ []) in
    record {
      left = omega (arith, i.left, one);
      have = λ board all. jobs_more board c.args.cycles c.loop-service.service-index _ c.args.services.now c.loop-service.viewers.items c.pop.new.self.items c.in-Some.viewer c.loop-service.jobs.items c.push.new.self.items _
          c.loop-service-test.true c.in-Some.ensures.items c.in_ok-view_job.ensures c.in_ok-push.ensures.items (i.have board all);
    }
