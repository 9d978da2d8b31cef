use Rattle.std.proofs.Common.{List, sym, subst}
use Rattle.std.proofs.lemmas.Slice.Zip.{AllZip-long}
use Rattle.desk_hall.specs.Reads.{stream}
use Rattle.headend_jobs.specs.declared.jobs.FeedJob.{FeedJob}
use Rattle.headend_jobs.specs.declared.views.ViewJob.{ViewJob}
use Rattle.headend_jobs.specs.Jobs.{FeedDid, FeedsDid}
use Rattle.headend_jobs.specs.Views.{ViewsDid}
use Rattle.headend_jobs.proofs.Joining.{written_back}
use Rattle.headend_jobs.proofs.jobs.run_side_by_side.Goals as goal

pub returns-clause-others : goal.returns-clause-others
returns-clause-others g c =
    let st = stream g.F.Source.left g.F.Source.faults g.F.Source.same in
    let r = c.run_both in
    let old = c.args.others.now in
    let feeds = written_back old.feeds.len old.feeds.items r.new.feeds c.as_mut_slice.result.now old.feeds.ok.0 (AllZip-long (FeedDid st) c.as_mut_slice.result.now r.new.feeds r.ensures.feeds) c.as_mut_slice.ensures.value in
    let views = written_back old.views.len old.views.items r.new.views c.as_mut_slice-2.result.now old.views.ok.0 r.ensures.views.len c.as_mut_slice-2.ensures.value in
    record {
      feeds = subst (FeedsDid st old.feeds.items) (sym feeds) (subst (λ (l : List (FeedJob g.row.F.Denot)). FeedsDid st l r.new.feeds) c.as_mut_slice.ensures.value r.ensures.feeds);
      control = r.ensures.control;
      views = subst (ViewsDid old.views.items) (sym views) (subst (λ (l : List ViewJob). ViewsDid l r.new.views) c.as_mut_slice-2.ensures.value r.ensures.views);
    }
