use Rattle.std.proofs.Common.{rules, ◌≡◌, ◌∷◌, ◌++◌, [], List, refl, sym, subst, Ok}
use Rattle.guide_board.specs.Posts.{AnswersNewest}
use Rattle.guide_board.specs.declared.lines.NowNext.{NowNext}
use Rattle.headend_jobs.specs.Views.{AreSaid}
use Rattle.headend_jobs.proofs.Viewing.{said_more}
use Rattle.headend_jobs.proofs.views.ask.Goals as goal

pub returns-clause-asked : goal.returns-clause-asked
returns-clause-asked c =
    let old = c.args.job.now in
    let posts = c.now_next.new.self.posts in
    let newest : AnswersNewest posts old.service (Ok c.in-Ok.answer) = search rules in
    let items : c.push_reserved.new.self.items ≡ old.answers.items ++ c.in-Ok.answer ∷ [] = search rules in
    record {
      service = refl;
      times = refl;
      board = search rules;
      seen = c.now_next.ensures.seen;
      services = search rules;
      said = subst (λ (l : List NowNext). AreSaid posts old.service l) (sym items)
          (said_more old.service old.viewer.posts posts old.answers.items c.in-Ok.answer c.now_next.ensures.seen newest c.requires.said);
      count = search rules;
      capacity = search rules;
    }

pub returns-clause-newest : goal.returns-clause-newest
returns-clause-newest c =
    let newest : AnswersNewest c.now_next.new.self.posts c.args.job.now.service (Ok c.in-Ok.answer) = search rules in
    let items : c.push_reserved.new.self.items ≡ c.args.job.now.answers.items ++ c.in-Ok.answer ∷ [] = search rules in
    (c.args.job.now.answers.items, c.in-Ok.answer, items, newest)
