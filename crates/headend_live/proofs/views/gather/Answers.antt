use Rattle.std.proofs.Common.{◌∙◌, ◌+◌, ◌<◌, List, length, refl, ap, subst, arith}
use Rattle.std.specs.List.{AllByRecursion}
use Rattle.guide_board.specs.declared.post.Post.{Post}
use Rattle.guide_board.specs.Posts.{Sight}
use Rattle.headend_jobs.specs.Views.{Viewed}
use Rattle.headend_live.specs.Viewing.{IsAsked}
use Rattle.headend_live.proofs.Viewed.{first_of, none_left, told_all, told_more, told_none}
use Rattle.headend_live.proofs.views.gather.Goals as goal

pub asked-init : goal.asked-init
asked-init c = record {
  board = refl;
  asked = c.requires.asked;
  told = λ cycles asked. told_none c.args.board.now cycles c.args.jobs.items c.args.views.viewers c.args.views.lines asked c.requires.none.0 c.requires.none.1;
}

pub asked-preserved : goal.asked-preserved
asked-preserved c =
    let i = c.asked.invariant in
    let some : 0 < length c.asked.jobs.items = omega (arith, c.remove-job.ensures.len, c.asked.jobs.ok.0) in
    let is = first_of c.asked.jobs.items c.remove-job.new.self.items c.remove-job.result some c.remove-job.ensures.value c.remove-job.ensures.items in
    let posts = ap (λ (s : Sight). s.posts) (c.in_ok-told.ensures.told ∙ i.board) in
    let viewed = subst (λ (l : List Post). Viewed l (length c.remove-job.result.answers.items + 1) c.remove-job.result.service c.finish.new.self.viewer c.finish.new.self.answers.items) posts c.finish.ensures.viewed in
    record {
      board = c.tell.ensures.writer ∙ i.board;
      asked = (i.asked.0, (subst (AllByRecursion (IsAsked c.args.board.now i.asked.0)) is i.asked.1).1);
      told = λ cycles asked. told_more c.args.board.now cycles c.args.jobs.items c.asked.jobs.items c.remove-job.new.self.items c.remove-job.result c.finish.new.self c.asked.views.viewers c.add.new.self.viewers c.asked.views.lines c.add.new.self.lines
          is c.finish.ensures.service viewed c.in_ok-add.ensures.lines c.in_ok-add.ensures.viewers (i.told cycles asked);
    }

pub returns : goal.returns
returns c = λ cycles asked.
    told_all c.args.board.now cycles c.args.jobs.items c.asked.jobs.items c.asked.views.viewers c.asked.views.lines
    (none_left c.asked.jobs.items _ c.is_empty.result c.is_empty.ensures c.asked-test.false c.asked.jobs.ok.0) (c.asked.invariant.told cycles asked)
