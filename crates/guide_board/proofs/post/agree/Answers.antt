use Rattle.std.proofs.Common.{List, ap, subst}
use mathlib.Core.List.{IsPrefix}
use Rattle.guide_board.specs.declared.post.Post.{Post}
use Rattle.guide_board.proofs.Posts.{one_begins}
use Rattle.guide_board.proofs.post.agree.Goals as goal

pub returns : goal.returns
returns c =
    let both = c.learn.new.self.log in
    one_begins c.args.one.now.log c.args.other.now.log both (subst (λ (l : List Post). IsPrefix l both) (ap (λ s. s.log) c.again-both.ensures) c.learn.ensures.2) c.learn.ensures.3
