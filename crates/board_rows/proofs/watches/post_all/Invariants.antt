use Rattle.std.proofs.Common.{◌≡◌}
use Rattle.guide_board.specs.Posts.{services_of, services_in}
use Rattle.board_rows.proofs.watches.post_all.Given as goal

abbrev pub invariant-loop-number : goal.invariant-loop-number
invariant-loop-number g l = services_of l.guide.guide ≡ services_in l.writer.posts
