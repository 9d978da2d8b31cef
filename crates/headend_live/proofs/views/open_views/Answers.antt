use Rattle.std.proofs.Common.{sym, subst}
use Rattle.desk_core.specs.declared.airing.Airing.{Airing}
use Rattle.guide_board.specs.Posts.{IsInOrder}
use Rattle.headend_jobs.proofs.Posts.{guide_in_order}
use Rattle.headend_live.proofs.views.open_views.Goals as goal

pub board-requires : goal.board-requires
board-requires g c = record { order = subst (λ (a : Airing). IsInOrder a.guide) (sym c.opening.view_is) (guide_in_order c.in_ok-opening.opening.guide c.in_ok-opening.ensures.within) }
