use Rattle.std.proofs.Common.{◌≡◌, ◌+◌, length}
use Rattle.std.specs.List.{All}
use Rattle.guide_board.specs.Posts.{Sight}
use Rattle.headend_live.proofs.Viewed.{HaveJobs}
use Rattle.headend_live.proofs.views.view_jobs.Given as goal

abbrev pub invariant-loop-service : goal.invariant-loop-service
invariant-loop-service l = record {
  left : length l.viewers.items + l.service-index ≡ length l.services;
  have : (board : Sight) → All (λ (v : Sight). v ≡ board) l.fn.viewers.items → HaveJobs board l.cycles l.services l.service-index l.viewers.items l.jobs.items;
}
