use Rattle.std.proofs.Common.{◌≡◌, ℕ, length}
use Rattle.std.specs.List.{AllByRecursion}
use Rattle.headend_live.specs.Viewing.{IsAsked}
use Rattle.headend_live.proofs.Viewed.{AreTold}
use Rattle.headend_live.proofs.views.gather.Given as goal

abbrev pub invariant-asked : goal.invariant-asked
invariant-asked l = record {
  board : l.board ≡ l.fn.board;
  asked : (cycles : ℕ) × AllByRecursion (IsAsked l.fn.board cycles) l.jobs.items;
  told : (cycles : ℕ) → AllByRecursion (IsAsked l.fn.board cycles) l.fn.jobs.items → AreTold l.fn.board cycles l.fn.jobs.items l.jobs.items l.views.viewers l.views.lines;
}

abbrev pub decreases-asked : goal.decreases-asked
decreases-asked l = length l.jobs.items
