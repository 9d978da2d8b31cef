use Rattle.std.proofs.Common.{◌≡◌, ℕ, ◌≤◌, drop, length, nat_cmp}
use Rattle.std.specs.BTreeMap.{get}
use Rattle.guide_screen.specs.Screen.{pid_in}
use Rattle.guide_screen.proofs.screen.pids_of.Given as goal

-- those behind the ones that are left
abbrev pub invariant-loop-left : goal.invariant-loop-left
invariant-loop-left l = (l.left ≤ length l.programs)
    × ((program : ℕ) → get nat_cmp l.pids program ≡ pid_in program (drop l.left l.programs))

abbrev pub decreases-loop-left : goal.decreases-loop-left
decreases-loop-left l = l.left
