use Rattle.std.proofs.Common.{◌-◌, arith}
use Rattle.table_bodies.specs.declared.pat.PatEntry.{PatEntry}
use Rattle.guide_screen.proofs.Pids.{pid_put}
use Rattle.guide_screen.proofs.screen.pids_of.Goals as goal

pub loop-left-preserved : goal.loop-left-preserved
loop-left-preserved c =
    let left = c.loop-left.left - 1 in
    let nothing : PatEntry = record { program = 0; pid = 0 } in (
      omega (arith, c.loop-left.invariant.0),
      pid_put c.args.programs.now left c.loop-left.left nothing c.loop-left.pids c.insert.new.self
          (omega (arith, c.loop-left-test.true, c.loop-left.invariant.0))
          (omega (arith, c.loop-left-test.true)) c.loop-left.invariant.1 c.in_ok-insert.ensures.updates,
    )
