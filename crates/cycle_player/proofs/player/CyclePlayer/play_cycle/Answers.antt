use Rattle.std.proofs.Common.{sym, ap, ◌∙◌, subst}
use Rattle.cycle_player.specs.Player.{sending_by}
use Rattle.cycle_player.specs.Sending.{Within}
use Rattle.cycle_player.proofs.player.CyclePlayer.play_cycle.Goals as goal
use Rattle.cycle_player.proofs.player.CyclePlayer.play_cycle.Goals.{in-Dense, in-Timed}

pub returns-clause-done : goal.returns-clause-done
returns-clause-done g c = λ xs x rest within.
    elim c.match-self.branch [
      | in-Dense w ↦
          let old = sym c.self.view_is ∙ ap (sending_by c.self.inside.tally) w.in-Dense.is in
          let done = w.play_cycle.ensures.done xs x rest (subst (Within xs x rest) old within) in
          rw (w.result-is, w.sink-is, w.self-inside-is) done
      | in-Timed w ↦
          let old = sym c.self.view_is ∙ ap (sending_by c.self.inside.tally) w.in-Timed.is in
          let done = w.play_cycle-in-Timed.ensures.done xs x rest (subst (Within xs x rest) old within) in
          rw (w.result-is, w.sink-is, w.self-inside-is) done
    ]

pub returns-clause-failed : goal.returns-clause-failed
returns-clause-failed g c = λ xs x rest within.
    elim c.match-self.branch [
      | in-Dense w ↦
          let old = sym c.self.view_is ∙ ap (sending_by c.self.inside.tally) w.in-Dense.is in
          let failed = w.play_cycle.ensures.failed xs x rest (subst (Within xs x rest) old within) in
          rw (w.result-is, w.sink-is, w.self-inside-is) failed
      | in-Timed w ↦
          let old = sym c.self.view_is ∙ ap (sending_by c.self.inside.tally) w.in-Timed.is in
          let failed = w.play_cycle-in-Timed.ensures.failed xs x rest (subst (Within xs x rest) old within) in
          rw (w.result-is, w.sink-is, w.self-inside-is) failed
    ]
