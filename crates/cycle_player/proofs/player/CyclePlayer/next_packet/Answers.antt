use Rattle.std.proofs.Common.{sym, ap, ◌∙◌, ◌∷◌, subst}
use Rattle.cycle_player.specs.Player.{sending_by, sending_of}
use Rattle.cycle_player.specs.Sending.{Within}
use Rattle.cycle_player.proofs.player.CyclePlayer.next_packet.Goals as goal
use Rattle.cycle_player.proofs.player.CyclePlayer.next_packet.Goals.{in-Dense, in-Timed}

pub returns-clause-came : goal.returns-clause-came
returns-clause-came c = λ xs x p rest within.
    elim c.match-self.branch [
      | in-Dense w ↦
          let old = sym c.self.view_is ∙ ap (sending_by c.self.inside.tally) w.in-Dense.is in
          let came = w.next_packet.ensures.came xs x p rest (subst (Within xs x (p ∷ rest)) old within) in
          (w.result-is ∙ came.0, subst (Within xs x rest) (sym (ap sending_of w.self-inside-is)) came.1)
      | in-Timed w ↦
          let old = sym c.self.view_is ∙ ap (sending_by c.self.inside.tally) w.in-Timed.is in
          let came = w.next_packet-in-Timed.ensures.came xs x p rest (subst (Within xs x (p ∷ rest)) old within) in
          (w.result-is ∙ came.0, subst (Within xs x rest) (sym (ap sending_of w.self-inside-is)) came.1)
    ]
