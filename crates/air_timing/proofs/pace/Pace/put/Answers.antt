use Rattle.std.proofs.Common.{ℕ, ◌+◌, ap, ◌∙◌}
use Rattle.air_timing.specs.PaceView.{Seen}
use Rattle.air_timing.proofs.Alone.{put_is}
use Rattle.air_timing.proofs.pace.Pace.put.Goals as goal

pub returns-clause-puts : goal.returns-clause-puts
returns-clause-puts c =
    let last = c.last_packet-last.result in
    let free = last + 1 + c.from.result in
    put_is c.args.section c.self.inside c.args.self.now c.self.view_is c.lane_of-self-inside.result c.first_packet-first.result last c.before-2.result c.used_at_end-used.result free
    (record {
      table = c.requires.table;
      lane_is = c.lane_of-self-inside.ensures;
      first_is = c.first_packet-first.ensures.first;
      last_is = c.last_packet-last.ensures.last;
      before_is = c.before-2.ensures.before;
      used_is = c.used_at_end-used.ensures.used;
      free_is = ap (λ (n : ℕ). last + 1 + n) (c.from.ensures ∙ ap (λ (s : Seen). s.spacing.gap) c.self.view_is);
    })
