use Rattle.std.proofs.Common.{◌≡◌, ◌∙◌, ap, ◌<◌}
use Rattle.si_time.specs.Moments.{duration_bcd}
use Rattle.si_time.specs.Readings.{duration_from_bcd}
use Rattle.si_time.proofs.RoundTrips.{duration_from_bcd-is, duration_from_bcd-duration_bcd}
use Rattle.si_time.proofs.Values.{each_number}
use Rattle.si_time.proofs.duration.duration_from_bcd.Goals as goal

pub returns-clause-bound : goal.returns-clause-bound
returns-clause-bound c =
    each_number c.duration_from_bcd.result (duration_from_bcd c.args.bytes) (λ t. t < 360000) c.duration_from_bcd.ensures (λ t e. (duration_from_bcd-is c.args.bytes t e).0)

pub returns-clause-written : goal.returns-clause-written
returns-clause-written c =
    each_number c.duration_from_bcd.result (duration_from_bcd c.args.bytes) (λ t. c.args.bytes ≡ duration_bcd t) c.duration_from_bcd.ensures (λ t e. (duration_from_bcd-is c.args.bytes t e).1)

pub returns-clause-back : goal.returns-clause-back
returns-clause-back c = λ t h e. c.duration_from_bcd.ensures ∙ (ap duration_from_bcd e ∙ duration_from_bcd-duration_bcd t h)
