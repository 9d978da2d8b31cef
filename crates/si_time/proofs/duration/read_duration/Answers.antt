use Rattle.std.proofs.Common.{◌≡◌, ◌∙◌, ap, ◌<◌}
use Rattle.si_time.specs.Moments.{duration_text}
use Rattle.si_time.specs.Readings.{duration_in}
use Rattle.si_time.proofs.TextFacts.{duration_in-is, duration_in-duration_text}
use Rattle.si_time.proofs.Values.{each_number}
use Rattle.si_time.proofs.duration.read_duration.Goals as goal

pub returns-clause-bound : goal.returns-clause-bound
returns-clause-bound c =
    each_number c.duration_in.result (duration_in c.args.text.now) (λ t. t < 360000) c.duration_in.ensures (λ t e. (duration_in-is c.args.text.now t e).0)

pub returns-clause-written : goal.returns-clause-written
returns-clause-written c =
    each_number c.duration_in.result (duration_in c.args.text.now) (λ t. c.args.text.now ≡ duration_text t) c.duration_in.ensures (λ t e. (duration_in-is c.args.text.now t e).1)

pub returns-clause-back : goal.returns-clause-back
returns-clause-back c = λ t h e. c.duration_in.ensures ∙ (ap duration_in e ∙ duration_in-duration_text t h)
