use Rattle.std.proofs.Common.{◌≡◌, ◌∙◌, ap, ◌*◌, ◌<◌, rules}
use Rattle.std.specs.Prelude.{option_map}
use Rattle.si_time.specs.declared.moment.Moment.{Moment}
use Rattle.si_time.specs.Moments.{moment_bcd}
use Rattle.si_time.specs.Readings.{moment_from_bcd}
use Rattle.si_time.proofs.RoundTrips.{moment_from_bcd-is, moment_from_bcd-moment_bcd}
use Rattle.si_time.proofs.Values.{each_value}
use Rattle.si_time.proofs.moment.from_bcd.Goals as goal

pub returns-clause-window : goal.returns-clause-window
returns-clause-window c =
    let bytes = c.args.bytes in
    let value : option_map (λ (at : Moment). at.0) c.map.result ≡ moment_from_bcd bytes = search rules in
    each_value (λ (at : Moment). at.0) c.map.result (moment_from_bcd bytes) (λ t. t < 65536 * 86400) value (λ t e. (moment_from_bcd-is bytes t c.moment_from_bcd.ensures.high c.moment_from_bcd.ensures.low e).0)

pub returns-clause-written : goal.returns-clause-written
returns-clause-written c =
    let bytes = c.args.bytes in
    let value : option_map (λ (at : Moment). at.0) c.map.result ≡ moment_from_bcd bytes = search rules in
    each_value (λ (at : Moment). at.0) c.map.result (moment_from_bcd bytes) (λ t. bytes ≡ moment_bcd t) value (λ t e. (moment_from_bcd-is bytes t c.moment_from_bcd.ensures.high c.moment_from_bcd.ensures.low e).1)

pub returns-clause-back : goal.returns-clause-back
returns-clause-back c =
    let bytes = c.args.bytes in
    let value : option_map (λ (at : Moment). at.0) c.map.result ≡ moment_from_bcd bytes = search rules in
    λ s h e. value ∙ (ap moment_from_bcd e ∙ moment_from_bcd-moment_bcd s h)
