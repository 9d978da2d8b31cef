use Rattle.std.proofs.Common.{◌≡◌, ◌∙◌, ap, ◌*◌, ◌<◌, rules}
use Rattle.std.specs.Prelude.{option_map}
use Rattle.si_time.specs.declared.moment.Moment.{Moment}
use Rattle.si_time.specs.Moments.{moment_text}
use Rattle.si_time.specs.Readings.{moment_in, IsMomentText}
use Rattle.si_time.proofs.TextFacts.{moment_in-is, moment_in-only, moment_in-some, moment_in-moment_text}
use Rattle.si_time.proofs.Values.{each_value, is_some_when}
use Rattle.si_time.proofs.moment.read_moment.Goals as goal

pub returns-clause-some : goal.returns-clause-some
returns-clause-some c =
    let text = c.args.text.now in
    let value : option_map (λ (at : Moment). at.0) c.map.result ≡ moment_in text = search rules in
    is_some_when (λ (at : Moment). at.0) c.map.result (moment_in text) (IsMomentText text) value (moment_in-only text) (moment_in-some text)

pub returns-clause-window : goal.returns-clause-window
returns-clause-window c =
    let text = c.args.text.now in
    let value : option_map (λ (at : Moment). at.0) c.map.result ≡ moment_in text = search rules in
    each_value (λ (at : Moment). at.0) c.map.result (moment_in text) (λ t. t < 65536 * 86400) value (λ t e. (moment_in-is text t e).0)

pub returns-clause-written : goal.returns-clause-written
returns-clause-written c =
    let text = c.args.text.now in
    let value : option_map (λ (at : Moment). at.0) c.map.result ≡ moment_in text = search rules in
    each_value (λ (at : Moment). at.0) c.map.result (moment_in text) (λ t. text ≡ moment_text t) value (λ t e. (moment_in-is text t e).1)

pub returns-clause-back : goal.returns-clause-back
returns-clause-back c =
    let text = c.args.text.now in
    let value : option_map (λ (at : Moment). at.0) c.map.result ≡ moment_in text = search rules in
    λ s h e. value ∙ (ap moment_in e ∙ moment_in-moment_text s h)
