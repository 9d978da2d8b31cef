use Rattle.std.proofs.Common.{◌≡◌, ◌∙◌, ap, sym, ◌*◌, ◌%◌, ◌<◌, take, rules}
use Rattle.std.specs.Prelude.{option_map}
use Rattle.si_time.specs.declared.moment.Moment.{Moment}
use Rattle.si_time.specs.Moments.{moment_text}
use Rattle.si_time.specs.Readings.{day_in, IsDayText}
use Rattle.si_time.proofs.TextFacts.{day_in-is, day_in-only, day_in-some, day_in-date_text, take-moment_text}
use Rattle.si_time.proofs.Values.{each_value, is_some_when}
use Rattle.si_time.proofs.moment.read_day.Goals as goal

pub returns-clause-some : goal.returns-clause-some
returns-clause-some c =
    let text = c.args.text.now in
    let value : option_map (λ (at : Moment). at.0) c.map.result ≡ day_in text = search rules in
    is_some_when (λ (at : Moment). at.0) c.map.result (day_in text) (IsDayText text) value (day_in-only text) (day_in-some text)

pub returns-clause-window : goal.returns-clause-window
returns-clause-window c =
    let text = c.args.text.now in
    let value : option_map (λ (at : Moment). at.0) c.map.result ≡ day_in text = search rules in
    each_value (λ (at : Moment). at.0) c.map.result (day_in text) (λ t. t < 65536 * 86400) value (λ t e. (day_in-is text t e).0)

pub returns-clause-midnight : goal.returns-clause-midnight
returns-clause-midnight c =
    let text = c.args.text.now in
    let value : option_map (λ (at : Moment). at.0) c.map.result ≡ day_in text = search rules in
    each_value (λ (at : Moment). at.0) c.map.result (day_in text) (λ t. t % 86400 ≡ 0) value (λ t e. (day_in-is text t e).1)

pub returns-clause-written : goal.returns-clause-written
returns-clause-written c =
    let text = c.args.text.now in
    let value : option_map (λ (at : Moment). at.0) c.map.result ≡ day_in text = search rules in
    each_value (λ (at : Moment). at.0) c.map.result (day_in text) (λ t. text ≡ take 10 (moment_text t)) value (λ t e. (day_in-is text t e).2 ∙ sym (take-moment_text t))

pub returns-clause-back : goal.returns-clause-back
returns-clause-back c =
    let text = c.args.text.now in
    let value : option_map (λ (at : Moment). at.0) c.map.result ≡ day_in text = search rules in
    λ s h e. value ∙ (ap day_in (e ∙ take-moment_text s) ∙ day_in-date_text s h)
