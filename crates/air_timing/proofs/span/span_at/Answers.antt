use Rattle.std.proofs.Common.{ℕ, ap, ◌∙◌}
use Rattle.air_timing.specs.Rate.{least_span}
use Rattle.air_timing.proofs.Spans.{tests_right}
use Rattle.air_timing.proofs.span.span_at.Goals as goal

pub returns-clause-right : goal.returns-clause-right
returns-clause-right c = tests_right c.args.rate c.args.leads c.least_span-least.result c.largest_span-largest.result c.max.result
    c.requires.often c.requires.round
    (c.least_span-least.ensures ∙ ap (λ (n : ℕ). least_span c.args.leads n) c.gap_at.ensures) c.largest_span-largest.ensures c.max.ensures
