use Rattle.std.proofs.Common.{sym, ap, ◌∙◌}
use Rattle.std.specs.Option.{option_copied}
use Rattle.air_model.proofs.Laid.{last_at}
use Rattle.air_model.proofs.laying.last_number.Goals as goal

pub returns-in-Some : goal.returns-in-Some
returns-in-Some c = last_at c.args.sections.now c.in-Some.section.now (sym c.last.ensures.value ∙ ap option_copied c.in-Some.is)
