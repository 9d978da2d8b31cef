use Rattle.std.proofs.Common.{sym, subst}
use Rattle.script_notes.specs.declared.why.Why.{Why}
use Rattle.script_notes.specs.Whys.{CanBeSaid}
use Rattle.script_notes.proofs.SaidFacts.{item_line_said}
use Rattle.script_notes.proofs.day.read_item.Goals as goal

pub returns-clause-sound : goal.returns-clause-sound
returns-clause-sound c = (tt, subst (λ (w : Why). CanBeSaid w) (sym c.in_ok-why.ensures) (item_line_said c.args.line.now))
