use Rattle.script_notes.proofs.NotingsAhead.{notings_go_on, notings_typed, notings_window}
use Rattle.script_notes.proofs.laws.notings_go_on.Goals as goal

pub returns : goal.returns
returns c = record { on = notings_go_on; typed = notings_typed; window = notings_window }
