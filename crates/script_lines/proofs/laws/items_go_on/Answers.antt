use Rattle.script_lines.proofs.ItemsAhead.{items_go_on}
use Rattle.script_lines.proofs.ItemFacts.{items_typed, items_window}
use Rattle.script_lines.proofs.laws.items_go_on.Goals as goal

pub returns : goal.returns
returns c = record { on = items_go_on; typed = items_typed; window = items_window }
