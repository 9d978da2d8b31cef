use Rattle.script_lines.proofs.EditTypes.{read_typed, ahead_typed}
use Rattle.script_lines.proofs.laws.read_edits_are_typed.Goals as goal

pub returns-clause-fields : goal.returns-clause-fields
returns-clause-fields c = read_typed

pub returns-clause-ahead : goal.returns-clause-ahead
returns-clause-ahead c = ahead_typed
