use Rattle.journal_text.proofs.CommandBack.{commands_read_back}
use Rattle.journal_text.proofs.command_laws.commands_read_back.Goals as goal

pub returns : goal.returns
returns c = record { commands = commands_read_back }
