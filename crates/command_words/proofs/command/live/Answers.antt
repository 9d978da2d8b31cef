use Rattle.command_words.specs.Commands.{texts}
use Rattle.command_words.proofs.Limits.{live_within}
use Rattle.command_words.proofs.command.live.Goals as goal

pub returns-in-Ok-clause-within : goal.returns-in-Ok-clause-within
returns-in-Ok-clause-within c = live_within (texts c.args.options.now) c.in-Ok.live c.in-Ok.ensures
