use Rattle.std.proofs.Common.{[]}
use Rattle.command_words.specs.Commands.{texts}
use Rattle.command_words.specs.Grammar.{setting_of}
use Rattle.command_words.proofs.Settings.{along_none, one_read}
use Rattle.command_words.proofs.uses.uses_of.Goals as goal

pub loop-rest-init : goal.loop-rest-init
loop-rest-init c = record { before = []; along = along_none (texts c.args.words.now); counts = c.none-uses.ensures }

pub loop-rest-preserved : goal.loop-rest-preserved
loop-rest-preserved c =
    one_read (texts c.args.words.now) (texts c.loop-rest.rest.now) (texts c.in_ok-name.behind.now) (setting_of c.in_ok-name.name.now c.in_ok-name.value.now) c.loop-rest.uses c.in_ok-option_of.field-0 c.add.new.self
    c.loop-rest.invariant c.in_ok-name.ensures.some c.in_ok-option_of.ensures c.add.ensures
