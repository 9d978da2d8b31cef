use Rattle.std.proofs.Common.{◌-◌, drop, length, take}
use Rattle.input_lines.proofs.LineReads.{read_as}
use Rattle.script_lines.specs.Script.{command_of_caller, read_command}
use Rattle.script_lines.proofs.ScriptFacts.{caller_is, nobody_is}
use Rattle.script_lines.proofs.script.read_command.Goals as goal

pub returns-in-len1-up-clause-reads : goal.returns-in-len1-up-clause-reads
returns-in-len1-up-clause-reads g c =
    let words = c.as_slice-words.result.now in
    read_as g.S.Source.left g.S.Source.faults g.S.Source.same g.met.S.Source.same_at_once g.met.S.Source.same_later (read_command c.args.at c.args.fields.now) (command_of_caller c.in-Some.who c.args.at (take (length words - 1) (drop 1 words))) c.args.lines.now c.command_from.new.lines c.command_from.result
    (caller_is c.args.at c.in-Some.who words c.args.fields.now c.as_slice-words.ensures c.in-Some.ensures) c.command_from.ensures.reads

pub returns-in-None-clause-reads : goal.returns-in-None-clause-reads
returns-in-None-clause-reads g c =
    let words = c.as_slice-words.result.now in
    read_as g.S.Source.left g.S.Source.faults g.S.Source.same g.met.S.Source.same_at_once g.met.S.Source.same_later (read_command c.args.at c.args.fields.now) (command_of_caller 0 c.args.at words) c.args.lines.now c.command_from-in-None.new.lines c.command_from-in-None.result
    (nobody_is c.args.at words c.args.fields.now c.as_slice-words.ensures c.in-None.ensures) c.command_from-in-None.ensures.reads
