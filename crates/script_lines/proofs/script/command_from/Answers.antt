use Rattle.std.proofs.Common.{◌+◌, drop, refl, sym}
use Rattle.std.specs.Prelude.{Ok}
use Rattle.input_lines.specs.Ahead.{Ahead, Came, Found}
use Rattle.input_lines.proofs.LineReads.{read_as, read_refused, read_then, read_unread, read_value}
use Rattle.journal_model.specs.declared.edit.Edit.{Edit}
use Rattle.journal_model.specs.declared.step.Step.TheVariants.{Edit as edit}
use Rattle.journal_model.specs.Steps.{Command}
use Rattle.script_lines.specs.Edits.{read_edit}
use Rattle.script_lines.specs.Script.{command_of_caller, feed_command}
use Rattle.script_lines.proofs.ScriptFacts.{short_is, no_feed_is, feed_is}
use Rattle.script_lines.proofs.script.command_from.Goals as goal

pub returns-in-Some-clause-reads : goal.returns-in-Some-clause-reads
returns-in-Some-clause-reads g c =
    read_value g.S.Source.left g.S.Source.faults g.S.Source.same g.met.S.Source.same_at_once g.met.S.Source.same_later (command_of_caller c.args.who c.args.at c.args.words.now) (c.args.who, c.in-Some.step) c.args.lines.now
    (short_is c.args.who c.args.at c.args.words.now c.in-Some.step (sym c.in-Some.ensures.value))

pub returns-in_default-read_feed-clause-reads : goal.returns-in_default-read_feed-clause-reads
returns-in_default-read_feed-clause-reads g c =
    read_refused g.S.Source.left g.S.Source.faults g.S.Source.same g.met.S.Source.same_at_once g.met.S.Source.same_later (command_of_caller c.args.who c.args.at c.args.words.now) c.args.at c.args.lines.now
    (no_feed_is c.args.who c.args.at c.args.words.now (sym c.in_default.ensures.value) (sym c.in_default-read_feed.ensures))

pub returns-in-Ok-clause-reads : goal.returns-in-Ok-clause-reads
returns-in-Ok-clause-reads g c =
    let feed = c.in-Some-read_feed.feed in
    let first = read_edit c.args.at (drop (c.args.from + 2) c.args.fields.now) in
    let next : Edit → Ahead → Found Command = λ e rest. Came (c.args.who, edit feed e) rest in
    let command : Command = (c.args.who, edit feed c.in-Ok.edit) in
    read_as g.S.Source.left g.S.Source.faults g.S.Source.same g.met.S.Source.same_at_once g.met.S.Source.same_later (command_of_caller c.args.who c.args.at c.args.words.now) (λ a. feed_command c.args.who feed (first a)) c.args.lines.now c.read_edit.new.lines (Ok command)
    (feed_is c.args.who c.args.at c.args.from feed c.args.words.now c.args.fields.now c.requires.words (sym c.in_default.ensures.value) (sym c.in-Some-read_feed.ensures))
    (read_then g.S.Source.left g.S.Source.faults g.S.Source.same g.met.S.Source.same_at_once g.met.S.Source.same_later first next c.args.lines.now c.read_edit.new.lines c.read_edit.new.lines c.in-Ok.edit (Ok command) c.in-Ok.ensures.reads
    (read_value g.S.Source.left g.S.Source.faults g.S.Source.same g.met.S.Source.same_at_once g.met.S.Source.same_later (next c.in-Ok.edit) command c.read_edit.new.lines (λ a. refl)))

pub returns-in-Err-clause-reads : goal.returns-in-Err-clause-reads
returns-in-Err-clause-reads g c =
    let feed = c.in-Some-read_feed.feed in
    let first = read_edit c.args.at (drop (c.args.from + 2) c.args.fields.now) in
    let next : Edit → Ahead → Found Command = λ e rest. Came (c.args.who, edit feed e) rest in
    read_as g.S.Source.left g.S.Source.faults g.S.Source.same g.met.S.Source.same_at_once g.met.S.Source.same_later (command_of_caller c.args.who c.args.at c.args.words.now) (λ a. feed_command c.args.who feed (first a)) c.args.lines.now c.read_edit.new.lines _
    (feed_is c.args.who c.args.at c.args.from feed c.args.words.now c.args.fields.now c.requires.words (sym c.in_default.ensures.value) (sym c.in-Some-read_feed.ensures))
    (read_unread g.S.Source.left g.S.Source.faults g.S.Source.same g.met.S.Source.same_at_once g.met.S.Source.same_later first next c.args.lines.now c.read_edit.new.lines c.in-Err.stop c.in-Err.ensures.reads)
