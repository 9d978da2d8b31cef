use Rattle.std.proofs.Common.{List, refl, ap, subst, sym}
use Rattle.std.specs.Prelude.{Ok, Err}
use Rattle.input_lines.specs.Ahead.{Ahead, Came, Found}
use Rattle.input_lines.specs.Reads.{ReadOf}
use Rattle.input_lines.proofs.LineReads.{read_value, read_then, read_unread}
use Rattle.journal_model.specs.declared.edit.Item.{Item}
use Rattle.journal_model.specs.declared.edit.Edit.{Edit}
use Rattle.journal_model.specs.declared.edit.Edit.TheVariants.{Day}
use Rattle.script_lines.specs.declared.heads.Head.{Head}
use Rattle.script_lines.specs.Edits.{items_of, with_items}
use Rattle.script_lines.proofs.edits.with_items.Goals as goal

pub returns-in-Whole-clause-reads : goal.returns-in-Whole-clause-reads
returns-in-Whole-clause-reads g c =
    read_value g.S.Source.left g.S.Source.faults g.S.Source.same g.met.S.Source.same_at_once g.met.S.Source.same_later (with_items c.args.head) c.in-Whole.edit c.args.lines.now (λ a. ap (λ h. with_items h a) c.in-Whole.is)

pub returns-in-Ok-clause-reads : goal.returns-in-Ok-clause-reads
returns-in-Ok-clause-reads g c =
    let day = c.in-OfDay in
    let next : List Item → Ahead → Found Edit = λ items rest. Came (Day day.service day.day items) rest in
    subst (λ (h : Head). ReadOf g.S.Source.left g.S.Source.faults g.S.Source.same (with_items h) c.args.lines.now c.next_items.new.lines (Ok (Day day.service day.day c.in-Ok.items))) (sym day.is)
    (read_then g.S.Source.left g.S.Source.faults g.S.Source.same g.met.S.Source.same_at_once g.met.S.Source.same_later (items_of day.count) next c.args.lines.now c.next_items.new.lines c.next_items.new.lines c.in-Ok.items
    (Ok (Day day.service day.day c.in-Ok.items)) c.in-Ok.ensures.reads
    (read_value g.S.Source.left g.S.Source.faults g.S.Source.same g.met.S.Source.same_at_once g.met.S.Source.same_later (next c.in-Ok.items) (Day day.service day.day c.in-Ok.items) c.next_items.new.lines (λ a. refl)))

pub returns-in-Err-clause-reads : goal.returns-in-Err-clause-reads
returns-in-Err-clause-reads g c =
    let day = c.in-OfDay in
    let next : List Item → Ahead → Found Edit = λ items rest. Came (Day day.service day.day items) rest in
    subst (λ (h : Head). ReadOf {T = Edit} g.S.Source.left g.S.Source.faults g.S.Source.same (with_items h) c.args.lines.now c.next_items.new.lines (Err c.in-Err.stop)) (sym day.is)
    (read_unread g.S.Source.left g.S.Source.faults g.S.Source.same g.met.S.Source.same_at_once g.met.S.Source.same_later (items_of day.count) next c.args.lines.now c.next_items.new.lines c.in-Err.stop c.in-Err.ensures.reads)
