use Rattle.std.proofs.Common.{sym, ◌∙◌, subst, inl, inr, refl}
use Rattle.std.specs.Prelude.{Err}
use Rattle.script_lines.specs.declared.script.ScriptItem.TheVariants.{Step as step, Kept}
use Rattle.epg_play.specs.declared.stop.PlayStop.{PlayStop}
use Rattle.epg_play.specs.Items.{ItemLeft}
use Rattle.journal_air.specs.OnAir.{and_step}
use Rattle.epg_play.proofs.CourseFacts.{agreed_at, differed_at, ended, entered, item_read, read_stopped, taken, went_kept}
use Rattle.epg_play.proofs.item.do_item.Goals as goal

pub returns-in-Some-clause-left : goal.returns-in-Some-clause-left
returns-in-Some-clause-left g c = λ first before state at went.
    let desk = c.args.desk.now in
    let e = rw c.in-Ok-Kept.field-0-is at c.in-Ok-Kept.ensures in
    let read = item_read desk.shift g.S.Source.left c.args.lines.now c.next_item.new.lines c.is_some.result desk.last (Kept c.in-Ok-Kept.number c.in-Ok-Kept.kept) c.is_some.ensures (e.reads.gives c.requires.going) (e.reads.takes c.requires.going) in
    record {
      now = state;
      at = at;
      did = refl;
      goes_on = differed_at desk.shift g.S.Source.left first c.args.lines.now c.next_item.new.lines before state desk.last c.in-Ok-Kept.number c.in-Ok-Kept.kept c.in-Some.stop went read c.in-Some.ensures.stop;
    }

pub returns-then-is_swap-clause-left : goal.returns-then-is_swap-clause-left
returns-then-is_swap-clause-left g c = λ first before state at went.
    let desk = c.args.desk.now in
    let e = rw c.in-Ok-Step.field-0-is at c.in-Ok-Step.ensures in
    let read = item_read desk.shift g.S.Source.left c.args.lines.now c.next_item.new.lines c.is_some.result desk.last (step c.in-Ok-Step.who c.in-Ok-Step.step) c.is_some.ensures (e.reads.gives c.requires.going) (e.reads.takes c.requires.going) in
    let made = c.in_ok-step-in-Ok-Step.ensures.left before state at in
    record {
      now = and_step state c.in-Ok-Step.who c.in-Ok-Step.step;
      at = made.0;
      did = record { who = c.in-Ok-Step.who; step = c.in-Ok-Step.step; is = sym c.swaps-is_swap.ensures ∙ c.if-is_swap.true; did = refl };
      goes_on = entered g.S.Source.left first c.args.lines.now c.next_item.new.lines before state desk c.step.new.self c.in-Ok-Step.who c.in-Ok-Step.step
          c.in_ok-step-in-Ok-Step.ensures.stays.shift went read made.1;
    }

pub returns-else-is_swap-clause-left : goal.returns-else-is_swap-clause-left
returns-else-is_swap-clause-left g c = λ first before state at went.
    let desk = c.args.desk.now in
    let e = rw c.in-Ok-Step.field-0-is at c.in-Ok-Step.ensures in
    let read = item_read desk.shift g.S.Source.left c.args.lines.now c.next_item.new.lines c.is_some.result desk.last (step c.in-Ok-Step.who c.in-Ok-Step.step) c.is_some.ensures (e.reads.gives c.requires.going) (e.reads.takes c.requires.going) in
    let made = c.in_ok-step-in-Ok-Step.ensures.left before state at in
    record {
      now = and_step state c.in-Ok-Step.who c.in-Ok-Step.step;
      at = made.0;
      did = inl (record { who = c.in-Ok-Step.who; step = c.in-Ok-Step.step; is = sym c.swaps-is_swap.ensures ∙ c.if-is_swap.false; did = refl });
      goes_on = entered g.S.Source.left first c.args.lines.now c.next_item.new.lines before state desk c.step.new.self c.in-Ok-Step.who c.in-Ok-Step.step
          c.in_ok-step-in-Ok-Step.ensures.stays.shift went read made.1;
    }

pub returns-in_default-clause-left : goal.returns-in_default-clause-left
returns-in_default-clause-left g c = λ first before state at went.
    let desk = c.args.desk.now in
    let e = rw c.in-Ok-Kept.field-0-is at c.in-Ok-Kept.ensures in
    let read = item_read desk.shift g.S.Source.left c.args.lines.now c.next_item.new.lines c.is_some.result desk.last (Kept c.in-Ok-Kept.number c.in-Ok-Kept.kept) c.is_some.ensures (e.reads.gives c.requires.going) (e.reads.takes c.requires.going) in
    record {
      now = state;
      at = agreed_at before state desk at;
      did = inr refl;
      goes_on = went_kept desk.shift g.S.Source.left first c.args.lines.now c.next_item.new.lines before state desk.last c.in-Ok-Kept.number c.in-Ok-Kept.kept went read c.in_default.ensures.stop;
    }

pub returns-in-Ok-End-clause-left : goal.returns-in-Ok-End-clause-left
returns-in-Ok-End-clause-left g c = λ first before state at went.
    let desk = c.args.desk.now in
    let e = rw c.in-Ok-End.field-0-is at c.in-Ok-End.ensures in
    record {
      now = state;
      at = at;
      did = refl;
      goes_on = (
        ended desk.shift g.S.Source.left first c.args.lines.now c.next_item.new.lines before state c.is_some.result desk.last c.is_some.ensures went (e.reads.gives c.requires.going),
        tt,
      );
    }

pub returns-in-Err-clause-left : goal.returns-in-Err-clause-left
returns-in-Err-clause-left g c = λ first before state at went.
    let desk = c.args.desk.now in
    let reads = c.in-Err.ensures.reads in
    subst (λ (s : PlayStop). ItemLeft g.S.Source.left first c.next_item.new.lines before state desk (Err s)) (sym c.stop_of.ensures)
    (record {
      now = state;
      at = at;
      did = refl;
      goes_on = (
        read_stopped desk.shift g.S.Source.left first c.args.lines.now c.next_item.new.lines before state c.is_some.result desk.last c.in-Err.stop c.is_some.ensures went (reads.gives c.requires.going),
        taken desk.shift g.S.Source.left g.S.Source.faults first c.args.lines.now c.next_item.new.lines before state c.is_some.result desk.last c.in-Err.stop c.is_some.ensures went (reads.takes c.requires.going),
      );
    })
