use Rattle.std.proofs.Common.{◌≡◌, sym, ap, ◌∙◌, subst}
use Rattle.std.specs.Prelude.{OnOk}
use Rattle.version_book.specs.Airings.{CycleForm}
use Rattle.version_book.specs.Book.{aired}
use Rattle.cycle_player.specs.Player.{sending_by}
use Rattle.cycle_player.specs.Sending.{Sending, AtEnd, Begins}
use Rattle.cycle_player.specs.Tallies.{tallied_at}
use Rattle.cycle_player.specs.declared.player.Kind.TheVariants.{Dense, Timed}
use Rattle.cycle_player.proofs.player.CyclePlayer.swap.Goals as goal

pub returns-in-Dense-clause-begun : goal.returns-in-Dense-clause-begun
returns-in-Dense-clause-begun c xs at_end =
    let new = sending_by c.self.inside.tally (Dense c.swap.new.self) in
    let old = sym c.self.view_is ∙ ap (sending_by c.self.inside.tally) c.in-Dense.is in
    let begun = c.swap.ensures.begun xs (subst (AtEnd xs) old at_end) in
    subst (λ (form : CycleForm). OnOk c.swap.result (Begins xs (aired c.args.tables.list c.args.moment.0 form) new))
    (sym (ap (λ (s : Sending). s.form) old)) begun

pub returns-in_ok-cycle-in-Timed-clause-begun : goal.returns-in_ok-cycle-in-Timed-clause-begun
returns-in_ok-cycle-in-Timed-clause-begun c xs at_end =
    let new = sending_by c.with-self-inside.result (Timed c.in-Timed.field-0 c.swap-in-Timed.new.self) in
    let old = sym c.self.view_is ∙ ap (sending_by c.self.inside.tally) c.in-Timed.is in
    let begun = c.in_ok-cycle-in-Timed.ensures.begun xs c.in-Timed.field-0 (subst (AtEnd xs) old at_end) in
    subst (λ (form : CycleForm). Begins xs (aired c.args.tables.list c.args.moment.0 form) new)
    (sym (ap (λ (s : Sending). s.form) old)) begun

pub returns-in_ok-cycle-in-Timed-clause-tally : goal.returns-in_ok-cycle-in-Timed-clause-tally
returns-in_ok-cycle-in-Timed-clause-tally c past =
    let p = c.in-Timed.player in
    let form : CycleForm = record { quota = c.in-Timed.field-0; offsets = p.offsets } in
    let a = aired c.args.tables.list c.args.moment.0 form in
    let old = sym c.self.view_is ∙ ap (sending_by c.self.inside.tally) c.in-Timed.is in
    let counted = c.with-self-inside.ensures p.rate past a (c.in_ok-cycle-in-Timed.ensures.right past c.in-Timed.field-0) (c.in_ok-cycle-in-Timed.ensures.leads past c.in-Timed.field-0) in
    subst (λ (s : Sending). c.with-self-inside.result ≡ tallied_at s.rate past (aired c.args.tables.list c.args.moment.0 s.form) s.tally) (sym old) counted
