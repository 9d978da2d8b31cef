use Rattle.std.proofs.Common.{[], ◌≡◌, subst, sym, ◌∙◌}
use Rattle.std.specs.Prelude.{IfOk}
use Rattle.sub_collect.specs.Marks.{all_took}
use Rattle.guide_screen.specs.View.{View}
use Rattle.guide_screen.specs.Holding.{Holds}
use Rattle.guide_screen.specs.Screen.{heard_of}
use Rattle.guide_receiver.specs.Dones.{counted_heard}
use Rattle.guide_receiver.specs.Guides.{view_after}
use Rattle.guide_receiver.proofs.Over.{view-free}
use Rattle.guide_receiver.proofs.receiver.Receiver.guide.Goals as goal

pub returns-clause-after : goal.returns-clause-after
returns-clause-after c = λ earlier packets taken stands.
    let V = view_after earlier packets taken in
    c.heard_guide.ensures V (subst (λ collector. Holds collector c.latest-latest.result V) (sym c.collector.ensures) (c.latest-latest.ensures earlier packets taken stands))
    (sym stands.offsets ∙ sym c.offsets.ensures) (sym stands.latest.others ∙ sym c.in_ok-others.ensures ∙ sym c.deref.ensures.value)

pub returns-clause-heard : goal.returns-clause-heard
returns-clause-heard c = λ past stands.
    subst (λ (V : View). IfOk c.heard_guide.result (λ heard. heard ≡ heard_of V)) (view-free past) (returns-clause-after c [] past (all_took (counted_heard past)) stands)
