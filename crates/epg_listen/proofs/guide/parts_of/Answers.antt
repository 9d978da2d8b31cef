use Rattle.std.proofs.Common.{subst, sym, ◌∙◌}
use Rattle.sub_collect.specs.Collectors.{CollectorStandsOver}
use Rattle.guide_screen.specs.Holding.{Holds}
use Rattle.guide_receiver.specs.Guides.{view_after}
use Rattle.epg_listen.proofs.guide.parts_of.Goals as goal

pub returns : goal.returns
returns c = λ earlier packets taken stands.
    let V = view_after earlier packets taken in
    c.parts_heard.ensures V taken
    (subst (λ collector. Holds collector c.latest-latest.result V) (sym c.collector.ensures) (c.latest-latest.ensures earlier packets taken stands))
    (subst (CollectorStandsOver taken) (sym c.collector.ensures) stands.completions)
    (sym stands.offsets ∙ sym c.offsets.ensures) (sym stands.latest.others ∙ sym c.in_ok-others.ensures ∙ sym c.deref.ensures.value)
