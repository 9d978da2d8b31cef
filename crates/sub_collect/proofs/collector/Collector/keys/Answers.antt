use Rattle.std.proofs.Common.{◌∙◌, sym, subst}
use Rattle.sub_collect.specs.Collectors.{CollectorStandsOver}
use Rattle.sub_collect.proofs.KeyCounts.{count-kept}
use Rattle.sub_collect.proofs.collector.Collector.keys.Goals as goal

pub returns : goal.returns
returns c = λ past stands.
    let kept = subst (CollectorStandsOver past) (sym c.self.view_is) stands in
    c.len.ensures.len ∙ count-kept past c.self.inside.slots.entries c.len.ensures.ordered kept.each
