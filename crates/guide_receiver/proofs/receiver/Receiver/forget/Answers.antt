use Rattle.std.proofs.Common.{List, subst, sym}
use Rattle.section_codec.specs.declared.table.Key.{Key}
use Rattle.guide_receiver.specs.Heard.{ReceiverStandsAfter}
use Rattle.guide_receiver.specs.Latest.{kept_keys, AreLatest}
use Rattle.guide_receiver.proofs.Over.{keys-forgot}
use Rattle.guide_receiver.proofs.receiver.Receiver.forget.Goals as goal

pub returns : goal.returns
returns c = λ earlier packets taken stands.
    let kept = subst (ReceiverStandsAfter earlier packets taken) (sym c.self.view_is) stands in
    record {
      sections = kept.sections;
      completions = c.forget.ensures.stands taken kept.completions;
      latest = subst (λ (ks : List Key). AreLatest ks (kept_keys c.self.inside.latest)) (sym (keys-forgot taken c.args.pid)) kept.latest;
      clock = kept.clock;
      offsets = kept.offsets;
    }

pub invariant_of-self : goal.invariant_of-self
invariant_of-self c = c.next_round.ensures c.self.inside.collector c.self.invariant c.forget.new.self
