use Rattle.std.proofs.Common.{[], ◌++◌, List, subst, sym, ap, ◌∙◌, append-nil}
use Rattle.ts_demux.specs.declared.section.RawSection.{RawSection}
use Rattle.ts_demux.specs.Sections.{heard_all}
use Rattle.section_codec.specs.declared.table.Key.{Key}
use Rattle.guide_receiver.specs.Heard.{ReceiverStandsAfter}
use Rattle.guide_receiver.specs.Latest.{kept_keys, AreLatest, IsClock, offsets_heard}
use Rattle.guide_receiver.proofs.Over.{keys-all_forgot}
use Rattle.guide_receiver.proofs.receiver.Receiver.restart.Goals as goal

pub returns : goal.returns
returns c = λ earlier packets taken stands.
    let kept = subst (ReceiverStandsAfter earlier packets taken) (sym c.self.view_is) stands in
    let all = sym (append-nil (earlier ++ heard_all [] packets)) in
    record {
      sections = c.open.ensures;
      completions = c.forget_all.ensures.stands taken kept.completions;
      latest = subst (λ (ks : List Key). AreLatest ks (kept_keys c.self.inside.latest)) (sym (keys-all_forgot taken)) kept.latest;
      clock = subst (λ (t : List RawSection). IsClock t c.self.inside.clock) all kept.clock;
      offsets = kept.offsets ∙ ap offsets_heard all;
    }

pub invariant_of-self : goal.invariant_of-self
invariant_of-self c = c.none.ensures c.forget_all.new.self
