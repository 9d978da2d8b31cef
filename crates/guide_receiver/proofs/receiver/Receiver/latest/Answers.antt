use Rattle.std.proofs.Common.{refl, subst, sym}
use Rattle.guide_receiver.specs.Heard.{ReceiverStandsAfter}
use Rattle.guide_receiver.specs.Guides.{view_after}
use Rattle.guide_receiver.proofs.Latest.{sdt-kept}
use Rattle.guide_receiver.proofs.receiver.Receiver.latest.Goals as goal

pub returns : goal.returns
returns c = λ earlier packets taken stands.
    let kept = subst (ReceiverStandsAfter earlier packets taken) (sym c.self.view_is) stands in
    record {
      keeps = record { past = taken; stands = stands.completions; each = λ k. refl };
      pat = sym kept.latest.pat;
      nit = sym kept.latest.nit;
      sdt = sdt-kept (view_after earlier packets taken) c.self.inside.latest c.sdt.result (sym kept.latest.pat) (λ ext. sym (kept.latest.sdts ext)) c.sdt.ensures.some c.sdt.ensures.none;
      clock = sym kept.clock;
    }
