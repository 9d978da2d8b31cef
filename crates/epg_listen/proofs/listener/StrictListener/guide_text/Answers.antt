use Rattle.std.proofs.Common.{subst, sym}
use Rattle.guide_receiver.specs.Heard.{ReceiverStandsAfter}
use Rattle.strict_receiver.specs.Earlier.{sections_in, taken_after}
use Rattle.epg_listen.proofs.listener.StrictListener.guide_text.Goals as goal

pub returns : goal.returns
returns c = λ h stands.
    let taken = taken_after h.earlier h.past in
    c.guide_lines.ensures (sections_in h.earlier) h.past taken
    (subst (ReceiverStandsAfter (sections_in h.earlier) h.past taken) (sym c.receiver.ensures) stands.heard)
