use Rattle.std.proofs.Common.{false, refl}
use Rattle.headend_live.proofs.live.observe_all.Goals as goal

pub returns-clause-told : goal.returns-clause-told
returns-clause-told c = λ heard. record {
  wanting = false;
  deaf = λ e. cc (heard, e);
  stop_is = refl;
  told = (λ some. refl, λ none. refl);
  guide = λ join packets by. c.in_ok-guide.ensures join packets by;
  unviewed = λ other. absurd (other refl);
}
