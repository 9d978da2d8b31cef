use Rattle.std.proofs.Common.{◌∙◌, subst}
use Rattle.si_causes.specs.Opening.{TakesBack}
use Rattle.epg_live.proofs.OpenFacts.{closes_more}
use Rattle.epg_live.proofs.feeds.close_feeds.Goals as goal

pub loop-lines-preserved : goal.loop-lines-preserved
loop-lines-preserved g c =
    let i = c.loop-lines.invariant in
    let closed = c.close-in-loop-lines in
    record {
      closes = closes_more g.O.From.Source.faults (g.O.Opener.read_faults c.args.opener.now) (g.O.Opener.read_faults c.loop-lines.opener) (g.O.Opener.read_faults closed.new.self) c.loop-lines.yielded c.in-Some.lines i.closes
          (subst (λ s. TakesBack (g.O.From.Source.faults s) (g.O.Opener.read_faults c.loop-lines.opener) (g.O.Opener.read_faults closed.new.self)) c.close.ensures closed.ensures.read_faults);
      faults = closed.ensures.faults ∙ i.faults;
      tried = closed.ensures.tried ∙ i.tried;
      files = closed.ensures.files ∙ i.files;
    }
