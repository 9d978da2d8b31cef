use Rattle.std.proofs.Common.{rules, subst, List, ℕ}
use Rattle.std.specs.Prelude.{Option, false}
use Rattle.epg_listen.specs.Hearing.{HasHeard}
use Rattle.epg_listen.proofs.Reading.{start_read}
use Rattle.epg_listen.proofs.run.hear_packets.Goals as goal

pub returns-clause-heard : goal.returns-clause-heard
returns-clause-heard g c = λ bytes tells.
    let heard = c.hear_all-heard in
    subst (λ (l : Option (List ℕ)). HasHeard false g.L.Listener.strict bytes l (g.L.Listener.stands heard.new.listener) (g.R.Sink.written c.args.report.now) (g.R.Sink.written heard.new.report) heard.result)
    (search rules)
    (heard.ensures.heard bytes (start_read (λ s. g.S.Source.left s.now) c.in-Ok.packets _ bytes c.in-Ok.ensures tells))
