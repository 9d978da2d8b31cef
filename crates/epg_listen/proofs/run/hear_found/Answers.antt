use Rattle.std.proofs.Common.{rules, subst, sym, refl, ◌≡◌, List, ℕ, []}
use Rattle.std.specs.Prelude.{Option, true}
use Rattle.epg_listen.specs.Hearing.{HasHeard}
use Rattle.epg_listen.specs.Giving.{HasFound, has_piece}
use Rattle.epg_listen.proofs.Finding.{start_found}
use Rattle.epg_listen.proofs.run.hear_found.Goals as goal

pub returns-clause-heard : goal.returns-clause-heard
returns-clause-heard g c = λ bytes tells.
    let heard = c.hear_all-heard in
    subst (λ (l : Option (List ℕ)). HasHeard true g.L.Listener.strict bytes l (g.L.Listener.stands heard.new.listener) (g.R.Sink.written c.args.report.now) (g.R.Sink.written heard.new.report) heard.result)
    (search rules)
    (heard.ensures.heard bytes
    (subst (λ p. HasFound (λ s. g.S.Source.left s.now) p.finder bytes [] × (p.given ≡ has_piece [])) (sym c.in-Ok.ensures)
    (start_found (λ s. g.S.Source.left s.now) _ bytes tells, refl)))
