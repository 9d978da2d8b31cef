use Rattle.std.proofs.Common.{◌∙◌, ap, sym, subst}
use Rattle.air_monitor.specs.Heard.{Hears, Listening}
use Rattle.air_monitor.proofs.Listeners.{deaf_stays, deaf_now, deaf_within, hears_on}
use Rattle.air_monitor.proofs.listener.Listener.hear.Goals as goal

pub returns-then-self-clause-hears : goal.returns-then-self-clause-hears
returns-then-self-clause-hears c past h =
    deaf_stays past c.args.packet.now c.args.self.now (sym (ap (λ (e : Listening). e.wanting) c.self.view_is) ∙ c.if-self.true) h

pub returns-then-self-2-clause-hears : goal.returns-then-self-2-clause-hears
returns-then-self-2-clause-hears c past h =
    let i = c.self.inside in
    deaf_now past c.args.packet.now i.receiver i.dones i.join i.number i.wanting (subst (Hears past) (sym c.self.view_is) h)

pub returns-in-Ok-clause-hears : goal.returns-in-Ok-clause-hears
returns-in-Ok-clause-hears c past h =
    let i = c.self.inside in
    hears_on past c.args.packet.now i.receiver c.hear_from.new.receiver i.dones c.hear_from.new.dones i.join i.number i.wanting c.if-self.false (subst (Hears past) (sym c.self.view_is) h)
    (λ is by sync. c.in-Ok.ensures.ok past is by sync)

pub returns-in-Err-clause-hears : goal.returns-in-Err-clause-hears
returns-in-Err-clause-hears c past h =
    let i = c.self.inside in
    deaf_within past c.args.packet.now i.receiver c.hear_from.new.receiver i.dones c.hear_from.new.dones i.join i.number i.wanting c.if-self.false (subst (Hears past) (sym c.self.view_is) h)
    (λ is by. c.in-Err.ensures.memory past is by)
