use Rattle.std.proofs.Common.{ap}
use Rattle.epg_follow.specs.declared.follower.Follower.{Follower}
use Rattle.epg_follow.proofs.ItemFacts.{as_command, entered_now}
use Rattle.epg_follow.proofs.item.enter.Goals as goal

pub returns-clause-did : goal.returns-clause-did
returns-clause-did g c = λ keep journal stands.
    let is = c.in_ok-entry.ensures.entry journal stands in
    as_command keep journal c.args.follower.now c.carry_out.new.follower c.args.who c.args.step _ _ c.carry_out.result c.in_ok-entry.entry is
    (c.carry_out.ensures.did keep journal c.args.follower.now
    (entered_now journal c.args.follower.now c.entry_of.new.follower c.args.who c.args.step c.in_ok-entry.entry is stands (c.in_ok-entry.ensures.stands journal stands)
    c.in_ok-entry.ensures.mux (ap (λ (f : Follower). f.player) c.in_ok-entry.ensures.others)))
