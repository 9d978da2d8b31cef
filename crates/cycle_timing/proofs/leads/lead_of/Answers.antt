use Rattle.std.proofs.Common.{◌++◌, [], List, ℕ, length, ap, ◌∙◌, arith}
use Rattle.std.specs.List.{cons_option}
use Rattle.air_timing.specs.Turns.{turn_of}
use Rattle.cycle_timing.specs.Leads.{in_turn}
use Rattle.cycle_timing.proofs.Leading.{lead_more}
use Rattle.cycle_timing.proofs.leads.lead_of.Goals as goal

pub loop-group-preserved : goal.loop-group-preserved
loop-group-preserved c =
    let i = c.loop-group.invariant in
    let at = c.loop-group.at in
    record {
      at = (let e = c.in_ok-at.ensures in let f = i.at in omega arith);
      lead = lead_more c.args.often c.args.place at c.args.groups.now c.loop-group.group-index c.group-item.result c.loop-group.lead c.put_turn.new.lead c.loop-group-test.true i.at i.lead
          (c.in_ok-put_turn.ensures
          ∙ ap (λ (g : List ℕ). c.loop-group.lead ++ cons_option (in_turn g (turn_of c.args.often at c.args.place (length g))) []) c.group-item.is);
    }
