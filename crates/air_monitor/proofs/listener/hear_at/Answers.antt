use Rattle.std.proofs.Common.{◌≡◌, List, ◌++◌, ◌∷◌, [], ◌∙◌, subst}
use Rattle.std.specs.Prelude.{OnErr}
use Rattle.si_lists.proofs.Outcomes.{on_ok}
use Rattle.guide_receiver.specs.declared.done.DoneKey.{DoneKey}
use Rattle.guide_receiver.specs.Heard.{ReceiverStandsFor}
use Rattle.guide_receiver.specs.Dones.{dones_by}
use Rattle.air_monitor.specs.Heard.{AppendsFrontOf, lines_at}
use Rattle.air_monitor.proofs.listener.hear_at.Goals as goal

pub returns-in-Ok-clause-stands : goal.returns-in-Ok-clause-stands
returns-in-Ok-clause-stands c past stands sync = on_ok c.push_lines.result (ReceiverStandsFor (past ++ c.args.packet.now ∷ []) c.hear.new.self) (c.in-Ok.ensures.stands past stands)

pub returns-in-Ok-clause-memory : goal.returns-in-Ok-clause-memory
returns-in-Ok-clause-memory c past stands =
    let shown : c.as_slice.result.now ≡ dones_by past c.args.packet.now = c.as_slice.ensures ∙ c.in-Ok.ensures.dones past stands in
    subst (λ (l : List DoneKey). OnErr c.push_lines.result (AppendsFrontOf c.args.dones.now c.push_lines.new.lines (lines_at c.args.number l))) shown c.push_lines.ensures.memory
