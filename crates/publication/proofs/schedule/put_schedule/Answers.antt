use Rattle.std.proofs.Common.{◌≡◌, ℕ, ◌-◌, ◌++◌, map, ap, ◌∙◌, arith}
use Rattle.std.specs.List.{range_with_len}
use Rattle.std.proofs.lemmas.Grind.{common_steps}
use Rattle.publication.specs.Schedule.{schedule_of}
use Rattle.publication.specs.Streams.{bearer_of}
use Rattle.publication.proofs.EitListFacts.{range_more}
use Rattle.publication.proofs.schedule.put_schedule.Goals as goal

pub returns-in_err-push : goal.returns-in_err-push
returns-in_err-push c = grind (arith, common_steps)

pub loop-table-preserved : goal.loop-table-preserved
loop-table-preserved c = record {
  tables = range_more (schedule_of (bearer_of c.args.of) c.args.day.0 c.args.service.now) c.args.from c.loop-table.table c.in_ok-made.made c.args.list.now c.loop-table.list c.push.new.self
      c.loop-table.invariant.begun c.loop-table.invariant.tables c.in_ok-push.ensures.ok c.in_ok-made.ensures;
  begun = omega (arith, c.loop-table.invariant.begun);
  ended = omega (arith, c.loop-table.invariant.begun, c.loop-table-test.true);
}

pub returns : goal.returns
returns c =
    c.loop-table.invariant.tables
    ∙ ap (λ (n : ℕ). c.args.list.now ++ map (schedule_of (bearer_of c.args.of) c.args.day.0 c.args.service.now) (range_with_len c.args.from n))
    (let e : c.loop-table.table - c.args.from ≡ c.args.to - c.args.from = omega (arith, c.loop-table-test.false, c.loop-table.invariant.begun, c.loop-table.invariant.ended) in e)
