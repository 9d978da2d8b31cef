use Rattle.std.proofs.Common.{◌≡◌, ◌∙◌, ◌++◌, ap, append-nil, arith, length, rules, sym}
use Rattle.std.specs.Vec.Iter.{into_iter_items}
use Rattle.turn_lock.proofs.Lists.{prefix_trans}
use Rattle.desk_hall.specs.Turn.{View}
use Rattle.headend_jobs.specs.Jobs.{callers_of, lines_of}
use Rattle.headend_jobs.proofs.Joining.{alone, empty_by, handed_back, left_more, taken_in}
use Rattle.headend_jobs.proofs.crew.join_all.Goals as goal

pub loop-job-preserved : goal.loop-job-preserved
loop-job-preserved g c =
    let i = c.loop-job.invariant in
    let left = into_iter_items c.loop-job.job-iterator in
    let rest = into_iter_items c.next.new.self in
    let is = c.in-Some.ensures.steps.0 in
    let none = alone left rest c.in-Some.job is c.args.turns.now.turns c.args.jobs.items c.loop-job.first i.left in
    record {
      turns = ap (λ (v : View). v.turns) c.join.ensures.joined ∙ i.turns;
      on = ap (λ (v : View). v.on) c.join.ensures.joined ∙ i.on;
      own = ap (λ (v : View). v.own) c.join.ensures.joined ∙ i.own;
      began = prefix_trans c.args.pass.now.seen c.loop-job.pass.seen c.join.new.self.seen i.began c.join.ensures.own;
      finished = taken_in left rest c.in-Some.job is c.loop-job.pass c.join.new.self (c.args.pass.now.finished ++ callers_of c.args.jobs.items) c.join.ensures.joined none.1 i.finished;
      left = left_more left rest c.in-Some.job is c.args.turns.now.turns c.args.jobs.items c.loop-job.first c.and_stop-first.result (search rules) i.left;
      room = let room = i.room in omega (arith, room, ap length is, c.put_back.ensures.len, c.put_back.ensures.capacity);
      back = handed_back left rest c.in-Some.job is c.loop-job.back.items c.put_back.new.back.items (c.args.back.now.items ++ lines_of c.args.jobs.items) c.put_back.ensures.items i.back;
    }

pub returns-clause-back : goal.returns-clause-back
returns-clause-back g c =
    let zero : length (into_iter_items c.loop-job.job-iterator) ≡ 0 = search rules in
    let none = empty_by (into_iter_items c.loop-job.job-iterator) zero in
    sym (append-nil c.loop-job.back.items) ∙ ap (λ jobs. c.loop-job.back.items ++ lines_of jobs) (sym none) ∙ c.loop-job.invariant.back
