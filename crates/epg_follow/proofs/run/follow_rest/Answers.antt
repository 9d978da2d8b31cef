use Rattle.std.proofs.Common.{refl, ◌∙◌, arith}
use Rattle.std.specs.Prelude.{Ok, Err, Bool, Result, false}
use Rattle.epg_follow.specs.declared.stop.FollowStop.{FollowStop}
use Rattle.epg_follow.proofs.GoingFacts.{went_none}
use Rattle.epg_follow.proofs.RestFacts.{causes_join, ended_there, stopped_there, went_on}
use Rattle.epg_follow.proofs.run.follow_rest.Goals as goal

pub items-init : goal.items-init
items-init g c = record {
  reader = c.requires.can.reader;
  ready = c.requires.can.ready;
  mux = refl;
  shift = refl;
  same = g.met.S.Source.same_at_once c.args.lines.now.source;
  read_later = omega arith;
  air_later = omega arith;
  report_later = omega arith;
  went = λ journal stands. went_none c.args.keep g.S.Source.left c.args.lines.now journal c.args.follower.now _ _ _ _ stands c.requires.fresh.made c.requires.fresh.held;
}

pub items-preserved : goal.items-preserved
items-preserved g c =
    let i = c.items.invariant in
    let e = rw c.in-Ok-true.field-0-test at c.in-Ok-true.ensures in
    record {
      reader = e.reader;
      ready = e.stays.ready;
      mux = e.stays.mux ∙ i.mux;
      shift = e.stays.shift ∙ i.shift;
      same = g.met.S.Source.same_later c.args.lines.now.source c.items.lines.source c.follow_item.new.lines.source i.same e.same;
      read_later = omega (arith, i.read_later, e.causes.read_later);
      air_later = omega (arith, i.air_later, e.causes.air_later);
      report_later = omega (arith, i.report_later, e.causes.report_later);
      went = λ journal stands.
          let w = i.went journal stands in
          went_on c.args.keep g.S.Source.left g.S.Source.faults c.args.lines.now c.items.lines c.follow_item.new.lines journal c.args.follower.now c.items.follower c.follow_item.new.follower
          _ _ _ _ _ _ _ _ _ _ _ _ w e.stays.mux e.stays.shift (e.did _ w.stands);
    }

pub returns-in-Ok-false-clause-did : goal.returns-in-Ok-false-clause-did
returns-in-Ok-false-clause-did g c = λ journal stands.
    let i = c.items.invariant in
    let e = rw c.in-Ok-false.field-0-test at c.in-Ok-false.ensures in
    let w = i.went journal stands in
    ended_there c.args.keep g.S.Source.left g.S.Source.faults c.args.lines.now c.items.lines c.follow_item.new.lines journal c.args.follower.now c.items.follower c.follow_item.new.follower
    _ _ _ _ _ _ _ _ _ _ _ _ w e.stays.mux e.stays.shift (e.did _ w.stands)

pub returns-in-Ok-false-clause-causes : goal.returns-in-Ok-false-clause-causes
returns-in-Ok-false-clause-causes g c =
    let i = c.items.invariant in
    let e = rw c.in-Ok-false.field-0-test at c.in-Ok-false.ensures in
    causes_join _ _ _ _ _ _ _ _ _ _ _ _ _ _ _ (let r : Result Bool FollowStop = Ok false in r) (let q : Result (Unit {0}) FollowStop = Ok tt in q) i.read_later i.air_later i.report_later e.causes (λ x. cc x) (λ x. cc x) (λ x. cc x)

pub returns-in-Ok-false-clause-same : goal.returns-in-Ok-false-clause-same
returns-in-Ok-false-clause-same g c =
    let e = rw c.in-Ok-false.field-0-test at c.in-Ok-false.ensures in
    g.met.S.Source.same_later c.args.lines.now.source c.items.lines.source c.follow_item.new.lines.source c.items.invariant.same e.same

pub returns-in-Err-clause-did : goal.returns-in-Err-clause-did
returns-in-Err-clause-did g c = λ journal stands.
    let i = c.items.invariant in
    let e = c.in-Err.ensures in
    let w = i.went journal stands in
    stopped_there c.args.keep g.S.Source.left g.S.Source.faults c.args.lines.now c.items.lines c.follow_item.new.lines journal c.args.follower.now c.items.follower c.follow_item.new.follower
    _ _ _ _ _ _ _ _ _ _ _ _ w e.stays.mux e.stays.shift c.in-Err.stop (e.did _ w.stands)

pub returns-in-Err-clause-causes : goal.returns-in-Err-clause-causes
returns-in-Err-clause-causes g c =
    let i = c.items.invariant in
    causes_join _ _ _ _ _ _ _ _ _ _ _ _ _ _ _ (let r : Result Bool FollowStop = Err c.in-Err.stop in r) (Err c.in-Err.stop) i.read_later i.air_later i.report_later c.in-Err.ensures.causes
    (λ x. cc x) (λ x. cc x) (λ x. cc x)

pub returns-in-Err-clause-same : goal.returns-in-Err-clause-same
returns-in-Err-clause-same g c =
    g.met.S.Source.same_later c.args.lines.now.source c.items.lines.source c.follow_item.new.lines.source c.items.invariant.same c.in-Err.ensures.same
