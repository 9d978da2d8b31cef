use Rattle.std.proofs.Common.{◌≡◌, ap, refl, rules, sym, subst, arith}
use Rattle.std.specs.Prelude.{Bool, Ok, Result}
use Rattle.epg_report.specs.Told.{told}
use Rattle.script_lines.specs.declared.script.ScriptItem.TheVariants.{Step as step, Kept}
use Rattle.script_notes.specs.declared.noting.Noting.{Noting}
use Rattle.script_notes.specs.declared.noting.Noting.TheVariants.{Bad, Item}
use Rattle.input_lines.specs.declared.stop.EditStop.{EditStop}
use Rattle.epg_follow.specs.declared.follower.Follower.{Follower}
use Rattle.epg_follow.specs.declared.stop.FollowStop.{FollowStop}
use Rattle.epg_follow.specs.Items.{HaveCauses, ItemDid}
use Rattle.epg_follow.proofs.LineFacts.{causes_on, item_did}
use Rattle.epg_follow.proofs.item.follow_item.Goals as goal

pub returns-in-Ok-Item-Step-clause-did : goal.returns-in-Ok-Item-Step-clause-did
returns-in-Ok-Item-Step-clause-did g c = λ journal stands.
    let is : c.next_noting.result ≡ (let r : Result Noting EditStop = Ok (Item (step c.in-Ok-Item-Step.who c.in-Ok-Item-Step.step)) in r) = search rules in
    subst (λ (r : Result Bool FollowStop). ItemDid c.args.keep g.S.Source.left g.S.Source.faults c.args.lines.now c.next_noting.new.lines journal c.args.follower.now c.enter.new.follower
    (told g.A.Sink.written g.A.Sink.faults c.args.air.now c.enter.new.air) (told g.R.Sink.written g.R.Sink.faults c.args.report.now c.enter.new.report) r) (sym c.item_of.ensures)
    (item_did c.args.keep g.S.Source.left g.S.Source.faults g.S.Source.same c.args.lines.now c.next_noting.new.lines c.args.follower.now c.enter.new.follower c.next_noting.new.held
    (told g.A.Sink.written g.A.Sink.faults c.args.air.now c.enter.new.air) (told g.R.Sink.written g.R.Sink.faults c.args.report.now c.enter.new.report)
    (Item (step c.in-Ok-Item-Step.who c.in-Ok-Item-Step.step)) tt c.is_some-after.result c.is_some-after.ensures c.next_noting.result is c.next_noting.ensures.reads c.enter.result c.enter.ensures.held
    (λ j s. c.enter.ensures.did c.args.keep j s) journal stands)

pub returns-in-Ok-Item-Step-clause-causes : goal.returns-in-Ok-Item-Step-clause-causes
returns-in-Ok-Item-Step-clause-causes g c =
    let is : c.next_noting.result ≡ (let r : Result Noting EditStop = Ok (Item (step c.in-Ok-Item-Step.who c.in-Ok-Item-Step.step)) in r) = search rules in
    subst (λ (r : Result Bool FollowStop). HaveCauses (g.S.Source.faults c.args.lines.now.source) (g.S.Source.faults c.next_noting.new.lines.source)
    (told g.A.Sink.written g.A.Sink.faults c.args.air.now c.enter.new.air) (told g.R.Sink.written g.R.Sink.faults c.args.report.now c.enter.new.report) r) (sym c.item_of.ensures)
    (causes_on c.args.keep g.S.Source.left g.S.Source.faults g.S.Source.same c.args.lines.now c.next_noting.new.lines c.args.follower.now c.enter.new.follower c.next_noting.new.held
    (told g.A.Sink.written g.A.Sink.faults c.args.air.now c.enter.new.air) (told g.R.Sink.written g.R.Sink.faults c.args.report.now c.enter.new.report)
    (Item (step c.in-Ok-Item-Step.who c.in-Ok-Item-Step.step)) tt c.is_some-after.result c.is_some-after.ensures c.next_noting.result is c.next_noting.ensures.reads c.enter.result c.enter.ensures.held
    (λ j s. c.enter.ensures.did c.args.keep j s) c.requires.ready.lean c.enter.ensures.air_later c.enter.ensures.report_later)

pub returns-in-Ok-Item-Kept-clause-did : goal.returns-in-Ok-Item-Kept-clause-did
returns-in-Ok-Item-Kept-clause-did g c = λ journal stands.
    let is : c.next_noting.result ≡ (let r : Result Noting EditStop = Ok (Item (Kept c.in-Ok-Item-Kept.number c.in-Ok-Item-Kept.kept)) in r) = search rules in
    subst (λ (r : Result Bool FollowStop). ItemDid c.args.keep g.S.Source.left g.S.Source.faults c.args.lines.now c.next_noting.new.lines journal c.args.follower.now c.compare.new.follower
    (told g.A.Sink.written g.A.Sink.faults c.args.air.now c.args.air.now) (told g.R.Sink.written g.R.Sink.faults c.args.report.now c.compare.new.report) r) (sym c.item_of-in-Ok-Item-Kept.ensures)
    (item_did c.args.keep g.S.Source.left g.S.Source.faults g.S.Source.same c.args.lines.now c.next_noting.new.lines c.args.follower.now c.compare.new.follower c.next_noting.new.held
    (told g.A.Sink.written g.A.Sink.faults c.args.air.now c.args.air.now) (told g.R.Sink.written g.R.Sink.faults c.args.report.now c.compare.new.report)
    (Item (Kept c.in-Ok-Item-Kept.number c.in-Ok-Item-Kept.kept)) tt c.is_some-after.result c.is_some-after.ensures c.next_noting.result is c.next_noting.ensures.reads c.compare.result (ap (λ (f : Follower). f.held) c.compare.ensures.others)
    (λ j s. c.compare.ensures.did j s (told g.A.Sink.written g.A.Sink.faults c.args.air.now c.args.air.now) refl) journal stands)

pub returns-in-Ok-Item-Kept-clause-causes : goal.returns-in-Ok-Item-Kept-clause-causes
returns-in-Ok-Item-Kept-clause-causes g c =
    let is : c.next_noting.result ≡ (let r : Result Noting EditStop = Ok (Item (Kept c.in-Ok-Item-Kept.number c.in-Ok-Item-Kept.kept)) in r) = search rules in
    subst (λ (r : Result Bool FollowStop). HaveCauses (g.S.Source.faults c.args.lines.now.source) (g.S.Source.faults c.next_noting.new.lines.source)
    (told g.A.Sink.written g.A.Sink.faults c.args.air.now c.args.air.now) (told g.R.Sink.written g.R.Sink.faults c.args.report.now c.compare.new.report) r) (sym c.item_of-in-Ok-Item-Kept.ensures)
    (causes_on c.args.keep g.S.Source.left g.S.Source.faults g.S.Source.same c.args.lines.now c.next_noting.new.lines c.args.follower.now c.compare.new.follower c.next_noting.new.held
    (told g.A.Sink.written g.A.Sink.faults c.args.air.now c.args.air.now) (told g.R.Sink.written g.R.Sink.faults c.args.report.now c.compare.new.report)
    (Item (Kept c.in-Ok-Item-Kept.number c.in-Ok-Item-Kept.kept)) tt c.is_some-after.result c.is_some-after.ensures c.next_noting.result is c.next_noting.ensures.reads c.compare.result (ap (λ (f : Follower). f.held) c.compare.ensures.others)
    (λ j s. c.compare.ensures.did j s (told g.A.Sink.written g.A.Sink.faults c.args.air.now c.args.air.now) refl) c.requires.ready.lean (omega arith) c.compare.ensures.later)

pub returns-in-Ok-Bad-clause-did : goal.returns-in-Ok-Bad-clause-did
returns-in-Ok-Bad-clause-did g c = λ journal stands.
    let is : c.next_noting.result ≡ (let r : Result Noting EditStop = Ok (Bad c.in-Ok-Bad.number c.in-Ok-Bad.why) in r) = search rules in
    subst (λ (r : Result Bool FollowStop). ItemDid c.args.keep g.S.Source.left g.S.Source.faults c.args.lines.now c.next_noting.new.lines journal c.args.follower.now c.pass_over.new.follower
    (told g.A.Sink.written g.A.Sink.faults c.args.air.now c.args.air.now) (told g.R.Sink.written g.R.Sink.faults c.args.report.now c.pass_over.new.report) r) (sym c.item_of-in-Ok-Bad.ensures)
    (item_did c.args.keep g.S.Source.left g.S.Source.faults g.S.Source.same c.args.lines.now c.next_noting.new.lines c.args.follower.now c.pass_over.new.follower c.next_noting.new.held
    (told g.A.Sink.written g.A.Sink.faults c.args.air.now c.args.air.now) (told g.R.Sink.written g.R.Sink.faults c.args.report.now c.pass_over.new.report)
    (Bad c.in-Ok-Bad.number c.in-Ok-Bad.why) tt c.is_some-after.result c.is_some-after.ensures c.next_noting.result is c.next_noting.ensures.reads c.pass_over.result (ap (λ (f : Follower). f.held) c.pass_over.ensures.others)
    (λ j s. c.pass_over.ensures.did j s (told g.A.Sink.written g.A.Sink.faults c.args.air.now c.args.air.now) refl) journal stands)

pub returns-in-Ok-Bad-clause-causes : goal.returns-in-Ok-Bad-clause-causes
returns-in-Ok-Bad-clause-causes g c =
    let is : c.next_noting.result ≡ (let r : Result Noting EditStop = Ok (Bad c.in-Ok-Bad.number c.in-Ok-Bad.why) in r) = search rules in
    subst (λ (r : Result Bool FollowStop). HaveCauses (g.S.Source.faults c.args.lines.now.source) (g.S.Source.faults c.next_noting.new.lines.source)
    (told g.A.Sink.written g.A.Sink.faults c.args.air.now c.args.air.now) (told g.R.Sink.written g.R.Sink.faults c.args.report.now c.pass_over.new.report) r) (sym c.item_of-in-Ok-Bad.ensures)
    (causes_on c.args.keep g.S.Source.left g.S.Source.faults g.S.Source.same c.args.lines.now c.next_noting.new.lines c.args.follower.now c.pass_over.new.follower c.next_noting.new.held
    (told g.A.Sink.written g.A.Sink.faults c.args.air.now c.args.air.now) (told g.R.Sink.written g.R.Sink.faults c.args.report.now c.pass_over.new.report)
    (Bad c.in-Ok-Bad.number c.in-Ok-Bad.why) tt c.is_some-after.result c.is_some-after.ensures c.next_noting.result is c.next_noting.ensures.reads c.pass_over.result (ap (λ (f : Follower). f.held) c.pass_over.ensures.others)
    (λ j s. c.pass_over.ensures.did j s (told g.A.Sink.written g.A.Sink.faults c.args.air.now c.args.air.now) refl) c.requires.ready.lean (omega arith) c.pass_over.ensures.later)
