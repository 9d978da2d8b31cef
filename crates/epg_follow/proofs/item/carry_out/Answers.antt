use Rattle.std.proofs.Common.{◌≡◌, ap, refl, rules, true, false}
use Rattle.std.specs.Prelude.{Some}
use Rattle.journal_air.specs.OnAir.{is_swap}
use Rattle.epg_follow.specs.declared.follower.Follower.{Follower}
use Rattle.epg_follow.proofs.ItemFacts.{other_did, swap_cut, swap_did, swap_given_up, unwritten}
use Rattle.epg_follow.proofs.item.carry_out.Goals as goal

pub returns-in-Err-clause-did : goal.returns-in-Err-clause-did
returns-in-Err-clause-did g c = λ keep journal before e.
    unwritten keep journal before c.args.follower.now c.args.entry.now.who c.args.entry.now.step _ _ c.args.entry.now c.in-Err.stop e.is c.in-Err.ensures.writes refl

pub returns-then-not-swaps-clause-did : goal.returns-then-not-swaps-clause-did
returns-then-not-swaps-clause-did g c = λ keep journal before e.
    let entry = c.args.entry.now in
    let mid : Follower = record c.args.follower.now { made = Some entry.outcome } in
    let other : is_swap entry.step ≡ false = search rules in
    other_did keep journal before mid entry.who entry.step _ _ entry e.is e.stood.legal e.stands e.mux e.player refl other refl c.in_default.ensures.writes

pub returns-in-Ok-clause-did : goal.returns-in-Ok-clause-did
returns-in-Ok-clause-did g c = λ keep journal before e.
    let entry = c.args.entry.now in
    let mid : Follower = record c.args.follower.now { made = Some entry.outcome } in
    let swap : is_swap entry.step ≡ true = search rules in
    swap_did keep journal before mid entry.who entry.step _ _ entry e.is e.stood.legal e.stands e.mux e.player refl (record mid { player = c.send_on_air.new.player }) swap
    refl refl c.in-Ok.ensures.alike c.in_default.ensures.writes
    (λ xs at_end. c.in-Ok.ensures.sent _ xs e.stands at_end) (c.in-Ok.ensures.counted _ e.stands)

pub returns-in-Err-Air-clause-did : goal.returns-in-Err-Air-clause-did
returns-in-Err-Air-clause-did g c = λ keep journal before e.
    let entry = c.args.entry.now in
    let mid : Follower = record c.args.follower.now { made = Some entry.outcome } in
    let swap : is_swap entry.step ≡ true = search rules in
    let sent = rw c.in-Err-Air.field-0-is at c.in-Err-Air.ensures in
    swap_cut keep journal before mid entry.who entry.step _ _ entry e.is e.stood.legal e.stands e.mux e.player refl (record mid { player = c.send_on_air.new.player }) swap
    refl refl sent.alike c.in_default.ensures.writes
    sent.cause (λ xs at_end. sent.sent _ xs e.stands at_end) (sent.counted _ e.stands)

pub returns-in-Err-Memory-clause-did : goal.returns-in-Err-Memory-clause-did
returns-in-Err-Memory-clause-did g c = λ keep journal before e.
    let entry = c.args.entry.now in
    let mid : Follower = record c.args.follower.now { made = Some entry.outcome } in
    let swap : is_swap entry.step ≡ true = search rules in
    let sent = rw c.in-Err-Memory.field-0-is at c.in-Err-Memory.ensures in
    swap_given_up keep journal before mid entry.who entry.step _ _ entry e.is e.stood.legal e.stands e.mux e.player refl (record mid { player = c.send_on_air.new.player }) swap
    refl refl sent.alike c.in_default.ensures.writes
    (ap (λ a. g.A.Sink.written a) (sent.memory refl).0)
