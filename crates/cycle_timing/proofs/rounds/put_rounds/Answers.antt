use Rattle.std.proofs.Common.{◌≡◌, ◌++◌, ◌-◌, ◌+◌, suc, List, ℕ, Bor, map, ap, ◌∙◌, arith}
use Rattle.air_timing.specs.Spreading.{firsts, rests, spread}
use Rattle.cycle_timing.specs.Turns.{with_more}
use Rattle.cycle_timing.proofs.Turning.{round_more}
use Rattle.cycle_timing.proofs.rounds.put_rounds.Goals as goal

pub loop-round-preserved : goal.loop-round-preserved
loop-round-preserved c =
    let e = c.in_ok-left-2.ensures in
    let old = c.loop-round in
    let same = c.as_slice.ensures.value in
    let less = c.loop-round-test.true in
    let one : c.args.rounds - old.round ≡ suc (c.args.rounds - (old.round + 1)) = omega arith in
    round_more c.args.order.now.items old.order.items c.put_round.new.order.items (spread c.args.rounds c.args.groups.now)
    (map (λ (g : Bor (List ℕ)). g.now) old.left.items) (map (λ (g : Bor (List ℕ)). g.now) c.in_ok-left-2.left.items)
    (c.args.rounds - old.round) (c.args.rounds - (old.round + 1)) one old.invariant
    (e.order ∙ ap (λ (l : List (Bor (List ℕ))). old.order.items ++ firsts (map (λ (g : Bor (List ℕ)). g.now) l)) same)
    (e.left ∙ ap (λ (l : List (Bor (List ℕ))). with_more (rests (map (λ (g : Bor (List ℕ)). g.now) l))) same)
