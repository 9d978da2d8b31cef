use Rattle.std.proofs.Common.{◌≡◌, ℕ, ◌<◌, true, false, subst, sym, ◌∙◌, arith}
use Rattle.sub_collect.specs.Collectors.{IsFront, body_in}
use Rattle.sub_collect.proofs.Fronts.{held-get, is_some-none, front-moves, held-more}
use Rattle.sub_collect.proofs.run.Run.front_with.Goals as goal

pub loop-front-preserved : goal.loop-front-preserved
loop-front-preserved c = record {
  within = omega arith;
  above = omega arith;
  held = held-more (λ n. body_in n c.args.self.now.held.entries) c.args.self.now.front c.loop-front.front c.loop-front.invariant.held
      (held-get c.args.self.now.held.entries c.loop-front.front true (sym c.if-contains_key.true ∙ c.contains_key.ensures));
}

pub returns-else-contains_key : goal.returns-else-contains_key
returns-else-contains_key c = λ is body.
    let held = λ (n : ℕ). body_in n c.args.self.now.held.entries in
    let e : c.args.self.now.front ≡ c.args.number = omega arith in
    front-moves held c.args.number body (subst (IsFront held) e is) c.loop-front.front (omega arith) (λ n above below. c.loop-front.invariant.held n (omega arith) below)
    (λ (within : c.loop-front.front < 256). is_some-none (held c.loop-front.front) (held-get c.args.self.now.held.entries c.loop-front.front false (sym c.if-contains_key.false ∙ c.contains_key.ensures)))
