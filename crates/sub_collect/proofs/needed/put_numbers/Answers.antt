use Rattle.std.proofs.Common.{◌≡◌, ◌+◌, ◌-◌, ◌++◌, ◌∷◌, [], List, ℕ, refl, ap, ◌∙◌, arith}
use Rattle.section_codec.specs.Contents.{numbers_from}
use Rattle.sub_collect.proofs.Needing.{number-put}
use Rattle.sub_collect.proofs.needed.put_numbers.Goals as goal

pub loop-n-preserved : goal.loop-n-preserved
loop-n-preserved c =
    let old = c.args.numbers.now.items in
    let n = c.loop-n.n in
    record {
      above = omega arith;
      within = omega (arith, c.loop-n-test.true, c.from-n-end.ensures);
      so_far = number-put old c.push.new.self.items c.args.first n (n + 1) c.loop-n.invariant.above refl
          (c.in_ok-push.ensures.items ∙ ap (λ (l : List ℕ). l ++ n ∷ []) c.loop-n.invariant.so_far);
    }

pub returns : goal.returns
returns c =
    let first = c.args.first in
    c.loop-n.invariant.so_far
    ∙ ap (λ (k : ℕ). c.args.numbers.now.items ++ numbers_from first k)
    (let e : c.loop-n.n - first ≡ 1 + c.args.last - first = omega (arith, c.loop-n.invariant.within, c.loop-n-test.false, c.from-n-end.ensures) in e)
