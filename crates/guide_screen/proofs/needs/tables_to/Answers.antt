use Rattle.std.proofs.Common.{◌+◌, ◌++◌, ◌∷◌, [], List, ℕ, refl, ap, ◌∙◌, arith}
use Rattle.sub_collect.proofs.Needing.{number-put}
use Rattle.guide_screen.proofs.needs.tables_to.Goals as goal

pub loop-table-preserved : goal.loop-table-preserved
loop-table-preserved c =
    let n = c.loop-table.table in
    record {
      above = omega arith;
      within = omega (arith, c.loop-table-test.true, c.from-table-end.ensures);
      so_far = number-put [] c.push.new.self.items c.args.first n (n + 1) c.loop-table.invariant.above refl
          (c.in_ok-push.ensures.items ∙ ap (λ (l : List ℕ). l ++ n ∷ []) c.loop-table.invariant.so_far);
    }
