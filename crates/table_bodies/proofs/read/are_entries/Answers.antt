use Rattle.std.proofs.Common.{◌≡◌, ◌∙◌, ◌<◌, ◌&&◌, length, arith, sym, ap, subst, Some, is_some}
use Rattle.std.proofs.lemmas.Bool.{eqb-false}
use Rattle.table_bodies.specs.Entries.{split_in, entries_in}
use Rattle.table_bodies.proofs.Steps.{one_passed}
use Rattle.table_bodies.proofs.read.are_entries.Goals as goal

pub loop-rest-preserved : goal.loop-rest-preserved
loop-rest-preserved g c =
    let size = g.K.EntryKind.SIZE in
    let value_of = g.K.EntryKind.value_of in
    let rest = c.loop-rest.rest.now in
    let entry = c.in-Some.entry in
    let after = c.in-Some.behind.now in
    let some : 0 < length rest = omega (arith, eqb-false _ _ (sym c.loop-rest-test.ensures)) in
    let split : Some (entry, after) ≡ split_in size rest = subst (λ n. Some (entry, after) ≡ split_in n rest) c.SIZE.ensures c.in-Some.ensures.parts in
    c.loop-rest.invariant
    ∙ one_passed size value_of rest entry after some split
    ∙ ap (λ b. b && is_some (entries_in size value_of after)) (sym c.if-not-has_value.ensures)
