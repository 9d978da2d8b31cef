use Rattle.std.proofs.Common.{◌≡◌, ◌∙◌, ◌<◌, length, arith, sym, ap, subst, Some, option_and_then}
use Rattle.std.proofs.lemmas.Bool.{eqb-false}
use Rattle.si_lists.proofs.Lists.{behind}
use Rattle.table_bodies.specs.Entries.{split_in, value_in, entries_in}
use Rattle.table_bodies.proofs.Steps.{one_read}
use Rattle.table_bodies.proofs.read.read_entries.Goals as goal

pub loop-rest-preserved : goal.loop-rest-preserved
loop-rest-preserved g c =
    let size = g.K.EntryKind.SIZE in
    let value_of = g.K.EntryKind.value_of in
    let rest = c.loop-rest.rest.now in
    let entry = c.in-Some.entry in
    let after = c.in-Some.behind.now in
    let some : 0 < length rest = omega (arith, eqb-false _ _ (sym c.loop-rest-test.ensures)) in
    let split : Some (entry, after) ≡ split_in size rest = subst (λ n. Some (entry, after) ≡ split_in n rest) c.SIZE.ensures c.in-Some.ensures.parts in
    let value : value_in value_of entry ≡ Some c.in-Some-3.value =
    ap (option_and_then (value_of entry.fields)) (sym c.in_ok-descs.ensures ∙ c.in-Some-2.is)
    ∙ sym c.in_ok-value.ensures ∙ c.in-Some-3.is in
    c.loop-rest.invariant
    ∙ one_read size value_of rest entry after c.loop-rest.values.items c.in-Some-3.value some split value
    ∙ ap (λ values. behind values (entries_in size value_of after)) (sym c.in_ok-push.ensures.items)
