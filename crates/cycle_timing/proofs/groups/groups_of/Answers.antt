use Rattle.std.proofs.Common.{◌<◌, ◌==◌, ℕ, List, Option, Some, None, if◌then◌else◌, length, sym, ap, ap₂, ◌∙◌, subst}
use Rattle.std.specs.Option.{option_or}
use Rattle.air_model.specs.Cursor.{upto}
use Rattle.cycle_timing.specs.SubTables.{groups}
use Rattle.cycle_timing.specs.Planning.{table_at}
use Rattle.cycle_timing.specs.Turns.{grouped}
use Rattle.cycle_timing.proofs.Grouping.{place_in, numbers_of, groups_push, places_push, place_groups, upto_push}
use Rattle.cycle_timing.proofs.groups.groups_of.Goals as goal

pub put_in_group-requires-clause-within : goal.put_in_group-requires-clause-within
put_in_group-requires-clause-within c = λ slot at.
    let i = c.loop-index.invariant in
    let table = table_at c.args.sections.now in
    let xs = upto c.args.from c.loop-index.index in
    let k = table c.loop-index.index in
    subst (λ (l : List (List ℕ)). slot < length l) (sym i.made) (place_groups table xs k slot (sym (i.slots k) ∙ at))

pub loop-index-preserved : goal.loop-index-preserved
loop-index-preserved c =
    let i = c.loop-index.invariant in
    let e = c.in_ok-put_in_group.ensures in
    let x = c.loop-index.index in
    let table = table_at c.args.sections.now in
    let xs = upto c.args.from x in
    let more = upto_push c.args.from x c.loop-index.auto.index in
    record {
      made = e.groups ∙ ap₂ (λ (o : Option ℕ) (gs : List (List ℕ)). grouped o gs x) (i.slots (table x)) i.made
          ∙ sym (groups_push table xs x) ∙ sym (ap (groups table) more);
      slots = λ q.
          e.slots q ∙ ap₂ (λ (o : Option ℕ) (n : ℕ). option_or o (if table x == q then Some n else None)) (i.slots q) (ap length i.made)
          ∙ sym (places_push table xs x q) ∙ sym (ap (λ (l : List ℕ). place_in (numbers_of table l) q) more);
      ordered = c.put_in_group.ensures.ordered;
    }
