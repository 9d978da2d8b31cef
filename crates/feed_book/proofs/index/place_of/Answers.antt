use Rattle.std.proofs.Common.{arith}
use Rattle.std.proofs.lemmas.Bool.Decides.{nat_tests}
use Rattle.feed_book.proofs.IndexLemmas.{is_place}
use Rattle.feed_book.proofs.index.place_of.Goals as goal

pub returns-then-gone-to : goal.returns-then-gone-to
returns-then-gone-to c = is_place c.args.slots.now c.args.slot.now _ c.place_of_start-to.result _ c.place_of_id-gone.ensures.place c.place_of_start-to.ensures (grind (arith, nat_tests))

pub returns-else-gone-to : goal.returns-else-gone-to
returns-else-gone-to c = is_place c.args.slots.now c.args.slot.now _ c.place_of_start-to.result _ c.place_of_id-gone.ensures.place c.place_of_start-to.ensures (grind (arith, nat_tests))
