use Rattle.std.proofs.Common.{arith}
use Rattle.std.proofs.lemmas.Bool.Decides.{nat_tests}
use Rattle.std.proofs.lemmas.List.Sums.{count_by-le-length}
use Rattle.feed_book.specs.Index.{other_ids}
use Rattle.feed_book.proofs.index.are_too_many.Goals as goal

pub returns-then-slots-lt2000 : goal.returns-then-slots-lt2000
returns-then-slots-lt2000 c =
    let few = count_by-le-length (other_ids c.args.id) c.args.slots.now in
    grind (arith, nat_tests)

pub returns : goal.returns
returns c = grind (arith, nat_tests)
