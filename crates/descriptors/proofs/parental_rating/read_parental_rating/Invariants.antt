use Rattle.std.proofs.Common.{◌≡◌, length}
use Rattle.si_lists.proofs.Lists.{behind}
use Rattle.descriptors.specs.ParentalRating.{parental_rating_in}
use Rattle.descriptors.proofs.parental_rating.read_parental_rating.Given as goal

abbrev pub invariant-loop-rest : goal.invariant-loop-rest
invariant-loop-rest l = parental_rating_in l.body ≡ behind l.ratings.items (parental_rating_in l.rest)

abbrev pub decreases-loop-rest : goal.decreases-loop-rest
decreases-loop-rest l = length l.rest
