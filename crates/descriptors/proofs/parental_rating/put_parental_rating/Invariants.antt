use Rattle.std.proofs.Common.{◌≡◌, ◌+◌, ◌*◌, ◌≤◌, ◌∷◌, ◌++◌, length, take, vec_len, vec_capacity}
use Rattle.descriptors.specs.ParentalRating.{parental_rating_body}
use Rattle.descriptors.proofs.parental_rating.put_parental_rating.Given as goal

abbrev pub invariant-loop-rating : goal.invariant-loop-rating
invariant-loop-rating l = record {
  items : l.out.items ≡ l.fn.out.items ++ (0x55 ∷ (4 * length l.ratings) ∷ parental_rating_body (take l.rating-index l.ratings));
  len : vec_len l.out ≡ vec_len l.fn.out + (2 + 4 * l.rating-index);
  capacity : vec_capacity l.fn.out ≤ vec_capacity l.out;
}
