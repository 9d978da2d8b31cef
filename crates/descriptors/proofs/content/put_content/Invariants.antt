use Rattle.std.proofs.Common.{◌≡◌, ◌+◌, ◌*◌, ◌≤◌, ◌∷◌, ◌++◌, length, take, vec_len, vec_capacity}
use Rattle.descriptors.specs.Content.{content_body}
use Rattle.descriptors.proofs.content.put_content.Given as goal

abbrev pub invariant-loop-genre : goal.invariant-loop-genre
invariant-loop-genre l = record {
  items : l.out.items ≡ l.fn.out.items ++ (0x54 ∷ (2 * length l.genres) ∷ content_body (take l.genre-index l.genres));
  len : vec_len l.out ≡ vec_len l.fn.out + (2 + 2 * l.genre-index);
  capacity : vec_capacity l.fn.out ≤ vec_capacity l.out;
}
