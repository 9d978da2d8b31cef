use Rattle.std.proofs.Common.{◌≡◌, ◌+◌, ◌*◌, ◌≤◌, ◌∷◌, ◌++◌, length, take, vec_len, vec_capacity}
use Rattle.descriptors.specs.Languages.{languages_body}
use Rattle.descriptors.proofs.languages.put_languages.Given as goal

abbrev pub invariant-loop-language : goal.invariant-loop-language
invariant-loop-language l = record {
  items : l.out.items ≡ l.fn.out.items ++ (0x0A ∷ (4 * length l.languages) ∷ languages_body (take l.language-index l.languages));
  len : vec_len l.out ≡ vec_len l.fn.out + (2 + 4 * l.language-index);
  capacity : vec_capacity l.fn.out ≤ vec_capacity l.out;
}
