use Rattle.std.proofs.Common.{◌≡◌, true, ◌+◌, length}
use Rattle.std.specs.Prelude.{IsUtf8}
use Rattle.guide_model.specs.Coding.{all_plain}
use Rattle.guide_model.specs.Cutting.{pieces}
use Rattle.descriptors.proofs.Pieces.{extended_size}
use Rattle.descriptors.proofs.event_descriptors.extended_len.Given as goal

abbrev pub invariant-loop-rest : goal.invariant-loop-rest
invariant-loop-rest l = record {
  utf8 : IsUtf8 l.rest;
  plain : l.is_plain ≡ true → all_plain l.rest ≡ true;
  size : l.size + extended_size (pieces l.rest) ≡ extended_size (pieces l.text);
}

abbrev pub decreases-loop-rest : goal.decreases-loop-rest
decreases-loop-rest l = length l.rest
