use Rattle.std.proofs.Common.{◌≡◌, true, ◌+◌, ◌-◌, ◌≤◌, ◌++◌, length, vec_capacity}
use Rattle.std.specs.Prelude.{IsUtf8}
use Rattle.guide_model.specs.Coding.{all_plain}
use Rattle.guide_model.specs.Cutting.{pieces}
use Rattle.descriptors.specs.EventDescriptors.{numbered, extended_events}
use Rattle.descriptors.proofs.event_descriptors.put_extended_events.Given as goal

abbrev pub invariant-loop-rest : goal.invariant-loop-rest
invariant-loop-rest l = record {
  utf8 : IsUtf8 l.rest;
  plain : l.is_plain ≡ true → all_plain l.rest ≡ true;
  number : l.number + length (pieces l.rest) ≡ l.count;
  items : l.out.items ++ numbered l.number (l.count - 1) l.language (pieces l.rest) ≡ l.fn.out.items ++ extended_events l.language l.text;
  capacity : vec_capacity l.fn.out ≤ vec_capacity l.out;
}

abbrev pub decreases-loop-rest : goal.decreases-loop-rest
decreases-loop-rest l = length l.rest
