use Rattle.std.proofs.Common.{◌≡◌, ◌++◌, take, flat_map}
use Rattle.std.specs.List.{AllByRecursion}
use Rattle.section_codec.specs.declared.table.NumberedBody.{NumberedBody}
use Rattle.desk_checkpoint.specs.Text.{AreBytes, section_text}
use Rattle.desk_checkpoint.proofs.text.put_sections.Given as goal

abbrev pub invariant-loop-section : goal.invariant-loop-section
invariant-loop-section l = record {
  text : l.out.items ≡ l.fn.out.items ++ flat_map section_text (take l.section-index l.sections);
  bytes : AllByRecursion (λ (section : NumberedBody). AreBytes section.body) (take l.section-index l.sections);
}
