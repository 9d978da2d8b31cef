use Rattle.std.proofs.Common.{refl}
use Rattle.input_lines.proofs.Numerals.{field_read}
use Rattle.input_lines.proofs.numbers.value.Goals as goal

pub unwrap-requires : goal.unwrap-requires
unwrap-requires c = rw (field_read c.args.field.now c.parse.result c.parse.ensures.value.0 c.requires) refl

pub returns : goal.returns
returns c = let e = field_read c.args.field.now c.parse.result c.parse.ensures.value.0 c.requires in cc
