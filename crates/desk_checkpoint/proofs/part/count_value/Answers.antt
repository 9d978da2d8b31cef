use Rattle.std.proofs.Common.{refl}
use Rattle.desk_checkpoint.proofs.CountFacts.{count_read, count_small}
use Rattle.desk_checkpoint.proofs.part.count_value.Goals as goal

pub unwrap-requires : goal.unwrap-requires
unwrap-requires c = rw (count_read c.args.field.now c.parse.result c.parse.ensures.value.0 c.requires) refl

pub returns-clause-value : goal.returns-clause-value
returns-clause-value c = let e = count_read c.args.field.now c.parse.result c.parse.ensures.value.0 c.requires in cc

pub returns-clause-most : goal.returns-clause-most
returns-clause-most c = rw (returns-clause-value c) (count_small c.args.field.now c.requires)
