use Rattle.std.proofs.Common.{◌≡◌, Option, Some, None, sym, subst}
use Rattle.std.specs.Prelude.{IfSome}
use Rattle.std.specs.declared.ops.Bound.TheVariants.{Included, Excluded}
use Rattle.section_codec.specs.declared.table.Key.{Key}
use Rattle.sub_collect.specs.KeyWalk.{BeginsAfter}
use Rattle.sub_collect.proofs.KeyWalk.{all_of_pid, later_of_pid}
use Rattle.sub_collect.proofs.collector.start_after.Goals as goal

pub returns-in-Some : goal.returns-in-Some
returns-in-Some c =
    subst (λ (o : Option Key). BeginsAfter c.args.pid o (Excluded c.in-Some.key)) (sym c.in-Some.is)
    (later_of_pid c.args.pid c.in-Some.key (subst (λ (o : Option Key). IfSome o (λ key. key.pid ≡ c.args.pid)) c.in-Some.is c.requires))

pub returns-in-None : goal.returns-in-None
returns-in-None c =
    subst (λ (o : Option Key). BeginsAfter c.args.pid o (Included c.first_key.result)) (sym c.in-None.is)
    (all_of_pid c.args.pid c.first_key.result c.first_key.ensures.pid c.first_key.ensures.first)
