use Rattle.std.proofs.Common.{◌∙◌, List, ℕ, is_some, ap, arith}
use Rattle.std.proofs.lemmas.List.{take_rest}
use Rattle.table_bodies.specs.Entries.{entries_in}
use Rattle.table_bodies.specs.Eit.{event_in}
use Rattle.table_bodies.proofs.Looked.{eit_test}
use Rattle.table_bodies.proofs.reading.is_eit_body.Goals as goal

pub returns-then-body-ge6 : goal.returns-then-body-ge6
returns-then-body-ge6 c =
    c.are_entries.ensures ∙ ap (λ (bytes : List ℕ). is_some (entries_in 10 event_in bytes)) (take_rest c.args.body.now 6)
    ∙ eit_test c.args.body.now (omega (arith, c.if-body-ge6.true))
