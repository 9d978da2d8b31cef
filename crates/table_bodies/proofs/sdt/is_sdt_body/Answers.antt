use Rattle.std.proofs.Common.{◌∙◌, List, ℕ, is_some, ap, arith}
use Rattle.std.proofs.lemmas.List.{take_rest}
use Rattle.table_bodies.specs.Entries.{entries_in}
use Rattle.table_bodies.specs.Sdt.{sdt_service_in}
use Rattle.table_bodies.proofs.Services.{sdt_test}
use Rattle.table_bodies.proofs.sdt.is_sdt_body.Goals as goal

pub returns-then-body-ge3 : goal.returns-then-body-ge3
returns-then-body-ge3 c =
    c.are_entries.ensures ∙ ap (λ (bytes : List ℕ). is_some (entries_in 3 sdt_service_in bytes)) (take_rest c.args.body.now 3)
    ∙ sdt_test c.args.body.now (omega (arith, c.if-body-ge3.true))
