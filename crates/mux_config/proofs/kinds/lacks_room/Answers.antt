use Rattle.std.proofs.Common.{◌∙◌, Bool, sym, ap}
use Rattle.std.specs.Prelude.{◌||◌, length, nat_le, not}
use Rattle.mux_config.specs.Descriptions.{all_of, part_in}
use Rattle.mux_config.proofs.RecordFacts.{counted}
use Rattle.mux_config.proofs.kinds.lacks_room.Goals as goal

pub returns-then-has_service : goal.returns-then-has_service
returns-then-has_service c =
    ap (nat_le 16) (c.count_of.ensures ∙ counted (part_in c.args.id) c.args.records.now)
    ∙ ap (λ (b : Bool). not b || nat_le 16 (length (all_of (part_in c.args.id) c.args.records.now))) (sym c.if-has_service.true ∙ c.has_service.ensures)

pub returns-else-has_service : goal.returns-else-has_service
returns-else-has_service c =
    ap (λ (b : Bool). not b || nat_le 16 (length (all_of (part_in c.args.id) c.args.records.now))) (sym c.if-has_service.false ∙ c.has_service.ensures)
