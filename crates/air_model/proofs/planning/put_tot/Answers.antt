use Rattle.std.proofs.Common.{ℕ, List, [], ◌∷◌, ◌++◌, sym, ap, ◌∙◌}
use Rattle.section_codec.specs.declared.table.Tier3.{Tier3}
use Rattle.section_codec.specs.declared.table.Tier3.TheVariants.{Fast}
use Rattle.air_model.proofs.Times.{weight_is}
use Rattle.air_model.proofs.planning.put_tot.Goals as goal

pub returns : goal.returns
returns c =
    c.in_ok-push.ensures.items ∙ ap (λ (n : ℕ). c.args.weights.now.items ++ (Fast, n) ∷ []) c.packets_of.ensures.value
    ∙ ap (λ (l : List (Tier3 × ℕ)). c.args.weights.now.items ++ l) (weight_is c.args.offsets.now c.requires (sym c.is_empty.ensures ∙ c.if-is_empty.false))
