use Rattle.std.proofs.Common.{◌++◌, List, ℕ, ap, sym, ◌∙◌, subst}
use Rattle.section_codec.specs.declared.table.Tier3.{Tier3}
use Rattle.air_model.specs.Sections.{AreInTiers}
use Rattle.air_model.specs.Planning.{weights_under}
use Rattle.air_model.proofs.Weights.{in_tiers}
use Rattle.air_model.proofs.planning.plan_cycle.Goals as goal

pub plan-requires : goal.plan-requires
plan-requires c = record {
  tiers = subst AreInTiers (sym (c.as_slice.ensures.value ∙ c.in_ok-put_weights.ensures ∙ ap (λ (l : List (Tier3 × ℕ)). l ++ weights_under c.args.tables.now c.args.offsets.now) c.new-weights.ensures.items)) (in_tiers c.args.tables.now c.args.offsets.now c.requires.fit.ordered);
}
