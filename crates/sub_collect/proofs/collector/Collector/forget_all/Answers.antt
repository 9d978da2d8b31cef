use Rattle.std.proofs.Common.{rules, option_map, ap, ◌∙◌}
use Rattle.sub_collect.specs.Collectors.{KeysHeard, kept_in, forgotten}
use Rattle.sub_collect.proofs.Forgetting.{all_stay_forgotten, all_forgotten_add_a_mark}
use Rattle.sub_collect.proofs.collector.Collector.forget_all.Goals as goal

pub returns-clause-kept : goal.returns-clause-kept
returns-clause-kept c = λ k.
    all_stay_forgotten _ (λ f q v b w after t. search rules) _ _ _ c.retain.ensures.filtered k
    ∙ ap (λ (es : KeysHeard). option_map forgotten (kept_in k es)) c.self.view_is

pub returns-clause-stands : goal.returns-clause-stands
returns-clause-stands c = λ past stands. all_forgotten_add_a_mark past c.args.self.now _ (returns-clause-kept c) stands
