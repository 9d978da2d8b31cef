use Rattle.std.proofs.Common.{rules, ◌≡◌, List, [], ◌∷◌, Option, Some, None, false, sym, refl, ap, subst, ◌∙◌}
use Rattle.std.specs.Prelude.{MatchOption}
use Rattle.section_codec.specs.declared.table.Key.{Key}
use Rattle.sub_collect.specs.Collectors.{KeysHeard}
use Rattle.sub_collect.specs.KeyWalk.{HasNoKeyAfter, IsNextKey}
use Rattle.sub_collect.proofs.KeyWalk.{none_is_left, next_is_first, others_are_left}
use Rattle.sub_collect.proofs.collector.Collector.next_key.Goals as goal

pub returns-in_err-key : goal.returns-in_err-key
returns-in_err-key c =
    let none : HasNoKeyAfter c.args.pid c.args.last c.args.self.now =
    subst (HasNoKeyAfter c.args.pid c.args.last) c.self.view_is
    (none_is_left c.args.pid c.args.last c.start_after-start.result c.start_after-start.ensures c.self.inside.slots c.range.result (c.range.ensures.in_range tt) c.in_err-key.ensures.steps.0) in
    subst (λ (o : Option Key). MatchOption o (HasNoKeyAfter c.args.pid c.args.last c.args.self.now) (IsNextKey c.args.pid c.args.last c.args.self.now)) (sym c.from_residual.ensures) none

pub returns-then-key-pid : goal.returns-then-key-pid
returns-then-key-pid c =
    subst (λ (l : KeysHeard). IsNextKey c.args.pid c.args.last l c.in_ok-key.key.now) c.self.view_is
    (next_is_first c.args.pid c.args.last c.start_after-start.result c.start_after-start.ensures c.self.inside.slots c.range.result (c.range.ensures.in_range tt) (c.in_ok-key.key.now, c.in_ok-key.field-0-1.now) c.next.new.self c.in_ok-key.ensures.steps c.if-key-pid.true)

pub returns-else-key-pid : goal.returns-else-key-pid
returns-else-key-pid c =
    subst (HasNoKeyAfter c.args.pid c.args.last) c.self.view_is
    (others_are_left c.args.pid c.args.last c.start_after-start.result c.start_after-start.ensures c.self.inside.slots c.range.result (c.range.ensures.in_range tt) (c.in_ok-key.key.now, c.in_ok-key.field-0-1.now) c.next.new.self c.in_ok-key.ensures.steps c.if-key-pid.false)
