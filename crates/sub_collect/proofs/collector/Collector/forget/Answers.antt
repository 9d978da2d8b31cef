use Rattle.std.proofs.Common.{rules, ◌≡◌, ◌<◌, ◌++◌, ◌∷◌, ℕ, [], List, Option, Some, None, MatchOption, length, sym, ap, ◌∙◌, subst}
use Rattle.std.specs.Prelude.{filter}
use Rattle.std.specs.Map.{keys_of}
use Rattle.section_codec.specs.declared.table.Key.{Key}
use Rattle.sub_collect.specs.Marks.{Taken}
use Rattle.sub_collect.specs.KeyWalk.{is_after, HasNoKeyAfter, IsNextKey}
use Rattle.sub_collect.proofs.Forgetting.{forget_adds_a_mark}
use Rattle.sub_collect.proofs.KeyWalk.{next-pid, fewer_are_left, one_more_is_forgotten, none_is_forgotten, all_are_forgotten}
use Rattle.sub_collect.proofs.collector.Collector.forget.Goals as goal

pub loop-key-init : goal.loop-key-init
loop-key-init c = (tt, none_is_forgotten c.args.pid c.args.self.now)

pub loop-key-smaller : goal.loop-key-smaller
loop-key-smaller c =
    subst (λ (ks : List Key). length (filter (is_after c.args.pid (Some c.in-Some.key)) ks) < length (filter (is_after c.args.pid c.loop-key.last) (keys_of c.loop-key.self))) (sym c.forget_key.ensures.keys)
    (fewer_are_left c.args.pid c.loop-key.last c.loop-key.self c.in-Some.key c.in-Some.ensures)

pub loop-key-preserved : goal.loop-key-preserved
loop-key-preserved c = (
  next-pid c.args.pid c.loop-key.last c.loop-key.self c.in-Some.key c.in-Some.ensures,
  one_more_is_forgotten c.args.pid c.loop-key.last c.loop-key.self c.in-Some.key c.in-Some.ensures c.args.self.now c.forget_key.new.self c.loop-key.invariant.1 c.forget_key.ensures.kept,
)

pub returns-clause-kept : goal.returns-clause-kept
returns-clause-kept c = all_are_forgotten c.args.pid c.loop-key.last c.args.self.now c.loop-key.self c.in_default.ensures c.loop-key.invariant.1

pub returns-clause-stands : goal.returns-clause-stands
returns-clause-stands c = λ past stands. forget_adds_a_mark c.args.pid past c.args.self.now c.loop-key.self (returns-clause-kept c) stands
