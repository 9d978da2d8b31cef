use Rattle.std.proofs.Common.{◌≡◌, ◌+◌, ◌*◌, ◌++◌, List, ℕ, ap, ◌∙◌}
use Rattle.si_lists.proofs.Outcomes.{ok_more, on_ok}
use Rattle.si_workload.proofs.Days.{appended, day_put, passes}
use Rattle.si_workload.proofs.feed.put_day.Goals as goal

pub returns-clause-text : goal.returns-clause-text
returns-clause-text c =
    ok_more c.extend_from_slice.result _ _
    (λ all. day_put c.args.service c.args.day c.args.next.now c.put_items.new.next c.new-items.result.items c.args.out.now.items c.put_day_line.new.out.items c.put_items.new.out.items
    c.extend_from_slice.new.self.items c.in_ok-count.count c.requires.at c.in_ok-count.ensures.takes c.in_ok-count.ensures.behind c.new-items.ensures.items c.in_ok-put_day_line.ensures
    (all ∙ ap (λ (l : List ℕ). c.put_day_line.new.out.items ++ l) c.deref.ensures.value))
    (appended c.extend_from_slice.result c.extend_from_slice.new.self.items _ _ c.extend_from_slice.ensures.items)

pub returns-clause-passes : goal.returns-clause-passes
returns-clause-passes c =
    on_ok c.extend_from_slice.result _
    (passes c.args.day c.args.next.now c.put_items.new.next c.new-items.result.items c.put_items.new.out.items c.in_ok-count.count c.requires.at c.in_ok-count.ensures.takes c.in_ok-count.ensures.behind)
