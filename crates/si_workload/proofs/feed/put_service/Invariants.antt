use Rattle.std.proofs.Common.{◌≡◌, ◌≤◌, ◌<◌, ◌++◌, ℕ}
use Rattle.std.specs.Prelude.{flat_map}
use Rattle.std.specs.List.{range_with_len}
use Rattle.si_workload.specs.Shows.{shows_ahead, shows_of, shows_on}
use Rattle.si_workload.specs.Texts.{day_text, name_line}
use Rattle.si_workload.specs.Going.{IsAt}
use Rattle.si_workload.proofs.feed.put_service.Given as goal

abbrev pub invariant-loop-day : goal.invariant-loop-day
invariant-loop-day l = record {
  within : l.day ≤ 14;
  at : IsAt l.day l.next;
  text : l.out.items ≡ l.fn.out.items ++ (name_line l.service
      ++ flat_map (day_text l.service (shows_of l.number l.service)) (range_with_len 0 l.day));
  later : (other : ℕ) → l.day ≤ other → shows_on other (shows_of l.number l.service) ≡ shows_on other (shows_ahead l.next);
}
