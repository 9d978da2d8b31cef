use Rattle.std.proofs.Common.{◌≡◌, ◌+◌, ◌≤◌, ◌<◌, ◌++◌, ℕ, List, refl, sym, ap, ◌∙◌, arith, append-nil}
use Rattle.std.specs.Prelude.{flat_map}
use Rattle.std.specs.List.{range_with_len}
use Rattle.si_workload.specs.Shows.{shows_of, shows_on, shows_ahead}
use Rattle.si_workload.specs.Texts.{day_text, name_line}
use Rattle.si_workload.proofs.Days.{day_more}
use Rattle.si_workload.proofs.feed.put_service.Goals as goal

pub loop-day-init : goal.loop-day-init
loop-day-init c = record {
  within = omega arith;
  at = record { start = omega arith; bound = omega arith; few = omega arith };
  text = c.in_ok-put_name.ensures ∙ ap (λ (l : List ℕ). c.args.out.now.items ++ l) (sym (append-nil (name_line c.args.service)));
  later = λ other le. refl;
}

pub loop-day-preserved : goal.loop-day-preserved
loop-day-preserved c =
    let i = c.loop-day.invariant in
    let day = c.loop-day.day in
    let all = shows_of c.args.number c.args.service in
    record {
      within = omega (arith, c.loop-day-test.true);
      at = c.in_ok-put_day.ensures.passes.at;
      text = day_more c.args.service day all c.loop-day.next c.args.out.now.items (name_line c.args.service) c.loop-day.out.items c.put_day.new.out.items
          (i.later day (omega arith)) i.text c.in_ok-put_day.ensures.text;
      later = λ other le. i.later other (omega (arith, le)) ∙ c.in_ok-put_day.ensures.passes.later other (omega (arith, le));
    }

pub returns : goal.returns
returns c =
    let all : c.loop-day.day ≡ 14 = omega (arith, c.loop-day.invariant.within, c.loop-day-test.false) in
    c.loop-day.invariant.text
    ∙ ap (λ (n : ℕ). c.args.out.now.items ++ (name_line c.args.service ++ flat_map (day_text c.args.service (shows_of c.args.number c.args.service)) (range_with_len 0 n))) all
