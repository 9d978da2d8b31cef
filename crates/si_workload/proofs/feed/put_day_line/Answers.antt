use Rattle.std.proofs.Common.{ℕ, ◌+◌, ◌*◌, ◌∷◌, ◌++◌, [], List, refl, ap, ◌∙◌}
use Rattle.std.specs.Prelude.{codes, decimal, take}
use Rattle.si_lists.proofs.Outcomes.{ok_more}
use Rattle.si_time.specs.Moments.{moment_text}
use Rattle.si_workload.specs.Texts.{moment_at}
use Rattle.si_workload.proofs.Days.{appended, steps}
use Rattle.si_workload.proofs.feed.put_day_line.Goals as goal

pub returns : goal.returns
returns c =
    ok_more c.extend_from_slice-5.result _ _
    (λ last. steps c.args.out.now.items (codes "day,")
    (decimal c.args.service ∷ codes "," ∷ take 10 (moment_text (moment_at (96 * c.args.day))) ∷ codes "," ∷ decimal c.args.count ∷ codes "\n" ∷ [])
    c.extend_from_slice.new.self.items c.extend_from_slice-5.new.self.items c.in_ok-extend_from_slice.ensures.items (
      c.put_number.new.out.items,
      c.in_ok-put_number.ensures.text,
      (
        c.extend_from_slice-2.new.self.items,
        c.in_ok-extend_from_slice-2.ensures.items,
        (
          c.extend_from_slice-3.new.self.items,
          c.in_ok-extend_from_slice-3.ensures.items ∙ ap (λ (l : List ℕ). c.extend_from_slice-2.new.self.items ++ l)
              (c.split_at.ensures.front ∙ ap (take 10) (c.write_moment-moment.ensures.text ∙ ap moment_text c.moment_at.ensures)),
          (c.extend_from_slice-4.new.self.items, c.in_ok-extend_from_slice-4.ensures.items, (c.put_number-2.new.out.items, c.in_ok-put_number-2.ensures.text, (c.extend_from_slice-5.new.self.items, last, refl))),
        ),
      ),
    ))
    (appended c.extend_from_slice-5.result c.extend_from_slice-5.new.self.items _ _ c.extend_from_slice-5.ensures.items)
