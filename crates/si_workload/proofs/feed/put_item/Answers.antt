use Rattle.std.proofs.Common.{ℕ, ◌+◌, ◌*◌, ◌%◌, ◌∷◌, ◌++◌, [], List, refl, ap, ◌∙◌}
use Rattle.std.specs.Prelude.{codes, decimal}
use Rattle.si_lists.proofs.Outcomes.{ok_more}
use Rattle.si_time.specs.Moments.{moment_text, duration_text}
use Rattle.si_workload.specs.Texts.{moment_at}
use Rattle.si_workload.proofs.Days.{appended, steps}
use Rattle.si_workload.proofs.feed.put_item.Goals as goal

pub returns : goal.returns
returns c =
    ok_more c.extend_from_slice-7.result _ _
    (λ last. steps c.args.out.now.items (codes "item,")
    (decimal c.args.show.id ∷ codes "," ∷ moment_text (moment_at c.args.show.start) ∷ codes "," ∷ duration_text (900 * c.args.show.quarters) ∷ codes ",eng,Show " ∷ decimal c.args.show.title ∷ codes ",,,,,\n" ∷ [])
    c.extend_from_slice.new.self.items c.extend_from_slice-7.new.self.items c.in_ok-extend_from_slice.ensures.items
    (c.put_number.new.out.items, c.in_ok-put_number.ensures.text, (c.extend_from_slice-2.new.self.items, c.in_ok-extend_from_slice-2.ensures.items, (c.extend_from_slice-3.new.self.items, c.in_ok-extend_from_slice-3.ensures.items ∙ ap (λ (l : List ℕ). c.extend_from_slice-2.new.self.items ++ l) (c.write_moment.ensures.text ∙ ap moment_text c.moment_at.ensures), (c.extend_from_slice-4.new.self.items, c.in_ok-extend_from_slice-4.ensures.items, (c.extend_from_slice-5.new.self.items, c.in_ok-extend_from_slice-5.ensures.items ∙ ap (λ (l : List ℕ). c.extend_from_slice-4.new.self.items ++ l) c.write_duration.ensures, (c.extend_from_slice-6.new.self.items, c.in_ok-extend_from_slice-6.ensures.items, (c.put_number-2.new.out.items, c.in_ok-put_number-2.ensures.text, (c.extend_from_slice-7.new.self.items, last, refl)))))))))
    (appended c.extend_from_slice-7.result c.extend_from_slice-7.new.self.items _ _ c.extend_from_slice-7.ensures.items)
