use Rattle.std.proofs.Common.{ℕ, ◌+◌, ◌*◌, ◌%◌, ◌∷◌, ◌++◌, [], List, refl, ap, ◌∙◌}
use Rattle.std.specs.Prelude.{codes, decimal}
use Rattle.si_lists.proofs.Outcomes.{ok_more}
use Rattle.si_time.specs.Moments.{moment_text, duration_text}
use Rattle.si_workload.specs.Texts.{moment_at}
use Rattle.si_workload.proofs.Days.{appended, steps}
use Rattle.si_workload.proofs.mux.put_service.Goals as goal

pub returns : goal.returns
returns c =
    ok_more c.extend_from_slice-6.result _ _
    (λ last. steps c.args.out.now.items (codes "service,")
    (decimal (101 + c.args.i) ∷ codes "," ∷ decimal (1 + c.args.i % 2) ∷ codes ",1," ∷ decimal (256 + c.args.i) ∷ codes "," ∷ decimal (512 + c.args.i) ∷ codes ",Maker,Channel " ∷ decimal c.args.i ∷ codes "\n" ∷ [])
    c.extend_from_slice.new.self.items c.extend_from_slice-6.new.self.items c.in_ok-extend_from_slice.ensures.items
    (c.put_number.new.out.items, c.in_ok-put_number.ensures.text, (c.extend_from_slice-2.new.self.items, c.in_ok-extend_from_slice-2.ensures.items, (c.put_number-2.new.out.items, c.in_ok-put_number-2.ensures.text, (c.extend_from_slice-3.new.self.items, c.in_ok-extend_from_slice-3.ensures.items, (c.put_number-3.new.out.items, c.in_ok-put_number-3.ensures.text, (c.extend_from_slice-4.new.self.items, c.in_ok-extend_from_slice-4.ensures.items, (c.put_number-4.new.out.items, c.in_ok-put_number-4.ensures.text, (c.extend_from_slice-5.new.self.items, c.in_ok-extend_from_slice-5.ensures.items, (c.put_number-5.new.out.items, c.in_ok-put_number-5.ensures.text, (c.extend_from_slice-6.new.self.items, last, refl)))))))))))
    (appended c.extend_from_slice-6.result c.extend_from_slice-6.new.self.items _ _ c.extend_from_slice-6.ensures.items)
