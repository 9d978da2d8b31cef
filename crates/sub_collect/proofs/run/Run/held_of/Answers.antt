use Rattle.std.proofs.Common.{ℕ, ◌+◌, ◌++◌, ◌∷◌, [], drop, get_or, sym, ap, ◌∙◌}
use Rattle.section_codec.specs.Contents.{Content}
use Rattle.sub_collect.specs.Collectors.{body_in}
use Rattle.sub_collect.specs.Parts.{numbered}
use Rattle.sub_collect.specs.PartSlots.{held_by}
use Rattle.sub_collect.proofs.Slots.{body_in-get}
use Rattle.sub_collect.proofs.PartsHeld.{held-none, held-some}
use Rattle.sub_collect.proofs.run.Run.held_of.Goals.{in-Some+in_ok-from_slice+in_ok-push, in_default}
use Rattle.sub_collect.proofs.run.Run.held_of.Goals as goal

pub loop-i-preserved : goal.loop-i-preserved
loop-i-preserved c =
    let entries = c.args.self.now.held.entries in
    let bodies = λ (n : ℕ). body_in n entries in
    let ns = c.args.numbers.now in
    let i = c.loop-i.i in
    let n = get_or ns i 0 in
    let before = c.loop-i.sections.items in
    let next = λ (l : Content). l ++ held_by bodies (drop (i + 1) ns) in
    elim c.match-get.branch [
      | in-Some+in_ok-from_slice+in_ok-push w ↦
          ap (λ v. next v.items) w.sections-is
          ∙ ap next (w.in_ok-push.ensures.items ∙ ap (λ b. before ++ numbered n b ∷ []) (w.of-body.ensures ∙ w.in_ok-from_slice.ensures.items ∙ w.as_slice.ensures))
          ∙ held-some bodies ns i 0 before c.loop-i.invariant c.loop-i-test.true w.in-Some.held.now (sym (body_in-get n entries) ∙ sym w.in-Some.ensures.value)
      | in_default w ↦
          ap (λ v. next v.items) w.sections-is
          ∙ held-none bodies ns i 0 before c.loop-i.invariant c.loop-i-test.true (sym (body_in-get n entries) ∙ sym w.in_default.ensures.value)
    ]
