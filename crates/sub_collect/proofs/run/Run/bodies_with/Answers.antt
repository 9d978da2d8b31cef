use Rattle.std.proofs.Common.{◌≡◌, ◌+◌, drop, Some, sym, ap, ◌∙◌, arith}
use Rattle.section_codec.specs.Contents.{Content}
use Rattle.sub_collect.specs.Collectors.{body_in}
use Rattle.sub_collect.specs.Slots.{held_with, content_by}
use Rattle.sub_collect.proofs.Gathering.{with_front, gather-start, gather-none, gather-more, gather-end}
use Rattle.sub_collect.proofs.run.Run.bodies_with.Goals as goal

pub loop-i-init : goal.loop-i-init
loop-i-init c =
    let held = held_with (λ n. body_in n c.args.self.now.held.entries) c.args.put c.args.body.now in
    let ns = c.args.numbers.now in
    gather-start (content_by held ns) ∙ ap (λ (l : Content). with_front l (content_by held ns)) (sym c.in_ok-sections.ensures.items)

pub returns-in_default : goal.returns-in_default
returns-in_default c =
    let held = held_with (λ n. body_in n c.args.self.now.held.entries) c.args.put c.args.body.now in
    let ns = c.args.numbers.now in
    sym (gather-none held ns c.loop-i.i 0 c.loop-i.sections.items (content_by held ns) c.loop-i.invariant c.loop-i-test.true (sym c.in_default.ensures))

pub loop-i-preserved : goal.loop-i-preserved
loop-i-preserved c =
    let held = held_with (λ n. body_in n c.args.self.now.held.entries) c.args.put c.args.body.now in
    let ns = c.args.numbers.now in
    let body : c.of-body.result ≡ c.in-Some.held.now = c.of-body.ensures ∙ c.in_ok-from_slice.ensures.items in
    gather-more held ns c.loop-i.i 0 c.loop-i.sections.items (content_by held ns) c.loop-i.invariant c.of-body.result c.loop-i-test.true (sym c.in-Some.ensures ∙ ap Some (sym body))
    ∙ ap (λ (l : Content). with_front l (content_by held (drop (c.loop-i.i + 1) ns))) (sym c.in_ok-push.ensures.items)

pub returns : goal.returns
returns c =
    let held = held_with (λ n. body_in n c.args.self.now.held.entries) c.args.put c.args.body.now in
    let ns = c.args.numbers.now in
    sym (gather-end held ns c.loop-i.i 0 c.loop-i.sections.items (content_by held ns) c.loop-i.invariant (omega (arith, c.loop-i-test.false)) ∙ ap Some (sym c.of.ensures))
