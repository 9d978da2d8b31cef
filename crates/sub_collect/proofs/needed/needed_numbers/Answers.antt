use Rattle.std.proofs.Common.{◌+◌, ◌/◌, refl, sym, ap, ◌∙◌, arith}
use Rattle.sub_collect.specs.Collectors.{last_in}
use Rattle.sub_collect.specs.Slots.{needed_by}
use Rattle.sub_collect.proofs.Needing.{segments-none, segments-more}
use Rattle.section_codec.specs.Segments.{segments_need}
use Rattle.sub_collect.proofs.needed.needed_numbers.Goals as goal

pub returns-in_default : goal.returns-in_default
returns-in_default c =
    let lasts = last_in c.args.lasts.now in
    sym (ap (λ b. needed_by b lasts c.args.last) c.if-not-segmented.false
    ∙ segments-none lasts (1 + c.args.last / 8) c.loop-segment.segment c.loop-segment.numbers.items (segments_need lasts 0 (1 + c.args.last / 8)) c.loop-segment.invariant.so_far
    (omega (arith, c.loop-segment-test.true)) (ap lasts (sym c.from.ensures) ∙ c.in_default.is))

pub loop-segment-preserved : goal.loop-segment-preserved
loop-segment-preserved c =
    let lasts = last_in c.args.lasts.now in
    record {
      within = omega (arith, c.loop-segment-test.true);
      so_far = segments-more lasts (1 + c.args.last / 8) c.loop-segment.segment c.loop-segment.numbers.items (segments_need lasts 0 (1 + c.args.last / 8)) c.loop-segment.invariant.so_far
          c.in-Some.segment_last (c.loop-segment.segment + 1) c.put_numbers-in-loop-segment.new.numbers.items (omega (arith, c.loop-segment-test.true)) refl (ap lasts (sym c.from.ensures) ∙ c.in-Some.is) c.in_ok-put_numbers-2.ensures;
    }
