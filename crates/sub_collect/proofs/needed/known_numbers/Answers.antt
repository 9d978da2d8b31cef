use Rattle.std.proofs.Common.{ℕ, [], ◌+◌, ◌/◌, ◌++◌, refl, sym, ap, ◌∙◌, append-nil, arith}
use Rattle.std.specs.Prelude.{Option, option_map, unwrap_or}
use Rattle.std.specs.List.{flat_map}
use Rattle.section_codec.specs.Contents.{numbers_from}
use Rattle.section_codec.specs.Segments.{numbers_in_segment}
use Rattle.sub_collect.specs.Collectors.{last_in}
use Rattle.sub_collect.specs.Parts.{known_in}
use Rattle.sub_collect.proofs.PartsHeld.{known-next}
use Rattle.sub_collect.proofs.needed.known_numbers.Goals.{in-Some+in_ok-put_numbers-2, in_default}
use Rattle.sub_collect.proofs.needed.known_numbers.Goals as goal

pub loop-segment-preserved : goal.loop-segment-preserved
loop-segment-preserved c =
    let lasts = last_in c.args.lasts.now in
    let n = c.loop-segment.segment in
    let many = 1 + c.args.last / 8 in
    let before = c.loop-segment.numbers.items in
    let all = flat_map (known_in lasts) (numbers_from 0 many) in
    let known = λ (o : Option ℕ). before ++ unwrap_or (option_map (numbers_in_segment n) o) [] in
    elim c.match-lasts-from.branch [
      | in-Some+in_ok-put_numbers-2 w ↦ record {
        within = omega (arith, c.loop-segment-test.true);
        so_far = known-next lasts many n (n + 1) before c.match-lasts-from.numbers.items all c.loop-segment.invariant.so_far (omega (arith, c.loop-segment-test.true)) refl
            (ap (λ v. v.items) w.numbers-is ∙ w.in_ok-put_numbers-2.ensures ∙ sym (ap known (ap lasts (sym c.from.ensures) ∙ w.in-Some.is)));
      }
      | in_default w ↦ record {
        within = omega (arith, c.loop-segment-test.true);
        so_far = known-next lasts many n (n + 1) before c.match-lasts-from.numbers.items all c.loop-segment.invariant.so_far (omega (arith, c.loop-segment-test.true)) refl
            (ap (λ v. v.items) w.numbers-is ∙ sym (ap known (ap lasts (sym c.from.ensures) ∙ w.in_default.is) ∙ append-nil before));
      }
    ]
