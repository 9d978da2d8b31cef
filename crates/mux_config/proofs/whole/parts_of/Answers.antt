use Rattle.std.proofs.Common.{◌∙◌, ◌++◌, [], List, map, take, sym, ap}
use Rattle.std.specs.List.{cons_option}
use Rattle.std.proofs.lemmas.List.{map-append}
use Rattle.guide_model.specs.declared.stream.Component.{Component}
use Rattle.mux_lines.specs.declared.record.Numbered.{Numbered}
use Rattle.mux_config.specs.Descriptions.{all_of, part_in, with_descriptors}
use Rattle.mux_config.proofs.Ordering.{all_step}
use Rattle.mux_config.proofs.whole.parts_of.Goals as goal

pub records-preserved : goal.records-preserved
records-preserved c =
    let id = c.args.service in
    let whole = with_descriptors c.args.records.now id in
    let here = cons_option (part_in id c.index-records-i.result.says) [] in
    c.in_ok-take_part.ensures
    ∙ ap (λ (x : Numbered). c.records.parts ++ map whole (cons_option (part_in id x.says) [])) (sym c.index-records-i.is)
    ∙ ap (λ (l : List Component). l ++ map whole here) c.records.invariant
    ∙ sym (map-append whole (all_of (part_in id) (take c.records.i c.args.records.now)) here)
    ∙ ap (map whole) (sym (all_step (part_in id) c.args.records.now c.records.i c.index-records-i.result c.records-test.true c.index-records-i.is))
