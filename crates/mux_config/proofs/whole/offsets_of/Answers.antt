use Rattle.std.proofs.Common.{◌∙◌, ◌++◌, [], List, sym, ap}
use Rattle.std.specs.List.{cons_option}
use Rattle.guide_model.specs.declared.offset.Offset.{Offset}
use Rattle.mux_lines.specs.declared.record.Numbered.{Numbered}
use Rattle.mux_config.specs.Descriptions.{local_in}
use Rattle.mux_config.proofs.Ordering.{all_step}
use Rattle.mux_config.proofs.whole.offsets_of.Goals as goal

pub records-preserved : goal.records-preserved
records-preserved c =
    c.in_ok-take_offset.ensures
    ∙ ap (λ (x : Numbered). c.records.offsets ++ cons_option (local_in x.says) []) (sym c.index-records-i.is)
    ∙ ap (λ (l : List Offset). l ++ cons_option (local_in c.index-records-i.result.says) []) c.records.invariant
    ∙ sym (all_step local_in c.args.records.now c.records.i c.index-records-i.result c.records-test.true c.index-records-i.is)
