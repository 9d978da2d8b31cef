use Rattle.std.proofs.Common.{◌∙◌, ◌++◌, List, sym, ap}
use Rattle.guide_model.specs.declared.descriptor.RawDesc.{RawDesc}
use Rattle.mux_lines.specs.declared.record.Numbered.{Numbered}
use Rattle.mux_config.specs.Descriptions.{said_at}
use Rattle.mux_config.proofs.Ordering.{at_step}
use Rattle.mux_config.proofs.whole.descriptors_at.Goals as goal

pub records-preserved : goal.records-preserved
records-preserved c =
    c.in_ok-take_descriptors.ensures
    ∙ ap (λ (x : Numbered). c.records.descriptors ++ said_at c.args.place x.says) (sym c.index-records-i.is)
    ∙ ap (λ (l : List RawDesc). l ++ said_at c.args.place c.index-records-i.result.says) c.records.invariant
    ∙ sym (at_step c.args.place c.args.records.now c.records.i c.index-records-i.result c.records-test.true c.index-records-i.is)
