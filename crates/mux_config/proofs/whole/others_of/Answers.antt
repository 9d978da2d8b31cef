use Rattle.std.proofs.Common.{◌∙◌, sym, ap}
use Rattle.mux_lines.specs.declared.record.Numbered.{Numbered}
use Rattle.mux_config.specs.Descriptions.{other_in}
use Rattle.mux_config.specs.Kinds.{put_other}
use Rattle.mux_config.proofs.Ordering.{others_next}
use Rattle.mux_config.proofs.whole.others_of.Goals as goal

pub records-preserved : goal.records-preserved
records-preserved c =
    others_next c.args.records.now c.records.i c.index-records-i.result c.records.others.items c.take_other.new.others.items c.records-test.true c.index-records-i.is c.records.invariant
    (c.in_ok-take_other.ensures ∙ ap (λ (x : Numbered). put_other c.args.records.now c.records.others.items (other_in x.says)) (sym c.index-records-i.is))
