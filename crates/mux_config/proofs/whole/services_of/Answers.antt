use Rattle.std.proofs.Common.{◌∙◌, sym, ap}
use Rattle.mux_lines.specs.declared.record.Numbered.{Numbered}
use Rattle.mux_config.specs.Descriptions.{service_in}
use Rattle.mux_config.specs.Kinds.{put_service}
use Rattle.mux_config.proofs.Ordering.{services_next}
use Rattle.mux_config.proofs.whole.services_of.Goals as goal

pub records-preserved : goal.records-preserved
records-preserved c =
    services_next c.args.records.now c.records.i c.index-records-i.result c.records.services.items c.take_service.new.services.items c.records-test.true c.index-records-i.is c.records.invariant
    (c.in_ok-take_service.ensures ∙ ap (λ (x : Numbered). put_service c.args.records.now c.records.services.items (service_in x.says)) (sym c.index-records-i.is))
