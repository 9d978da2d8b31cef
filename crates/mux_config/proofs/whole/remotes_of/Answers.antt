use Rattle.std.proofs.Common.{◌∙◌, sym, ap}
use Rattle.mux_lines.specs.declared.record.Numbered.{Numbered}
use Rattle.mux_config.specs.Descriptions.{remote_of}
use Rattle.mux_config.specs.Kinds.{put_remote}
use Rattle.mux_config.proofs.Ordering.{remotes_next}
use Rattle.mux_config.proofs.whole.remotes_of.Goals as goal

pub records-preserved : goal.records-preserved
records-preserved c =
    remotes_next (remote_of c.args.stream c.args.original) c.args.records.now c.records.i c.index-records-i.result c.records.services.items c.take_remote.new.services.items c.records-test.true c.index-records-i.is
    c.records.invariant
    (c.in_ok-take_remote.ensures ∙ ap (λ (x : Numbered). put_remote c.args.records.now c.records.services.items (remote_of c.args.stream c.args.original x.says)) (sym c.index-records-i.is))
