use Rattle.epg_report.specs.Told.{told}
use Rattle.epg_soak.proofs.SoakFacts.{met_by_load, soak_memory, soak_run}
use Rattle.epg_soak.proofs.top.run_soak.Goals as goal

pub returns-in_default : goal.returns-in_default
returns-in_default g c =
    soak_memory c.args.number (told g.A.Sink.written g.A.Sink.faults c.args.air.now c.run_load.new.air) (told g.R.Sink.written g.R.Sink.faults c.args.report.now c.out_of_memory.new.report) c.out_of_memory.result c.out_of_memory.ensures.status

pub finish-requires-clause-met : goal.finish-requires-clause-met
finish-requires-clause-met g c =
    met_by_load c.args.number (told g.A.Sink.written g.A.Sink.faults c.args.air.now c.run_load.new.air) c.in-Ok.ran c.in-Ok.ensures

pub returns : goal.returns
returns g c =
    soak_run c.args.number (told g.A.Sink.written g.A.Sink.faults c.args.air.now c.run_load.new.air) (told g.R.Sink.written g.R.Sink.faults c.args.report.now c.finish.new.report) c.in-Ok.ran c.finish.result c.in-Ok.ensures c.finish.ensures.ends
