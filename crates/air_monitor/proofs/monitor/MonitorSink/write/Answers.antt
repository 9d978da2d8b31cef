use Rattle.std.proofs.Common.{List, ℕ, [], refl, sym, subst, append-nil}
use Rattle.std.specs.Io.KnownBytes.{Appends}
use Rattle.air_monitor.specs.Heard.{HasTaken, Watching, WatchedOn}
use Rattle.air_monitor.proofs.Packets.{keeps_appends}
use Rattle.air_monitor.proofs.monitor.MonitorSink.write.Goals as goal

pub returns-in-Ok-clause-same : goal.returns-in-Ok-clause-same
returns-in-Ok-clause-same g c =
    let i = c.self.inside in
    let new : Watching g.row.A.Denot = record { air = c.write.new.self; part = c.listen.new.part; listener = c.listen.new.listener } in
    subst (λ (m : Watching g.row.A.Denot). WatchedOn g.A.Sink.written g.A.Sink.same m new) c.self.view_is (record {
      more = c.split_at.result.0.now;
      gave = subst (Appends (g.A.Sink.written i.air) (g.A.Sink.written c.write.new.self)) (sym c.split_at.ensures.front) c.in-Ok.ensures.bytes;
      same_air = c.write.ensures.same;
      same_join = c.listen.ensures.join;
      taken = c.listen.ensures.taken;
    })

pub returns-in-Err-clause-same : goal.returns-in-Err-clause-same
returns-in-Err-clause-same g c =
    let i = c.self.inside in
    let new : Watching g.row.A.Denot = record { air = c.write.new.self; part = i.part; listener = i.listener } in
    subst (λ (m : Watching g.row.A.Denot). WatchedOn g.A.Sink.written g.A.Sink.same m new) c.self.view_is (record {
      more = [];
      gave = keeps_appends (g.A.Sink.written i.air) (g.A.Sink.written c.write.new.self) c.in-Err.ensures.bytes;
      same_air = c.write.ensures.same;
      same_join = refl;
      taken = λ past has. subst (λ (l : List ℕ). HasTaken l i.part i.listener) (sym (append-nil past)) has;
    })
