use Rattle.std.proofs.Common.{◌≡◌, ◌≤◌, ℕ, Bool, List}
use Rattle.std.specs.Prelude.{None, Option}
use Rattle.packet_reader.specs.Reading.{PacketReading, packets_to_come}
use Rattle.version_book.specs.Airings.{AiredTables}
use Rattle.epg_audit.specs.Checks.{Follows}
use Rattle.air_audit.specs.CycleChecking.{form_of}
use Rattle.epg_audit.proofs.recording.check_cycle.Given as goal

abbrev pub invariant-loop-packets : goal.invariant-loop-packets
invariant-loop-packets g l =
    record {
      going : l.packets.stop ≡ None;
      form : form_of l.checker ≡ form_of l.fn.checker;
      later : g.F.Source.faults l.fn.packets.source ≤ g.F.Source.faults l.packets.source;
      follows : (rate : Option ℕ) (nulls : Bool) (start : PacketReading g.row.F.Denot)
          (airings : List AiredTables) → Follows rate nulls g.F.Source.left start l.fn.packets
          airings l.fn.checker l.fn.passed
          → Follows rate nulls g.F.Source.left start l.packets airings l.checker l.passed;
    }

abbrev pub decreases-loop-packets : goal.decreases-loop-packets
decreases-loop-packets g l = packets_to_come l.packets
