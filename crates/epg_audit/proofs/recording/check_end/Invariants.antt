use Rattle.std.proofs.Common.{◌≡◌, ◌≤◌, ℕ, Bool, List}
use Rattle.std.specs.Prelude.{None, Option}
use Rattle.packet_reader.specs.Reading.{PacketReading, packets_to_come}
use Rattle.version_book.specs.Airings.{AiredTables}
use Rattle.air_audit.specs.CycleChecking.{Auditing}
use Rattle.epg_audit.specs.Checks.{Follows}
use Rattle.epg_audit.proofs.recording.check_end.Given as goal

abbrev pub invariant-nulls : goal.invariant-nulls
invariant-nulls g l =
    record {
      going : l.packets.stop ≡ None;
      later : g.F.Source.faults l.fn.packets.source ≤ g.F.Source.faults l.packets.source;
      follows : (rate : Option ℕ) (nulls : Bool) (start : PacketReading g.row.F.Denot)
          (airings : List AiredTables) (c : Auditing)
          → Follows rate nulls g.F.Source.left start l.fn.packets airings c l.fn.passed
          → Follows rate nulls g.F.Source.left start l.packets airings c l.passed;
    }

abbrev pub decreases-nulls : goal.decreases-nulls
decreases-nulls g l = packets_to_come l.packets
