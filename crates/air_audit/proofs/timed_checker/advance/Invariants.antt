use Rattle.std.proofs.Common.{◌≡◌, List, length}
use Rattle.ts_packets.specs.Bytes.{Packet}
use Rattle.air_model.specs.Air.{Aired}
use Rattle.cycle_player.specs.Playing.{Within}
use Rattle.air_audit.specs.TimedChecking.{IsWithin}
use Rattle.air_audit.proofs.Stands.{KeepsOn}
use Rattle.air_audit.proofs.timed_checker.advance.Given as goal

abbrev pub invariant-nulls : goal.invariant-nulls
invariant-nulls l =
    record {
      within : IsWithin l.player;
      keeps : (xs : List Aired) (x : Aired) (rest : List Packet) → Within xs x rest l.fn.player
          → KeepsOn l.fn.nulls xs x rest l.player;
      rate : l.player.rate ≡ l.fn.player.rate;
      offsets : l.player.offsets ≡ l.fn.player.offsets;
    }

abbrev pub decreases-nulls : goal.decreases-nulls
decreases-nulls l = length l.player.left
