use Rattle.std.proofs.Common.{◌≡◌, length}
use Rattle.si_base.specs.Crc.{crc_from, crc_of}
use Rattle.si_base.proofs.crc.crc32.Given as goal

-- what is left, from here on, has the CRC of all
abbrev pub invariant-loop-rest : goal.invariant-loop-rest
invariant-loop-rest l = crc_from l.crc l.rest ≡ crc_of l.bytes

abbrev pub decreases-loop-rest : goal.decreases-loop-rest
decreases-loop-rest l = length l.rest
