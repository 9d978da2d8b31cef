-- How far the section that bytes begin with reaches.
use Rattle.std.specs.Prelude.{ℕ, List, if◌then◌else◌, nat_le, length}
use Rattle.ts_demux.specs.declared.headers.Reach.{Reach}
use Rattle.ts_demux.specs.declared.headers.Reach.TheVariants.{Ends, Open, TooLong}
use Rattle.ts_demux.specs.Hearing.{size_in, is_whole}
use Rattle.ts_demux.specs.Keeping.{is_long}

abbrev pub reach_of : List ℕ → Reach
reach_of bytes =
    if is_whole bytes then Ends (size_in bytes)
    else if is_long bytes then TooLong
    else Open (if nat_le 3 (length bytes) then size_in bytes else 4096)
