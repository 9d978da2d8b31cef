-- What a call answers that takes one part more.
use Rattle.std.specs.Prelude.{◌≡◌, Bool, true, false, Option, Some, None}
use Rattle.desk_checkpoint.specs.Checkpoints.{Checkpoint}

-- it did what may be done, or nothing may
abbrev pub Answers : Bool → Option Checkpoint → Checkpoint → Type 0
Answers true found new = found ≡ Some new
Answers false found new = found ≡ None
