-- What a call on the outside tells: its faults are counted, a failed call has raised its count, and a read that succeeds has met none.
use Rattle.std.specs.Prelude.{◌≡◌, ℕ, ◌-◌, ◌^◌, ◌<◌, ◌≤◌, ◌⊎◌, List, length, take, Result, OnErr, IfOk, Option}
use Rattle.std.specs.Io.KnownBytes.{Appends}

-- the count rose, or it stands at the last value of a counter of 64 bits
abbrev pub Rose : ℕ → ℕ → Type 0
Rose before now = (before < now) ⊎ (now ≡ 2 ^ 64 - 1)

-- the count never falls, and a failed call has raised it
pub record HasCause {T E : Type 0} (before now : ℕ) (result : Result T E) : Type 0 where
  pub later : before ≤ now
  pub failed : OnErr result (Rose before now)

-- a call that succeeds met no fault: the count is as it was
abbrev pub IsQuiet : {T E : Type 0} → ℕ → ℕ → Result T E → Type 0
IsQuiet before now result = IfOk result (λ value. now ≡ before)

-- a write of a piece that is not empty takes at least one byte of it
abbrev pub TakesSome : {E : Type 0} → Result ℕ E → List ℕ → Type 0
TakesSome result piece = IfOk result (λ n. (n ≤ length piece) × (0 < length piece → 0 < n))

-- a front of the piece, and not all of it, was appended
abbrev pub AppendsFront : Option (List ℕ) → Option (List ℕ) → List ℕ → Type 0
AppendsFront old new piece = (n : ℕ) × (n < length piece) × Appends old new (take n piece)
