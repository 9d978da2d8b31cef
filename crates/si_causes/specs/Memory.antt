-- Sources and sinks in memory.
use Rattle.std.specs.Prelude.{ℕ, ◌+◌, ◌-◌, ◌^◌, ◌==◌, Bool, List, [], ◌∷◌, ◌++◌, length, take, drop, min, Option, None, Some, option_map, Ok, Err, Result, if◌then◌else◌}
use Rattle.std.specs.List.{list_any}
use Rattle.si_causes.specs.declared.causes.Failed.{Failed}
use Rattle.si_causes.specs.Opening.{Files, file_at}

-- the calls of a source or sink in memory
pub record Calls : Type 0 where
  -- those that fail, counted from 0
  pub fail_at : List ℕ
  -- how many there were
  pub calls : ℕ
  -- how many of them failed
  pub faults : ℕ

-- calls that are still to come
abbrev pub no_calls : List ℕ → Calls
no_calls fail_at = record { fail_at = fail_at; calls = 0; faults = 0 }

-- one more on a counter of 64 bits, which stays at its last value
abbrev pub raised : ℕ → ℕ
raised count = min (count + 1) (2 ^ 64 - 1)

-- whether the next call is one of those that fail
abbrev pub fails_next : Calls → Bool
fails_next c = list_any (λ call. call == c.calls) c.fail_at

-- one more call
abbrev pub and_call : Calls → Calls
and_call c = record c { calls = raised c.calls }

-- one more call, which failed
abbrev pub and_failed : Calls → Calls
and_failed c = record c { calls = raised c.calls; faults = raised c.faults }

-- what a call that is answered so leaves
abbrev pub after_call : {T E : Type 0} → Calls → Result T E → Calls
after_call c (Ok value) = and_call c
after_call c (Err error) = and_failed c

-- a source in memory
pub record Supply : Type 0 where
  -- the bytes still to come
  pub left : List ℕ
  -- how many bytes one call gives at most
  pub piece : ℕ
  pub calls : Calls

-- a sink in memory
pub record Store : Type 0 where
  -- the bytes taken
  pub taken : List ℕ
  -- how many bytes one call takes at most
  pub piece : ℕ
  pub calls : Calls

-- how many bytes a read gives, into so much room
abbrev pub given : Supply → ℕ → ℕ
given s room = min (min s.piece room) (length s.left)

-- what a read into so much room answers
abbrev pub read_answer : Supply → ℕ → Result ℕ Failed
read_answer s room = if fails_next s.calls then Err (record {}) else Ok (given s room)

-- what it leaves
abbrev pub read_after : Supply → ℕ → Supply
read_after s room =
    if fails_next s.calls then record s { calls = and_failed s.calls }
    else record s { calls = and_call s.calls; left = drop (given s room) s.left }

-- what a write of a piece that is answered so leaves
abbrev pub write_after : Store → List ℕ → Result ℕ Failed → Store
write_after s piece (Ok n) = record s { calls = and_call s.calls; taken = s.taken ++ take n piece }
write_after s piece (Err failed) = record s { calls = and_failed s.calls }

-- an opener of files in memory
pub record Archive : Type 0 where
  pub files : Files
  -- the paths asked for, where each found memory
  pub tried : Option (List (List ℕ))
  -- the read that fails: the number of its opening, and its place among that source's reads, both from 0
  pub read_fail : Option (ℕ × ℕ)
  -- the openings
  pub calls : Calls
  -- how many of the sources that were closed had failed
  pub read_faults : ℕ

-- the reads that fail of the source that the opening with this number gives
abbrev pub fails_in : Option (ℕ × ℕ) → ℕ → List ℕ
fails_in None opening = []
fails_in (Some fail) opening = if fail.0 == opening then fail.1 ∷ [] else []

-- a source over these bytes, of which these reads fail
abbrev pub source_over : List ℕ → List ℕ → Supply
source_over fail_at bytes = record { left = bytes; piece = 65536; calls = no_calls fail_at }

-- the source that opening this path gives: over the bytes of the first file with this path
abbrev pub opened : Archive → List ℕ → Option Supply
opened a path = option_map (source_over (fails_in a.read_fail a.calls.calls)) (file_at path a.files)
