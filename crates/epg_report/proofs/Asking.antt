-- What an opener was asked for.
use Rattle.std.proofs.Common.{◌≡◌, ◌<◌, ℕ, List, refl, arith, inl, inr}
use Rattle.std.specs.Prelude.{Option, Some, None}
use Rattle.si_causes.specs.Causes.{Rose}
use Rattle.si_causes.specs.Opening.{Files, GivesFile, file_at}
use Rattle.epg_report.specs.declared.status.Status.{Status}
use Rattle.epg_report.specs.declared.status.Status.TheVariants.{BadMux, Memory, ReadFault, TooLong as PastLimit}
use Rattle.epg_report.specs.declared.status.Origin.TheVariants.{Input, Feed, Recording}
use Rattle.epg_report.specs.Asked.{HasAskedFor}

-- want of memory says least
pub asked_memory : (path : List ℕ) (old new : Option (List (List ℕ))) (met : Status) → HasAskedFor path old new met → HasAskedFor path old new Memory
asked_memory path old new (BadMux fault) asked = inl asked
asked_memory path old new (PastLimit Input) asked = asked
asked_memory path old new (PastLimit (Feed f)) asked = inr asked
asked_memory path old new (PastLimit Recording) asked = inr asked
asked_memory path old new (ReadFault Input) asked = asked
asked_memory path old new (ReadFault (Feed f)) asked = inr asked
asked_memory path old new (ReadFault Recording) asked = inr asked
asked_memory path old new Memory asked = asked
asked_memory path old new other asked = inr asked

-- an opener that tells its files gives the bytes of one
pub given_file : (files : Files) (path : List ℕ) (left : Option (List ℕ)) → GivesFile (Some files) path left → (bytes : List ℕ) × (left ≡ Some bytes) × (file_at path files ≡ Some bytes)
given_file files path None gives = absurd gives
given_file files path (Some bytes) gives = (bytes, refl, gives)

-- the count of a source without a fault rose
pub some_fault : (now : ℕ) → Rose 0 now → 0 < now
some_fault now (inl more) = more
some_fault now (inr last) = omega (arith, last)
