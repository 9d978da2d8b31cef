-- What an opener was asked for, and the file at a path.
use Rattle.std.specs.Prelude.{◌≡◌, ◌⊎◌, List, ℕ, Option, Some}
use Rattle.si_causes.specs.Opening.{Files, Tries, file_at}
use Rattle.epg_report.specs.declared.status.Status.{Status}
use Rattle.epg_report.specs.declared.status.Status.TheVariants.{BadMux, Memory, ReadFault, TooLong as PastLimit}
use Rattle.epg_report.specs.declared.status.Origin.TheVariants.{Input}

-- of the bytes of the file at a path
pub record AtPath (path : List ℕ) (files : Files) (Is : List ℕ → Type 0) : Type 0 where
  pub bytes : List ℕ
  pub file : file_at path files ≡ Some bytes
  pub is : Is bytes

-- The opener was asked for the path behind the description of the multiplex alone.
abbrev pub HasAskedFor : List ℕ → Option (List (List ℕ)) → Option (List (List ℕ)) → Status → Type 0
HasAskedFor path old new (BadMux fault) = new ≡ old
HasAskedFor path old new (PastLimit Input) = (new ≡ old) ⊎ Tries old new path
HasAskedFor path old new (ReadFault Input) = (new ≡ old) ⊎ Tries old new path
HasAskedFor path old new Memory = (new ≡ old) ⊎ Tries old new path
HasAskedFor path old new status = Tries old new path
