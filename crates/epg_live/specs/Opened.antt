-- The files of the feeds: what an opener was asked for, the readers that it gave, and how they were closed.
use Rattle.std.specs.Prelude.{◌≡◌, ℕ, ◌<◌, ◌≤◌, List, [], ◌∷◌, ◌++◌, length, take, Option, None, Some}
use Rattle.si_causes.specs.Causes.{Rose}
use Rattle.si_causes.specs.Opening.{Files, GivesFile}
use Rattle.si_causes.specs.Reading.{Reading, fresh}
use Rattle.epg_report.specs.declared.status.Status.{Status}
use Rattle.epg_report.specs.declared.status.Status.TheVariants.{OpenFault, Memory}
use Rattle.epg_report.specs.Told.{OpenerAsked}

-- The list of the paths asked for grew by these. An opener that found no room for one tells the list no more.
abbrev pub HasTried : Option (List (List ℕ)) → Option (List (List ℕ)) → List (List ℕ) → Type 0
HasTried None new paths = new ≡ None
HasTried (Some before) None paths = Unit {0}
HasTried (Some before) (Some now) paths = now ≡ before ++ paths

-- A reader that has read nothing, over a source that has not failed; an opener that tells its files gave that of this path.
pub record IsOpened {S : Type 0} (left : S → Option (List ℕ)) (faults : S → ℕ) (files : Option Files) (path : List ℕ) (reader : Reading S) : Type 0 where
  pub source : S
  pub unread : reader ≡ fresh source
  pub sound : faults source ≡ 0
  pub holds : GivesFile files path (left source)

-- a reader for each of these paths, in order
abbrev pub AreOpened : {S : Type 0} → (S → Option (List ℕ)) → (S → ℕ) → Option Files → List (List ℕ) → List (Reading S) → Type 0
AreOpened left faults files [] [] = Unit {0}
AreOpened left faults files [] (reader ∷ readers) = ⊥
AreOpened left faults files (path ∷ paths) [] = ⊥
AreOpened left faults files (path ∷ paths) (reader ∷ readers) = IsOpened left faults files path reader × AreOpened left faults files paths readers

-- a reader of the file of this path was added
abbrev pub Adds : {S : Type 0} → (S → Option (List ℕ)) → (S → ℕ) → Option Files → List ℕ → List (Reading S) → List (Reading S) → Type 0
Adds {S} left faults files path old new = (reader : Reading S) × IsOpened left faults files path reader × (new ≡ old ++ reader ∷ [])

-- All of these paths were opened, in order, and each has its reader.
pub record HasOpened {S : Type 0} (left : S → Option (List ℕ)) (faults : S → ℕ) (paths : List (List ℕ)) (opener : OpenerAsked)
    (readers : List (Reading S)) : Type 0 where
  pub opened : AreOpened left faults opener.files paths readers
  pub tried : HasTried opener.tried_old opener.tried_new paths

-- Why not all of them are: one was not opened, and none after it was asked for; or memory was wanting.
abbrev pub NotOpened : List (List ℕ) → OpenerAsked → Status → Type 0
NotOpened paths opener (OpenFault f) =
    (1 ≤ f) × (f ≤ length paths) × HasTried opener.tried_old opener.tried_new (take f paths) × Rose opener.faults_old opener.faults_new
NotOpened paths opener Memory = (k : ℕ) × HasTried opener.tried_old opener.tried_new (take k paths)
NotOpened paths opener status = ⊥

-- ---- closing

-- no source of these has failed
abbrev pub NoneFailed : {S : Type 0} → (S → ℕ) → List (Reading S) → Type 0
NoneFailed faults [] = Unit {0}
NoneFailed faults (reader ∷ readers) = (faults reader.source ≡ 0) × NoneFailed faults readers

-- where a source of these has failed, this holds
abbrev pub IfFailed : {S : Type 0} → (S → ℕ) → Type 0 → List (Reading S) → Type 0
IfFailed faults holds [] = Unit {0}
IfFailed faults holds (reader ∷ readers) = (0 < faults reader.source → holds) × IfFailed faults holds readers

-- all were closed: the count of read faults rose exactly where the source of one has failed
pub record Closes {S : Type 0} (faults : S → ℕ) (readers : List (Reading S)) (before now : ℕ) : Type 0 where
  pub later : before ≤ now
  pub rose : IfFailed faults (Rose before now) readers
  pub kept : NoneFailed faults readers → now ≡ before
