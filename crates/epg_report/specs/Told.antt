-- What a sink, a source and an opener told before and after a call.
use Rattle.std.specs.Prelude.{◌⊎◌, ℕ, List, Option}
use Rattle.std.specs.Io.KnownBytes.{Appends}
use Rattle.si_causes.specs.Causes.{Rose, AppendsFront}
use Rattle.si_causes.specs.Opening.{Files}

-- The bytes that the sink took, and the count of its faults.
pub record ReportTaken : Type 0 where
  pub old : Option (List ℕ)
  pub new : Option (List ℕ)
  pub faults_old : ℕ
  pub faults_new : ℕ

abbrev pub told : {A : Type 0} → (A → Option (List ℕ)) → (A → ℕ) → A → A → ReportTaken
told written faults old new = record { old = written old; new = written new; faults_old = faults old; faults_new = faults new }

-- the text was appended, or a proper front of it where the sink failed in this call
abbrev pub Reported : ReportTaken → List ℕ → Type 0
Reported report text = Appends report.old report.new text ⊎ (Rose report.faults_old report.faults_new × AppendsFront report.old report.new text)

-- What a source gave: the bytes that were left in it before and behind a call, where they are known, and the count of its faults.
pub record SourceGave : Type 0 where
  pub old : Option (List ℕ)
  pub new : Option (List ℕ)
  pub faults_old : ℕ
  pub faults_new : ℕ

abbrev pub gave : {S : Type 0} → (S → Option (List ℕ)) → (S → ℕ) → S → S → SourceGave
gave left faults old new = record { old = left old; new = left new; faults_old = faults old; faults_new = faults new }

-- What an opener was asked: its files, where they are known, the paths that were tried, and the counts of its faults, in opening files and
-- in reading those that it opened.
pub record OpenerAsked : Type 0 where
  pub files : Option Files
  pub tried_old : Option (List (List ℕ))
  pub tried_new : Option (List (List ℕ))
  pub faults_old : ℕ
  pub faults_new : ℕ
  pub read_old : ℕ
  pub read_new : ℕ

abbrev pub asked : {O : Type 0} → (O → Option Files) → (O → Option (List (List ℕ))) → (O → ℕ) → (O → ℕ) → O → O → OpenerAsked
asked files tried faults read_faults old new = record {
  files = files old;
  tried_old = tried old;
  tried_new = tried new;
  faults_old = faults old;
  faults_new = faults new;
  read_old = read_faults old;
  read_new = read_faults new;
}
