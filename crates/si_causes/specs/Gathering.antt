-- What collecting the next line does, inside `next`.
use Rattle.std.specs.Prelude.{◌≡◌, ◌≢◌, ℕ, ◌+◌, ◌≤◌, true, false, List, [], ◌∷◌, ◌++◌, length, take, Option, Ok, Err, Result}
use Rattle.std.specs.Io.KnownBytes.{Consumes, IsAtEnd}
use Rattle.si_causes.specs.Causes.{Rose}
use Rattle.si_causes.specs.Lines.{first_line, after_line, has_end}
use Rattle.si_causes.specs.declared.stop.ReadStop.{ReadStop}
use Rattle.si_causes.specs.declared.stop.ReadStop.TheVariants.{Failed, TooLong}
use Rattle.si_causes.specs.declared.gather.LineFound.{LineFound}
use Rattle.si_causes.specs.declared.gather.LineFound.TheVariants.{Line, Last, End}

-- what the reader has at hand, how many bytes the source gave, and how many the text may have
pub record Hand (S : Type 0) : Type 0 where
  pub source : S
  pub held : List ℕ
  pub line : List ℕ
  pub taken : ℕ
  pub limit : ℕ

abbrev pub hand : {S : Type 0} → S → List ℕ → List ℕ → ℕ → ℕ → Hand S
hand source held line taken limit = record { source = source; held = held; line = line; taken = taken; limit = limit }

-- The source gave `more` and met no fault; before the first LF of all that is at hand stands `before`, and behind it what is held.
pub record Split {S : Type 0} (left : S → Option (List ℕ)) (faults : S → ℕ) (old new : Hand S) (before more : List ℕ) : Type 0 where
  pub consumed : Consumes (left old.source) (left new.source) more
  pub taken : new.taken ≡ old.taken + length more
  pub within : new.taken ≤ old.limit
  pub same : old.held ++ more ≡ before ++ new.held
  pub no_end : has_end before ≡ false
  pub line : new.line ≡ take 16386 before
  pub quiet : faults new.source ≡ faults old.source

-- the line is the first of all that was at hand, and what is held is what stands behind it
pub record Gathered {S : Type 0} (left : S → Option (List ℕ)) (old new : Hand S) (more : List ℕ) : Type 0 where
  pub consumed : Consumes (left old.source) (left new.source) more
  pub taken : new.taken ≡ old.taken + length more
  pub within : new.taken ≤ old.limit
  pub line : new.line ≡ take 16386 (first_line (old.held ++ more))
  pub rest : new.held ≡ after_line (old.held ++ more)

-- what was found there
abbrev pub FoundIs : {S : Type 0} → (S → Option (List ℕ)) → Hand S → Hand S → List ℕ → LineFound → Type 0
FoundIs left old new more Line = has_end (old.held ++ more) ≡ true
FoundIs left old new more Last = (has_end (old.held ++ more) ≡ false) × (old.held ++ more ≢ []) × IsAtEnd (left new.source)
FoundIs left old new more End = (old.held ++ more ≡ []) × IsAtEnd (left new.source)

-- why there is no line
abbrev pub GatherStop : {S : Type 0} → (S → Option (List ℕ)) → (S → ℕ) → Hand S → Hand S → ReadStop → Type 0
GatherStop left faults old new Failed = (more : List ℕ) × Consumes (left old.source) (left new.source) more × (has_end (old.held ++ more) ≡ false) × Rose (faults old.source) (faults new.source)
GatherStop left faults old new TooLong = (more : List ℕ) × (byte : ℕ) × Consumes (left old.source) (left new.source) (more ++ byte ∷ []) × (old.taken + length more ≡ old.limit) × (has_end (old.held ++ more) ≡ false)

abbrev pub Gathers : {S : Type 0} → (S → Option (List ℕ)) → (S → ℕ) → Hand S → Hand S → Result LineFound ReadStop → Type 0
Gathers left faults old new (Ok found) = (more : List ℕ) × Gathered left old new more × FoundIs left old new more found
Gathers left faults old new (Err stop) = (new.held ≡ []) × GatherStop left faults old new stop
