-- What an auditor stands for, at a bit rate or without one.
use Rattle.std.specs.Prelude.{◌≡◌, ◌⊎◌, ℕ, Bool, List, Option, Some, None}
use Rattle.std.proofs.Common.{inl, inr}
use Rattle.version_book.specs.Airings.{AiredTables, CycleForm}
use Rattle.air_model.specs.declared.rule.Rule.{Rule}
use Rattle.air_audit.specs.Audits.{BeginAnAir}
use Rattle.air_audit.specs.Checking.{Checking}
use Rattle.air_audit.specs.Checking as dense
use Rattle.air_audit.specs.TimedAirs.{BeginTheAir}
use Rattle.air_audit.specs.TimedChecking.{TimedChecking}
use Rattle.air_audit.specs.TimedChecking as timed

-- what contracts see of an auditor: one without a bit rate, or one at a rate
abbrev pub Auditing : Type 0
Auditing = Checking ⊎ TimedChecking

-- the form of its cycles
abbrev pub form_of : Auditing → CycleForm
form_of (inl c) = c.form
form_of (inr c) = c.form

-- It audits at this bit rate, or without one, and passes over null packets or not.
abbrev pub IsOf : Option ℕ → Bool → Auditing → Type 0
IsOf rate nulls (inl c) = rate ≡ None
IsOf rate nulls (inr c) = (rate ≡ Some c.playing.rate) × (c.nulls ≡ nulls)

-- It stands for an airing list and the packets accepted, each by its bytes.
abbrev pub StandsAt : List AiredTables → List (List ℕ) → Auditing → Type 0
StandsAt airings accepted (inl c) = dense.StandsFor airings accepted c
StandsAt airings accepted (inr c) = timed.StandsFor airings accepted c

-- packets are first ones of an air of an airing list, as it audits
abbrev pub BeginsFor : Auditing → List AiredTables → List (List ℕ) → Type 0
BeginsFor (inl c) airings packets = BeginAnAir airings packets
BeginsFor (inr c) airings packets = BeginTheAir c.playing.rate c.nulls airings packets

-- nothing of its cycle is to come
abbrev pub IsAtEnd : Auditing → Type 0
IsAtEnd (inl c) = dense.IsAtEnd c
IsAtEnd (inr c) = timed.IsAtEnd c

-- the rule that a packet breaks which comes after the packets accepted
abbrev pub rule_at : List (List ℕ) → Auditing → List ℕ → Rule
rule_at accepted (inl c) packet = dense.rule_at accepted c packet
rule_at accepted (inr c) packet = timed.rule_at c packet
