-- What an auditor is.
use Rattle.std.proofs.Common.{inl, inr}
use Rattle.air_audit.specs.CycleChecking.{Auditing}
use Rattle.air_audit.specs.declared.cycle_checker.Kind.{Kind}
use Rattle.air_audit.specs.declared.cycle_checker.Kind.TheVariants.{Dense, Timed}
use Rattle.air_audit.specs.declared.cycle_checker.CycleChecker.TheInside.{Inside}

abbrev pub auditing_by : Kind → Auditing
auditing_by (Dense c) = inl c
auditing_by (Timed c) = inr c

abbrev pub auditing_of : Inside → Auditing
auditing_of i = auditing_by i.kind
