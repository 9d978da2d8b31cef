-- What a sink took of a report.
use Rattle.std.specs.Prelude.{ℕ, List, Ok, Err, Result, OnOk, OnErr}
use Rattle.std.proofs.Common.{inl, inr}
use Rattle.std.specs.Io.KnownBytes.{Appends}
use Rattle.si_causes.specs.Causes.{Rose, AppendsFront}
use Rattle.epg_report.specs.Told.{ReportTaken, Reported}

pub reported : {E : Type 0} (r : Result (Unit {0}) E) (t : ReportTaken) (text : List ℕ) → OnOk r (Appends t.old t.new text) → OnErr r (AppendsFront t.old t.new text) → OnErr r (Rose t.faults_old t.faults_new) → Reported t text
reported (Ok u) t text done failed cause = inl done
reported (Err e) t text done failed cause = inr (cause, failed)
