-- Runs that memory was wanting for before any step.
use Rattle.std.proofs.Common.{◌≡◌, ℕ, List, [], sym, subst, inl}
use Rattle.std.specs.Prelude.{Bool, Option}
use Rattle.std.specs.Io.KnownBytes.{Appends}
use Rattle.si_causes.proofs.CauseFacts.{Appends-nothing}
use Rattle.epg_report.specs.declared.status.Status.{Status}
use Rattle.epg_report.specs.declared.status.Status.TheVariants.{Done, Memory, OpenFault, ReadFault, WriteFault}
use Rattle.epg_report.specs.declared.status.Origin.TheVariants.{Input, Recording}
use Rattle.epg_report.specs.declared.status.Outlet.TheVariants.{Air, Report}
use Rattle.epg_report.specs.Texts.{fault_lines}
use Rattle.epg_report.specs.Told.{OpenerAsked, ReportTaken, Reported, SourceGave}
use Rattle.epg_follow.specs.Runs.{FollowResumeRun, FollowRun}

took_none : (air : ReportTaken) → air.new ≡ air.old → Appends air.old air.new []
took_none air same = subst (λ (w : Option (List ℕ)). Appends air.old w []) (sym same) (Appends-nothing air.old)

pub follow_memory : (keep : Bool) (input : SourceGave) (air report : ReportTaken) (status : Status) → status ≡ Memory → air.new ≡ air.old → Reported report (fault_lines Memory)
    → FollowRun keep input air report status
follow_memory keep input air report status is same line = subst (FollowRun keep input air report) (sym is) (record {
  leaves = λ text tells. inl (took_none air same, line);
  known = tt;
  end = λ e. (let not : Memory ≡ Done = e in cc not);
  input_cause = λ e. (let not : Memory ≡ ReadFault Input = e in cc not);
  air_cause = λ e. (let not : Memory ≡ WriteFault Air = e in cc not);
  report_cause = λ e. (let not : Memory ≡ WriteFault Report = e in cc not);
})

pub follow_resume_memory : (path : List ℕ) (keep : Bool) (opener : OpenerAsked) (input : SourceGave) (air report : ReportTaken) (status : Status) → status ≡ Memory
    → opener.tried_new ≡ opener.tried_old → air.new ≡ air.old → Reported report (fault_lines Memory) → FollowResumeRun path keep opener input air report status
follow_resume_memory path keep opener input air report status is unasked same line = subst (FollowResumeRun path keep opener input air report) (sym is) (record {
  leaves = λ text tells files has. inl (unasked, (took_none air same, line));
  known = tt;
  asked_for = inl unasked;
  end = λ e. (let not : Memory ≡ Done = e in cc not);
  input_cause = λ e. (let not : Memory ≡ ReadFault Input = e in cc not);
  open_cause = λ n e. (let not : Memory ≡ OpenFault n = e in cc not);
  read_cause = λ e. (let not : Memory ≡ ReadFault Recording = e in cc not);
  air_cause = λ e. (let not : Memory ≡ WriteFault Air = e in cc not);
  report_cause = λ e. (let not : Memory ≡ WriteFault Report = e in cc not);
})
