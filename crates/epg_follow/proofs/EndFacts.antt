-- The status of a run that followed a script.
use Rattle.std.proofs.Common.{◌≡◌, ◌≤◌, ℕ, refl, sym, ap, ◌∙◌, subst, inl, inr, ◌⊎◌}
use Rattle.std.specs.Prelude.{Ok, Err, Result}
use Rattle.si_causes.proofs.CauseFacts.{Rose-from, Rose-to}
use Rattle.si_causes.specs.Causes.{Rose}
use Rattle.si_causes.specs.declared.stop.ReadStop.TheVariants.{Failed, TooLong as Overlong}
use Rattle.epg_report.specs.declared.status.Status.{Status}
use Rattle.epg_report.specs.declared.status.Status.TheVariants as status
use Rattle.epg_report.specs.declared.status.Origin.TheVariants.{Input}
use Rattle.epg_report.specs.declared.status.Outlet.TheVariants as outlet
use Rattle.epg_report.specs.Ends.{or_report}
use Rattle.epg_report.specs.Told.{ReportTaken}
use Rattle.epg_follow.specs.declared.follower.Follower.{Follower}
use Rattle.epg_follow.specs.declared.stop.FollowStop.{FollowStop}
use Rattle.epg_follow.specs.declared.stop.FollowStop.TheVariants.{NoCommand, Disagrees, Read, Air, Report, Memory}
use Rattle.epg_follow.specs.Finish.{Closes, FinishedBy}
use Rattle.epg_follow.specs.Runs.{IsBehindMux}
use Rattle.epg_follow.specs.Stops.{met_by}

-- memory was wanting, the status is the one that was met, or the report failed
abbrev pub EndsAs : Result (Unit {0}) FollowStop → ReportTaken → Status → Type 0
EndsAs r report s = (s ≡ status.Memory) ⊎ ((s ≡ met_by r) ⊎ ((s ≡ status.WriteFault outlet.Report) × Rose report.faults_old report.faults_new × (met_by r ≡ status.Done)))

closes_as : (follower : Follower) (r : Result (Unit {0}) FollowStop) (report : ReportTaken) (s : Status) → (or_report (met_by r) ≡ met_by r) ⊎ (met_by r ≡ status.Done)
    → Closes follower r report s → EndsAs r report s
closes_as follower r report s own (inl out) = inl out.0
closes_as follower r report s own (inr (inl (took, is))) = inr (inl is)
closes_as follower r report s (inl own) (inr (inr (rose, front, is))) = inr (inl (is ∙ own))
closes_as follower r report s (inr done) (inr (inr (rose, front, is))) = inr (inr (is ∙ ap or_report done, rose, done))

pub ends_as : (follower : Follower) (r : Result (Unit {0}) FollowStop) (report : ReportTaken) (s : Status) → FinishedBy follower r report s → EndsAs r report s
ends_as follower (Ok u) report s f = closes_as follower (Ok u) report s (inr refl) f
ends_as follower (Err (NoCommand n why)) report s f = closes_as follower (Err (NoCommand n why)) report s (inl refl) f
ends_as follower (Err (Disagrees n kept found)) report s f = closes_as follower (Err (Disagrees n kept found)) report s (inl refl) f
ends_as follower (Err (Read Overlong)) report s f = closes_as follower (Err (Read Overlong)) report s (inl refl) f
ends_as follower (Err (Read Failed)) report s f = closes_as follower (Err (Read Failed)) report s (inl refl) f
ends_as follower (Err Air) report s f = closes_as follower (Err Air) report s (inl refl) f
ends_as follower (Err Report) report s f = inr (inl f.0)
ends_as follower (Err Memory) report s f = inl f.0

met_known : (r : Result (Unit {0}) FollowStop) → IsBehindMux (met_by r)
met_known (Ok u) = tt
met_known (Err (NoCommand n why)) = tt
met_known (Err (Disagrees n kept found)) = tt
met_known (Err (Read Overlong)) = tt
met_known (Err (Read Failed)) = tt
met_known (Err Air) = tt
met_known (Err Report) = tt
met_known (Err Memory) = tt

pub end_known : (r : Result (Unit {0}) FollowStop) (report : ReportTaken) (s : Status) → EndsAs r report s → IsBehindMux s
end_known r report s (inl memory) = subst IsBehindMux (sym memory) tt
end_known r report s (inr (inl is)) = subst IsBehindMux (sym is) (met_known r)
end_known r report s (inr (inr (is, rose, done))) = subst IsBehindMux (sym is) tt

-- a status of its own was met
pub end_met : (r : Result (Unit {0}) FollowStop) (report : ReportTaken) (s t : Status) → EndsAs r report s → s ≡ t → (status.Memory ≡ t → ⊥) → (status.WriteFault outlet.Report ≡ t → ⊥) → met_by r ≡ t
end_met r report s t (inl memory) e no_memory no_report = absurd (no_memory (sym memory ∙ e))
end_met r report s t (inr (inl is)) e no_memory no_report = sym is ∙ e
end_met r report s t (inr (inr (is, rose, done))) e no_memory no_report = absurd (no_report (sym is ∙ e))

pub met_done : (r : Result (Unit {0}) FollowStop) → met_by r ≡ status.Done → r ≡ Ok tt
met_done (Ok u) e = refl
met_done (Err (NoCommand n why)) e = cc e
met_done (Err (Disagrees n kept found)) e = cc e
met_done (Err (Read Overlong)) e = cc e
met_done (Err (Read Failed)) e = cc e
met_done (Err Air) e = cc e
met_done (Err Report) e = cc e
met_done (Err Memory) e = cc e

pub met_read : (r : Result (Unit {0}) FollowStop) → met_by r ≡ status.ReadFault Input → r ≡ Err (Read Failed)
met_read (Ok u) e = cc e
met_read (Err (NoCommand n why)) e = cc e
met_read (Err (Disagrees n kept found)) e = cc e
met_read (Err (Read Overlong)) e = cc e
met_read (Err (Read Failed)) e = refl
met_read (Err Air) e = cc e
met_read (Err Report) e = cc e
met_read (Err Memory) e = cc e

pub met_air : (r : Result (Unit {0}) FollowStop) → met_by r ≡ status.WriteFault outlet.Air → r ≡ Err Air
met_air (Ok u) e = cc e
met_air (Err (NoCommand n why)) e = cc e
met_air (Err (Disagrees n kept found)) e = cc e
met_air (Err (Read Overlong)) e = cc e
met_air (Err (Read Failed)) e = cc e
met_air (Err Air) e = refl
met_air (Err Report) e = (let no : outlet.Report ≡ outlet.Air = cc e in cc no)
met_air (Err Memory) e = cc e

pub met_report : (r : Result (Unit {0}) FollowStop) → met_by r ≡ status.WriteFault outlet.Report → r ≡ Err Report
met_report (Ok u) e = cc e
met_report (Err (NoCommand n why)) e = cc e
met_report (Err (Disagrees n kept found)) e = cc e
met_report (Err (Read Overlong)) e = cc e
met_report (Err (Read Failed)) e = cc e
met_report (Err Air) e = (let no : outlet.Air ≡ outlet.Report = cc e in cc no)
met_report (Err Report) e = refl
met_report (Err Memory) e = cc e

-- the report rose, in the run or at its end
pub report_rose : (r : Result (Unit {0}) FollowStop) (report : ReportTaken) (s : Status) (before : ℕ) → EndsAs r report s → s ≡ status.WriteFault outlet.Report
    → before ≤ report.faults_old → report.faults_old ≤ report.faults_new → (r ≡ Err Report → Rose before report.faults_old) → Rose before report.faults_new
report_rose r report s before (inl memory) e later after cause = (let no : status.Memory ≡ status.WriteFault outlet.Report = sym memory ∙ e in cc no)
report_rose r report s before (inr (inl is)) e later after cause = Rose-to before report.faults_old report.faults_new later (cause (met_report r (sym is ∙ e))) after
report_rose r report s before (inr (inr (is, rose, done))) e later after cause = Rose-from before report.faults_old report.faults_new later rose
