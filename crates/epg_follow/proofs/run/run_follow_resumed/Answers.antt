use Rattle.std.proofs.Common.{◌≡◌, sym, ap, ◌∙◌, subst, rules}
use Rattle.std.specs.Io.KnownBytes.{IsAtEnd}
use Rattle.si_causes.specs.Causes.{Rose}
use Rattle.epg_report.specs.declared.status.Status.TheVariants.{Done, ReadFault}
use Rattle.epg_report.specs.declared.status.Origin.TheVariants.{Input}
use Rattle.epg_report.specs.Told.{asked, told}
use Rattle.epg_play.specs.CheckpointRuns.{NothingAsked}
use Rattle.epg_follow.specs.Runs.{FollowResumes, LeavesLong}
use Rattle.epg_follow.proofs.run.run_follow_resumed.Goals as goal

pub returns : goal.returns
returns g c =
    let run = c.follow_from-status in
    let air = told g.A.Sink.written g.A.Sink.faults c.args.air.now run.new.air in
    let report = told g.R.Sink.written g.R.Sink.faults c.args.report.now run.new.report in
    let opener = asked g.O.Opener.files g.O.Opener.tried g.O.Opener.faults g.O.Opener.read_faults c.args.opener.now run.new.opener in
    let same : c.input-2-1.given.0 ≡ run.new.lines.source.now = search rules in
    let old : c.in-Ok.lines.source.now ≡ c.args.input.now = ap (λ r. r.source.now) c.in-Ok.ensures in
    record {
      run = record {
        leaves = λ text tells files has.
            subst (λ s. LeavesLong (NothingAsked opener air report) (FollowResumes c.args.path.now files c.args.keep opener air report) text (g.S.Source.left s) run.result) (sym same)
            (run.ensures.leaves text (ap g.S.Source.left old ∙ tells) files has);
        known = run.ensures.known;
        asked_for = run.ensures.asked;
        end = subst (λ s. run.result ≡ Done → IsAtEnd (g.S.Source.left s)) (sym same) run.ensures.met.end;
        input_cause = subst (λ s. run.result ≡ ReadFault Input → Rose (g.S.Source.faults c.args.input.now) (g.S.Source.faults s)) (sym same)
            (subst (λ s. run.result ≡ ReadFault Input → Rose (g.S.Source.faults s) (g.S.Source.faults run.new.lines.source.now)) old run.ensures.met.input_cause);
        open_cause = run.ensures.open_cause;
        read_cause = run.ensures.read_cause;
        air_cause = run.ensures.met.air_cause;
        report_cause = run.ensures.report_cause;
      };
    }
