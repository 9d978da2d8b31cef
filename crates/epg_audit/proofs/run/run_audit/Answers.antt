use Rattle.std.proofs.Common.{◌≡◌, sym, ap, ◌∙◌, subst, rules}
use Rattle.std.specs.Prelude.{OnOk, IfErr}
use Rattle.std.specs.Io.KnownBytes.{IsAtEnd}
use Rattle.epg_report.specs.Told.{asked, told}
use Rattle.epg_audit.specs.Finds.{FindsIn, HasMetCause}
use Rattle.epg_audit.proofs.AuditRuns.{audit_run}
use Rattle.epg_audit.proofs.run.run_audit.Goals as goal

pub returns : goal.returns
returns g c =
    let audited = c.audit-audited in
    let opener = asked g.O.Opener.files g.O.Opener.tried g.O.Opener.faults g.O.Opener.read_faults c.args.opener.now audited.new.opener in
    let report = told g.R.Sink.written g.R.Sink.faults c.args.report.now c.finish.new.report in
    let same : c.input-2-1.given.0 ≡ audited.new.lines.source.now = search rules in
    let old : c.in-Ok.lines.source.now ≡ c.args.input.now = ap (λ r. r.source.now) c.in-Ok.ensures in
    record {
      run = audit_run c.args.path.now c.args.nulls opener _ report audited.result c.finish.result audited.ensures.known
          (λ text tells files has. subst (λ s. FindsIn c.args.path.now c.args.nulls files opener text (g.S.Source.left s) audited.result) (sym same) (audited.ensures.finds text (ap g.S.Source.left old ∙ tells) files has))
          (subst (λ s. OnOk audited.result (IsAtEnd (g.S.Source.left s))) (sym same) audited.ensures.end)
          (subst (λ s. IfErr audited.result (HasMetCause (g.S.Source.faults c.args.input.now) (g.S.Source.faults s) opener)) (sym same)
          (subst (λ s. IfErr audited.result (HasMetCause (g.S.Source.faults s) (g.S.Source.faults audited.new.lines.source.now) opener)) old audited.ensures.cause))
          audited.ensures.asked c.finish.ensures;
    }
