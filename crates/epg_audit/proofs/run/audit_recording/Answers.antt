use Rattle.std.proofs.Common.{◌≡◌, Bool, List, length, rules, sym, ap, ◌∙◌, subst}
use Rattle.std.specs.Prelude.{Ok, Err, IsErrAnd, Result}
use Rattle.std.proofs.lemmas.List.{length-map}
use Rattle.mux_model.specs.declared.mux.Mux.{Mux}
use Rattle.journal_model.specs.declared.step.Entry.{Entry}
use Rattle.desk_core.specs.Desks.{fresh}
use Rattle.desk_core.specs.Publications.{swaps}
use Rattle.journal_air.specs.Air.{airing_at, mux_form}
use Rattle.epg_report.specs.declared.status.Status.{Status}
use Rattle.epg_play.specs.declared.desk.ScriptDesk.{ScriptDesk}
use Rattle.epg_audit.specs.declared.cycles.AirCount.{AirCount}
use Rattle.epg_audit.specs.Audits.{AuditDid, RecordingAudited}
use Rattle.air_audit.specs.CycleChecking.{IsOf}
use Rattle.epg_audit.proofs.Nulls.{none_yet, same_nulls}
use Rattle.epg_audit.proofs.run.audit_recording.Goals as goal

pub audit_rest-requires-clause-ready : goal.audit_rest-requires-clause-ready
audit_rest-requires-clause-ready g c =
    let first = none_yet c.args.nulls c.then_some-passed.result c.then_some-passed.ensures in
    let mux_is : c.open-desk.result.desk.mux ≡ c.args.mux = ap (λ (d : ScriptDesk). d.desk.mux) c.open-desk.ensures.value ∙ c.in-Ok-open.ensures.mux in
    record {
      between = search rules;
      first = search rules;
      stands = c.in-Ok.ensures.stands;
      kind = λ nulls e.
          subst (λ (m : Mux). IsOf m.rate nulls c.in-Ok.checker) (sym mux_is)
          (subst (λ (n : Bool). IsOf c.args.mux.rate n c.in-Ok.checker)
          (same_nulls c.args.nulls nulls (sym first ∙ e)) c.in-Ok.ensures.kind);
      form = c.in-Ok.ensures.form ∙ sym (ap mux_form mux_is);
      begun = search rules;
    }

pub returns-in_default-clause-audited : goal.returns-in_default-clause-audited
returns-in_default-clause-audited g c = (fresh c.args.mux, tt)

pub returns-in_default-open-clause-audited : goal.returns-in_default-open-clause-audited
returns-in_default-open-clause-audited g c = (fresh c.args.mux, tt)

of_err : (P : Result AirCount Status → Type 0) (result : Result AirCount Status) (status : Status) → IsErrAnd result (λ s. s ≡ status) → P (Err status) → P result
of_err P (Ok count) status is p = absurd is
of_err P (Err s) status is p = subst (λ (t : Status). P (Err t)) (sym is) p

pub returns-in_err-audit_rest-clause-audited : goal.returns-in_err-audit_rest-clause-audited
returns-in_err-audit_rest-clause-audited g c =
    let first = none_yet c.args.nulls c.then_some-passed.result c.then_some-passed.ensures in
    let status = c.in_err-audit_rest.field-0.0 in
    let audited = c.in_err-audit_rest.ensures.did c.args.nulls first in
    let mux_is : c.open-desk.result.desk.mux ≡ c.args.mux = ap (λ (d : ScriptDesk). d.desk.mux) c.open-desk.ensures.value ∙ c.in-Ok-open.ensures.mux in
    of_err (RecordingAudited c.args.nulls g.S.Source.left g.F.Source.left c.args.lines.now c.audit_rest.new.lines c.args.packets.now c.args.mux) c.from_residual.result status c.from_residual.ensures.1 (
      audited.state,
      subst (λ (m : Mux). AuditDid c.args.nulls g.S.Source.left g.F.Source.left c.args.lines.now c.audit_rest.new.lines c.args.packets.now (fresh m) audited.state (Err status)) mux_is audited.did,
    )

pub returns-clause-audited : goal.returns-clause-audited
returns-clause-audited g c =
    let e = c.in_ok-audit_rest.ensures in
    let first = none_yet c.args.nulls c.then_some-passed.result c.then_some-passed.ensures in
    let audited = e.did c.args.nulls first in
    let mux_is : c.open-desk.result.desk.mux ≡ c.args.mux = ap (λ (d : ScriptDesk). d.desk.mux) c.open-desk.ensures.value ∙ c.in-Ok-open.ensures.mux in
    let state = audited.state in (
      state,
      subst (λ (m : Mux). AuditDid c.args.nulls g.S.Source.left g.F.Source.left c.args.lines.now c.audit_rest.new.lines c.args.packets.now (fresh m) state (Ok tt)) mux_is audited.did,
      λ bytes told.
          let counted = e.counted c.args.nulls bytes first told in (
            c.number.ensures ∙ counted.0,
            c.swap_count.ensures ∙ ap (λ (l : List Entry). length (swaps l)) (c.deref.ensures.value ∙ audited.made) ∙ sym (length-map (swaps state.entries) (airing_at state.mux state.entries)),
            counted.1,
          ),
    )
