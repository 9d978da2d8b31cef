use Rattle.std.proofs.Common.{◌≡◌, ℕ, Option, List, refl, sym, ap, ◌∙◌, subst}
use Rattle.std.proofs.KnownBytes.{prepend_known-nil}
use Rattle.si_causes.specs.Opening.{GivesFile, TakesBack, Tries, Files}
use Rattle.mux_config.proofs.Reading.{first_read}
use Rattle.packet_reader.specs.Reading.{bytes_left}
use Rattle.desk_core.specs.Desks.{fresh}
use Rattle.epg_report.specs.Told.{asked}
use Rattle.epg_play.specs.Leaves.{status_for}
use Rattle.epg_play.specs.Script.{script_in}
use Rattle.epg_play.proofs.CourseFacts.{went_none}
use Rattle.epg_play.proofs.RunFacts.{undescribed, went_played}
use Rattle.epg_audit.specs.Audits.{HasAuditCause}
use Rattle.epg_audit.specs.Finds.{IsFound}
use Rattle.epg_report.proofs.Asking.{given_file}
use Rattle.epg_audit.proofs.AuditRuns.{results_asked, results_caused}
use Rattle.epg_audit.proofs.Finding.{audited_finds, mux_found, some_mux}
use Rattle.epg_audit.proofs.run.audit.Goals as goal

pub returns-in-Err-clause-finds : goal.returns-in-Err-clause-finds
returns-in-Err-clause-finds g c = λ text tells files has.
    let opener = asked g.O.Opener.files g.O.Opener.tried g.O.Opener.faults g.O.Opener.read_faults c.args.opener.now c.args.opener.now in
    subst (IsFound c.args.path.now c.args.nulls files opener text (g.S.Source.left c.read_mux.new.lines.source)) (sym (c.status_of.ensures ∙ ap status_for c.mux_stop_of.ensures))
    (mux_found c.args.path.now c.args.nulls files opener text (g.S.Source.left c.read_mux.new.lines.source) c.in-Err.stop
    (undescribed g.S.Source.left g.S.Source.faults g.S.Source.same c.args.lines.now c.read_mux.new.lines c.args.lines.now.source text c.in-Err.stop c.requires.unread tells c.in-Err.ensures.read)
    refl)

pub returns-in_default-clause-finds : goal.returns-in_default-clause-finds
returns-in_default-clause-finds g c = λ text tells files has.
    let mid = c.read_mux.new.lines in
    let read = first_read g.S.Source.left g.S.Source.faults g.S.Source.same c.args.lines.now mid c.args.lines.now.source text c.in-Ok.mux c.requires.unread tells c.in-Ok.ensures.read in
    let played = went_played g.S.Source.left c.args.lines.now.source mid mid text c.in-Ok.mux (fresh c.in-Ok.mux) _ read.0 (went_none 0 g.S.Source.left mid (fresh c.in-Ok.mux)) in
    (refl, some_mux (script_in text).mux c.in-Ok.mux played.described)

pub returns-clause-finds : goal.returns-clause-finds
returns-clause-finds g c = λ text tells files has.
    let mid = c.read_mux.new.lines in
    let start = c.in-Ok-open-2.packets in
    let read = first_read g.S.Source.left g.S.Source.faults g.S.Source.same c.args.lines.now mid c.args.lines.now.source text c.in-Ok.mux c.requires.unread tells c.in-Ok.ensures.read in
    let file = given_file files c.args.path.now (g.O.From.Source.left c.in-Ok-open.source) (subst (λ (o : Option Files). GivesFile o c.args.path.now (g.O.From.Source.left c.in-Ok-open.source)) has c.in-Ok-open.ensures.content) in
    let opener = asked g.O.Opener.files g.O.Opener.tried g.O.Opener.faults g.O.Opener.read_faults c.args.opener.now c.close-2.new.self in
    let tried = subst (λ (t : Option (List (List ℕ))). Tries (g.O.Opener.tried c.args.opener.now) t c.args.path.now) (sym c.close-2.ensures.tried) c.in-Ok-open.ensures.tried in
    audited_finds g.S.Source.left g.O.From.Source.left c.args.lines.now.source mid c.audit_recording-audited.new.lines start c.args.path.now c.args.nulls files opener text file.0 c.in-Ok.mux tells read.0 read.1 file.2
    (ap (bytes_left g.O.From.Source.left) c.in-Ok-open-2.ensures ∙ prepend_known-nil (g.O.From.Source.left c.in-Ok-open.source) ∙ file.1) tried c.audit_recording-audited.result c.audit_recording-audited.ensures.audited

pub returns-clause-cause : goal.returns-clause-cause
returns-clause-cause g c =
    let opener = asked g.O.Opener.files g.O.Opener.tried g.O.Opener.faults g.O.Opener.read_faults c.args.opener.now c.close-2.new.self in
    let failed = g.O.From.Source.faults c.audit_recording-audited.new.packets.source in
    let fresh_source : g.O.From.Source.faults c.in-Ok-open-2.packets.source ≡ 0 = ap (λ r. g.O.From.Source.faults r.source) c.in-Ok-open-2.ensures ∙ c.in-Ok-open.ensures.fresh in
    let cause = subst (λ (n : ℕ). HasAuditCause (g.S.Source.faults c.read_mux.new.lines.source) (g.S.Source.faults c.audit_recording-audited.new.lines.source) n failed c.audit_recording-audited.result) fresh_source c.audit_recording-audited.ensures.cause in
    let back = subst (λ s. TakesBack (g.O.From.Source.faults s) (g.O.Opener.read_faults c.open.new.self) (g.O.Opener.read_faults c.close-2.new.self)) c.close.ensures c.close-2.ensures.read_faults in
    let taken = subst (λ (n : ℕ). TakesBack failed n (g.O.Opener.read_faults c.close-2.new.self)) c.in-Ok-open.ensures.read_faults back in
    results_caused (g.S.Source.faults c.args.lines.now.source) (g.S.Source.faults c.read_mux.new.lines.source) (g.S.Source.faults c.audit_recording-audited.new.lines.source) failed opener c.audit_recording-audited.result
    c.audit_recording-audited.ensures.known c.in-Ok.ensures.read.reads.later cause taken

pub returns-clause-asked : goal.returns-clause-asked
returns-clause-asked g c =
    results_asked c.args.path.now (g.O.Opener.tried c.args.opener.now) (g.O.Opener.tried c.close-2.new.self) c.audit_recording-audited.result c.audit_recording-audited.ensures.known
    (subst (λ (t : Option (List (List ℕ))). Tries (g.O.Opener.tried c.args.opener.now) t c.args.path.now) (sym c.close-2.ensures.tried) c.in-Ok-open.ensures.tried)
