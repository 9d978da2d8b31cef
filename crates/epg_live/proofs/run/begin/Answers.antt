use Rattle.std.proofs.Common.{Ok, Err, sym, ap, ◌∙◌, subst}
use Rattle.mux_config.specs.Reads.{ReadMux}
use Rattle.command_words.specs.Commands.{texts}
use Rattle.input_lines.specs.Ahead.{ahead}
use Rattle.epg_report.specs.declared.status.Status.{Status}
use Rattle.epg_report.specs.Told.{asked, gave}
use Rattle.epg_live.specs.Met.{StopsBefore}
use Rattle.epg_live.specs.Opened.{NotOpened}
use Rattle.epg_live.specs.Views.{plan_of, unserved}
use Rattle.epg_live.proofs.DescribedFacts.{has_read}
use Rattle.epg_live.proofs.MetFacts.{mux_before, open_before, plan_before, view_before}
use Rattle.epg_live.proofs.run.begin.Goals as goal

pub returns-in-Err-clause-stopped : goal.returns-in-Err-clause-stopped
returns-in-Err-clause-stopped g c =
    let old = c.args.lines.now in
    let new = c.read_mux.new.lines in
    let paths = texts c.args.words.now.feeds.items in
    let plan = plan_of c.args.words.now in
    let read = subst (λ r. ReadMux g.S.Source.left g.S.Source.faults g.S.Source.same r new (Err c.in-Err.stop)) c.requires.unread c.in-Err.ensures.read in
    subst (λ (s : Status). StopsBefore paths plan (asked g.O.Opener.files g.O.Opener.tried g.O.Opener.faults g.O.Opener.read_faults c.args.opener.now c.args.opener.now) (gave g.S.Source.left g.S.Source.faults old.source new.source) s) (sym c.mux_status.ensures)
    (mux_before g.O.Opener.files g.O.Opener.tried g.O.Opener.faults g.O.Opener.read_faults c.args.opener.now g.S.Source.left g.S.Source.faults g.S.Source.same paths plan old.source new c.in-Err.stop read)

pub returns-in-Some-clause-stopped : goal.returns-in-Some-clause-stopped
returns-in-Some-clause-stopped g c =
    let old = c.args.lines.now in
    let new = c.read_mux.new.lines in
    let read = subst (λ r. ReadMux g.S.Source.left g.S.Source.faults g.S.Source.same r new (Ok c.in-Ok.mux)) c.requires.unread c.in-Ok.ensures.read in
    view_before g.O.Opener.files g.O.Opener.tried g.O.Opener.faults g.O.Opener.read_faults c.args.opener.now g.S.Source.left g.S.Source.faults g.S.Source.same (texts c.args.words.now.feeds.items) (plan_of c.args.words.now) old.source new
    c.in-Some.service c.in-Ok.mux read (ap (unserved c.in-Ok.mux) (sym c.as_slice.ensures) ∙ sym c.unserved.ensures ∙ c.in-Some.is)

pub returns-in_default-clause-stopped : goal.returns-in_default-clause-stopped
returns-in_default-clause-stopped g c =
    plan_before g.O.Opener.files g.O.Opener.tried g.O.Opener.faults g.O.Opener.read_faults c.args.opener.now g.S.Source.left g.S.Source.faults g.S.Source.same (texts c.args.words.now.feeds.items) (plan_of c.args.words.now) c.args.lines.now.source c.read_mux.new.lines

pub returns-in-Err-open_feeds-clause-stopped : goal.returns-in-Err-open_feeds-clause-stopped
returns-in-Err-open_feeds-clause-stopped g c =
    let old = c.args.lines.now in
    let new = c.read_mux.new.lines in
    let read = subst (λ r. ReadMux g.S.Source.left g.S.Source.faults g.S.Source.same r new (Ok c.in-Ok.mux)) c.requires.unread c.in-Ok.ensures.read in
    let opener = asked g.O.Opener.files g.O.Opener.tried g.O.Opener.faults g.O.Opener.read_faults c.args.opener.now c.open_feeds.new.opener in
    open_before (texts c.args.words.now.feeds.items) (plan_of c.args.words.now) opener (gave g.S.Source.left g.S.Source.faults old.source new.source) c.in-Err-open_feeds.stop
    (λ text tells files air f. let r = has_read g.S.Source.left g.S.Source.faults g.S.Source.same new old.source text c.in-Ok.mux tells read in
    (c.in-Ok.mux, ahead new r.read.rest, r.read.reads, ap (unserved c.in-Ok.mux) (sym c.as_slice.ensures) ∙ sym c.unserved.ensures ∙ c.in-None.is))
    (subst (λ l. NotOpened (texts l) opener c.in-Err-open_feeds.stop) c.deref.ensures.value c.in-Err-open_feeds.ensures.stopped)
