use Rattle.std.proofs.Common.{◌∙◌, ap, subst, sym}
use Rattle.desk_core.specs.Lean.{with_entry}
use Rattle.journal_model.specs.Raising.{raised}
use Rattle.journal_model.specs.Steps.{IsInWindow}
use Rattle.epg_play.proofs.CourseFacts.{outcome_at, stepped}
use Rattle.epg_play.proofs.RaiseFacts.{few_raised, raised_window}
use Rattle.epg_play.proofs.desk.ScriptDesk.prepare.Goals as goal

pub raise-requires : goal.raise-requires
raise-requires c = few_raised c.args.self.now.shift c.in_ok-outcome.outcome c.requires.ready.shift (c.in_ok-outcome.ensures.numbered c.requires.ready.lean)

pub returns-clause-prepared : goal.returns-clause-prepared
returns-clause-prepared c = λ state stands.
    let step = c.args.step.now in
    let is = outcome_at state c.args.self.now.desk step c.in_ok-outcome.outcome stands (c.in_ok-outcome.ensures.outcome state.entries stands.journal) in (
      c.raise.ensures ∙ ap (raised c.args.self.now.shift) is,
      λ who. stepped state c.args.self.now.desk c.step.new.self who step c.in_ok-outcome.outcome stands c.in_ok-outcome.ensures.mux is (c.in_ok-outcome.ensures.stands state.entries who stands.journal),
    )

pub returns-clause-window : goal.returns-clause-window
returns-clause-window c =
    subst IsInWindow (sym c.raise.ensures) (raised_window c.args.self.now.shift c.in_ok-outcome.outcome (c.in_ok-outcome.ensures.window c.requires.ready.lean))

pub returns-clause-lean : goal.returns-clause-lean
returns-clause-lean c =
    let (journal, stands) = c.requires.ready.lean in
    (with_entry journal 0 c.args.step.now c.in_ok-outcome.outcome, c.in_ok-outcome.ensures.stands journal 0 stands)
