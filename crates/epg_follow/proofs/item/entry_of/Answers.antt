use Rattle.std.proofs.Common.{◌∷◌, ◌++◌, [], subst}
use Rattle.journal_model.specs.declared.step.Outcome.{Outcome}
use Rattle.desk_core.specs.Lean.{StandsFor}
use Rattle.epg_play.proofs.RaiseFacts.{entry_window, few_raised}
use Rattle.epg_follow.proofs.item.entry_of.Goals as goal

pub raise-outcome-requires : goal.raise-outcome-requires
raise-outcome-requires c =
    few_raised c.args.follower.now.shift c.in_ok-outcome.outcome c.requires.ready.shift (c.in_ok-outcome.ensures.numbered c.requires.ready.lean)

pub returns-clause-window : goal.returns-clause-window
returns-clause-window c =
    entry_window c.args.who c.args.follower.now.shift c.args.step c.in_ok-outcome.outcome c.raise-outcome.result c.requires.within
    (c.in_ok-outcome.ensures.window c.requires.ready.lean) c.raise-outcome.ensures

pub returns-clause-stands : goal.returns-clause-stands
returns-clause-stands c = λ journal stands.
    subst (λ (o : Outcome). StandsFor (journal ++ record { who = c.args.who; step = c.args.step; outcome = o } ∷ []) c.step.new.self)
    (c.in_ok-outcome.ensures.outcome journal stands) (c.in_ok-outcome.ensures.stands journal c.args.who stands)
