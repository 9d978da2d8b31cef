-- How many publications there are behind one step more.
use Rattle.std.proofs.Common.{◌≡◌, ℕ, Bool, true, false, List, [], ◌∷◌, ◌++◌, refl, ◌∙◌, arith}
use Rattle.std.specs.Prelude.{nat_lt, if◌then◌else◌}
use Rattle.si_time.specs.declared.moment.Moment.{Moment}
use Rattle.mux_model.specs.declared.mux.Mux.{Mux}
use Rattle.journal_model.specs.declared.step.Step.{Step}
use Rattle.journal_model.specs.declared.step.Step.TheVariants.{Edit as edit, Tick, Publish, Swap}
use Rattle.journal_model.specs.declared.step.Outcome.TheVariants.{Late, Ticked}
use Rattle.journal_model.specs.declared.step.Entry.{Entry}
use Rattle.desk_core.specs.Journal.{moment_of, outcome_of, publishes, ticked}
use Rattle.desk_core.proofs.JournalFacts.{publishes-push}
use Rattle.desk_checkpoint.specs.Checkpoints.{published_by}

ticked_count : (n : ℕ) (now at : Moment) → published_by n (ticked now at) ≡ n
ticked_count n now at = go (nat_lt at.0 now.0)
  where
    go : (late : Bool) → published_by n (if late then Late now else Ticked) ≡ n
    go true = refl
    go false = refl

abbrev step_entry : Mux → List Entry → Step → Entry
step_entry mux before s = record { who = 0; step = s; outcome = outcome_of mux before s }

pub published_step : (mux : Mux) (before : List Entry) (s : Step) → published_by (publishes before) (outcome_of mux before s) ≡ publishes (before ++ step_entry mux before s ∷ [])
published_step mux before (edit feed e) = omega (arith, publishes-push before (step_entry mux before (edit feed e)))
published_step mux before (Tick at) = ticked_count (publishes before) (moment_of mux before) at ∙ omega (arith, publishes-push before (step_entry mux before (Tick at)))
published_step mux before Publish = omega (arith, publishes-push before (step_entry mux before Publish))
published_step mux before Swap = omega (arith, publishes-push before (step_entry mux before Swap))
