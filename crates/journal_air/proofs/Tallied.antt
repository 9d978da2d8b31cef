-- The tally of a player whose desk does a step.
use Rattle.std.proofs.Common.{◌≡◌, ℕ, true, false, List, [], ◌∷◌, ◌++◌, Option, Ok, Err, Result, sym, ap, ◌∙◌, subst}
use Rattle.version_book.specs.Airings.{CycleForm, AiredTables}
use Rattle.journal_model.specs.declared.step.Step.{Step}
use Rattle.journal_model.specs.declared.step.Entry.{Entry}
use Rattle.desk_core.specs.Journal.{publishes, moment_of, outcome_of, Legal}
use Rattle.desk_core.specs.Desks.{DeskState}
use Rattle.journal_air.specs.Air.{airings, mux_form}
use Rattle.cycle_player.specs.Sending.{Sending}
use Rattle.cycle_player.specs.Tallies.{tallied_at, tally_of}
use Rattle.cycle_player.proofs.Tallies.{tally_push}
use Rattle.journal_air.specs.OnAir.{airing_on, and_step, is_swap, IsPlayerOf}
use Rattle.journal_air.specs.Tallied.{HasCounted, CountedCycle, HasTallied, TalliedTo}
use Rattle.journal_air.specs.declared.send.SendStop.{SendStop}
use Rattle.journal_air.specs.declared.send.SendStop.TheVariants.{Air as OnFault, Memory}
use Rattle.journal_air.proofs.SwapFacts.{airings-swap, other_airings, swap_airs}

-- another step than a swap
pub other_tallied : (desk after : DeskState) (who : ℕ) (step : Step) (player : Sending) → after ≡ and_step desk who step → Legal desk.mux desk.entries → is_swap step ≡ false → HasTallied desk player → HasTallied after player
other_tallied desk after who step player e legal h has =
    subst (λ (d : DeskState). HasTallied d player) (sym e) (has ∙ ap (tally_of desk.mux.rate) (other_airings desk who step legal h))

-- one more airing
pub counted_more : (rate : Option ℕ) (before all : List AiredTables) (a : AiredTables) (old new : Sending) → all ≡ before ++ a ∷ [] → old.rate ≡ rate → old.tally ≡ tally_of rate before → HasCounted a old new
    → new.tally ≡ tally_of rate all
counted_more rate before all a old new all_are rate_is has counted =
    counted before ∙ ap (λ (r : Option ℕ). tallied_at r before a old.tally) rate_is ∙ ap (tallied_at rate before a) has
    ∙ sym (tally_push rate before a) ∙ ap (tally_of rate) (sym all_are)

-- a swap, whose cycle was begun
swap_counted : (desk : DeskState) (who : ℕ) (step : Step) (old new : Sending) → Legal desk.mux desk.entries → is_swap step ≡ true → IsPlayerOf desk.mux old → HasTallied desk old
    → HasCounted (airing_on (and_step desk who step) old.form) old new → HasTallied (and_step desk who step) new
swap_counted desk who step old new legal h is has counted =
    let entry : Entry = record { who = who; step = step; outcome = outcome_of desk.mux desk.entries step } in
    counted_more desk.mux.rate (airings desk.mux desk.entries) (airings desk.mux (desk.entries ++ entry ∷ [])) (airing_on (and_step desk who step) (mux_form desk.mux)) old new
    (airings-swap desk.mux desk.entries entry (publishes desk.entries, moment_of desk.mux desk.entries) legal (swap_airs desk.mux desk.entries step h)) is.rate has
    (subst (λ (f : CycleForm). HasCounted (airing_on (and_step desk who step) f) old new) is.form counted)

pub swap_tallied : (desk after : DeskState) (who : ℕ) (step : Step) (old new : Sending) (r : Result (Unit {0}) SendStop) → after ≡ and_step desk who step → Legal desk.mux desk.entries → is_swap step ≡ true → IsPlayerOf desk.mux old → HasTallied desk old
    → CountedCycle (airing_on after old.form) old new r → TalliedTo after new r
swap_tallied desk after who step old new r e legal h is has counted =
    subst (λ (d : DeskState). CountedCycle (airing_on d old.form) old new r → TalliedTo d new r) (sym e) (go r) counted
  where
    go : (r : Result (Unit {0}) SendStop) → CountedCycle (airing_on (and_step desk who step) old.form) old new r → TalliedTo (and_step desk who step) new r
    go (Ok u) counted = swap_counted desk who step old new legal h is has counted
    go (Err OnFault) counted = swap_counted desk who step old new legal h is has counted
    go (Err Memory) counted = tt
