-- From which desks a run goes on: one that was asked nothing, and one that did the steps of a checkpoint.
use Rattle.std.proofs.Common.{◌≡◌, ℕ, true, false, List, [], ◌∷◌, ◌++◌, refl, sym, ap, ◌∙◌, subst, map, append-nil}
use Rattle.std.specs.Prelude.{Option, Some, None}
use Rattle.std.specs.List.{AllByRecursion}
use Rattle.si_lists.proofs.Lists.{all_at}
use Rattle.si_causes.proofs.CauseFacts.{Appends-nothing}
use Rattle.air_model.specs.Air.{Aired}
use Rattle.cycle_player.specs.Sending.{AtEnd}
use Rattle.mux_model.specs.declared.mux.Mux.{Mux}
use Rattle.mux_model.specs.Sound.{IsSound}
use Rattle.si_time.specs.declared.moment.Moment.{Moment}
use Rattle.journal_model.specs.declared.step.Step.TheVariants.{Swap}
use Rattle.journal_model.specs.declared.step.Entry.{Entry}
use Rattle.desk_core.specs.Journal.{Legal, LegalAfter, journal_after, outcome_of, publishes}
use Rattle.desk_core.proofs.JournalFacts.{journal_legal}
use Rattle.cycle_player.specs.Airs.{AreMadeAt}
use Rattle.cycle_player.specs.Tallies.{tally_of}
use Rattle.cycle_player.specs.Tally.{no_cycles}
use Rattle.journal_air.specs.Air.{airing_at, airings}
use Rattle.desk_checkpoint.specs.Steps.{checkpoint_steps, folded, shift_of}
use Rattle.desk_checkpoint.specs.Going.{is_taken}
use Rattle.desk_checkpoint.proofs.GoFacts.{journals_alike}
use Rattle.desk_checkpoint.proofs.FoldFacts.{goes_on, steps_taken}
use Rattle.desk_checkpoint.proofs.AirFacts.{air_goes_on, no_swaps}
use Rattle.journal_air.specs.OnAir.{HasAired, IsPlayerOf}
use Rattle.journal_air.specs.Tallied.{HasTallied}
use Rattle.desk_checkpoint.specs.declared.start.Start.{Start}
use Rattle.epg_play.proofs.GoingOn.{IsBase}

none_last : (front : List Entry) (last : Entry) → [] ≡ front ++ last ∷ [] → ⊥
none_last [] last e = cc
none_last (x ∷ front) last e = cc

pub new_base : (mux : Mux) → IsSound mux → IsBase mux 0 [] []
new_base mux sound = record {
  sound = sound;
  legal = tt;
  own = tt;
  alike = record { book = refl; moment = refl; count = refl; latest = refl };
  airs = λ commands. refl;
  no_swap = λ front last e swap. none_last front last e;
}

-- a swap is never taken among the steps of a checkpoint
swapped : (mux : Mux) (before front : List Entry) (last : Entry) → LegalAfter mux before (front ++ last ∷ []) → last.step ≡ Swap → is_taken last.outcome ≡ false
swapped mux before [] last legal swap = ap is_taken (legal.0 ∙ ap (outcome_of mux before) swap)
swapped mux before (x ∷ front) last legal swap = swapped mux (before ++ x ∷ []) front last legal.1 swap

pub folded_base : (mux : Mux) (journal : List Entry) → IsSound mux → Legal mux journal → IsBase mux (shift_of (publishes journal)) journal (folded mux journal)
folded_base mux journal sound legal =
    let short = folded mux journal in
    let shift = shift_of (publishes journal) in
    let own : Legal mux short = journal_legal mux [] (checkpoint_steps mux journal) in
    let alike = goes_on mux journal sound legal in
    record {
      sound = sound;
      legal = legal;
      own = own;
      alike = alike;
      airs = λ commands. subst (λ (l : List Entry). airings mux (journal ++ l) ≡ airings mux journal ++ airings mux (short ++ journal_after mux short commands))
          (sym (journals_alike mux shift journal short commands sound legal own alike)) (air_goes_on mux journal commands sound legal);
      no_swap = λ front last e swap.
          (let taken = all_at (λ (entry : Entry). is_taken entry.outcome ≡ true) front last [] (subst (AllByRecursion (λ (entry : Entry). is_taken entry.outcome ≡ true)) e (steps_taken mux journal sound legal)) in
          let not = swapped mux [] front last (subst (Legal mux) e own) swap in
          let no : true ≡ false = sym taken ∙ not in
          cc no);
    }

-- ---- nothing was aired by it yet

pub nothing_folded : (mux : Mux) (journal : List Entry) → IsSound mux → Legal mux journal → airings mux (folded mux journal) ≡ []
nothing_folded mux journal sound legal = (let short = folded mux journal in ap (λ (l : List (ℕ × Moment)). map (airing_at mux short) l) (no_swaps short (steps_taken mux journal sound legal)))

none_made : (rate : Option ℕ) (earlier : List Aired) → AreMadeAt rate earlier []
none_made None earlier = tt
none_made (Some rate) earlier = tt

-- behind earlier cycles, a start that has put nothing on air has aired nothing
pub begun_aired : (earlier : List Aired) (start : Start) (w : Option (List ℕ)) → airings start.desk.mux start.desk.entries ≡ [] → AtEnd earlier start.player → IsPlayerOf start.desk.mux start.player
    → HasAired earlier start.desk start.player w w
begun_aired earlier start w none end player_of = (
  [],
  record { at_end = subst (λ (l : List Aired). AtEnd l start.player) (sym (append-nil earlier)) end; airings_are = sym none; made = none_made start.desk.mux.rate earlier; player_of = player_of },
  Appends-nothing w,
)

none_tallied : (rate : Option ℕ) → no_cycles ≡ tally_of rate []
none_tallied None = refl
none_tallied (Some rate) = refl

-- and its player, which has counted no cycle, has the tally of that
pub begun_tallied : (start : Start) → airings start.desk.mux start.desk.entries ≡ []
    → start.player.tally ≡ no_cycles → HasTallied start.desk start.player
begun_tallied start none tally =
    tally ∙ none_tallied start.desk.mux.rate ∙ ap (tally_of start.desk.mux.rate) (sym none)
