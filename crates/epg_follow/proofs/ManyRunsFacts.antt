-- Runs in a row make one air.
use Rattle.std.proofs.Common.{ℕ, List, [], ◌∷◌, ◌++◌, Option, Some, None, sym, subst}
use Rattle.air_model.specs.Air.{Aired}
use Rattle.air_model.proofs.Airs.{IsAirOf-none}
use Rattle.air_model.proofs.Repeating.{airs_repeat}
use Rattle.cycle_player.specs.Airs.{IsAirAt}
use Rattle.cycle_player.proofs.Airs.{made_join}
use Rattle.desk_checkpoint.proofs.GoFacts.{legal_on}
use Rattle.journal_model.specs.declared.step.Entry.{Entry}
use Rattle.journal_air.specs.Air.{airings}
use Rattle.mux_model.specs.declared.mux.Mux.{Mux}
use Rattle.epg_follow.specs.ManyRuns.{AreOneAir, RanAfter, Run, RunsInARowAreOneAir}
use Rattle.epg_follow.specs.Stands.{standing}
use Rattle.epg_follow.proofs.MadeFacts.{none_made}
use Rattle.epg_follow.proofs.NearFacts.{versions_differ}
use Rattle.epg_follow.proofs.RecoveryFacts.{standing_legal}

no_air : (rate : Option ℕ) → IsAirAt rate [] []
no_air None = IsAirOf-none
no_air (Some rate) = airs_repeat [] [] IsAirOf-none

nothing_ran : (mux : Mux) → AreOneAir mux [] []
nothing_ran mux = record { legal = tt; is_air = no_air mux.rate; made = none_made mux.rate []; versions = versions_differ (airings mux []) }

one_more : (mux : Mux) (run : Run) (before journal : List Entry) (earlier cycles : List Aired) → AreOneAir mux before earlier → RanAfter mux run before journal earlier cycles → AreOneAir mux journal cycles
one_more mux run before journal earlier cycles one ran =
    subst (λ (l : List Entry). AreOneAir mux l cycles) (sym ran.journal_is)
    (subst (λ (xs : List Aired). AreOneAir mux (before ++ standing ran.stands) xs) (sym ran.cycles_are)
    (record {
      legal = legal_on mux [] before (standing ran.stands) one.legal (standing_legal mux before ran.stands.k run.pieces ran.legal);
      is_air = ran.stands.is_air;
      made = made_join mux.rate [] earlier ran.stands.cycles one.made ran.stands.made;
      versions = versions_differ (airings mux (before ++ standing ran.stands));
    }))

pub runs_in_a_row_are_one_air : RunsInARowAreOneAir
runs_in_a_row_are_one_air mux [] journal cycles (no_entry, no_cycle) =
    subst (λ (l : List Entry). AreOneAir mux l cycles) (sym no_entry) (subst (λ (xs : List Aired). AreOneAir mux [] xs) (sym no_cycle) (nothing_ran mux))
runs_in_a_row_are_one_air mux (run ∷ runs) journal cycles (before, earlier, others, ran) =
    one_more mux run before journal earlier cycles (runs_in_a_row_are_one_air mux runs before earlier others) ran
