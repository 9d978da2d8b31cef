use Rattle.epg_follow.proofs.BridgeFacts.{kills_are_bridged}
use Rattle.epg_follow.proofs.MissingFacts.{bridged_air_is_thinned, bridged_runs_are_heard}
use Rattle.epg_follow.proofs.RecoveryFacts.{recovered_runs_are_bridged, runs_are_bridged}
use Rattle.epg_follow.proofs.ManyRunsFacts.{runs_in_a_row_are_one_air}
use Rattle.epg_follow.proofs.recovery_laws.kills_are_bridged.Goals as goal

pub returns : goal.returns
returns c = record { bridged = kills_are_bridged; recovered = recovered_runs_are_bridged; runs = runs_are_bridged; thinned = bridged_air_is_thinned; heard = bridged_runs_are_heard; many = runs_in_a_row_are_one_air }
