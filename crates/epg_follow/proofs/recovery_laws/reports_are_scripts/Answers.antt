use Rattle.epg_follow.proofs.AgainFacts.{descriptions_go_on, reports_are_scripts, reports_play_again}
use Rattle.epg_follow.proofs.recovery_laws.reports_are_scripts.Goals as goal

pub returns : goal.returns
returns c = record { scripts = reports_are_scripts; again = reports_play_again; descriptions = descriptions_go_on }
