use Rattle.epg_follow.proofs.LeavingFacts.{follow_runs_leave_what_stands, following_leaves_what_stands, what_is_left_stands}
use Rattle.epg_follow.proofs.recovery_laws.what_is_left_stands.Goals as goal

pub returns : goal.returns
returns c = record { left = what_is_left_stands; followed = following_leaves_what_stands; runs = follow_runs_leave_what_stands }
