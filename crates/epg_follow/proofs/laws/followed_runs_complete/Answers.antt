use Rattle.epg_follow.proofs.CompletingFacts.{follow_resume_runs_complete, follow_runs_complete}
use Rattle.epg_follow.proofs.laws.followed_runs_complete.Goals as goal

pub returns : goal.returns
returns c = record { new = follow_runs_complete; resumed = follow_resume_runs_complete }
