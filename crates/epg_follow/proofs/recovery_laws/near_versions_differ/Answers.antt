use Rattle.epg_follow.proofs.NearFacts.{versions_differ}
use Rattle.epg_follow.proofs.recovery_laws.near_versions_differ.Goals as goal

pub returns : goal.returns
returns c = versions_differ
