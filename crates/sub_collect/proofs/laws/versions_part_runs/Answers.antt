use Rattle.sub_collect.proofs.Runs.{run_of-new, version-joins}
use Rattle.sub_collect.proofs.laws.versions_part_runs.Goals as goal

pub returns : goal.returns
returns c = record { begins = run_of-new; joins = version-joins }
