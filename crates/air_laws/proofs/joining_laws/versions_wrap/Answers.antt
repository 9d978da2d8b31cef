use Rattle.air_laws.proofs.Versions.{another_version, changes_apart}
use Rattle.air_laws.proofs.joining_laws.versions_wrap.Goals as goal

pub returns : goal.returns
returns c = record { another = another_version; changes = changes_apart }
