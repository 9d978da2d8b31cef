use Rattle.version_book.proofs.Versions.{neighbours, between}
use Rattle.version_book.proofs.laws.versions_tell_contents.Goals as goal

pub returns : goal.returns
returns c = record { neighbours = neighbours; between = between }
