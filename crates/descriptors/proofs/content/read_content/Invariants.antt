use Rattle.std.proofs.Common.{◌≡◌, length}
use Rattle.si_lists.proofs.Lists.{behind}
use Rattle.descriptors.specs.Content.{content_in}
use Rattle.descriptors.proofs.content.read_content.Given as goal

abbrev pub invariant-loop-rest : goal.invariant-loop-rest
invariant-loop-rest l = content_in l.body ≡ behind l.genres.items (content_in l.rest)

abbrev pub decreases-loop-rest : goal.decreases-loop-rest
decreases-loop-rest l = length l.rest
