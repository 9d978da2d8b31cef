use Rattle.std.proofs.Common.{◌≡◌, length}
use Rattle.si_lists.proofs.Lists.{behind}
use Rattle.descriptors.specs.Languages.{languages_in}
use Rattle.descriptors.proofs.languages.read_iso_639_language.Given as goal

abbrev pub invariant-loop-rest : goal.invariant-loop-rest
invariant-loop-rest l = languages_in l.body ≡ behind l.languages.items (languages_in l.rest)

abbrev pub decreases-loop-rest : goal.decreases-loop-rest
decreases-loop-rest l = length l.rest
