use Rattle.std.proofs.Common.{sym, ◌∙◌, subst}
use Rattle.std.specs.List.{All}
use Rattle.std.proofs.lemmas.List.Elements.{All-from_recursion}
use Rattle.publication.specs.Sdt.{HasSmallDescriptors, remote_entries}
use Rattle.publication.proofs.SdtFacts.{remote_small}
use Rattle.publication.proofs.others.other_sdt_table.Goals as goal

pub sdt_sections-requires-clause-small : goal.sdt_sections-requires-clause-small
sdt_sections-requires-clause-small c =
    let other = c.args.other.now in
    subst (All HasSmallDescriptors) (sym (c.as_slice.ensures ∙ c.in_ok-services.ensures))
    (All-from_recursion HasSmallDescriptors (remote_entries other) (remote_small other.services c.requires.sound.services))
