use Rattle.std.proofs.Common.{sym, ◌∙◌, ap, subst}
use Rattle.std.specs.Prelude.{map}
use Rattle.std.specs.List.{All}
use Rattle.std.proofs.lemmas.List.Elements.{All-from_recursion}
use Rattle.publication.specs.Sdt.{HasSmallDescriptors, entry_of, own_entries}
use Rattle.publication.proofs.SdtFacts.{own_small}
use Rattle.publication.proofs.tables.sdt_table.Goals as goal

pub sdt_sections-requires-clause-small : goal.sdt_sections-requires-clause-small
sdt_sections-requires-clause-small c =
    let mux = c.args.mux.now in
    subst (All HasSmallDescriptors) (sym (c.as_slice-2.ensures ∙ c.in_ok-services.ensures ∙ ap (map entry_of) c.as_slice.ensures))
    (All-from_recursion HasSmallDescriptors (own_entries mux) (own_small mux.services c.requires.sound.services))
