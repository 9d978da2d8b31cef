use Rattle.std.proofs.Common.{[], List, ap, sym, ◌∙◌, subst}
use Rattle.mux_model.specs.Fed.{fed_services}
use Rattle.guide_limits.specs.KeptService.{KeptService}
use Rattle.guide_limits.specs.Guides.{guide_of}
use Rattle.publication.specs.Tables.{HasServicesOf}
use Rattle.publication.proofs.TableFacts.{guides_have}
use Rattle.publication_rows.proofs.guides.tables_behind.Goals as goal

pub build-requires-clause-services : goal.build-requires-clause-services
build-requires-clause-services c =
    let mux = c.args.mux.now in
    let edited = c.in_ok-do_edits.ensures (fed_services mux) [] c.in_ok-book.ensures in
    subst (HasServicesOf mux) (sym (c.in_ok-guide.ensures.guide ∙ ap (λ (b : List KeptService). guide_of b c.args.moment) edited.1)) (guides_have mux edited.0 c.args.moment)
