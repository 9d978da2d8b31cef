use Rattle.std.proofs.Common.{◌∙◌, sym, ap, rules}
use Rattle.std.specs.Prelude.{not}
use Rattle.std.proofs.lemmas.Fn.{filter_same}
use Rattle.table_bodies.specs.ShownEvent.{is_plain_piece, without_pieces}
use Rattle.table_bodies.proofs.shown_event.without_pieces.Goals as goal

pub returns-in-Text : goal.returns-in-Text
returns-in-Text c =
    let language = c.args.language.now in
    filter_same _ (λ d. not (is_plain_piece language d)) _ (λ x b f k. search rules) c.args.descs.now.items c.retain.new.self.items c.retain.ensures.filtered
    ∙ ap (λ extended. without_pieces language extended c.args.descs.now.items) (sym c.in-Text.is)
