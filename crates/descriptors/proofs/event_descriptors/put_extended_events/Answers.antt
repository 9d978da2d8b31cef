use Rattle.std.proofs.Common.{◌++◌, ◌-◌, ap, sym, ◌∙◌, length, arith, length-append}
use Rattle.std.proofs.lemmas.Bool.{eqb-true}
use Rattle.std.proofs.lemmas.List.{append-nil}
use Rattle.guide_model.specs.Cutting.{pieces}
use Rattle.descriptors.specs.EventDescriptors.{numbered, extended_events}
use Rattle.descriptors.specs.Descriptors.{descriptor}
use Rattle.descriptors.specs.ExtendedEvent.{extended_event_fields}
use Rattle.descriptors.proofs.Pieces.{extended_size, length-numbered, no_pieces, length-coded_text, numbered-next}
use Rattle.descriptors.proofs.event_descriptors.put_extended_events.Goals as goal

pub overflow_sub-count : goal.overflow_sub-count
overflow_sub-count c = omega (arith, c.loop-rest.invariant.number, ap length c.cut.ensures.pieces)

pub put_extended_event-requires-clause-room : goal.put_extended_event-requires-clause-room
put_extended_event-requires-clause-room c =
    let last = c.piece_count-count.result - 1 in
    let whole = extended_events c.args.language.now c.args.text.now in
    let rest = numbered c.loop-rest.number last c.args.language.now (pieces c.loop-rest.rest.now) in
    omega (
      arith,
      c.requires.room,
      c.loop-rest.invariant.capacity,
      ap length c.loop-rest.invariant.items,
      length-append c.loop-rest.out.items rest,
      length-append c.args.out.now.items whole,
      length-numbered c.loop-rest.number last c.args.language.now (pieces c.loop-rest.rest.now) c.told-language,
      ap extended_size c.cut.ensures.pieces,
      ap length c.coded_piece-coded.ensures,
      length-coded_text c.cut.result.0.now,
    )

pub loop-rest-preserved : goal.loop-rest-preserved
loop-rest-preserved c = record {
  utf8 = c.cut.ensures.utf8;
  plain = c.cut.ensures.back;
  number = omega (arith, c.loop-rest.invariant.number, ap length c.cut.ensures.pieces);
  items = numbered-next c.loop-rest.number (c.piece_count-count.result - 1) c.args.language.now c.loop-rest.out.items c.put_extended_event.new.out.items c.cut.result.0.now (pieces c.loop-rest.rest.now) (pieces c.cut.result.1.now) _
      c.cut.ensures.pieces c.loop-rest.invariant.items
      (c.put_extended_event.ensures.items ∙ ap (λ text. c.loop-rest.out.items ++ descriptor 0x4E (extended_event_fields c.loop-rest.number (c.piece_count-count.result - 1) c.args.language.now text)) c.coded_piece-coded.ensures);
  capacity = omega (arith, c.loop-rest.invariant.capacity, c.put_extended_event.ensures.capacity);
}

pub returns : goal.returns
returns c =
    let none = no_pieces c.loop-rest.rest.now (eqb-true _ _ (sym c.loop-rest-test.ensures)) in
    record {
      items = sym (append-nil c.loop-rest.out.items) ∙ ap (λ ps. c.loop-rest.out.items ++ numbered c.loop-rest.number (c.piece_count-count.result - 1) c.args.language.now ps) (sym none)
          ∙ c.loop-rest.invariant.items;
      capacity = c.loop-rest.invariant.capacity;
    }
