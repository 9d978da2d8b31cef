use Rattle.std.proofs.Common.{arith, ap, length, length-append}
use Rattle.guide_model.specs.Descriptors.{descriptors_size}
use Rattle.descriptors.specs.Descriptors.{descriptors_bytes}
use Rattle.descriptors.specs.EventDescriptors.{made_descriptors}
use Rattle.descriptors.proofs.Loops.{length-descriptors_bytes}
use Rattle.descriptors.proofs.event_descriptors.write_event_descriptors.Goals as goal

pub put_made-requires-clause-room : goal.put_made-requires-clause-room
put_made-requires-clause-room c =
    let e = c.args.event.now in
    omega (arith, c.in_ok-reserve.ensures.ok, c.descriptors_len.ensures.size, length-append (made_descriptors e) (descriptors_bytes e.descriptors))

pub put_descriptors-requires-clause-room : goal.put_descriptors-requires-clause-room
put_descriptors-requires-clause-room c =
    let e = c.args.event.now in
    omega (
      arith,
      c.in_ok-reserve.ensures.ok,
      c.descriptors_len.ensures.size,
      c.put_made.ensures.capacity,
      ap length c.put_made.ensures.items,
      length-append c.reserve.new.self.items (made_descriptors e),
      length-append (made_descriptors e) (descriptors_bytes e.descriptors),
      length-descriptors_bytes e.descriptors,
      ap descriptors_size c.as_slice.ensures,
    )
