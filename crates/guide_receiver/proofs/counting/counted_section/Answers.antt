use Rattle.std.proofs.Common.{◌≡◌, Ok}
use Rattle.section_codec.specs.declared.section.Section.TheVariants.{Long}
use Rattle.section_codec.specs.Section.{section_in}
use Rattle.guide_receiver.proofs.Reading.{body-read}
use Rattle.guide_receiver.proofs.counting.counted_section.Goals as goal

pub returns-in-Some-clause-body : goal.returns-in-Some-clause-body
returns-in-Some-clause-body c =
    let h = c.in-Ok-Long.header in
    let body = c.in-Ok-Long.body in
    let section = c.in-Ok-Long.ensures.section in
    let one = c.in-Ok-Long.is in
    let two = c.in-Ok-Long.field-0-is in
    let three = c.in-Ok-Long.header-is in
    let four = c.in-Ok-Long.body-is in
    let bytes = c.as_slice.ensures in
    let is : section_in c.args.raw.now.bytes ≡ Ok (Long h body) = cc in
    body-read c.args.raw.now.bytes h body is
