use Rattle.std.proofs.Common.{sym, ◌∙◌}
use Rattle.section_codec.specs.Section.{section_in}
use Rattle.guide_receiver.proofs.Latest.{no_short}
use Rattle.guide_receiver.proofs.short.short_body.Goals as goal

pub returns-in-Err-Crc : goal.returns-in-Err-Crc
returns-in-Err-Crc c =
    let bytes = c.as_slice.ensures in
    let none = no_short c.args.table (section_in c.as_slice.result.now) c.in-Err-Crc.field-0 c.in-Err-Crc.ensures.memory (λ e. let both = sym c.in-Err-Crc.field-0-is ∙ e in cc) in
    cc

pub returns : goal.returns
returns c =
    let bytes = c.as_slice.ensures in
    let none = no_short c.args.table (section_in c.as_slice.result.now) c.in-Err-Syntax.field-0 c.in-Err-Syntax.ensures.memory (λ e. let both = sym c.in-Err-Syntax.field-0-is ∙ e in cc) in
    cc
