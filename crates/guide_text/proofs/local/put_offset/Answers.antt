use Rattle.std.proofs.Common.{◌++◌, ◌∷◌, []}
use Rattle.guide_text.proofs.Lines.{then_line}
use Rattle.guide_text.proofs.LocalLines.{local_parts}
use Rattle.guide_text.proofs.local.put_offset.Goals as goal

pub returns : goal.returns
returns c =
    then_line c.extend_from_slice-2.result c.extend_from_slice-2.new.self.items (c.put_local.new.out.items ++ 10 ∷ []) _ _
    (local_parts c.args.out.now.items c.args.at.0 c.args.offset.now c.extend_from_slice.new.self.items c.put_region.new.out.items c.put_minutes.new.out.items c.put_local.new.out.items
    c.in_ok-extend_from_slice.ensures.items c.in_ok-put_region.ensures c.in_ok-put_minutes.ensures c.in_ok-put_local.ensures)
    c.extend_from_slice-2.ensures.items
