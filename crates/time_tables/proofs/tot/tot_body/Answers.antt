use Rattle.std.proofs.Common.{ℕ, ◌+◌, List, ◌++◌, sym, ap, ap₂, ◌∙◌, append_assoc}
use Rattle.si_base.specs.Fields.{two}
use Rattle.si_time.specs.Moments.{moment_bcd}
use Rattle.time_tables.specs.LocalOffsets.{local_offsets}
use Rattle.std.proofs.Common.{length}
use Rattle.time_tables.proofs.Loops.{length-local_offsets}
use Rattle.time_tables.proofs.tot.tot_body.Goals as goal

pub returns : goal.returns
returns c =
    let all = local_offsets c.args.offsets.now in
    let size = length-local_offsets c.args.offsets.now c.requires.offsets.each in
    c.put_local_offsets.ensures.items
    ∙ ap (λ (l : List ℕ). l ++ all)
    (c.put-2.ensures.items
    ∙ ap₂ (λ (x y : List ℕ). x ++ y) (c.put.ensures.items ∙ ap₂ (λ (x y : List ℕ). x ++ y) c.in_ok-body.ensures.items c.to_bcd.ensures) (c.to_be_bytes.ensures ∙ ap (λ (n : ℕ). two (0xF000 + n)) (sym size)))
    ∙ append_assoc (moment_bcd c.args.at.0) (two (0xF000 + length all)) all
