use Rattle.std.proofs.Common.{◌∷◌, [], codes, decimal, refl}
use Rattle.desk_checkpoint.proofs.TextFacts.{put_line}
use Rattle.desk_checkpoint.proofs.text.put_count.Goals as goal

pub returns : goal.returns
returns c =
    put_line c.end.result c.args.out.now.items c.end.new.out.items c.number.new.self (codes "checkpoint") (decimal c.args.count ∷ [])
    (rw (c.in_ok-number.ensures, c.in_ok-field.ensures, c.open-row.ensures) refl) c.end.ensures
