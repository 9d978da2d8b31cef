use Rattle.std.proofs.Common.{◌∷◌, [], codes, decimal, refl}
use Rattle.desk_checkpoint.proofs.TextFacts.{put_line}
use Rattle.desk_checkpoint.proofs.text.put_clock_line.Goals as goal

pub returns : goal.returns
returns c =
    let clock = c.args.clock in
    put_line c.end.result c.args.out.now.items c.end.new.out.items c.number-2.new.self (codes "clock") (decimal clock.moment ∷ decimal clock.bits ∷ [])
    (rw (c.in_ok-number-2.ensures, c.in_ok-number.ensures, c.in_ok-field.ensures, c.open-row.ensures, c.from.ensures) refl) c.end.ensures
