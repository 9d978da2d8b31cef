use Rattle.std.proofs.Common.{◌∷◌, [], codes, decimal, refl}
use Rattle.desk_checkpoint.proofs.TextFacts.{put_line}
use Rattle.desk_checkpoint.proofs.text.put_counter.Goals as goal

pub returns : goal.returns
returns c =
    let counter = c.args.counter.now in
    put_line c.end.result c.args.out.now.items c.end.new.out.items c.number-2.new.self (codes "counter") (decimal counter.pid ∷ decimal counter.next ∷ [])
    (rw (c.in_ok-number-2.ensures, c.in_ok-number.ensures, c.in_ok-field.ensures, c.open-row.ensures, c.from.ensures, c.from-2.ensures) refl) c.end.ensures
