use Rattle.std.proofs.Common.{◌∷◌, [], codes, decimal, refl}
use Rattle.journal_text.specs.Lines.{and_fields, no_fields}
use Rattle.desk_checkpoint.proofs.TextFacts.{put_line}
use Rattle.desk_checkpoint.proofs.text.put_version.Goals as goal

pub returns : goal.returns
returns c =
    let key = c.args.key.now.key in
    let numbers = decimal key.pid ∷ decimal key.table ∷ decimal key.ext ∷ decimal key.stream ∷ decimal key.network ∷ decimal c.args.key.now.version ∷ [] in
    put_line c.end.result c.args.out.now.items c.end.new.out.items c.number-6.new.self (codes "version") numbers
    (rw (
      c.in_ok-number-6.ensures,
      c.in_ok-number-5.ensures,
      c.in_ok-number-4.ensures,
      c.in_ok-number-3.ensures,
      c.in_ok-number-2.ensures,
      c.in_ok-number.ensures,
      c.in_ok-field.ensures,
      c.open-row.ensures,
      c.from.ensures,
      c.from-2.ensures,
      c.from-3.ensures,
      c.from-4.ensures,
      c.from-5.ensures,
      c.from-6.ensures,
    ) (refl {a = and_fields no_fields (codes "version" ∷ numbers)}))
    c.end.ensures
