use Rattle.std.proofs.Common.{◌∷◌, [], codes, decimal, refl}
use Rattle.hex.specs.Hex.{encode_lower}
use Rattle.desk_checkpoint.proofs.TextFacts.{put_line}
use Rattle.desk_checkpoint.proofs.text.put_section.Goals as goal

pub returns-clause-text : goal.returns-clause-text
returns-clause-text c =
    let section = c.args.section.now in
    put_line c.end.result c.args.out.now.items c.end.new.out.items c.field-2.new.self (codes "body") (decimal section.number ∷ encode_lower section.body ∷ [])
    (rw (c.in_ok-field-2.ensures, c.in_ok-number.ensures, c.in_ok-field.ensures, c.open-row.ensures, c.from.ensures, c.as_bytes.ensures.value, c.in_ok-digits.ensures, c.as_slice-body.ensures) refl) c.end.ensures
