use Rattle.std.proofs.Common.{◌≡◌, sym, ◌∙◌, refl, arith}
use Rattle.std.proofs.lemmas.Grind.{common_steps}
use Rattle.std.specs.Prelude.{None, Some}
use Rattle.input_lines.specs.Numbers.{number_in}
use Rattle.script_lines.specs.Items.{after_texts, stamp_of, length_of, item_of}
use Rattle.script_lines.proofs.EventFields.{item_is, no_id, no_start, no_length}
use Rattle.script_lines.proofs.Shapes.{item_shaped}
use Rattle.script_lines.proofs.items.read_item.Goals as goal

pub returns-in_default-number : goal.returns-in_default-number
returns-in_default-number c = record {
  value =
      let item = item_is c.args.fields.now c.event-item.result c.start-item.result c.duration-item.result c.language-item.result c.name-item.result c.short-item.result c.extended-item.result
      c.in-len7-up.len_at_least c.event-item.is c.start-item.is c.duration-item.is c.language-item.is c.name-item.is c.short-item.is c.extended-item.is in
      let none : number_in 0 65535 c.event-item.result ≡ None = cc in
      rw (item, none, no_id) refl;
  shaped = grind (arith, common_steps);
}

pub returns-in_default-read_stamp : goal.returns-in_default-read_stamp
returns-in_default-read_stamp c = record {
  value =
      let item = item_is c.args.fields.now c.event-item.result c.start-item.result c.duration-item.result c.language-item.result c.name-item.result c.short-item.result c.extended-item.result
      c.in-len7-up.len_at_least c.event-item.is c.start-item.is c.duration-item.is c.language-item.is c.name-item.is c.short-item.is c.extended-item.is in
      let none : stamp_of c.start-item.result ≡ None = cc in
      rw (item, none, no_start) refl;
  shaped = grind (arith, common_steps);
}

pub returns-in_default-read_length : goal.returns-in_default-read_length
returns-in_default-read_length c = record {
  value =
      let item = item_is c.args.fields.now c.event-item.result c.start-item.result c.duration-item.result c.language-item.result c.name-item.result c.short-item.result c.extended-item.result
      c.in-len7-up.len_at_least c.event-item.is c.start-item.is c.duration-item.is c.language-item.is c.name-item.is c.short-item.is c.extended-item.is in
      let none : length_of c.duration-item.result ≡ None = cc in
      rw (item, none, no_length) refl;
  shaped = grind (arith, common_steps);
}

pub returns-in_default-2 : goal.returns-in_default-2
returns-in_default-2 c = record {
  value =
      let item = item_is c.args.fields.now c.event-item.result c.start-item.result c.duration-item.result c.language-item.result c.name-item.result c.short-item.result c.extended-item.result
      c.in-len7-up.len_at_least c.event-item.is c.start-item.is c.duration-item.is c.language-item.is c.name-item.is c.short-item.is c.extended-item.is in
      let none : after_texts c.args.fields.now ≡ None = sym c.in_ok-rating.ensures ∙ c.in_default-2.is in
      rw (item, none) refl;
  shaped = grind (arith, common_steps);
}

pub returns-clause-value : goal.returns-clause-value
returns-clause-value c =
    let item = item_is c.args.fields.now c.event-item.result c.start-item.result c.duration-item.result c.language-item.result c.name-item.result c.short-item.result c.extended-item.result
    c.in-len7-up.len_at_least c.event-item.is c.start-item.is c.duration-item.is c.language-item.is c.name-item.is c.short-item.is c.extended-item.is in
    let id : number_in 0 65535 c.event-item.result ≡ Some c.in-Some.id = cc in
    let start : stamp_of c.start-item.result ≡ Some c.in-Some-read_stamp.start = cc in
    let length : length_of c.duration-item.result ≡ Some c.in-Some-read_length.length = cc in
    let after = sym c.in_ok-rating.ensures ∙ c.in-Some-2.is in
    rw (item, id, start, length, after, c.in_ok-copy.ensures, c.in_ok-copy-2.ensures, c.in_ok-copy-3.ensures, c.in_ok-copy-4.ensures) refl

pub returns-clause-shaped : goal.returns-clause-shaped
returns-clause-shaped c = item_shaped c.args.fields.now _ (sym (returns-clause-value c))

pub returns-in_default : goal.returns-in_default
unfolding item_of
returns-in_default c = record { value = grind (arith, common_steps); shaped = grind (arith, common_steps) }
