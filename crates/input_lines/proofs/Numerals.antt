-- What `parse` answers for the digits of a field.
use Rattle.std.proofs.Common.{◌≡◌, ℕ, ◌≤◌, List, length, true, rules, arith, Ok, Result}
use Rattle.std.specs.Prelude.{◌&&◌, nat_le}
use Rattle.std.specs.List.{list_all}
use Rattle.std.specs.Str.Parse.{ParsesUnsigned}
use Rattle.std.proofs.lemmas.Str.Parse.{IsNumeralModel, numerals_by_fold, parse_gives, digits_value_short}
use Rattle.std.proofs.lemmas.Bool.Decides.{nat_tests}
use Rattle.input_lines.specs.Numbers.{is_digit, value_from}

pub own : IsNumeralModel (λ ds. list_all is_digit ds ≡ true) (value_from 0)
own = numerals_by_fold _ (search rules) value_from (search rules)

pub all_of : (bs : List ℕ) → (list_all is_digit bs && (nat_le 1 (length bs) && nat_le (length bs) 9)) ≡ true → (list_all is_digit bs ≡ true) × (1 ≤ length bs) × (length bs ≤ 9)
all_of bs h = (grind (arith, nat_tests), grind (arith, nat_tests), grind (arith, nat_tests))

pub field_read : {E : Type 0} (bs : List ℕ) (r : Result ℕ E) → ParsesUnsigned 32 10 bs r → (list_all is_digit bs && (nat_le 1 (length bs) && nat_le (length bs) 9)) ≡ true → r ≡ Ok (value_from 0 bs)
field_read bs r p h =
    let f = all_of bs h in
    parse_gives own 32 bs r p f.0 (omega arith) (omega (arith, digits_value_short own bs 9 f.0 f.2))
