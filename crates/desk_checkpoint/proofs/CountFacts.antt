-- What `parse` answers for the digits of a count.
use Rattle.std.proofs.Common.{◌≡◌, ◌<◌, ◌≤◌, ◌^◌, ℕ, List, length, true, arith, Ok, Result}
use Rattle.std.specs.List.{list_all}
use Rattle.std.specs.Str.Parse.{ParsesUnsigned}
use Rattle.std.proofs.lemmas.Str.Parse.{parse_gives, digits_value_short}
use Rattle.std.proofs.lemmas.Bool.Decides.{nat_tests}
use Rattle.input_lines.specs.Numbers.{is_digit, value_from}
use Rattle.input_lines.proofs.Numerals.{own}
use Rattle.desk_checkpoint.specs.Fields.{is_count}

digits_of : (bs : List ℕ) → is_count bs ≡ true → (list_all is_digit bs ≡ true) × (1 ≤ length bs) × (length bs ≤ 18)
digits_of bs h = (grind (arith, nat_tests), grind (arith, nat_tests), grind (arith, nat_tests))

-- eighteen digits are below 10^18
pub count_small : (bs : List ℕ) → is_count bs ≡ true → value_from 0 bs < 10 ^ 18
count_small bs h = let f = digits_of bs h in omega (arith, digits_value_short own bs 18 f.0 f.2)

pub count_read : {E : Type 0} (bs : List ℕ) (r : Result ℕ E) → ParsesUnsigned 64 10 bs r → is_count bs ≡ true → r ≡ Ok (value_from 0 bs)
count_read bs r p h =
    let f = digits_of bs h in
    parse_gives own 64 bs r p f.0 (omega arith) (omega (arith, digits_value_short own bs 18 f.0 f.2))
