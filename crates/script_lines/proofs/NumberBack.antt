-- Numbers and moments read back from their texts.
use Rattle.std.proofs.Common.{◌≡◌, ◌≤◌, ◌<◌, ◌^◌, ◌*◌, ℕ, length, true, refl, arith, lit<, lit≤}
use Rattle.std.specs.Prelude.{Some, decimal, nat_le}
use Rattle.std.specs.List.{list_all}
use Rattle.std.proofs.lemmas.Fmt.{digits_decimal, digits_value-decimal, length-decimal-le, decimal_nonempty}
use Rattle.std.proofs.lemmas.Bool.Decides.{nat_tests}
use Rattle.si_time.specs.Moments.{moment_text}
use Rattle.si_time.specs.declared.moment.Moment.{Moment}
use Rattle.si_time.proofs.TextFacts.{moment_in-moment_text}
use Rattle.input_lines.proofs.Numerals.{own}
use Rattle.input_lines.specs.Numbers.{is_digit, is_numeral, value_from, number_in, numeral_of}
use Rattle.script_lines.specs.Controls.{moment_at}

-- a number of at most nine digits
pub low : (n : ℕ) → n ≤ 999999999 → n < 2 ^ 64
low n le = let k : n < 1000000000 = omega arith in let b : 1000000000 < 2 ^ 64 = lit< tt in omega (arith, k, b)

-- a number of 16 bits
pub small : (n : ℕ) → n ≤ 65535 → n < 2 ^ 64
small n le = let b : 65536 < 2 ^ 64 = lit< tt in omega (arith, b)

pub digits_of : (n : ℕ) → n < 2 ^ 64 → list_all is_digit (decimal n) ≡ true
digits_of n lt = digits_decimal own n lt

pub decimal_some : (n : ℕ) → n < 2 ^ 64 → 0 < length (decimal n)
decimal_some n lt = decimal_nonempty n lt

pub value_back : (n : ℕ) → n < 2 ^ 64 → value_from 0 (decimal n) ≡ n
value_back n lt = digits_value-decimal own n lt

is_numeral_back : (n : ℕ) → n ≤ 999999999 → is_numeral (decimal n) ≡ true
is_numeral_back n le =
    let digits = digits_of n (low n le) in
    let some : 0 < length (decimal n) = decimal_nonempty n (low n le) in
    let few : length (decimal n) ≤ 9 = length-decimal-le 9 n (lit< tt) (let k : n < 1000000000 = omega arith in let b : 1000000000 ≤ 10 ^ 9 = lit≤ tt in omega (arith, k, b)) (low n le) in
    let one : nat_le 1 (length (decimal n)) ≡ true = grind (arith, nat_tests) in
    let nine : nat_le (length (decimal n)) 9 ≡ true = grind (arith, nat_tests) in
    rw (digits, one, nine) refl

pub numeral_back : (n : ℕ) → n ≤ 999999999 → numeral_of (decimal n) ≡ Some n
numeral_back n le = rw (is_numeral_back n le, value_back n (low n le)) refl

pub number_back : (n high : ℕ) → n ≤ high → high ≤ 65535 → number_in 0 high (decimal n) ≡ Some n
number_back n high le most =
    let zero : nat_le 0 n ≡ true = grind (arith, nat_tests) in
    let within : nat_le n high ≡ true = grind (arith, nat_tests) in
    rw (is_numeral_back n (omega (arith, le, most)), value_back n (low n (omega (arith, le, most))), zero, within) refl

pub moment_back : (at : Moment) → at.0 < 65536 * 86400 → moment_at (moment_text at.0) ≡ Some at
moment_back at h = rw (moment_in-moment_text at.0 h) refl
