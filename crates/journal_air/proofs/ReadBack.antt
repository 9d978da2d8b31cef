-- Written networks and services read back.
use Rattle.std.proofs.Common.{◌≡◌, ◌∙◌, ℕ, ◌+◌, ◌*◌, ◌/◌, ◌%◌, ◌<◌, Bool, true, length, Some, None, refl, ap, arith}
use Rattle.std.specs.Prelude.{if◌then◌else◌, ◌==◌, ◌&&◌, nat_lt}
use Rattle.std.specs.Option.{option_and_then, option_map}
use Rattle.std.proofs.lemmas.Bool.Decides.{nat_tests}
use Rattle.guide_model.specs.Decoding.{shown_bytes}
use Rattle.descriptors.specs.Lengths.{with_length, behind_length}
use Rattle.descriptors.proofs.Split.{lengths-read_back}
use Rattle.descriptors.specs.CableDelivery.{CableReadsBack, two_digits, is_decimal, has_digits, frequency_in, symbol_rate_in, cable_body, cable_of}
use Rattle.descriptors.specs.Service.{ServiceReadsBack, service_of}
use Rattle.table_bodies.specs.Nit.{NitReadsBack}
use Rattle.table_bodies.specs.Sdt.{SdtReadsBack}
use Rattle.table_bodies.proofs.Networks.{nit-reads_back}
use Rattle.table_bodies.proofs.Services.{sdt-reads_back}

-- ---- cables

digits_are_decimal : (n : ℕ) → is_decimal (two_digits n) ≡ true
digits_are_decimal n =
    let tens : two_digits n / 16 < 10 = omega arith in
    let units : two_digits n % 16 < 10 = omega arith in
    grind (arith, nat_tests)

digits_back : (n : ℕ) → 10 * (two_digits n / 16) + two_digits n % 16 ≡ n % 100
digits_back n =
    let tens : two_digits n / 16 ≡ n / 10 % 10 = omega arith in
    let units : two_digits n % 16 ≡ n % 10 = omega arith in
    (λ i. 10 * tens i + units i) ∙ omega arith

cable_back : CableReadsBack
cable_back c fits =
    let f : ℕ = c.frequency in
    let r : ℕ = c.symbol_rate in
    let front : (16 * (r % 10) + c.fec_inner) / 16 ≡ r % 10 = omega (arith, fits.fec_inner) in
    let low : (16 * (r % 10) + c.fec_inner) / 16 < 10 = omega (arith, fits.fec_inner) in
    let last : nat_lt ((16 * (r % 10) + c.fec_inner) / 16) 10 ≡ true = grind (arith, nat_tests) in
    let tested : (length (cable_body c) == 11 && has_digits (cable_body c)) ≡ true = rw (
      digits_are_decimal (f / 1000000),
      digits_are_decimal (f / 10000),
      digits_are_decimal (f / 100),
      digits_are_decimal f,
      digits_are_decimal (r / 100000),
      digits_are_decimal (r / 1000),
      digits_are_decimal (r / 10),
      last,
    ) refl in
    let frequency : frequency_in (cable_body c) ≡ f =
    (λ i. 1000000 * digits_back (f / 1000000) i + 10000 * digits_back (f / 10000) i + 100 * digits_back (f / 100) i + digits_back f i) ∙ omega (arith, fits.frequency) in
    let rate : symbol_rate_in (cable_body c) ≡ r =
    (λ i. 100000 * digits_back (r / 100000) i + 1000 * digits_back (r / 1000) i + 10 * digits_back (r / 10) i + front i) ∙ omega (arith, fits.symbol_rate) in
    let outer : (0xF0 + c.fec_outer) % 16 ≡ c.fec_outer = omega (arith, fits.fec_outer) in
    let inner : (16 * (r % 10) + c.fec_inner) % 16 ≡ c.fec_inner = omega (arith, fits.fec_inner) in
    ap (λ (b : Bool). if b then Some (cable_of (cable_body c)) else None) tested
    ∙ (λ i. Some (record { frequency = frequency i; modulation = c.modulation; symbol_rate = rate i; fec_outer = outer i; fec_inner = inner i }))

-- ---- services

service_back : ServiceReadsBack
service_back s shown =
    ap (option_and_then (λ parts. option_map (λ name. service_of s.kind parts.0 name) (behind_length parts.1)))
    (lengths-read_back.split (shown_bytes s.provider) (with_length (shown_bytes s.name)))
    ∙ ap (option_map (λ name. service_of s.kind (shown_bytes s.provider) name)) (lengths-read_back.whole (shown_bytes s.name))
    ∙ (λ i. Some (record { kind = s.kind; provider = shown.provider i; name = shown.name i }))

-- ---- tables

pub nit_back : NitReadsBack
nit_back = nit-reads_back cable_back

pub sdt_back : SdtReadsBack
sdt_back = sdt-reads_back service_back
