-- The formula of annex C gives the Modified Julian Date of each date that it is given for.
use Rattle.std.proofs.Common.{◌≡◌, refl, ℕ, ◌+◌, ◌-◌, ◌*◌, ◌/◌, ◌<◌, ◌≤◌, nat_le, true, false, arith, pos}
use Rattle.std.proofs.lemmas.Int.{by_lt_z}
use Rattle.std.proofs.lemmas.Bool.Decides.{nat_tests}
use Rattle.jiff_core.specs.Calendar.{day_count, IsCivilDate}
use Rattle.jiff_core.specs.March.{march_days, march_months}
use Rattle.jiff_core.proofs.CalendarLemmas.{day_count-lt_year, day_count-lt_month}
use Rattle.jiff_core.proofs.MarchLemmas.{day_count-early, day_count-late}
use Rattle.jiff_core.proofs.SignedLemmas.{signed_arith}
use Rattle.si_time.specs.Moments.{civil_date}
use Rattle.si_time.specs.Dates.{annex_c}
use Rattle.si_time.proofs.DateFacts.{civil_date-is, is_civil, mjd_back, civil_year}

-- 122 days and the days from 1 March to the first of a month from 3 to 14
months_agree : (m : ℕ) → 3 ≤ m → m ≤ 14 → (m + 1) * 306001 / 10000 ≡ march_months m + 122
months_agree m low high = omega arith

years_agree : (y : ℕ) → 1900 ≤ y → y < 2039 → march_days (y + 10000) ≡ (y - 1900) * 36525 / 100 + 4_346_385
years_agree y low high = omega arith

annex_c-late : (y m d n : ℕ) → 1900 ≤ y → y < 2039 → 3 ≤ m → m ≤ 12 → 1 ≤ d → day_count (pos y) m d ≡ n + 4_331_366 → annex_c (y, m, d) ≡ n
annex_c-late y m d n low high first last day e =
    let late : nat_le m 2 ≡ false = grind (arith, nat_tests) in
    rw late (omega (arith, day_count-late (pos y) (y + 10000) m d refl first last day, months_agree m first (omega arith), years_agree y low high))

annex_c-early : (y m d n : ℕ) → 1901 ≤ y → y < 2039 → 1 ≤ m → m ≤ 2 → 1 ≤ d → day_count (pos y) m d ≡ n + 4_331_366 → annex_c (y, m, d) ≡ n
annex_c-early y m d n low high first last day e =
    let early : nat_le m 2 ≡ true = grind (arith, nat_tests) in
    rw early (omega (arith, day_count-early (pos y) (y - 1 + 10000) m d (omega (arith, signed_arith)) first last day, months_agree (m + 12) (omega arith) (omega arith), years_agree (y - 1) (omega arith) (omega arith)))

day_count-march_1900 : day_count (pos 1900) 3 1 ≡ 4_346_445
day_count-march_1900 = day_count-late (pos 1900) 11900 3 1 refl (omega arith) (omega arith) (omega arith)

annex_c-from_1900 : (y m d n : ℕ) → IsCivilDate (pos y) m d → 1900 ≤ y → y < 2039 → day_count (pos y) m d ≡ n + 4_331_366 → 15079 ≤ n → annex_c (y, m, d) ≡ n
annex_c-from_1900 y m d n civil low high e h = by_lt_z (pos m) (pos 3)
    (λ lt. by_lt_z (pos 1900) (pos y)
    (λ later. annex_c-early y m d n (omega (arith, signed_arith)) high civil.1.0 (omega (arith, signed_arith)) civil.2.0 e)
    (λ le. let same : y ≡ 1900 = omega (arith, signed_arith) in absurd (omega (arith, day_count-march_1900, rw same at e, day_count-lt_month (pos 1900) m d 3 1 (rw same at civil) (omega arith) (omega (arith, signed_arith))))))
    (λ le. annex_c-late y m d n low high (omega (arith, signed_arith)) civil.1.1 civil.2.0 e)

pub annex_c-is : (n : ℕ) → n < 65536 → 15079 ≤ n → annex_c (civil_date n) ≡ n
annex_c-is n fits h =
    let is = civil_date-is n fits in
    let y = (civil_date n).0 in
    let m = (civil_date n).1 in
    let d = (civil_date n).2 in
    let civil = is_civil y m d is.0.0 in
    let count = mjd_back y m d n is.1 in
    let years_are = civil_year y m d n civil count fits in
    let low : 1900 ≤ y = by_lt_z (pos y) (pos 1900)
    (λ lt. absurd (omega (arith, day_count-march_1900, day_count-lt_year (pos y) m d (pos 1900) 3 1 civil (omega arith) lt)))
    (λ le. omega (arith, signed_arith)) in
    annex_c-from_1900 y m d n civil low years_are.1 count h
