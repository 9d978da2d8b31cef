-- Reading dates: the day number of a date is its Modified Julian Date.
use Rattle.std.proofs.Common.{◌≡◌, ◌∙◌, refl, sym, ap, ℕ, suc, ◌+◌, ◌-◌, ◌<◌, ◌≤◌, List, [], ◌∷◌, length, take, take_all, sum, nat_le, nat_lt, true, false, Option, Some, None, IfSome, IfNone, arith, ℤ, pos, negsuc, unsigned_abs, ◌≤ℤ◌, ◌&&◌}
use Rattle.std.proofs.lemmas.Bool.Decides.{nat_tests}
use Rattle.std.proofs.lemmas.Int.{by_lt_z}
use Rattle.std.proofs.lemmas.Bool.{false≢true, false_from_ne_true}
use Rattle.std.proofs.lemmas.Option.{cond_some}
use Rattle.jiff_core.specs.Calendar.{days_in_month, day_count}
use Rattle.jiff_core.proofs.SignedLemmas.{signed_arith}
use Rattle.si_time.specs.Moments.{years, civil_date}
use Rattle.si_time.specs.Dates.{mjd, IsCodedDate, IsDateOf}
use Rattle.si_time.specs.Readings.{is_date, days_before, day_number, has_shape}
use Rattle.si_time.proofs.DateFacts.{civil_date-is, is_civil, mjd_is, mjd_back, civil_year, date_start, length-years, sum-years}

-- there is no value where each leads to a contradiction
pub elim_none : (o : Option ℕ) → ((n : ℕ) → o ≡ Some n → ⊥) → o ≡ None
elim_none None h = refl
elim_none (Some n) h = absurd (h n refl)

-- the tests of a date
pub record IsNumbered (y m d : ℕ) : Type 0 where
  pub month : (1 ≤ m) × (m ≤ 12)
  pub day : (1 ≤ d) × (d ≤ days_in_month (pos y) m)
  pub year : 1858 ≤ y
  pub fits : (320 ≤ days_before y m d) × (days_before y m d < 65856)

is_numbered : (y m d : ℕ) → (is_date y m d && nat_le 1858 y && nat_le 320 (days_before y m d) && nat_lt (days_before y m d) (65536 + 320)) ≡ true → IsNumbered y m d
is_numbered y m d t = record { month = grind (arith, nat_tests); day = grind (arith, nat_tests); year = grind (arith, nat_tests); fits = grind (arith, nat_tests) }

numbered : (y m d : ℕ) → IsNumbered y m d → day_number y m d ≡ Some (days_before y m d - 320)
unfolding day_number
numbered y m d h = grind (arith, nat_tests)

-- the days before a date, as the calendar counts them
counted : (y m d : ℕ) → 1858 ≤ y → y < 2039 → 1 ≤ m → m ≤ 12 → 1 ≤ d → day_count (pos y) m d ≡ 4_331_046 + days_before y m d
unfolding days_before
counted y m d low high first last day =
    let year : 1858 + (y - 1858) ≡ y = omega arith in
    let month : suc (m - 1) ≡ m = omega arith in
    omega (arith, rw (year, month) at (date_start (y - 1858) (m - 1) d (omega arith) (omega arith) day))

-- a later year than 2038 is out of the window
in_years : (y m d : ℕ) → days_before y m d < 65856 → y < 2039
unfolding days_before
in_years y m d h = by_lt_z (pos y) (pos 2039)
    (λ lt. omega (arith, signed_arith))
    (λ le.
    let high : 2039 ≤ y = omega (arith, signed_arith) in
    let all : sum (take (y - 1858) years) ≡ sum years = ap sum (take_all (y - 1858) years (omega (arith, length-years))) in
    absurd (omega (arith, sum-years)))

-- what is given is the Modified Julian Date of a date of the calendar
pub day_number-is : (y m d n : ℕ) → day_number y m d ≡ Some n → IsDateOf n (y, m, d)
unfolding day_number
day_number-is y m d n e =
    let parts = cond_some _ _ _ e in
    let h = is_numbered y m d parts.0 in
    let number : mjd y m d ≡ pos n = mjd_is y m d n (omega (arith, counted y m d h.year (in_years y m d h.fits.1) h.month.0 h.month.1 h.day.0, parts.1, h.fits)) in
    ((omega (arith, signed_arith, h.month, h.day, in_years y m d h.fits.1), rw number (omega (arith, signed_arith, parts.1, h.fits))), number)

-- and each date of the calendar with such a number has it
pub day_number-of : (n y m d : ℕ) → IsDateOf n (y, m, d) → day_number y m d ≡ Some n
day_number-of n y m d h =
    let civil = is_civil y m d h.0.0 in
    let number = mjd_back y m d n h.1 in
    let fits : n < 65536 = omega (arith, signed_arith, rw h.1 at h.0.1) in
    let years_are = civil_year y m d n civil number fits in
    let count = counted y m d years_are.0 years_are.1 civil.1.0 civil.1.1 civil.2.0 in
    let is : IsNumbered y m d = record { month = (civil.1.0, civil.1.1); day = (civil.2.0, civil.2.1); year = years_are.0; fits = (omega (arith, count, number), omega (arith, count, number)) } in
    numbered y m d is ∙ ap Some (omega (arith, count, number))

pub day_number-none : (y m d : ℕ) → ¬ (IsCodedDate y m d) → day_number y m d ≡ None
day_number-none y m d lacks = elim_none (day_number y m d) (λ n e. lacks (day_number-is y m d n e).0)

-- the date of a day number has that number
pub day_number-civil_date : (n : ℕ) → n < 65536 → day_number (civil_date n).0 (civil_date n).1 (civil_date n).2 ≡ Some n
day_number-civil_date n h = day_number-of n (civil_date n).0 (civil_date n).1 (civil_date n).2 (civil_date-is n h)

-- bytes with a shape are as many as it has
pub has_shape-length : (shape bytes : List ℕ) → has_shape shape bytes ≡ true → length shape ≡ length bytes
has_shape-length [] [] h = refl
has_shape-length [] (b ∷ bytes) h = absurd (false≢true h)
has_shape-length (s ∷ shape) [] h = absurd (false≢true h)
has_shape-length (s ∷ shape) (b ∷ bytes) h = ap suc (has_shape-length shape bytes (grind (arith, nat_tests)))

pub has_shape-other_length : (shape bytes : List ℕ) → (length shape ≡ length bytes → ⊥) → has_shape shape bytes ≡ false
has_shape-other_length shape bytes differ = false_from_ne_true (has_shape shape bytes) (λ e. differ (has_shape-length shape bytes e))

-- a number of the date, and none only where there is no such date, is its day number
pub day_number-result : (y m d : ℕ) (o : Option ℕ) → IfSome o (λ n. IsDateOf n (y, m, d)) → IfNone o (¬ (IsCodedDate y m d)) → o ≡ day_number y m d
day_number-result y m d None some none = sym (day_number-none y m d none)
day_number-result y m d (Some n) some none = sym (day_number-of n y m d some)

not_negative : (z : ℤ) → pos 0 ≤ℤ z → z ≡ pos (unsigned_abs z)
not_negative (pos n) h = refl
not_negative (negsuc n) h = absurd (omega (arith, signed_arith))

-- a date with a number of 16 bits has it
pub day_number-some : (y m d : ℕ) → IsCodedDate y m d → (n : ℕ) × (day_number y m d ≡ Some n)
day_number-some y m d h = (unsigned_abs (mjd y m d), day_number-of (unsigned_abs (mjd y m d)) y m d (h, not_negative (mjd y m d) h.1.0))
