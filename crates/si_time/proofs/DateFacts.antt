-- The civil date of a day number is the date of the calendar with that Modified Julian Date, and the only one.
use Rattle.jiff_core.specs.Calendar.{days_in_year, days_in_month, days_of_months, day_count, days_from_civil, IsCivilDate, IsDate, IsYear}
use Rattle.jiff_core.proofs.SignedLemmas.{signed_arith}
use Rattle.jiff_core.proofs.MarchLemmas.{day_count-early}
use Rattle.jiff_core.proofs.CalendarLemmas.{days_from_civil-day_count, days_of_months-zero, days_of_months_more, days_of_months_all, day_count-day_of_year, day_count-next_year, day_count-lt_year, day_count-later_year}
use Rattle.std.proofs.lemmas.Int.{by_lt_z}
use Rattle.std.proofs.Common.{◌≡◌, ◌∙◌, refl, sym, ap, ℕ, zero, suc, ◌+◌, ◌-◌, ◌<◌, ◌≤◌, List, [], ◌∷◌, length, take, take_all, get_or, sum, cond, nat_lt, Bool, true, false, subst, arith, ℤ, pos, ◌+ℤ◌, ◌≤ℤ◌, unsigned_abs, negsuc, to_z, of_z, FitsSigned, w16, to_z-of_z}
use Rattle.std.proofs.lemmas.List.Sums.{sum_by-cons, sum_by_more, sum_by_more_le}
use Rattle.std.proofs.lemmas.List.FromFn.{get_or-map-range_with_len, length-map-range_with_len}
use Rattle.std.proofs.lemmas.Bool.Decides.{nat_tests}
use Rattle.si_time.specs.Moments.{years, months, place_in, civil_date}
use Rattle.si_time.specs.Dates.{mjd, IsDateOf, IsOnlyDateOf}

-- the span that a day lies in, and its place there
pub record IsPlace (spans : List ℕ) (day : ℕ) (place : ℕ × ℕ) : Type 0 where
  pub which : place.0 < length spans
  pub within : place.1 < get_or spans place.0 0
  pub is : sum (take place.0 spans) + place.1 ≡ day

sum-cons : (x : ℕ) (xs : List ℕ) → sum (x ∷ xs) ≡ x + sum xs
sum-cons x xs = sum_by-cons (λ y. y) x xs

place_later : (span : ℕ) (spans : List ℕ) (day i r : ℕ) → span ≤ day → IsPlace spans (day - span) (i, r) → IsPlace (span ∷ spans) day (1 + i, r)
place_later span spans day i r h p =
    let next : suc i ≡ 1 + i = omega arith in
    let here : IsPlace (span ∷ spans) day (suc i, r) = record { which = omega (arith, p.which); within = p.within; is = omega (arith, p.is, sum-cons span (take i spans)) } in
    subst (λ n. IsPlace (span ∷ spans) day (n, r)) next here

place_in_by : (span : ℕ) (spans : List ℕ) (day : ℕ) (b : Bool) → nat_lt day span ≡ b → (span ≤ day → IsPlace spans (day - span) (place_in spans (day - span)))
    → IsPlace (span ∷ spans) day (cond b (0, day) (1 + (place_in spans (day - span)).0, (place_in spans (day - span)).1))
place_in_by span spans day true e later = let h : day < span = grind (arith, nat_tests) in record { which = omega arith; within = h; is = omega arith }
place_in_by span spans day false e later =
    let h : span ≤ day = grind (arith, nat_tests) in
    place_later span spans day (place_in spans (day - span)).0 (place_in spans (day - span)).1 h (later h)

pub place_in-is : (spans : List ℕ) (day : ℕ) → day < sum spans → IsPlace spans day (place_in spans day)
place_in-is [] day h = absurd (omega arith)
place_in-is (span ∷ spans) day h = place_in_by span spans day (nat_lt day span) refl (λ le. place_in-is spans (day - span) (omega (arith, sum-cons span spans)))

at_later : (span : ℕ) (spans : List ℕ) (i day all : ℕ) → all ≡ span + (sum (take i spans) + day) → place_in spans (sum (take i spans) + day) ≡ (i, day) → place_in (span ∷ spans) all ≡ (suc i, day)
at_later span spans i day all e is =
    let no : nat_lt all span ≡ false = grind (arith, nat_tests) in
    let back : all - span ≡ sum (take i spans) + day = omega arith in
    let next : 1 + i ≡ suc i = omega arith in
    rw (no, back, is, next)

pub place_in-at : (spans : List ℕ) (i day : ℕ) → i < length spans → day < get_or spans i 0 → place_in spans (sum (take i spans) + day) ≡ (i, day)
place_in-at [] i day h k = absurd (omega arith)
place_in-at (span ∷ spans) zero day h k =
    let same : 0 + day ≡ day = omega arith in
    let yes : nat_lt day span ≡ true = grind (arith, nat_tests) in
    rw (same, yes)
place_in-at (span ∷ spans) (suc i) day h k =
    at_later span spans i day _ (omega (arith, sum-cons span (take i spans))) (place_in-at spans i day (omega arith) k)

pub length-years : length years ≡ 181
unfolding years
length-years = length-map-range_with_len (λ n. days_in_year (pos n)) 1858 181

pub get_or-years : (k : ℕ) → k < 181 → get_or years k 0 ≡ days_in_year (pos (1858 + k))
unfolding years
get_or-years k h = get_or-map-range_with_len (λ n. days_in_year (pos n)) 1858 181 k (1858 + k) 0 h refl

pub sum-years : sum years ≡ 66109
unfolding years
sum-years = refl

day_count-1858 : day_count (pos 1858) 1 1 ≡ 4_331_046
day_count-1858 = day_count-early (pos 1858) 11857 1 1 refl (omega arith) (omega arith) (omega arith)

-- the days before a year
year_start : (k : ℕ) → k ≤ 181 → day_count (pos (1858 + k)) 1 1 ≡ 4_331_046 + sum (take k years)
year_start zero h = day_count-1858
year_start (suc k) h =
    let next : pos (1858 + suc k) ≡ pos (1858 + k) +ℤ pos 1 = omega (arith, signed_arith) in
    let short : k < length years = rw length-years h in
    let one : suc k ≡ k + 1 = omega arith in
    let more : sum (take (suc k) years) ≡ sum (take k years) + get_or years k 0 = rw one (sum_by_more (λ x. x) years k 0 short) in
    omega (arith, more, get_or-years k h, year_start k (omega arith), day_count-next_year (pos (1858 + k)) (pos (1858 + suc k)) (omega (arith, signed_arith)) next)

pub length-months : (y : ℕ) → length (months y) ≡ 12
unfolding months
length-months y = length-map-range_with_len (λ n. days_in_month (pos y) n) 1 12

pub get_or-months : (y k : ℕ) → k < 12 → get_or (months y) k 0 ≡ days_in_month (pos y) (suc k)
unfolding months
get_or-months y k h = get_or-map-range_with_len (λ n. days_in_month (pos y) n) 1 12 k (suc k) 0 h (omega arith)

-- the days before a month
month_start : (y k : ℕ) → k ≤ 12 → days_of_months (pos y) k ≡ sum (take k (months y))
month_start y zero h = days_of_months-zero (pos y)
month_start y (suc k) h =
    let short : k < length (months y) = rw (length-months y) h in
    let one : suc k ≡ k + 1 = omega arith in
    let back : suc k - 1 ≡ k = omega arith in
    let more : sum (take (suc k) (months y)) ≡ sum (take k (months y)) + get_or (months y) k 0 = rw one (sum_by_more (λ x. x) (months y) k 0 short) in
    omega (arith, more, get_or-months y k h, month_start y k (omega arith), rw back at (days_of_months_more (pos y) (suc k) (omega arith)))

-- a year is its months
pub sum-months : (y : ℕ) → sum (months y) ≡ days_in_year (pos y)
sum-months y = ap sum (sym (take_all 12 (months y) (omega (arith, length-months y)))) ∙ (sym (month_start y 12 (omega arith)) ∙ days_of_months_all (pos y))

-- the days before a date
pub date_start : (k j d : ℕ) → k < 181 → j < 12 → 1 ≤ d → day_count (pos (1858 + k)) (suc j) d + 1 ≡ 4_331_046 + (sum (take k years) + (sum (take j (months (1858 + k))) + d))
date_start k j d h i first =
    let back : suc j - 1 ≡ j = omega arith in
    omega (arith, year_start k (omega arith), month_start (1858 + k) j (omega arith), rw back at (day_count-day_of_year (pos (1858 + k)) (suc j) d first))

-- a Modified Julian Date is the days before the date, less those before 17 November 1858
pub mjd_is : (y m d n : ℕ) → day_count (pos y) m d ≡ n + 4_331_366 → mjd y m d ≡ pos n
mjd_is y m d n e = omega (arith, signed_arith, days_from_civil-day_count (pos y) m d)

pub mjd_back : (y m d n : ℕ) → mjd y m d ≡ pos n → day_count (pos y) m d ≡ n + 4_331_366
mjd_back y m d n e = omega (arith, signed_arith, days_from_civil-day_count (pos y) m d)

-- a date by the number of its year, its month and its day from 0
civil_date-at : (k j d n : ℕ) → k < 181 → j < 12 → d < days_in_month (pos (1858 + k)) (suc j) → n + 320 ≡ sum (take k years) + (sum (take j (months (1858 + k))) + d) → civil_date n ≡ (1858 + k, 1 + j, 1 + d)
unfolding civil_date
civil_date-at k j d n in_years in_months in_days e =
    let all = sum (take j (months (1858 + k))) + d in
    let short : j < length (months (1858 + k)) = omega (arith, length-months (1858 + k)) in
    let month : d < get_or (months (1858 + k)) j 0 = omega (arith, get_or-months (1858 + k) j in_months) in
    let year : all < get_or years k 0 = omega (arith, sum_by_more_le (λ x. x) (months (1858 + k)) j 0 short, sum-months (1858 + k), get_or-years k in_years) in
    let first = place_in-at years k all (omega (arith, length-years)) year in
    let second = place_in-at (months (1858 + k)) j d short month in
    rw (e, first, second)

date_is : (k j d n : ℕ) → k < 181 → j < 12 → d < days_in_month (pos (1858 + k)) (suc j) → n + 320 ≡ sum (take k years) + (sum (take j (months (1858 + k))) + d) → n < 65536 → IsDateOf n (1858 + k, suc j, 1 + d)
date_is k j d n in_years in_months in_days e fits =
    let number : mjd (1858 + k) (suc j) (1 + d) ≡ pos n = mjd_is (1858 + k) (suc j) (1 + d) n (omega (arith, date_start k j (1 + d) in_years in_months (omega arith))) in
    ((omega (arith, signed_arith), rw number (omega (arith, signed_arith))), number)

-- the date of a day number is a date of the calendar, with that Modified Julian Date
pub civil_date-is : (n : ℕ) → n < 65536 → IsDateOf n (civil_date n)
unfolding civil_date
civil_date-is n h =
    let year = place_in-is years (n + 320) (omega (arith, sum-years)) in
    let k = (place_in years (n + 320)).0 in
    let rest = (place_in years (n + 320)).1 in
    let in_years : k < 181 = omega (arith, year.which, length-years) in
    let month = place_in-is (months (1858 + k)) rest (omega (arith, year.within, get_or-years k in_years, sum-months (1858 + k))) in
    let j = (place_in (months (1858 + k)) rest).0 in
    let d = (place_in (months (1858 + k)) rest).1 in
    let in_months : j < 12 = omega (arith, month.which, length-months (1858 + k)) in
    let in_days : d < days_in_month (pos (1858 + k)) (suc j) = omega (arith, month.within, get_or-months (1858 + k) j in_months) in
    let next : 1 + j ≡ suc j = omega arith in
    rw next (date_is k j d n in_years in_months in_days (omega (arith, year.is, month.is)) h)

pub is_civil : (y m d : ℕ) → IsDate (pos y) (pos m) (pos d) → IsCivilDate (pos y) m d
is_civil y m d h = omega (arith, signed_arith)

day_count-2039 : day_count (pos 2039) 1 1 ≡ 4_397_155
day_count-2039 =
    let all : sum (take 181 years) ≡ sum years = ap sum (take_all 181 years (omega (arith, length-years))) in
    omega (arith, year_start 181 (omega arith), sum-years)

day_count-le_year : (x y : ℕ) → x ≤ y → day_count (pos x) 1 1 ≤ day_count (pos y) 1 1
day_count-le_year x y h = by_lt_z (pos x) (pos y)
    (λ lt. omega (arith, day_count-later_year (pos x) (pos y) (omega (arith, signed_arith)) lt))
    (λ le. let same : x ≡ y = omega (arith, signed_arith) in rw same (omega arith))

-- such a date lies in the years 1858 to 2038
pub civil_year : (y m d n : ℕ) → IsCivilDate (pos y) m d → day_count (pos y) m d ≡ n + 4_331_366 → n < 65536 → (1858 ≤ y) × (y < 2039)
civil_year y m d n civil e h =
    let first = day_count-day_of_year (pos y) m d civil.2.0 in
    let early : 1858 ≤ y = by_lt_z (pos y) (pos 1858)
    (λ lt. absurd (omega (arith, day_count-lt_year (pos y) m d (pos 1858) 1 1 civil (omega arith) lt, day_count-1858)))
    (λ le. omega (arith, signed_arith)) in
    let late : y < 2039 = by_lt_z (pos y) (pos 2039)
    (λ lt. omega (arith, signed_arith))
    (λ le. absurd (omega (arith, day_count-le_year 2039 y (omega (arith, signed_arith)), day_count-2039))) in
    (early, late)

civil_date-counted : (k j d n : ℕ) → k < 181 → j < 12 → IsCivilDate (pos (1858 + k)) (suc j) d → day_count (pos (1858 + k)) (suc j) d ≡ n + 4_331_366 → civil_date n ≡ (1858 + k, suc j, d)
civil_date-counted k j d n in_years in_months civil e =
    let next : 1 + j ≡ suc j = omega arith in
    let day : 1 + (d - 1) ≡ d = omega (arith, civil.2) in
    let at = civil_date-at k j (d - 1) n in_years in_months (omega (arith, civil.2)) (omega (arith, date_start k j d in_years in_months civil.2.0, civil.2)) in
    rw (next, day) at at

-- and it is the only one
pub civil_date-only : (n : ℕ) (date : ℕ × ℕ × ℕ) → IsDateOf n date → civil_date n ≡ date
civil_date-only n (y, m, d) h =
    let civil = is_civil y m d h.0.0 in
    let number = mjd_back y m d n h.1 in
    let fits : n < 65536 = omega (arith, signed_arith, rw h.1 at h.0.1) in
    let years_are = civil_year y m d n civil number fits in
    let year : 1858 + (y - 1858) ≡ y = omega arith in
    let month : suc (m - 1) ≡ m = omega (arith, civil.1) in
    let P : ℕ → ℕ → Type 0 = λ y' m'. IsCivilDate (pos y') m' d → day_count (pos y') m' d ≡ n + 4_331_366 → civil_date n ≡ (y', m', d) in
    subst (λ y'. P y' m) year (subst (λ m'. P (1858 + (y - 1858)) m') month
    (λ c e. civil_date-counted (y - 1858) (m - 1) d n (omega arith) (omega (arith, civil.1)) c e)) civil number

pub civil_date-is_only : (n : ℕ) → n < 65536 → IsOnlyDateOf n (civil_date n)
civil_date-is_only n h = (civil_date-is n h, λ other is. sym (civil_date-only n other is))

year_low : (y : ℤ) (m d n : ℕ) → IsCivilDate y m d → days_from_civil y m d +ℤ pos 4_371_587 ≡ pos (n + 4_331_000) → pos 1858 ≤ℤ y
year_low y m d n civil is = by_lt_z y (pos 1858)
    (λ lt. absurd (omega (arith, signed_arith, day_count-lt_year y m d (pos 1858) 1 1 civil (omega arith) lt, day_count-1858, days_from_civil-day_count y m d)))
    (λ le. le)

unsigned_back : (y : ℤ) (n : ℕ) → n ≡ unsigned_abs y → pos 1858 ≤ℤ y → pos n ≡ y
unsigned_back (pos m) n e h = ap pos e
unsigned_back (negsuc m) n e h = absurd (omega (arith, signed_arith))

-- a year keeps its value in 16 bits
pub same_year : (y : ℤ) → IsYear y → to_z w16 (of_z w16 y) ≡ y
same_year y h = let f : FitsSigned w16 y = omega (arith, signed_arith) in to_z-of_z f

-- the date that many days after the calendar's first one, 9999 years before the year 0
pub civil_date-since_min : (y : ℤ) (m d n year : ℕ) → IsCivilDate y m d → days_from_civil y m d +ℤ pos 4_371_587 ≡ pos (n + 4_331_000) → n < 65536 → year ≡ unsigned_abs y → civil_date n ≡ (year, m, d)
civil_date-since_min y m d n year civil is fits e =
    let same = unsigned_back y year e (year_low y m d n civil is) in
    let P : ℤ → Type 0 = λ z. IsCivilDate z m d → days_from_civil z m d +ℤ pos 4_371_587 ≡ pos (n + 4_331_000) → civil_date n ≡ (year, m, d) in
    subst P same (λ c i. civil_date-only n (year, m, d) (let number : mjd year m d ≡ pos n = omega (arith, signed_arith) in ((omega (arith, signed_arith), rw number (omega (arith, signed_arith))), number))) civil is
