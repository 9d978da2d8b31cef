-- Reading a written text gives the value back, and only the written text of a value is read as it.
use Rattle.std.proofs.Common.{◌≡◌, ◌∙◌, refl, sym, ap, ℕ, ◌+◌, ◌-◌, ◌*◌, ◌/◌, ◌%◌, ◌<◌, ◌≤◌, List, [], ◌∷◌, ◌++◌, length, take, map, get_or, nat_le, true, false, Some, subst, arith, ◌&&◌, ◌==◌, pos}
use Rattle.std.specs.Prelude.{codes}
use Rattle.std.specs.List.{range_with_len, list_all}
use Rattle.std.specs.Char.{is_ascii_digit}
use Rattle.std.proofs.lemmas.Bool.{and_parts}
use Rattle.std.proofs.lemmas.Bool.Decides.{nat_tests}
use Rattle.std.proofs.lemmas.Option.{same_Some}
use Rattle.std.proofs.lemmas.List.FromFn.{fill_by_all}
use Rattle.si_time.specs.Moments.{two_digits, date_text, clock_text, civil_date, moment_text, duration_text}
use Rattle.si_time.specs.Readings.{has_shape, number_at, seconds_at, day_number, date_at_front, clock_at, moment_in, day_in, duration_in, IsMomentText, IsDayText}
use Rattle.jiff_core.proofs.CalendarLemmas.{days_in_month_bounds}
use Rattle.jiff_core.proofs.SignedLemmas.{signed_arith}
use Rattle.si_time.specs.Dates.{IsDateOf}
use Rattle.si_time.proofs.DateFacts.{civil_date-is, civil_date-only, is_civil}
use Rattle.si_time.proofs.ReadFacts.{has_shape-length, day_number-is, day_number-some, day_number-civil_date}
use Rattle.si_time.proofs.RoundTrips.{seconds_of-parts, seconds_of-is, seconds_of-some, seconds_of-tests, seconds_at-is, behind_test}

digit-high : (n : ℕ) → n < 100 → is_ascii_digit (48 + n / 10) ≡ true
digit-high n h = grind (arith, nat_tests)

digit-low : (n : ℕ) → is_ascii_digit (48 + n % 10) ≡ true
digit-low n = grind (arith, nat_tests)

number-back : (n : ℕ) → (48 + n / 10 - 48) * 10 + (48 + n % 10 - 48) ≡ n
number-back n = omega arith

digits-back : (a b : ℕ) → is_ascii_digit a ≡ true → is_ascii_digit b ≡ true
    → (48 + ((a - 48) * 10 + (b - 48)) / 10 ≡ a) × (48 + ((a - 48) * 10 + (b - 48)) % 10 ≡ b) × ((a - 48) * 10 + (b - 48) < 100)
digits-back a b p q =
    let low : 48 ≤ a = grind (arith, nat_tests) in
    let high : a ≤ 57 = grind (arith, nat_tests) in
    let low2 : 48 ≤ b = grind (arith, nat_tests) in
    let high2 : b ≤ 57 = grind (arith, nat_tests) in
    (omega arith, omega arith, omega arith)

shape-clock : (shape bytes : List ℕ) (h m s : ℕ) → h < 100 → m < 100 → s < 100
    → has_shape (codes "dd:dd:dd" ++ shape) (two_digits h ++ codes ":" ++ two_digits m ++ codes ":" ++ two_digits s ++ bytes) ≡ has_shape shape bytes
shape-clock shape bytes h m s a b c = rw (digit-high h a, digit-low h, digit-high m b, digit-low m, digit-high s c, digit-low s)

pub duration_in-duration_text : (t : ℕ) → t < 360000 → duration_in (duration_text t) ≡ Some t
unfolding duration_in duration_text
duration_in-duration_text t h =
    let hours : t / 3600 < 100 = omega arith in
    let minutes : t / 60 % 60 < 100 = omega arith in
    let seconds : t % 60 < 100 = omega arith in
    rw (shape-clock [] [] (t / 3600) (t / 60 % 60) (t % 60) hours minutes seconds, number-back (t / 3600), number-back (t / 60 % 60), number-back (t % 60)) (seconds_of-parts 100 t h)

-- two bytes that are digits are those of their number, and the rest of the bytes has the rest of the shape
record IsPair (a b : ℕ) (shape bytes : List ℕ) : Type 0 where
  high : 48 + ((a - 48) * 10 + (b - 48)) / 10 ≡ a
  low : 48 + ((a - 48) * 10 + (b - 48)) % 10 ≡ b
  small : (a - 48) * 10 + (b - 48) < 100
  rest : has_shape shape bytes ≡ true

pair_read : (shape bytes : List ℕ) (a b : ℕ) → has_shape (100 ∷ 100 ∷ shape) (a ∷ b ∷ bytes) ≡ true → IsPair a b shape bytes
pair_read shape bytes a b h =
    let first = and_parts (is_ascii_digit a) (is_ascii_digit b && has_shape shape bytes) h in
    let second = and_parts (is_ascii_digit b) (has_shape shape bytes) first.1 in
    let back = digits-back a b first.0 second.0 in
    record { high = back.0; low = back.1; small = back.2; rest = second.1 }

mark_read : (s : ℕ) (shape bytes : List ℕ) (b : ℕ) → (s == 100) ≡ false → has_shape (s ∷ shape) (b ∷ bytes) ≡ true → (b ≡ s) × (has_shape shape bytes ≡ true)
mark_read s shape bytes b other h =
    let parts = and_parts (b == s) (has_shape shape bytes) (rw other at h) in
    (grind (arith, nat_tests, parts.0), parts.1)

clock_read : (shape bytes : List ℕ) (h1 h2 c m1 m2 d s1 s2 : ℕ) → has_shape (codes "dd:dd:dd" ++ shape) (h1 ∷ h2 ∷ c ∷ m1 ∷ m2 ∷ d ∷ s1 ∷ s2 ∷ bytes) ≡ true
    → (two_digits ((h1 - 48) * 10 + (h2 - 48)) ++ codes ":" ++ two_digits ((m1 - 48) * 10 + (m2 - 48)) ++ codes ":" ++ two_digits ((s1 - 48) * 10 + (s2 - 48)) ≡ h1 ∷ h2 ∷ c ∷ m1 ∷ m2 ∷ d ∷ s1 ∷ s2 ∷ []) × (has_shape shape bytes ≡ true)
clock_read shape bytes h1 h2 c m1 m2 d s1 s2 h =
    let hours = pair_read (codes ":dd:dd" ++ shape) (c ∷ m1 ∷ m2 ∷ d ∷ s1 ∷ s2 ∷ bytes) h1 h2 h in
    let colon = mark_read 58 (codes "dd:dd" ++ shape) (m1 ∷ m2 ∷ d ∷ s1 ∷ s2 ∷ bytes) c refl hours.rest in
    let minutes = pair_read (codes ":dd" ++ shape) (d ∷ s1 ∷ s2 ∷ bytes) m1 m2 colon.1 in
    let colon2 = mark_read 58 (codes "dd" ++ shape) (s1 ∷ s2 ∷ bytes) d refl minutes.rest in
    let seconds = pair_read shape bytes s1 s2 colon2.1 in
    (rw (hours.high, hours.low, minutes.high, minutes.low, seconds.high, seconds.low, colon.0, colon2.0), seconds.rest)

duration_in-explicit : (h1 h2 c m1 m2 d s1 s2 t : ℕ) → duration_in (h1 ∷ h2 ∷ c ∷ m1 ∷ m2 ∷ d ∷ s1 ∷ s2 ∷ []) ≡ Some t → (t < 360000) × (h1 ∷ h2 ∷ c ∷ m1 ∷ m2 ∷ d ∷ s1 ∷ s2 ∷ [] ≡ duration_text t)
unfolding duration_in duration_text
duration_in-explicit h1 h2 c m1 m2 d s1 s2 t e =
    let bytes : List ℕ = h1 ∷ h2 ∷ c ∷ m1 ∷ m2 ∷ d ∷ s1 ∷ s2 ∷ [] in
    let parts = behind_test (has_shape (codes "dd:dd:dd") bytes) (clock_at 100 0 bytes) t e in
    let clock = seconds_of-is 100 (number_at 0 bytes) (number_at 3 bytes) (number_at 6 bytes) t parts.1 in
    let text = clock_read [] [] h1 h2 c m1 m2 d s1 s2 parts.0 in
    (clock.fits, rw (← clock.hours, ← clock.minutes, ← clock.seconds) (sym text.0))

-- bytes of a length are written out
eight : (bytes : List ℕ) → length bytes ≡ 8 → bytes ≡ map (λ i. get_or bytes i 0) (range_with_len 0 8)
eight bytes e = fill_by_all (λ i. get_or bytes i 0) bytes 8 0 e (λ k h. refl)

pub duration_in-is : (bytes : List ℕ) (t : ℕ) → duration_in bytes ≡ Some t → (t < 360000) × (bytes ≡ duration_text t)
unfolding duration_in
duration_in-is bytes t e =
    let shape = behind_test (has_shape (codes "dd:dd:dd") bytes) (clock_at 100 0 bytes) t e in
    let all = eight bytes (sym (has_shape-length (codes "dd:dd:dd") bytes shape.0)) in
    let P : List ℕ → Type 0 = λ xs. duration_in xs ≡ Some t → (t < 360000) × (xs ≡ duration_text t) in
    subst P (sym all) (duration_in-explicit (get_or bytes 0 0) (get_or bytes 1 0) (get_or bytes 2 0) (get_or bytes 3 0) (get_or bytes 4 0) (get_or bytes 5 0) (get_or bytes 6 0) (get_or bytes 7 0) t) e

-- Dates

shape-date : (shape bytes : List ℕ) (c y m d : ℕ) → c < 100 → y < 100 → m < 100 → d < 100
    → has_shape (codes "dddd-dd-dd" ++ shape) (two_digits c ++ two_digits y ++ codes "-" ++ two_digits m ++ codes "-" ++ two_digits d ++ bytes) ≡ has_shape shape bytes
shape-date shape bytes c y m d hc hy hm hd = rw (digit-high c hc, digit-low c, digit-high y hy, digit-low y, digit-high m hm, digit-low m, digit-high d hd, digit-low d)

-- ten bytes of the shape of a date are the text of its numbers
date_read : (shape bytes : List ℕ) (y1 y2 y3 y4 a m1 m2 b d1 d2 : ℕ) → has_shape (codes "dddd-dd-dd" ++ shape) (y1 ∷ y2 ∷ y3 ∷ y4 ∷ a ∷ m1 ∷ m2 ∷ b ∷ d1 ∷ d2 ∷ bytes) ≡ true
    → (date_text (((y1 - 48) * 10 + (y2 - 48)) * 100 + ((y3 - 48) * 10 + (y4 - 48)), (m1 - 48) * 10 + (m2 - 48), (d1 - 48) * 10 + (d2 - 48)) ≡ y1 ∷ y2 ∷ y3 ∷ y4 ∷ a ∷ m1 ∷ m2 ∷ b ∷ d1 ∷ d2 ∷ []) × (has_shape shape bytes ≡ true)
date_read shape bytes y1 y2 y3 y4 a m1 m2 b d1 d2 h =
    let century = pair_read (codes "dd-dd-dd" ++ shape) (y3 ∷ y4 ∷ a ∷ m1 ∷ m2 ∷ b ∷ d1 ∷ d2 ∷ bytes) y1 y2 h in
    let year = pair_read (codes "-dd-dd" ++ shape) (a ∷ m1 ∷ m2 ∷ b ∷ d1 ∷ d2 ∷ bytes) y3 y4 century.rest in
    let dash = mark_read 45 (codes "dd-dd" ++ shape) (m1 ∷ m2 ∷ b ∷ d1 ∷ d2 ∷ bytes) a refl year.rest in
    let month = pair_read (codes "-dd" ++ shape) (b ∷ d1 ∷ d2 ∷ bytes) m1 m2 dash.1 in
    let dash2 = mark_read 45 (codes "dd" ++ shape) (d1 ∷ d2 ∷ bytes) b refl month.rest in
    let day = pair_read shape bytes d1 d2 dash2.1 in
    let first : (((y1 - 48) * 10 + (y2 - 48)) * 100 + ((y3 - 48) * 10 + (y4 - 48))) / 100 ≡ (y1 - 48) * 10 + (y2 - 48) = omega (arith, year.small) in
    let last : (((y1 - 48) * 10 + (y2 - 48)) * 100 + ((y3 - 48) * 10 + (y4 - 48))) % 100 ≡ (y3 - 48) * 10 + (y4 - 48) = omega (arith, year.small) in
    (rw (first, last, century.high, century.low, year.high, year.low, month.high, month.low, day.high, day.low, dash.0, dash2.0), day.rest)

-- the bounds of a date's numbers
record IsWritable (date : ℕ × ℕ × ℕ) : Type 0 where
  year : date.0 < 10000
  month : date.1 < 100
  day : date.2 < 100

writable : (n : ℕ) → n < 65536 → IsWritable (civil_date n)
writable n h =
    let is = civil_date-is n h in
    let number = is.1 in
    let civil = is_civil (civil_date n).0 (civil_date n).1 (civil_date n).2 is.0.0 in
    let length = days_in_month_bounds (pos (civil_date n).0) (civil_date n).1 in
    record { year = omega (arith, signed_arith, civil.0); month = omega (arith, civil.1); day = omega (arith, civil.2, length) }

-- the date at the front of a date's text
date_at_front-date_text : (y m d : ℕ) (bytes : List ℕ) → date_at_front (date_text (y, m, d) ++ bytes) ≡ day_number y m d
date_at_front-date_text y m d bytes =
    let year : y / 100 * 100 + y % 100 ≡ y = omega arith in
    rw (number-back (y / 100), number-back (y % 100), number-back m, number-back d, year)

day_in-parts : (y m d n : ℕ) → IsWritable (y, m, d) → day_number y m d ≡ Some n → day_in (date_text (y, m, d)) ≡ Some (n * 86400)
unfolding day_in
day_in-parts y m d n w e =
    let shape = shape-date [] [] (y / 100) (y % 100) m d (omega (arith, w.year)) (omega arith) w.month w.day in
    let same : n * 86400 + 0 ≡ n * 86400 = omega arith in
    rw (shape, date_at_front-date_text y m d [], e, same)

moment_in-parts : (y m d n t : ℕ) → IsWritable (y, m, d) → day_number y m d ≡ Some n → t < 86400 → moment_in (date_text (y, m, d) ++ codes "T" ++ clock_text t ++ codes "Z") ≡ Some (n * 86400 + t)
unfolding moment_in
moment_in-parts y m d n t w e h =
    let date = shape-date (codes "Tdd:dd:ddZ") (codes "T" ++ clock_text t ++ codes "Z") (y / 100) (y % 100) m d (omega (arith, w.year)) (omega arith) w.month w.day in
    let clock = shape-clock (codes "Z") (codes "Z") (t / 3600) (t / 60 % 60) (t % 60) (omega arith) (omega arith) (omega arith) in
    rw (date ∙ clock, date_at_front-date_text y m d (codes "T" ++ clock_text t ++ codes "Z"), e, number-back (t / 3600), number-back (t / 60 % 60), number-back (t % 60), seconds_of-parts 24 t (omega arith))

pub day_in-date_text : (t : ℕ) → t < 65536 * 86400 → day_in (date_text (civil_date (t / 86400))) ≡ Some (t / 86400 * 86400)
day_in-date_text t h =
    let n = t / 86400 in
    let fits : n < 65536 = omega arith in
    day_in-parts (civil_date n).0 (civil_date n).1 (civil_date n).2 n (writable n fits) (day_number-civil_date n fits)

pub moment_in-moment_text : (t : ℕ) → t < 65536 * 86400 → moment_in (moment_text t) ≡ Some t
unfolding moment_text
moment_in-moment_text t h =
    let n = t / 86400 in
    let fits : n < 65536 = omega arith in
    let all : n * 86400 + t % 86400 ≡ t = omega arith in
    moment_in-parts (civil_date n).0 (civil_date n).1 (civil_date n).2 n (t % 86400) (writable n fits) (day_number-civil_date n fits) (omega arith) ∙ ap Some all

date_fits : (n y m d : ℕ) → IsDateOf n (y, m, d) → n < 65536
date_fits n y m d h = omega (arith, signed_arith, rw h.1 at h.0.1)

day_in-explicit : (y1 y2 y3 y4 a m1 m2 b d1 d2 t : ℕ) → day_in (y1 ∷ y2 ∷ y3 ∷ y4 ∷ a ∷ m1 ∷ m2 ∷ b ∷ d1 ∷ d2 ∷ []) ≡ Some t
    → (t < 65536 * 86400) × (t % 86400 ≡ 0) × (y1 ∷ y2 ∷ y3 ∷ y4 ∷ a ∷ m1 ∷ m2 ∷ b ∷ d1 ∷ d2 ∷ [] ≡ date_text (civil_date (t / 86400)))
unfolding day_in
day_in-explicit y1 y2 y3 y4 a m1 m2 b d1 d2 t e =
    let bytes : List ℕ = y1 ∷ y2 ∷ y3 ∷ y4 ∷ a ∷ m1 ∷ m2 ∷ b ∷ d1 ∷ d2 ∷ [] in
    let parts = behind_test (has_shape (codes "dddd-dd-dd") bytes) (seconds_at (date_at_front bytes) (Some 0)) t e in
    let at = seconds_at-is (date_at_front bytes) (Some 0) t parts.1 in
    let zero : 0 ≡ at.second = same_Some 0 at.second at.second_is in
    let text = date_read [] [] y1 y2 y3 y4 a m1 m2 b d1 d2 parts.0 in
    let year = number_at 0 bytes * 100 + number_at 2 bytes in
    let is = day_number-is year (number_at 5 bytes) (number_at 8 bytes) at.day at.day_is in
    let fits = date_fits at.day year (number_at 5 bytes) (number_at 8 bytes) is in
    let day : t / 86400 ≡ at.day = omega (arith, at.all) in
    (omega (arith, at.all), omega (arith, at.all), sym (ap date_text (ap civil_date day ∙ civil_date-only at.day (year, number_at 5 bytes, number_at 8 bytes) is) ∙ text.0))

ten : (bytes : List ℕ) → length bytes ≡ 10 → bytes ≡ map (λ i. get_or bytes i 0) (range_with_len 0 10)
ten bytes e = fill_by_all (λ i. get_or bytes i 0) bytes 10 0 e (λ k h. refl)

pub day_in-is : (bytes : List ℕ) (t : ℕ) → day_in bytes ≡ Some t → (t < 65536 * 86400) × (t % 86400 ≡ 0) × (bytes ≡ date_text (civil_date (t / 86400)))
unfolding day_in
day_in-is bytes t e =
    let shape = behind_test (has_shape (codes "dddd-dd-dd") bytes) (seconds_at (date_at_front bytes) (Some 0)) t e in
    let all = ten bytes (sym (has_shape-length (codes "dddd-dd-dd") bytes shape.0)) in
    let P : List ℕ → Type 0 = λ xs. day_in xs ≡ Some t → (t < 65536 * 86400) × (t % 86400 ≡ 0) × (xs ≡ date_text (civil_date (t / 86400))) in
    let at : ℕ → ℕ = λ i. get_or bytes i 0 in
    subst P (sym all) (day_in-explicit (at 0) (at 1) (at 2) (at 3) (at 4) (at 5) (at 6) (at 7) (at 8) (at 9) t) e

joined : (xs xs' ys ys' : List ℕ) → xs ≡ xs' → ys ≡ ys' → xs ++ codes "T" ++ ys ++ codes "Z" ≡ xs' ++ codes "T" ++ ys' ++ codes "Z"
joined xs xs' ys ys' p q = ap (λ zs. zs ++ codes "T" ++ ys ++ codes "Z") p ∙ ap (λ zs. xs' ++ codes "T" ++ zs ++ codes "Z") q

moment_in-explicit : (y1 y2 y3 y4 a m1 m2 b d1 d2 c h1 h2 d i1 i2 f s1 s2 z t : ℕ) → moment_in (y1 ∷ y2 ∷ y3 ∷ y4 ∷ a ∷ m1 ∷ m2 ∷ b ∷ d1 ∷ d2 ∷ c ∷ h1 ∷ h2 ∷ d ∷ i1 ∷ i2 ∷ f ∷ s1 ∷ s2 ∷ z ∷ []) ≡ Some t
    → (t < 65536 * 86400) × (y1 ∷ y2 ∷ y3 ∷ y4 ∷ a ∷ m1 ∷ m2 ∷ b ∷ d1 ∷ d2 ∷ c ∷ h1 ∷ h2 ∷ d ∷ i1 ∷ i2 ∷ f ∷ s1 ∷ s2 ∷ z ∷ [] ≡ moment_text t)
unfolding moment_in moment_text
moment_in-explicit y1 y2 y3 y4 a m1 m2 b d1 d2 c h1 h2 d i1 i2 f s1 s2 z t e =
    let clock_bytes : List ℕ = h1 ∷ h2 ∷ d ∷ i1 ∷ i2 ∷ f ∷ s1 ∷ s2 ∷ z ∷ [] in
    let bytes : List ℕ = y1 ∷ y2 ∷ y3 ∷ y4 ∷ a ∷ m1 ∷ m2 ∷ b ∷ d1 ∷ d2 ∷ c ∷ clock_bytes in
    let parts = behind_test (has_shape (codes "dddd-dd-ddTdd:dd:ddZ") bytes) (seconds_at (date_at_front bytes) (clock_at 24 11 bytes)) t e in
    let at = seconds_at-is (date_at_front bytes) (clock_at 24 11 bytes) t parts.1 in
    let date = date_read (codes "Tdd:dd:ddZ") (c ∷ clock_bytes) y1 y2 y3 y4 a m1 m2 b d1 d2 parts.0 in
    let mark = mark_read 84 (codes "dd:dd:ddZ") clock_bytes c refl date.1 in
    let clock = clock_read (codes "Z") (z ∷ []) h1 h2 d i1 i2 f s1 s2 mark.1 in
    let end = mark_read 90 [] [] z refl clock.1 in
    let year = number_at 0 bytes * 100 + number_at 2 bytes in
    let is = day_number-is year (number_at 5 bytes) (number_at 8 bytes) at.day at.day_is in
    let fits = date_fits at.day year (number_at 5 bytes) (number_at 8 bytes) is in
    let time = seconds_of-is 24 (number_at 11 bytes) (number_at 14 bytes) (number_at 17 bytes) at.second at.second_is in
    let day : t / 86400 ≡ at.day = omega (arith, at.all, time.fits) in
    let second : t % 86400 ≡ at.second = omega (arith, at.all, time.fits) in
    let date_is = ap date_text (ap civil_date day ∙ civil_date-only at.day (year, number_at 5 bytes, number_at 8 bytes) is) ∙ date.0 in
    let clock_is : clock_text at.second ≡ h1 ∷ h2 ∷ d ∷ i1 ∷ i2 ∷ f ∷ s1 ∷ s2 ∷ [] = rw (← time.hours, ← time.minutes, ← time.seconds) clock.0 in
    let text : moment_text t ≡ (y1 ∷ y2 ∷ y3 ∷ y4 ∷ a ∷ m1 ∷ m2 ∷ b ∷ d1 ∷ d2 ∷ []) ++ codes "T" ++ (h1 ∷ h2 ∷ d ∷ i1 ∷ i2 ∷ f ∷ s1 ∷ s2 ∷ []) ++ codes "Z" =
    joined (date_text (civil_date (t / 86400))) (y1 ∷ y2 ∷ y3 ∷ y4 ∷ a ∷ m1 ∷ m2 ∷ b ∷ d1 ∷ d2 ∷ []) (clock_text (t % 86400)) (h1 ∷ h2 ∷ d ∷ i1 ∷ i2 ∷ f ∷ s1 ∷ s2 ∷ []) date_is (ap clock_text second ∙ clock_is) in
    (omega (arith, at.all, time.fits), rw (mark.0, end.0) (sym text))

twenty : (bytes : List ℕ) → length bytes ≡ 20 → bytes ≡ map (λ i. get_or bytes i 0) (range_with_len 0 20)
twenty bytes e = fill_by_all (λ i. get_or bytes i 0) bytes 20 0 e (λ k h. refl)

pub moment_in-is : (bytes : List ℕ) (t : ℕ) → moment_in bytes ≡ Some t → (t < 65536 * 86400) × (bytes ≡ moment_text t)
unfolding moment_in
moment_in-is bytes t e =
    let shape = behind_test (has_shape (codes "dddd-dd-ddTdd:dd:ddZ") bytes) (seconds_at (date_at_front bytes) (clock_at 24 11 bytes)) t e in
    let all = twenty bytes (sym (has_shape-length (codes "dddd-dd-ddTdd:dd:ddZ") bytes shape.0)) in
    let P : List ℕ → Type 0 = λ xs. moment_in xs ≡ Some t → (t < 65536 * 86400) × (xs ≡ moment_text t) in
    let at : ℕ → ℕ = λ i. get_or bytes i 0 in
    subst P (sym all) (moment_in-explicit (at 0) (at 1) (at 2) (at 3) (at 4) (at 5) (at 6) (at 7) (at 8) (at 9) (at 10) (at 11) (at 12) (at 13) (at 14) (at 15) (at 16) (at 17) (at 18) (at 19) t) e

-- Where a text is read

pub moment_in-only : (bytes : List ℕ) (t : ℕ) → moment_in bytes ≡ Some t → IsMomentText bytes
unfolding moment_in
moment_in-only bytes t e =
    let parts = behind_test (has_shape (codes "dddd-dd-ddTdd:dd:ddZ") bytes) (seconds_at (date_at_front bytes) (clock_at 24 11 bytes)) t e in
    let at = seconds_at-is (date_at_front bytes) (clock_at 24 11 bytes) t parts.1 in
    let tests = seconds_of-tests 24 (number_at 11 bytes) (number_at 14 bytes) (number_at 17 bytes) at.second at.second_is in
    record {
      shape = parts.0;
      date = (day_number-is (number_at 0 bytes * 100 + number_at 2 bytes) (number_at 5 bytes) (number_at 8 bytes) at.day at.day_is).0;
      hours = tests.0;
      minutes = tests.1;
      seconds = tests.2;
    }

pub moment_in-some : (bytes : List ℕ) → IsMomentText bytes → (t : ℕ) × (moment_in bytes ≡ Some t)
unfolding moment_in
moment_in-some bytes h =
    let day = day_number-some (number_at 0 bytes * 100 + number_at 2 bytes) (number_at 5 bytes) (number_at 8 bytes) h.date in
    let clock = seconds_of-some 24 (number_at 11 bytes) (number_at 14 bytes) (number_at 17 bytes) h.hours h.minutes h.seconds in
    (day.0 * 86400 + (number_at 11 bytes * 3600 + number_at 14 bytes * 60 + number_at 17 bytes), rw (h.shape, day.1, clock))

pub day_in-only : (bytes : List ℕ) (t : ℕ) → day_in bytes ≡ Some t → IsDayText bytes
unfolding day_in
day_in-only bytes t e =
    let parts = behind_test (has_shape (codes "dddd-dd-dd") bytes) (seconds_at (date_at_front bytes) (Some 0)) t e in
    let at = seconds_at-is (date_at_front bytes) (Some 0) t parts.1 in
    record { shape = parts.0; date = (day_number-is (number_at 0 bytes * 100 + number_at 2 bytes) (number_at 5 bytes) (number_at 8 bytes) at.day at.day_is).0 }

pub day_in-some : (bytes : List ℕ) → IsDayText bytes → (t : ℕ) × (day_in bytes ≡ Some t)
unfolding day_in
day_in-some bytes h =
    let day = day_number-some (number_at 0 bytes * 100 + number_at 2 bytes) (number_at 5 bytes) (number_at 8 bytes) h.date in
    (day.0 * 86400 + 0, rw (h.shape, day.1))

-- the first ten bytes of a moment's text are its date's
pub take-moment_text : (t : ℕ) → take 10 (moment_text t) ≡ date_text (civil_date (t / 86400))
unfolding moment_text
take-moment_text t = refl

pub length-moment_text : (t : ℕ) → length (moment_text t) ≡ 20
unfolding moment_text
length-moment_text t = refl

pub length-duration_text : (t : ℕ) → length (duration_text t) ≡ 8
unfolding duration_text
length-duration_text t = refl

-- Written texts

-- two moments have one text only where they are one
pub moment_text-injective : (s t : ℕ) → s < 65536 * 86400 → t < 65536 * 86400 → moment_text s ≡ moment_text t → s ≡ t
moment_text-injective s t h k e = same_Some s t (sym (moment_in-moment_text s h) ∙ (ap moment_in e ∙ moment_in-moment_text t k))

pub duration_text-injective : (s t : ℕ) → s < 360000 → t < 360000 → duration_text s ≡ duration_text t → s ≡ t
duration_text-injective s t h k e = same_Some s t (sym (duration_in-duration_text s h) ∙ (ap duration_in e ∙ duration_in-duration_text t k))

-- the bytes of a text stand from `-` to `Z`

text-high : (n : ℕ) → n < 100 → (nat_le 45 (48 + n / 10) && nat_le (48 + n / 10) 90) ≡ true
text-high n h = grind (arith, nat_tests)

text-low : (n : ℕ) → (nat_le 45 (48 + n % 10) && nat_le (48 + n % 10) 90) ≡ true
text-low n = grind (arith, nat_tests)

date_text-bytes : (y m d : ℕ) → IsWritable (y, m, d) → (rest : List ℕ) → list_all (λ b. nat_le 45 b && nat_le b 90) (date_text (y, m, d) ++ rest) ≡ list_all (λ b. nat_le 45 b && nat_le b 90) rest
date_text-bytes y m d w rest =
    let century : y / 100 < 100 = omega (arith, w.year) in
    let year : y % 100 < 100 = omega arith in
    rw (text-high (y / 100) century, text-low (y / 100), text-high (y % 100) year, text-low (y % 100), text-high m w.month, text-low m, text-high d w.day, text-low d)

clock_text-bytes : (t : ℕ) → t < 360000 → (rest : List ℕ) → list_all (λ b. nat_le 45 b && nat_le b 90) (clock_text t ++ rest) ≡ list_all (λ b. nat_le 45 b && nat_le b 90) rest
clock_text-bytes t h rest =
    let hours : t / 3600 < 100 = omega arith in
    let minutes : t / 60 % 60 < 100 = omega arith in
    let seconds : t % 60 < 100 = omega arith in
    rw (text-high (t / 3600) hours, text-low (t / 3600), text-high (t / 60 % 60) minutes, text-low (t / 60 % 60), text-high (t % 60) seconds, text-low (t % 60))

pub moment_text-bytes : (t : ℕ) → t < 65536 * 86400 → list_all (λ b. nat_le 45 b && nat_le b 90) (moment_text t) ≡ true
unfolding moment_text
moment_text-bytes t h =
    let n = t / 86400 in
    date_text-bytes (civil_date n).0 (civil_date n).1 (civil_date n).2 (writable n (omega arith)) (codes "T" ++ clock_text (t % 86400) ++ codes "Z") ∙ clock_text-bytes (t % 86400) (omega arith) (codes "Z")

pub duration_text-bytes : (t : ℕ) → t < 360000 → list_all (λ b. nat_le 45 b && nat_le b 90) (duration_text t) ≡ true
unfolding duration_text
duration_text-bytes t h = clock_text-bytes t h []
