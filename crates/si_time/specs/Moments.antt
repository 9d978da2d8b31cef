-- Moments and durations as they are written: as texts of ISO 8601, in the Gregorian calendar and UTC, and as they are coded
-- in event information (EN 300 468, 5.2.4 and 5.2.5): a Modified Julian Date, whose day 0 is 17 November 1858 (annex C), and BCD.
use Rattle.std.specs.Prelude.{ℕ, ◌+◌, ◌*◌, ◌-◌, ◌/◌, ◌%◌, List, [], ◌∷◌, ◌++◌, if◌then◌else◌, nat_lt, map, codes, pos}
use Rattle.std.specs.List.{range_with_len}
use Rattle.jiff_core.specs.Calendar.{days_in_year, days_in_month}

-- the days of each year from 1858 to 2038
unfoldable pub years : List ℕ
years = map (λ n. days_in_year (pos n)) (range_with_len 1858 181)

-- the days of each month of a year
unfoldable pub months : ℕ → List ℕ
months year = map (λ n. days_in_month (pos year) n) (range_with_len 1 12)

-- in which of these spans of days, that follow each other, a day lies, and which day of that span it is, both from 0
abbrev pub place_in : List ℕ → ℕ → ℕ × ℕ
place_in [] day = (0, day)
place_in (span ∷ spans) day =
    if nat_lt day span then (0, day)
    else (let later = place_in spans (day - span) in (1 + later.0, later.1))

-- the year, the month and the day of the month of a day number: whole years are taken off from 1858 on, of which
-- day 0 is the 321st day, and then whole months of that year
unfoldable pub civil_date : ℕ → ℕ × ℕ × ℕ
civil_date day =
    let year = place_in years (day + 320) in
    let month = place_in (months (1858 + year.0)) year.1 in
    (1858 + year.0, 1 + month.0, 1 + month.1)

-- the two decimal digits of a number below 100
abbrev pub two_digits : ℕ → List ℕ
two_digits n = (48 + n / 10) ∷ (48 + n % 10) ∷ []

-- YYYY-MM-DD
abbrev pub date_text : ℕ × ℕ × ℕ → List ℕ
date_text date =
    two_digits (date.0 / 100) ++ two_digits (date.0 % 100) ++ codes "-" ++ two_digits date.1 ++ codes "-" ++ two_digits date.2

-- hh:mm:ss of a number of seconds
abbrev pub clock_text : ℕ → List ℕ
clock_text seconds =
    two_digits (seconds / 3600) ++ codes ":" ++ two_digits (seconds / 60 % 60) ++ codes ":" ++ two_digits (seconds % 60)

-- YYYY-MM-DDThh:mm:ssZ of the seconds since Modified Julian Date 0
unfoldable pub moment_text : ℕ → List ℕ
moment_text seconds = date_text (civil_date (seconds / 86400)) ++ codes "T" ++ clock_text (seconds % 86400) ++ codes "Z"

-- the text hh:mm:ss of a duration below 100 hours
unfoldable pub duration_text : ℕ → List ℕ
duration_text seconds = clock_text seconds

-- the byte of two BCD digits, of a number below 100
abbrev pub bcd : ℕ → ℕ
bcd n = n / 10 * 16 + n % 10

-- the six BCD digits hhmmss of a number of seconds
abbrev pub clock_bcd : ℕ → List ℕ
clock_bcd seconds = bcd (seconds / 3600) ∷ bcd (seconds / 60 % 60) ∷ bcd (seconds % 60) ∷ []

-- the 40 bits of a moment: 16 bits of Modified Julian Date and the time of day in BCD
unfoldable pub moment_bcd : ℕ → List ℕ
moment_bcd seconds = seconds / 86400 / 256 ∷ seconds / 86400 % 256 ∷ clock_bcd (seconds % 86400)

-- the 24 bits of a duration below 100 hours
unfoldable pub duration_bcd : ℕ → List ℕ
duration_bcd seconds = clock_bcd seconds

-- a theorem whose `unfolding` line names this computes with the definitions of this file
unfoldable pub moments_compute : Type 0
unfolding years months civil_date moment_text duration_text moment_bcd duration_bcd
moments_compute = Unit {0}
