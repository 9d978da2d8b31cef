-- The civil dates that a Modified Julian Date of 16 bits can name, by the words of the calendar crate.
use Rattle.std.specs.Prelude.{◌≡◌, ℕ, ◌+◌, ◌-◌, ◌*◌, ◌/◌, nat_le, if◌then◌else◌, ℤ, pos, ◌+ℤ◌}
use Rattle.jiff_core.specs.Calendar.{IsDate, IsBetween, days_from_civil}

-- the Modified Julian Date of a civil date: day 0 is 17 November 1858, which is 40,587 days before 1 January 1970
abbrev pub mjd : ℕ → ℕ → ℕ → ℤ
mjd year month day = days_from_civil (pos year) month day +ℤ pos 40587

-- the calendar has this date, and its Modified Julian Date fits 16 bits
abbrev pub IsCodedDate : ℕ → ℕ → ℕ → Type 0
IsCodedDate year month day = IsDate (pos year) (pos month) (pos day) × IsBetween (pos 0) (pos 65535) (mjd year month day)

-- the Modified Julian Date of a date by the formula of annex C, in which a year counts from 1900 and begins in March. It
-- is given for the dates from 1 March 1900 to 28 February 2100
abbrev pub annex_c : ℕ × ℕ × ℕ → ℕ
annex_c date =
    let before = if nat_le date.1 2 then 1 else 0 in
    14956 + date.2 + (date.0 - 1900 - before) * 36525 / 100 + (date.1 + 1 + before * 12) * 306001 / 10000

-- the date of this day number
abbrev pub IsDateOf : ℕ → ℕ × ℕ × ℕ → Type 0
IsDateOf number date = IsCodedDate date.0 date.1 date.2 × (mjd date.0 date.1 date.2 ≡ pos number)

-- the date of this day number, and no other date has that number
abbrev pub IsOnlyDateOf : ℕ → ℕ × ℕ × ℕ → Type 0
IsOnlyDateOf number date = IsDateOf number date × ((other : ℕ × ℕ × ℕ) → IsDateOf number other → other ≡ date)
