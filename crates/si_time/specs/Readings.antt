-- Moments, days and durations as they are read, from texts and from BCD.
use Rattle.std.specs.Prelude.{◌≡◌, ◌<◌, ℕ, ◌+◌, ◌-◌, ◌*◌, ◌/◌, ◌%◌, Bool, true, false, ◌&&◌, ◌==◌, nat_le, nat_lt, if◌then◌else◌, Option, Some, None, option_map, option_and_then, List, [], ◌∷◌, take, sum, slice_index, codes, pos}
use Rattle.std.specs.Char.{is_ascii_digit}
use Rattle.jiff_core.specs.Calendar.{days_in_month}
use Rattle.si_time.specs.Dates.{IsCodedDate}
use Rattle.si_time.specs.Moments.{years, months, moments_compute}

-- the calendar has this date
abbrev pub is_date : ℕ → ℕ → ℕ → Bool
is_date year month day = nat_le 1 month && nat_le month 12 && nat_le 1 day && nat_le day (days_in_month (pos year) month)

-- the days from 1 January 1858 up to a date of that year or a later one: of whole years, which are counted to the end of
-- 2038, of whole months and of the month
unfoldable pub days_before : ℕ → ℕ → ℕ → ℕ
days_before year month day = sum (take (year - 1858) years) + sum (take (month - 1) (months year)) + (day - 1)

-- the Modified Julian Date of a date; none where the calendar lacks the date, or 16 bits the number
unfoldable pub day_number : ℕ → ℕ → ℕ → Option ℕ
day_number year month day =
    if is_date year month day && nat_le 1858 year && nat_le 320 (days_before year month day) && nat_lt (days_before year month day) (65536 + 320)
    then Some (days_before year month day - 320)
    else None

-- the seconds of a time on a clock with so many hours; none where it shows no such time
abbrev pub seconds_of : ℕ → ℕ → ℕ → ℕ → Option ℕ
seconds_of limit hours minutes seconds =
    if nat_lt hours limit && nat_lt minutes 60 && nat_lt seconds 60 then Some (hours * 3600 + minutes * 60 + seconds) else None

-- the seconds of a day and of a time in it
abbrev pub seconds_at : Option ℕ → Option ℕ → Option ℕ
seconds_at number clock = option_and_then (λ day. option_map (λ second. day * 86400 + second) clock) number

-- bytes have a shape, in which a letter d (100) stands for any digit, and any other byte for itself
abbrev pub has_shape : List ℕ → List ℕ → Bool
has_shape [] [] = true
has_shape [] (byte ∷ bytes) = false
has_shape (s ∷ shape) [] = false
has_shape (s ∷ shape) (byte ∷ bytes) = (if s == 100 then is_ascii_digit byte else byte == s) && has_shape shape bytes

-- the number of the two digits at a place
abbrev pub number_at : ℕ → List ℕ → ℕ
number_at i bytes = (slice_index bytes i - 48) * 10 + (slice_index bytes (i + 1) - 48)

-- the day number of the date at the front of these bytes
abbrev pub date_at_front : List ℕ → Option ℕ
date_at_front bytes = day_number (number_at 0 bytes * 100 + number_at 2 bytes) (number_at 5 bytes) (number_at 8 bytes)

-- the time at a place of these bytes
abbrev pub clock_at : ℕ → ℕ → List ℕ → Option ℕ
clock_at limit i bytes = seconds_of limit (number_at i bytes) (number_at (i + 3) bytes) (number_at (i + 6) bytes)

-- a text YYYY-MM-DD of a date that the calendar has, with a Modified Julian Date of 16 bits
pub record IsDayText (bytes : List ℕ) : Type 0 where
  pub shape : has_shape (codes "dddd-dd-dd") bytes ≡ true
  pub date : IsCodedDate (number_at 0 bytes * 100 + number_at 2 bytes) (number_at 5 bytes) (number_at 8 bytes)

-- a text YYYY-MM-DDThh:mm:ssZ of such a date and a time of day
pub record IsMomentText (bytes : List ℕ) : Type 0 where
  pub shape : has_shape (codes "dddd-dd-ddTdd:dd:ddZ") bytes ≡ true
  pub date : IsCodedDate (number_at 0 bytes * 100 + number_at 2 bytes) (number_at 5 bytes) (number_at 8 bytes)
  pub hours : number_at 11 bytes < 24
  pub minutes : number_at 14 bytes < 60
  pub seconds : number_at 17 bytes < 60

-- the moment of a text YYYY-MM-DDThh:mm:ssZ
unfoldable pub moment_in : List ℕ → Option ℕ
moment_in bytes = if has_shape (codes "dddd-dd-ddTdd:dd:ddZ") bytes then seconds_at (date_at_front bytes) (clock_at 24 11 bytes) else None

-- the midnight that begins the day of a text YYYY-MM-DD
unfoldable pub day_in : List ℕ → Option ℕ
day_in bytes = if has_shape (codes "dddd-dd-dd") bytes then seconds_at (date_at_front bytes) (Some 0) else None

-- the seconds of a text hh:mm:ss
unfoldable pub duration_in : List ℕ → Option ℕ
duration_in bytes = if has_shape (codes "dd:dd:dd") bytes then clock_at 100 0 bytes else None

-- both BCD digits of a byte are decimal
abbrev pub is_bcd : ℕ → Bool
is_bcd byte = nat_le (byte / 16) 9 && nat_le (byte % 16) 9

-- the number of two BCD digits
abbrev pub bcd_value : ℕ → ℕ
bcd_value byte = byte / 16 * 10 + byte % 16

-- the time of six BCD digits hhmmss
abbrev pub clock_from_bcd : ℕ → ℕ → ℕ → ℕ → Option ℕ
clock_from_bcd limit h m s =
    if is_bcd h && is_bcd m && is_bcd s then seconds_of limit (bcd_value h) (bcd_value m) (bcd_value s) else None

-- the moment of 40 bits
unfoldable pub moment_from_bcd : List ℕ → Option ℕ
moment_from_bcd (high ∷ low ∷ h ∷ m ∷ s ∷ []) = seconds_at (Some (high * 256 + low)) (clock_from_bcd 24 h m s)
moment_from_bcd _ = None

-- the duration of 24 bits
unfoldable pub duration_from_bcd : List ℕ → Option ℕ
duration_from_bcd (h ∷ m ∷ s ∷ []) = clock_from_bcd 100 h m s
duration_from_bcd _ = None

-- a theorem whose `unfolding` line names this computes with the definitions of this file and of `Moments`
unfoldable pub readings_compute : Type 0
unfolding moments_compute days_before day_number moment_in day_in duration_in moment_from_bcd duration_from_bcd
readings_compute = Unit {0}
