-- Worked rows. Their values are from outside: the example of EN 300 468 for start_time and duration, and another calendar.
use Rattle.std.specs.Prelude.{◌≡◌, ◌+◌, ◌-◌, ◌*◌, Some, None, [], ◌∷◌, map, codes, refl}
use Rattle.si_time.specs.Dates.{annex_c}
use Rattle.si_time.specs.Moments.{moment_text, duration_text, moment_bcd, duration_bcd, moments_compute}
use Rattle.si_time.specs.Readings.{moment_in, day_in, duration_in, moment_from_bcd, duration_from_bcd, readings_compute}

row_epoch : moment_text 3506716800 ≡ codes "1970-01-01T00:00:00Z"
unfolding moments_compute
row_epoch = refl

row_annex : moment_text 4257233100 ≡ codes "1993-10-13T12:45:00Z"
unfolding moments_compute
row_annex = refl

-- the formula of annex C at its own example, 1982 September 6
row_annex_c : annex_c (1982, 9, 6) ≡ 45218
row_annex_c = refl

-- both ends of the window, and 29 February of a century's leap year
row_first : moment_text 0 ≡ codes "1858-11-17T00:00:00Z"
unfolding moments_compute
row_first = refl

row_last : moment_text (65536 * 86400 - 1) ≡ codes "2038-04-22T23:59:59Z"
unfolding moments_compute
row_last = refl

row_leap : moment_text (51603 * 86400 + 86399) ≡ codes "2000-02-29T23:59:59Z"
unfolding moments_compute
row_leap = refl

row_no_leap : moment_text (15078 * 86400) ≡ codes "1900-02-28T00:00:00Z"
unfolding moments_compute
row_no_leap = refl

row_march : moment_text (15079 * 86400) ≡ codes "1900-03-01T00:00:00Z"
unfolding moments_compute
row_march = refl

row_bcd : moment_bcd 4257233100 ≡ 0xC0 ∷ 0x79 ∷ 0x12 ∷ 0x45 ∷ 0x00 ∷ []
unfolding moments_compute
row_bcd = refl

row_epoch_bcd : moment_bcd 3506716800 ≡ 0x9E ∷ 0x8B ∷ 0x00 ∷ 0x00 ∷ 0x00 ∷ []
unfolding moments_compute
row_epoch_bcd = refl

row_duration_bcd : duration_bcd 6330 ≡ 0x01 ∷ 0x45 ∷ 0x30 ∷ []
unfolding moments_compute
row_duration_bcd = refl

row_duration : duration_text 359999 ≡ codes "99:59:59"
unfolding moments_compute
row_duration = refl

-- what reads as a moment: the ends of the window and one second past each, leap years, the last time of a day and the first that is none
rows_of_moments : map moment_in (codes "1858-11-17T00:00:00Z" ∷ codes "1858-11-16T23:59:59Z" ∷ codes "2038-04-22T23:59:59Z" ∷ codes "2038-04-23T00:00:00Z" ∷ codes "1970-01-01T00:00:00Z" ∷ codes "1993-10-13T12:45:00Z" ∷ codes "1900-02-28T00:00:00Z" ∷ codes "1900-03-01T00:00:00Z" ∷ codes "2000-02-29T12:00:00Z" ∷ codes "1999-12-31T23:59:59Z" ∷ codes "1999-12-31T24:00:00Z" ∷ codes "2016-12-31T23:59:60Z" ∷ codes "1999-12-31T23:60:00Z" ∷ codes "1858-12-31T00:00:00Z" ∷ codes "1859-01-01T00:00:00Z" ∷ codes "2037-12-31T00:00:00Z" ∷ codes "2038-01-01T00:00:00Z" ∷ codes "2039-01-01T00:00:00Z" ∷ codes "9999-12-31T00:00:00Z" ∷ codes "0000-01-01T00:00:00Z" ∷ codes "1857-12-31T00:00:00Z" ∷ [])
    ≡ Some 0 ∷ None ∷ Some 5662310399 ∷ None ∷ Some 3506716800 ∷ Some 4257233100 ∷ Some 1302739200 ∷ Some 1302825600 ∷ Some 4458542400 ∷ Some 4453401599 ∷ None ∷ None ∷ None ∷ Some 3801600 ∷ Some 3888000 ∷ Some 5652547200 ∷ Some 5652633600 ∷ None ∷ None ∷ None ∷ None ∷ []
unfolding readings_compute
rows_of_moments = refl

-- and shapes that do not
rows_of_shapes : map moment_in (codes "1999-12-31 23:59:59Z" ∷ codes "1999-12-31T23:59:59z" ∷ codes "+999-12-31T23:59:59Z" ∷ codes "1999-12-31T23:59:59" ∷ codes "1999-12-31T23:59:59Z " ∷ codes "1999/12/31T23:59:59Z" ∷ codes "1999-12-31T23:5a:59Z" ∷ codes "199-12-31T023:59:59Z" ∷ codes "" ∷ [])
    ≡ None ∷ None ∷ None ∷ None ∷ None ∷ None ∷ None ∷ None ∷ None ∷ []
unfolding readings_compute
rows_of_shapes = refl

-- the days of each month, and months and days that are none
rows_of_days : map day_in (codes "1900-02-29" ∷ codes "2000-02-29" ∷ codes "2001-02-28" ∷ codes "2001-02-29" ∷ codes "2004-02-29" ∷ codes "2100-02-28" ∷ codes "1999-00-10" ∷ codes "1999-10-00" ∷ codes "1999-13-10" ∷ codes "1999-01-31" ∷ codes "1999-02-31" ∷ codes "1999-03-31" ∷ codes "1999-04-31" ∷ codes "1999-05-31" ∷ codes "1999-06-31" ∷ codes "1999-07-31" ∷ codes "1999-08-31" ∷ codes "1999-09-31" ∷ codes "1999-10-31" ∷ codes "1999-11-31" ∷ codes "1999-12-31" ∷ codes "1999-02-30" ∷ codes "1999-04-30" ∷ codes "1999-06-30" ∷ codes "1999-09-30" ∷ codes "1999-11-30" ∷ codes "1999-04-32" ∷ codes "1858-11-16" ∷ codes "1858-11-17" ∷ codes "2038-04-22" ∷ codes "2038-04-23" ∷ codes "1999-1-01" ∷ codes "1999-12-31T" ∷ codes "1999-12-3 " ∷ [])
    ≡ None ∷ Some 4458499200 ∷ Some 4490035200 ∷ None ∷ Some 4584729600 ∷ None ∷ None ∷ None ∷ None ∷ Some 4424457600 ∷ None ∷ Some 4429555200 ∷ None ∷ Some 4434825600 ∷ None ∷ Some 4440096000 ∷ Some 4442774400 ∷ None ∷ Some 4448044800 ∷ None ∷ Some 4453315200 ∷ None ∷ Some 4432147200 ∷ Some 4437417600 ∷ Some 4445366400 ∷ Some 4450636800 ∷ None ∷ None ∷ Some 0 ∷ Some 5662224000 ∷ None ∷ None ∷ None ∷ None ∷ []
unfolding readings_compute
rows_of_days = refl

rows_of_durations : map duration_in (codes "00:00:00" ∷ codes "01:45:30" ∷ codes "99:59:59" ∷ codes "100:00:00" ∷ codes "00:60:00" ∷ codes "00:00:60" ∷ codes "1:45:30" ∷ codes "01:45:3a" ∷ codes " 1:45:30" ∷ [])
    ≡ Some 0 ∷ Some 6330 ∷ Some 359999 ∷ None ∷ None ∷ None ∷ None ∷ None ∷ None ∷ []
unfolding readings_compute
rows_of_durations = refl

-- the BCD of a moment: digits above 9, and times that are none
rows_of_bcd : map moment_from_bcd ((0xc0 ∷ 0x79 ∷ 0x12 ∷ 0x45 ∷ 0x0 ∷ []) ∷ (0x0 ∷ 0x0 ∷ 0x0 ∷ 0x0 ∷ 0x0 ∷ []) ∷ (0xff ∷ 0xff ∷ 0x23 ∷ 0x59 ∷ 0x59 ∷ []) ∷ (0xff ∷ 0xff ∷ 0x24 ∷ 0x0 ∷ 0x0 ∷ []) ∷ (0xff ∷ 0xff ∷ 0x23 ∷ 0x60 ∷ 0x0 ∷ []) ∷ (0xff ∷ 0xff ∷ 0x23 ∷ 0x0 ∷ 0x60 ∷ []) ∷ (0x0 ∷ 0x0 ∷ 0xa ∷ 0x0 ∷ 0x0 ∷ []) ∷ (0x0 ∷ 0x0 ∷ 0xa0 ∷ 0x0 ∷ 0x0 ∷ []) ∷ (0x0 ∷ 0x0 ∷ 0x0 ∷ 0x1a ∷ 0x0 ∷ []) ∷ (0x0 ∷ 0x0 ∷ 0x0 ∷ 0x0 ∷ 0x1f ∷ []) ∷ [])
    ≡ Some 4257233100 ∷ Some 0 ∷ Some 5662310399 ∷ None ∷ None ∷ None ∷ None ∷ None ∷ None ∷ None ∷ []
unfolding readings_compute
rows_of_bcd = refl

rows_of_duration_bcd : map duration_from_bcd ((0x1 ∷ 0x45 ∷ 0x30 ∷ []) ∷ (0x99 ∷ 0x59 ∷ 0x59 ∷ []) ∷ (0x9a ∷ 0x0 ∷ 0x0 ∷ []) ∷ (0x0 ∷ 0x60 ∷ 0x0 ∷ []) ∷ (0x0 ∷ 0x0 ∷ 0x60 ∷ []) ∷ [])
    ≡ Some 6330 ∷ Some 359999 ∷ None ∷ None ∷ None ∷ []
unfolding readings_compute
rows_of_duration_bcd = refl
