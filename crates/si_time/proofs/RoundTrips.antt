-- Reading what was written gives the value back, and only what is written of a value is read as it.
use Rattle.std.proofs.Common.{◌≡◌, refl, ap, ℕ, ◌+◌, ◌*◌, ◌/◌, ◌%◌, ◌<◌, ◌≤◌, List, [], ◌∷◌, length, get_or, cond, Bool, true, false, Option, Some, None, arith, ◌&&◌}
use Rattle.std.proofs.lemmas.Bool.Decides.{nat_tests}
use Rattle.std.proofs.lemmas.Option.{cond_some, none-some, same_Some}
use Rattle.si_time.specs.Moments.{bcd, clock_bcd, moment_bcd, duration_bcd}
use Rattle.si_time.specs.Readings.{seconds_of, seconds_at, is_bcd, bcd_value, clock_from_bcd, moment_from_bcd, duration_from_bcd}

-- a value behind a test
pub behind_test : (b : Bool) (o : Option ℕ) (t : ℕ) → cond b o None ≡ Some t → (b ≡ true) × (o ≡ Some t)
behind_test true o t e = (refl, e)
behind_test false o t e = absurd (none-some t e)

-- the parts of a moment
pub record IsAt (number clock : Option ℕ) (t : ℕ) : Type 0 where
  pub day : ℕ
  pub second : ℕ
  pub day_is : number ≡ Some day
  pub second_is : clock ≡ Some second
  pub all : day * 86400 + second ≡ t

pub seconds_at-is : (number clock : Option ℕ) (t : ℕ) → seconds_at number clock ≡ Some t → IsAt number clock t
seconds_at-is None clock t e = absurd (none-some t e)
seconds_at-is (Some n) None t e = absurd (none-some t e)
seconds_at-is (Some n) (Some s) t e = record { day = n; second = s; day_is = refl; second_is = refl; all = same_Some (n * 86400 + s) t e }

-- the hours, minutes and seconds of a number of seconds
pub record IsClock (limit h m s t : ℕ) : Type 0 where
  pub fits : t < limit * 3600
  pub hours : h ≡ t / 3600
  pub minutes : m ≡ t / 60 % 60
  pub seconds : s ≡ t % 60

pub seconds_of-parts : (limit t : ℕ) → t < limit * 3600 → seconds_of limit (t / 3600) (t / 60 % 60) (t % 60) ≡ Some t
seconds_of-parts limit t h =
    let hours : t / 3600 < limit = omega arith in
    let all : t / 3600 * 3600 + t / 60 % 60 * 60 + t % 60 ≡ t = omega arith in
    grind (arith, nat_tests)

pub seconds_of-is : (limit h m s t : ℕ) → seconds_of limit h m s ≡ Some t → IsClock limit h m s t
seconds_of-is limit h m s t e =
    let parts = cond_some _ _ _ e in
    let hours : h < limit = grind (arith, nat_tests, parts) in
    let minutes : m < 60 = grind (arith, nat_tests, parts) in
    let seconds : s < 60 = grind (arith, nat_tests, parts) in
    let all : h * 3600 + m * 60 + s ≡ t = parts.1 in
    record { fits = omega arith; hours = omega arith; minutes = omega arith; seconds = omega arith }

-- where there is such a time
pub seconds_of-some : (limit h m s : ℕ) → h < limit → m < 60 → s < 60 → seconds_of limit h m s ≡ Some (h * 3600 + m * 60 + s)
seconds_of-some limit h m s a b c = grind (arith, nat_tests)

pub seconds_of-tests : (limit h m s t : ℕ) → seconds_of limit h m s ≡ Some t → (h < limit) × (m < 60) × (s < 60)
seconds_of-tests limit h m s t e =
    let parts = cond_some _ _ _ e in
    (grind (arith, nat_tests, parts), grind (arith, nat_tests, parts), grind (arith, nat_tests, parts))

is_bcd-bcd : (n : ℕ) → n < 100 → is_bcd (bcd n) ≡ true
is_bcd-bcd n h = grind (arith, nat_tests)

bcd_value-bcd : (n : ℕ) → n < 100 → bcd_value (bcd n) ≡ n
bcd_value-bcd n h = omega arith

bcd-bcd_value : (b : ℕ) → is_bcd b ≡ true → bcd (bcd_value b) ≡ b
bcd-bcd_value b h =
    let high : b / 16 ≤ 9 = grind (arith, nat_tests) in
    let low : b % 16 ≤ 9 = grind (arith, nat_tests) in
    omega arith

clock_from_bcd-clock : (limit t : ℕ) → limit ≤ 100 → t < limit * 3600 → clock_from_bcd limit (bcd (t / 3600)) (bcd (t / 60 % 60)) (bcd (t % 60)) ≡ Some t
clock_from_bcd-clock limit t small h =
    let hours : t / 3600 < 100 = omega arith in
    let minutes : t / 60 % 60 < 100 = omega arith in
    let seconds : t % 60 < 100 = omega arith in
    rw (is_bcd-bcd (t / 3600) hours, is_bcd-bcd (t / 60 % 60) minutes, is_bcd-bcd (t % 60) seconds, bcd_value-bcd (t / 3600) hours, bcd_value-bcd (t / 60 % 60) minutes, bcd_value-bcd (t % 60) seconds)
    (seconds_of-parts limit t h)

clock_from_bcd-is : (limit h m s t : ℕ) → clock_from_bcd limit h m s ≡ Some t → (t < limit * 3600) × (h ∷ m ∷ s ∷ [] ≡ clock_bcd t)
clock_from_bcd-is limit h m s t e =
    let parts = behind_test (is_bcd h && is_bcd m && is_bcd s) (seconds_of limit (bcd_value h) (bcd_value m) (bcd_value s)) t e in
    let is = seconds_of-is limit (bcd_value h) (bcd_value m) (bcd_value s) t parts.1 in
    let hours : bcd (t / 3600) ≡ h = rw (← is.hours) (bcd-bcd_value h (grind (arith, nat_tests, parts))) in
    let minutes : bcd (t / 60 % 60) ≡ m = rw (← is.minutes) (bcd-bcd_value m (grind (arith, nat_tests, parts))) in
    let seconds : bcd (t % 60) ≡ s = rw (← is.seconds) (bcd-bcd_value s (grind (arith, nat_tests, parts))) in
    (is.fits, rw (hours, minutes, seconds))

-- 24 bits

pub duration_from_bcd-duration_bcd : (t : ℕ) → t < 360000 → duration_from_bcd (duration_bcd t) ≡ Some t
unfolding duration_from_bcd duration_bcd
duration_from_bcd-duration_bcd t h = clock_from_bcd-clock 100 t (omega arith) h

pub duration_from_bcd-is : (bytes : List ℕ) (t : ℕ) → duration_from_bcd bytes ≡ Some t → (t < 360000) × (bytes ≡ duration_bcd t)
unfolding duration_from_bcd duration_bcd
duration_from_bcd-is (h ∷ m ∷ s ∷ []) t e = clock_from_bcd-is 100 h m s t e
duration_from_bcd-is _ t e = absurd (none-some t e)

-- 40 bits

pub moment_from_bcd-moment_bcd : (t : ℕ) → t < 65536 * 86400 → moment_from_bcd (moment_bcd t) ≡ Some t
unfolding moment_from_bcd moment_bcd
moment_from_bcd-moment_bcd t h =
    let day : t / 86400 / 256 * 256 + t / 86400 % 256 ≡ t / 86400 = omega arith in
    let all : t / 86400 * 86400 + t % 86400 ≡ t = omega arith in
    rw (clock_from_bcd-clock 24 (t % 86400) (omega arith) (omega arith), day, all)

pub moment_from_bcd-is : (bytes : List ℕ) (t : ℕ) → get_or bytes 0 0 < 256 → get_or bytes 1 0 < 256 → moment_from_bcd bytes ≡ Some t → (t < 65536 * 86400) × (bytes ≡ moment_bcd t)
unfolding moment_from_bcd moment_bcd
moment_from_bcd-is (high ∷ low ∷ h ∷ m ∷ s ∷ []) t top bottom e =
    let at = seconds_at-is (Some (high * 256 + low)) (clock_from_bcd 24 h m s) t e in
    let clock = clock_from_bcd-is 24 h m s at.second at.second_is in
    let day : high * 256 + low ≡ at.day = same_Some (high * 256 + low) at.day at.day_is in
    let number : t / 86400 ≡ high * 256 + low = omega (arith, at.all, clock.0) in
    let rest : t % 86400 ≡ at.second = omega (arith, at.all, clock.0) in
    let first : (high * 256 + low) / 256 ≡ high = omega arith in
    let second : (high * 256 + low) % 256 ≡ low = omega arith in
    (omega (arith, number), rw (number, rest, first, second) (ap (λ xs. high ∷ low ∷ xs) clock.1))
moment_from_bcd-is _ t top bottom e = absurd (none-some t e)

pub length-moment_bcd : (t : ℕ) → length (moment_bcd t) ≡ 5
unfolding moment_bcd
length-moment_bcd t = refl

pub length-duration_bcd : (t : ℕ) → length (duration_bcd t) ≡ 3
unfolding duration_bcd
length-duration_bcd t = refl
