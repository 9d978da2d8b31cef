-- Entries of local time offsets, written and read one after the other.
use Rattle.std.proofs.Common.{◌≡◌, ◌∙◌, ℕ, ◌+◌, ◌-◌, ◌*◌, ◌/◌, ◌%◌, ◌<◌, ◌≤◌, ◌==◌, Bool, true, false, List, [], ◌∷◌, ◌++◌, length, take, drop, get_or, Option, Some, None, refl, sym, ap, subst, arith, length-append, lt-ltb, eq-eqb}
use Rattle.std.specs.Prelude.{if◌then◌else◌, nat_lt}
use Rattle.std.specs.Option.{option_map}
use Rattle.std.specs.List.{AllByRecursion}
use Rattle.std.proofs.lemmas.List.{take_all}
use Rattle.si_lists.proofs.Lists.{three_of, behind, behind-next}
use Rattle.si_time.specs.Moments.{bcd, moment_bcd, duration_bcd}
use Rattle.si_time.specs.Readings.{moment_from_bcd, duration_from_bcd}
use Rattle.si_time.specs.declared.moment.Moment.{Moment}
use Rattle.si_time.proofs.RoundTrips.{moment_from_bcd-moment_bcd, duration_from_bcd-duration_bcd, length-moment_bcd}
use Rattle.guide_model.specs.declared.offset.Offset.{Offset}
use Rattle.time_tables.specs.LocalOffsets.{hhmm, polarity, region_byte, offset_bytes, offsets_body, minutes_of, minutes_in, offset_of, with_offset, offsets_in, FitsOffset, OffsetsReadBack}

pub length-offset_bytes : (o : Offset) → length o.country ≡ 3 → length (offset_bytes o) ≡ 13
length-offset_bytes o three =
    omega (
      arith,
      three,
      length-append o.country (region_byte o ∷ (hhmm o.minutes ++ (moment_bcd o.change.0 ++ hhmm o.next))),
      length-append (moment_bcd o.change.0) (hhmm o.next),
      length-moment_bcd o.change.0,
    )

pub length-offsets_body : (offsets : List Offset) → AllByRecursion FitsOffset offsets → length (offsets_body offsets) ≡ 13 * length offsets
length-offsets_body [] fit = refl
length-offsets_body (o ∷ offsets) fit =
    omega (arith, length-append (offset_bytes o) (offsets_body offsets), length-offset_bytes o fit.0.country, length-offsets_body offsets fit.1)

-- ---- minutes

minutes_coded : (n : ℕ) → n < 1440 → duration_bcd (n * 60) ≡ bcd (n / 60) ∷ bcd (n % 60) ∷ 0 ∷ []
unfolding duration_bcd
minutes_coded n lt =
    let h : n * 60 / 3600 ≡ n / 60 = omega arith in
    let m : n * 60 / 60 % 60 ≡ n % 60 = omega arith in
    let s : n * 60 % 60 ≡ 0 = omega arith in
    λ i. bcd (h i) ∷ bcd (m i) ∷ bcd (s i) ∷ []

pub minutes-read : (n : ℕ) → n < 1440 → minutes_in (bcd (n / 60)) (bcd (n % 60)) ≡ Some n
minutes-read n lt =
    let all : n * 60 / 60 ≡ n = omega arith in
    ap minutes_of (ap duration_from_bcd (sym (minutes_coded n lt)) ∙ duration_from_bcd-duration_bcd (n * 60) (omega arith))
    ∙ ap (λ (b : Bool). let r : Option ℕ = if b then Some (n * 60 / 60) else None in r) (lt-ltb (n * 60) 86400 (omega arith))
    ∙ ap (λ (k : ℕ). Some k) all

-- ---- an entry

same_offset : (o : Offset) (country : List ℕ) (region : ℕ) (behind : Bool) → country ≡ o.country → region ≡ o.region → behind ≡ o.behind
    → ◌≡◌ {A = Offset} (record { country = country; region = region; behind = behind; minutes = o.minutes; change = o.change; next = o.next }) o
same_offset o country region behind c r b = λ i. record { country = c i; region = r i; behind = b i; minutes = o.minutes; change = o.change; next = o.next }

region_is : (region : ℕ) (behind : Bool) → (4 * region + 2 + polarity behind) / 4 ≡ region
region_is region true = omega arith
region_is region false = omega arith

behind_is : (region : ℕ) (behind : Bool) → ((4 * region + 2 + polarity behind) % 2 == 1) ≡ behind
behind_is region true = eq-eqb ((4 * region + 2 + 1) % 2) 1 (omega arith)
behind_is region false = ap (λ n. n == 1) (let e : (4 * region + 2 + 0) % 2 ≡ 0 = omega arith in e)

-- its parts, as they are read
parts_read : (o : Offset) (country : List ℕ) → country ≡ o.country → FitsOffset o
    → offset_of country (region_byte o) (minutes_in (bcd (o.minutes / 60)) (bcd (o.minutes % 60))) (moment_from_bcd (moment_bcd o.change.0)) (minutes_in (bcd (o.next / 60)) (bcd (o.next % 60)))
    ≡ Some o
parts_read o country same fits =
    (λ i. offset_of country (region_byte o) (minutes-read o.minutes fits.minutes i) (moment_from_bcd-moment_bcd o.change.0 fits.change i) (minutes-read o.next fits.next i))
    ∙ ap (λ (x : Offset). Some x) (same_offset o country (region_byte o / 4) (region_byte o % 2 == 1) same (region_is o.region o.behind) (behind_is o.region o.behind))

-- three bytes of a country, and then the rest of an entry
entry_read : (o : Offset) (a b c : ℕ) (rest : List ℕ) → a ∷ b ∷ c ∷ [] ≡ o.country → FitsOffset o
    → offsets_in (((a ∷ b ∷ c ∷ []) ++ region_byte o ∷ (hhmm o.minutes ++ (moment_bcd o.change.0 ++ hhmm o.next))) ++ rest) ≡ with_offset (Some o) (offsets_in rest)
unfolding moment_bcd
entry_read o a b c rest same fits = ap (λ (x : Option Offset). with_offset x (offsets_in rest)) (parts_read o (a ∷ b ∷ c ∷ []) same fits)

pub offsets-read_back : OffsetsReadBack
offsets-read_back [] fit = refl
offsets-read_back (o ∷ offsets) fit =
    let t = three_of o.country fit.0.country in
    ap (λ (l : List ℕ). offsets_in ((l ++ region_byte o ∷ (hhmm o.minutes ++ (moment_bcd o.change.0 ++ hhmm o.next))) ++ offsets_body offsets)) t.3
    ∙ entry_read o t.0 t.1 t.2 (offsets_body offsets) (sym t.3) fit.0
    ∙ ap (with_offset (Some o)) (offsets-read_back offsets fit.1)

-- ---- a body that is read from the front

pub next_entry : (body : List ℕ) (front : List Offset) (rest : List ℕ) (o : Offset) → 13 ≤ length rest → offsets_in body ≡ behind front (offsets_in rest)
    → Some o ≡ offset_of (get_or rest 0 0 ∷ get_or rest 1 0 ∷ get_or rest 2 0 ∷ []) (get_or rest 3 0) (minutes_in (get_or rest 4 0) (get_or rest 5 0))
    (moment_from_bcd (get_or rest 6 0 ∷ get_or rest 7 0 ∷ get_or rest 8 0 ∷ get_or rest 9 0 ∷ get_or rest 10 0 ∷ [])) (minutes_in (get_or rest 11 0) (get_or rest 12 0))
    → offsets_in body ≡ behind (front ++ o ∷ []) (offsets_in (take (length rest - 13) (drop 13 rest)))
next_entry body front [] o enough is read = absurd (omega (arith, enough))
next_entry body front (c1 ∷ []) o enough is read = absurd (omega (arith, enough))
next_entry body front (c1 ∷ c2 ∷ []) o enough is read = absurd (omega (arith, enough))
next_entry body front (c1 ∷ c2 ∷ c3 ∷ []) o enough is read = absurd (omega (arith, enough))
next_entry body front (c1 ∷ c2 ∷ c3 ∷ region ∷ []) o enough is read = absurd (omega (arith, enough))
next_entry body front (c1 ∷ c2 ∷ c3 ∷ region ∷ h ∷ []) o enough is read = absurd (omega (arith, enough))
next_entry body front (c1 ∷ c2 ∷ c3 ∷ region ∷ h ∷ m ∷ []) o enough is read = absurd (omega (arith, enough))
next_entry body front (c1 ∷ c2 ∷ c3 ∷ region ∷ h ∷ m ∷ d1 ∷ []) o enough is read = absurd (omega (arith, enough))
next_entry body front (c1 ∷ c2 ∷ c3 ∷ region ∷ h ∷ m ∷ d1 ∷ d2 ∷ []) o enough is read = absurd (omega (arith, enough))
next_entry body front (c1 ∷ c2 ∷ c3 ∷ region ∷ h ∷ m ∷ d1 ∷ d2 ∷ t1 ∷ []) o enough is read = absurd (omega (arith, enough))
next_entry body front (c1 ∷ c2 ∷ c3 ∷ region ∷ h ∷ m ∷ d1 ∷ d2 ∷ t1 ∷ t2 ∷ []) o enough is read = absurd (omega (arith, enough))
next_entry body front (c1 ∷ c2 ∷ c3 ∷ region ∷ h ∷ m ∷ d1 ∷ d2 ∷ t1 ∷ t2 ∷ t3 ∷ []) o enough is read = absurd (omega (arith, enough))
next_entry body front (c1 ∷ c2 ∷ c3 ∷ region ∷ h ∷ m ∷ d1 ∷ d2 ∷ t1 ∷ t2 ∷ t3 ∷ nh ∷ []) o enough is read = absurd (omega (arith, enough))
next_entry body front (c1 ∷ c2 ∷ c3 ∷ region ∷ h ∷ m ∷ d1 ∷ d2 ∷ t1 ∷ t2 ∷ t3 ∷ nh ∷ nm ∷ rest) o enough is read =
    let n : length (c1 ∷ c2 ∷ c3 ∷ region ∷ h ∷ m ∷ d1 ∷ d2 ∷ t1 ∷ t2 ∷ t3 ∷ nh ∷ nm ∷ rest) - 13 ≡ length rest = omega arith in
    let taken : take (length (c1 ∷ c2 ∷ c3 ∷ region ∷ h ∷ m ∷ d1 ∷ d2 ∷ t1 ∷ t2 ∷ t3 ∷ nh ∷ nm ∷ rest) - 13) rest ≡ rest = ap (λ (k : ℕ). take k rest) n ∙ take_all (length rest) rest (omega arith) in
    is ∙ ap (λ (e : Option Offset). behind front (with_offset e (offsets_in rest))) (sym read) ∙ behind-next front o (offsets_in rest)
    ∙ ap (λ (l : List ℕ). behind (front ++ o ∷ []) (offsets_in l)) (sym taken)
