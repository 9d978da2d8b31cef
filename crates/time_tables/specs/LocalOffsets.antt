-- local_time_offset_descriptor: how far the clocks of regions are from UTC (EN 300 468, 6.2.20).
use Rattle.std.specs.Prelude.{◌≡◌, ℕ, ◌+◌, ◌*◌, ◌/◌, ◌%◌, ◌<◌, ◌==◌, Bool, nat_lt, if◌then◌else◌, List, [], ◌∷◌, ◌++◌, length, Option, Some, None}
use Rattle.std.specs.Option.{option_map}
use Rattle.std.specs.List.{flat_map, AllByRecursion}
use Rattle.si_time.specs.Moments.{bcd, moment_bcd}
use Rattle.si_time.specs.Readings.{moment_from_bcd, duration_from_bcd}
use Rattle.si_time.specs.declared.moment.Moment.{Moment}
use Rattle.guide_model.specs.declared.offset.Offset.{Offset}
use Rattle.descriptors.specs.Descriptors.{descriptor}

-- ---- written

-- the four BCD digits hhmm of minutes
abbrev pub hhmm : ℕ → List ℕ
hhmm minutes = bcd (minutes / 60) ∷ bcd (minutes % 60) ∷ []

-- country_region_id 6, a reserved bit, and the polarity, which is 1 behind UTC
abbrev pub polarity : Bool → ℕ
polarity behind = if behind then 1 else 0

abbrev pub region_byte : Offset → ℕ
region_byte o = 4 * o.region + 2 + polarity o.behind

-- an entry: country_code 24, the byte of the region, local_time_offset 16, time_of_change 40, next_time_offset 16
abbrev pub offset_bytes : Offset → List ℕ
offset_bytes o = o.country ++ region_byte o ∷ (hhmm o.minutes ++ (moment_bcd o.change.0 ++ hhmm o.next))

abbrev pub offsets_body : List Offset → List ℕ
offsets_body offsets = flat_map offset_bytes offsets

abbrev pub local_offsets : List Offset → List ℕ
local_offsets offsets = descriptor 0x58 (offsets_body offsets)

-- ---- read

-- the minutes of a duration below 24 hours
abbrev pub minutes_of : Option ℕ → Option ℕ
minutes_of None = None
minutes_of (Some seconds) = if nat_lt seconds 86400 then Some (seconds / 60) else None

-- the minutes of four BCD digits hhmm
abbrev pub minutes_in : ℕ → ℕ → Option ℕ
minutes_in h m = minutes_of (duration_from_bcd (h ∷ m ∷ 0 ∷ []))

-- an entry by its parts, where both offsets and the change are read
abbrev pub offset_of : List ℕ → ℕ → Option ℕ → Option ℕ → Option ℕ → Option Offset
offset_of country region (Some minutes) (Some change) (Some next) = Some (record {
  country = country;
  region = region / 4;
  behind = region % 2 == 1;
  minutes = minutes;
  change = record { 0 = change };
  next = next;
})
offset_of country region minutes change next = None

-- an entry, and then the entries behind it
abbrev pub with_offset : Option Offset → Option (List Offset) → Option (List Offset)
with_offset None more = None
with_offset (Some o) more = option_map (λ offsets. o ∷ offsets) more

-- the entries that a body is; there are none where it ends within one, or one has an offset that is none, or a change that is no moment
abbrev pub offsets_in : List ℕ → Option (List Offset)
offsets_in [] = Some []
offsets_in (c1 ∷ c2 ∷ c3 ∷ region ∷ h ∷ m ∷ d1 ∷ d2 ∷ t1 ∷ t2 ∷ t3 ∷ nh ∷ nm ∷ rest) =
    with_offset (offset_of (c1 ∷ c2 ∷ c3 ∷ []) region (minutes_in h m) (moment_from_bcd (d1 ∷ d2 ∷ t1 ∷ t2 ∷ t3 ∷ [])) (minutes_in nh nm)) (offsets_in rest)
offsets_in _ = None

-- ---- laws

-- each part fits its field
pub record FitsOffset (o : Offset) : Type 0 where
  pub country : length o.country ≡ 3
  pub region : o.region < 64
  pub minutes : o.minutes < 1440
  pub change : o.change.0 < 65536 * 86400
  pub next : o.next < 1440

-- Reading written entries gives them back.
abbrev pub OffsetsReadBack : Type 0
OffsetsReadBack = (offsets : List Offset) → AllByRecursion FitsOffset offsets → offsets_in (offsets_body offsets) ≡ Some offsets
