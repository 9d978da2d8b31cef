-- A bit rate, in packets of 188 bytes, which are 1,504 bits.
use Rattle.std.specs.Prelude.{◌≡◌, ℕ, ◌+◌, ◌-◌, ◌*◌, ◌/◌, ◌<◌, ◌≤◌, List, min, max, length}
use Rattle.air_timing.specs.Pacing.{Place, IsNear}
use Rattle.air_timing.specs.declared.span.Leads.{Leads}
use Rattle.air_timing.specs.Frames.{Framed, Frame, frames_of, packets, HasRoom, lead_first, Repeats}

-- the fewest whole packets that last 25 ms or more
abbrev pub gap_at : ℕ → ℕ
gap_at rate = (rate + 60159) / 60160

-- the most packets that last half a second at most
abbrev pub half_second : ℕ → ℕ
half_second rate = rate / 3008

-- the whole seconds that n packets last
abbrev pub seconds_of : ℕ → ℕ → ℕ
seconds_of rate n = n * 1504 / rate

-- ---- laws

-- So many packets last 25 ms or more, and so many half a second at most.
pub record Lasts (rate : ℕ) : Type 0 where
  pub gap : 25 * rate ≤ 1000 * (1504 * gap_at rate)
  pub half : 2 * (1504 * half_second rate) ≤ rate

abbrev pub RatesLast : Type 0
RatesLast = (rate : ℕ) → Lasts rate

-- How many packets there are at most from a section of a lead to the same one in a later lead,
-- where frames have this span and gap: for what stands in the first part of leads, and for all
-- sections.
abbrev pub first_again : Leads → ℕ → ℕ → ℕ
first_again l span gap = l.often * (span + gap) + 1 + gap + l.first

abbrev pub all_again : Leads → ℕ → ℕ → ℕ
all_again l span gap = l.round * (span + gap) + 1 + gap + l.most

-- the least span with which the frames are as near as `FramesAreNear` says
abbrev pub least_span : Leads → ℕ → ℕ
least_span l gap = l.most + 2 * gap + 26

-- A span is right at a rate: it has room, the first part of leads is sent again within half a
-- second, and each section of a lead within two seconds.
pub record IsRightSpan (rate : ℕ) (l : Leads) (span : ℕ) : Type 0 where
  pub half : first_again l span (gap_at rate) ≤ half_second rate
  pub two : all_again l span (gap_at rate) ≤ 4 * half_second rate
  pub room : least_span l (gap_at rate) ≤ span

-- So it is: where the span is right,
pub record IsSentAgain (rate : ℕ) (l : Leads) (f : Framed) (between : List Frame) (a b : Frame)
    (front front_b : List ℕ) (x : ℕ) : Type 0 where
  -- a section that stands in two leads not further apart than `often`, in their first part, begins
  -- again within half a second,
  pub half : 1 + length between ≤ l.often → packets f.timed front_b ≤ l.first
      → lead_first f b front_b x ≤ lead_first f a front x + half_second rate
  -- and one that stands in two leads not further apart than `round` within two seconds
  pub two : 1 + length between ≤ l.round
      → lead_first f b front_b x ≤ lead_first f a front x + 4 * half_second rate

abbrev pub SpansAreRight : Type 0
SpansAreRight =
    (f : Framed) (rate : ℕ) (l : Leads) (j : ℕ) (p : Place) (body : List ℕ)
    → HasRoom f l.most body → IsNear f.timed p → f.timed.gap ≡ gap_at rate
    → IsRightSpan rate l f.span
    → (between : List Frame) (a b : Frame) (front front_b : List ℕ) (x : ℕ)
    → Repeats f (frames_of f j p body) between a b front front_b x
    → IsSentAgain rate l f between a b front front_b x

-- ---- the largest span

-- the largest span with which so many packets are enough for `ahead` packets and `times` spans and
-- gaps
abbrev pub span_within : ℕ → ℕ → ℕ → ℕ → ℕ
span_within packets ahead times gap = (packets - ahead) / times - gap

abbrev pub largest_span : ℕ → Leads → ℕ
largest_span rate l =
    min (span_within (half_second rate) (1 + gap_at rate + l.first) l.often (gap_at rate))
    (span_within (4 * half_second rate) (1 + gap_at rate + l.most) l.round (gap_at rate))

-- or the least one, where that is larger
abbrev pub span_at : ℕ → Leads → ℕ
span_at rate l = max (largest_span rate l) (least_span l (gap_at rate))

-- Where a span is right, this one is right and no smaller. Else it is the least one.
pub record IsLargest (rate : ℕ) (l : Leads) : Type 0 where
  pub right : (span : ℕ) → IsRightSpan rate l span → IsRightSpan rate l (span_at rate l)
  pub largest : (span : ℕ) → IsRightSpan rate l span → span ≤ span_at rate l
  pub least : (IsRightSpan rate l (span_at rate l) → Prim.⊥)
      → span_at rate l ≡ least_span l (gap_at rate)

abbrev pub SpansAreLargest : Type 0
SpansAreLargest = (rate : ℕ) (l : Leads) → 0 < l.often → 0 < l.round → IsLargest rate l
