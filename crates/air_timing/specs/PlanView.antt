-- What contracts see of a frame plan.
use Rattle.std.specs.Prelude.{ℕ, ◌+◌, ◌*◌, ◌<◌, ◌≤◌, List, [], ◌∷◌, ◌++◌, Bool, true, false, ◌||◌, ◌==◌, if◌then◌else◌, suc, nat_lt, length, drop, slice_index}
use Rattle.air_timing.specs.declared.timing.Timing.{Timing}
use Rattle.air_timing.specs.Pacing.{Place, timings, paced_one, paced_all}
use Rattle.air_timing.specs.Frames.{fits}
use Rattle.air_timing.specs.PaceView.{Seen, place_of}
use Rattle.air_timing.specs.Plan.{Planned, section_at, timed_of, framed_of, lead_at, closing, end_with, order_from}
use Rattle.air_timing.specs.declared.pace.Paced.{Paced}
use Rattle.air_timing.specs.declared.pace.Spacing.{Spacing}
use Rattle.air_timing.specs.declared.plan.FramePlan.TheInside.{Inside}

-- Where a cycle has come to: in a lead of a round, how many of its sections are sent, how many of
-- the body, the packet with which the frame is over once its lead has begun, and whether the next
-- section of the body begins the frame, wherever it ends.
pub record Course : Type 0 where
  pub plan : Planned
  pub seen : Seen
  pub lead : ℕ
  pub led : ℕ
  pub sent : ℕ
  pub end : ℕ
  pub fresh : Bool

abbrev pub planned : List Paced → List (List ℕ) → List ℕ → Spacing → ℕ → Planned
planned sections leads body spacing span = record {
  sections = sections;
  leads = leads;
  body = body;
  spacing = spacing;
  span = span;
}

abbrev pub course_of : Inside → Course
course_of c = record {
  plan = planned c.sections.items c.leads.items c.body.items c.pace.spacing c.span;
  seen = c.pace;
  lead = c.lead;
  led = c.led;
  sent = c.sent;
  end = c.end;
  fresh = c.fresh;
}

-- the lead at hand, what is left of it, and what is left of the body
abbrev pub lead_of : Course → List ℕ
lead_of c = lead_at c.plan.leads c.lead

abbrev pub lead_left : Course → List ℕ
lead_left c = drop c.led (lead_of c)

abbrev pub body_left : Course → List ℕ
body_left c = drop c.sent c.plan.body

-- the packet with which the frame is over
abbrev pub end_of : Course → ℕ
end_of c = if c.led == 0 then end_with c.plan (place_of c.seen) (lead_of c) else c.end

abbrev pub order_with : Planned → ℕ → ℕ → Place → Bool → List ℕ → List ℕ
order_with f i end p false xs = order_from f i end p xs
order_with f i end p true [] = closing f.leads i
order_with f i end p true (x ∷ xs) = x ∷ order_from f i end (paced_one (timed_of f) p x) xs

-- what is still to come of a cycle: each section with its packets
abbrev pub left_of : Course → List Timing
left_of c =
    timings (timed_of c.plan) (place_of c.seen) (
    lead_left c
    ++ order_with c.plan c.lead (end_of c)
    (paced_all (timed_of c.plan) (place_of c.seen) (lead_left c)) c.fresh (body_left c)
    )

-- whether the next section of a body is sent in the frame at hand, which is over with packet `end`
abbrev pub goes_on : Planned → ℕ → Place → Bool → List ℕ → Bool
goes_on f end p fresh [] = false
goes_on f end p fresh (x ∷ xs) = fresh || fits (framed_of f) end p x

abbrev pub goes : Course → Bool
goes c = goes_on c.plan c.end (place_of c.seen) c.fresh (body_left c)

-- whether nothing is to come after the lead at hand
abbrev pub is_last : Planned → ℕ → List ℕ → Bool
is_last f i [] = suc i == length f.leads
is_last f i (x ∷ xs) = false

abbrev pub is_over : Course → Bool
is_over c = is_last c.plan c.lead (body_left c)

-- whether a section of the lead at hand is to come
abbrev pub leads_on : Course → Bool
leads_on c = nat_lt c.led (length (lead_of c))

-- ---- what a plan is made from

-- Each section has 4,096 bytes at most, and its sub-table is one of so many. Leads and body name
-- such sections. There is a lead, and each lead has a section.
pub record IsPlan (f : Planned) (tables : ℕ) : Type 0 where
  pub tables_are : (x : ℕ) → x < length f.sections → (section_at f.sections x).table < tables
  pub lens_are : (x : ℕ) → x < length f.sections → (section_at f.sections x).len ≤ 4096
  pub some : (i : ℕ) → i < length f.leads → 0 < length (lead_at f.leads i)
  pub leads_are : (i k : ℕ) → i < length f.leads → k < length (lead_at f.leads i)
      → slice_index (lead_at f.leads i) k < length f.sections
  pub body_is : (k : ℕ) → k < length f.body → slice_index f.body k < length f.sections
  pub span_is : f.span < 4611686018427387904

-- The packets so far are so few that those of all sections to come can be counted: each has less than
-- 2 ^ 33, with the null packets before it.
abbrev pub CanCount : ℕ → List Timing → Type 0
CanCount closed left = closed + length left * 8589934592 < 4611686018427387904

pub record IsCourse (c : Course) : Type 0 where
  pub plan : IsPlan c.plan (length c.seen.free)
  pub lead : c.lead < length c.plan.leads
  pub count : CanCount c.seen.packing.closed (left_of c)
