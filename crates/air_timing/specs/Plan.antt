-- The plan of a cycle in frames: its sections in the order in which they are sent, each with its
-- first and its last packet.
use Rattle.std.specs.Prelude.{◌≡◌, ℕ, suc, ◌+◌, ◌-◌, ◌%◌, List, [], ◌∷◌, ◌++◌, ◌==◌, if◌then◌else◌, length, drop, slice_index_or}
use Rattle.section_codec.specs.declared.table.Tier3.TheVariants.{Fast}
use Rattle.air_model.specs.Cutting.{joined}
use Rattle.air_timing.specs.declared.pace.Paced.{Paced}
use Rattle.air_timing.specs.declared.pace.Spacing.{Spacing}
use Rattle.air_timing.specs.declared.timing.Timing.{Timing}
use Rattle.air_timing.specs.Pacing.{Timed, Place, timings, paced_one, paced_all}
use Rattle.air_timing.specs.PaceView.{lane_of}
use Rattle.air_timing.specs.Frames.{Framed, Frame, start_of, fits, frames_of, order_of}

-- What a cycle is planned by: its sections, each named by its place here; the leads of a round,
-- which are taken in turn; the body; and what the air keeps.
pub record Planned : Type 0 where
  pub sections : List Paced
  pub leads : List (List ℕ)
  pub body : List ℕ
  pub spacing : Spacing
  pub span : ℕ

abbrev pub section_at : List Paced → ℕ → Paced
section_at sections x = slice_index_or sections x (record { pid = 0; tier = Fast; len = 0; table = 0 })

abbrev pub timed_of : Planned → Timed
timed_of f = record {
  lane = λ x. lane_of (section_at f.sections x);
  len = λ x. (section_at f.sections x).len;
  table = λ x. (section_at f.sections x).table;
  gap = f.spacing.gap;
  least = f.spacing.least;
}

-- the lead with this place in a round
abbrev pub lead_at : List (List ℕ) → ℕ → List ℕ
lead_at leads i = slice_index_or leads i []

-- The leads of a round are taken in turn, and a cycle ends with the end of a round.
abbrev pub framed_of : Planned → Framed
framed_of f = record {
  timed = timed_of f;
  lead = λ j. lead_at f.leads (j % length f.leads);
  span = f.span;
  more = λ j. length f.leads - 1 - j % length f.leads;
}

-- the sections of the leads of a round after this one
abbrev pub closing : List (List ℕ) → ℕ → List ℕ
closing leads i = joined (drop (suc i) leads)

-- the frames of a cycle that begins at place p, and its sections in their order
abbrev pub frames_in : Planned → Place → List Frame
frames_in f p = frames_of (framed_of f) 0 p f.body

abbrev pub order_in : Planned → Place → List ℕ
order_in f p = order_of (framed_of f) (frames_in f p)

-- each section with its packets
abbrev pub plan_of : Planned → Place → List Timing
plan_of f p = timings (timed_of f) p (order_in f p)

-- ---- laws

-- a plan has as many timings as its order has sections
abbrev pub PlansAreLong : Type 0
PlansAreLong = (f : Planned) (p : Place) → length (plan_of f p) ≡ length (order_in f p)

-- ---- what is still to come

abbrev pub next_lead : List (List ℕ) → ℕ → ℕ
next_lead leads i = if suc i == length leads then 0 else suc i

-- the packet with which a frame is over that begins at a place with this lead
abbrev pub end_with : Planned → Place → List ℕ → ℕ
end_with f p lead = start_of (timed_of f) p lead + f.span

-- The order of the rest of a body at place p, in a frame with lead i, which is over with packet
-- `end`. The section that begins a new frame is sent after its lead, wherever it ends.
abbrev pub order_from : Planned → ℕ → ℕ → Place → List ℕ → List ℕ
order_from f i end p [] = closing f.leads i
order_from f i end p (x ∷ xs) =
    if fits (framed_of f) end p x then x ∷ order_from f i end (paced_one (timed_of f) p x) xs
    else lead_at f.leads (next_lead f.leads i) ++ x ∷ (
    order_from f (next_lead f.leads i) (end_with f p (lead_at f.leads (next_lead f.leads i)))
    (paced_one (timed_of f) (paced_all (timed_of f) p (lead_at f.leads (next_lead f.leads i))) x) xs
    )
