-- The plan of a cycle, made from the sections of the cycle as they are listed.
use Rattle.std.specs.Prelude.{ℕ, ◌+◌, ◌*◌, ◌<◌, ◌≤◌, List, map, length}
use Rattle.ts_packets.specs.Packets.{packets_of}
use Rattle.section_codec.specs.declared.table.Tier3.{Tier3}
use Rattle.air_model.specs.Cycle.{Planned as Tiers}
use Rattle.air_model.specs.Sections.{planned}
use Rattle.air_timing.specs.declared.pace.Paced.{Paced}
use Rattle.air_timing.specs.declared.timing.Timing.{Timing}
use Rattle.air_timing.specs.Pacing.{place_at}
use Rattle.air_timing.specs.Plan.{Planned, section_at, plan_of}
use Rattle.air_timing.specs.Rate.{gap_at, span_at}
use Rattle.cycle_timing.specs.Leads.{leads_of, measure}
use Rattle.cycle_timing.specs.Planning.{plan_at}
use Rattle.cycle_timing.specs.declared.listed.Listed.{Listed}
use Rattle.cycle_timing.specs.Listing.{paced_under}

abbrev pub weights_listed : List Listed → List (Tier3 × ℕ)
weights_listed ls = map (λ (l : Listed). (l.tier, packets_of l.len)) ls

-- no quota cuts the body
abbrev pub tiers_under : List Listed → Tiers
tiers_under ls = planned (weights_listed ls) 0

abbrev pub plan_under : ℕ → List Listed → Planned
plan_under rate ls = plan_at rate (paced_under ls) (tiers_under ls)

-- the plan with these Fast sub-tables and this body
abbrev pub plan_with : ℕ → List Paced → List (List ℕ) → List ℕ → Planned
plan_with rate ss groups body = record {
  sections = ss;
  leads = leads_of groups;
  body = body;
  spacing = record { gap = gap_at rate; least = 8 };
  span = span_at rate (measure ss groups);
}

-- the plan of these leads, this body and this span
abbrev pub plan_from : ℕ → List Paced → List (List ℕ) → List ℕ → ℕ → Planned
plan_from rate ss leads body span = record {
  sections = ss;
  leads = leads;
  body = body;
  spacing = record { gap = gap_at rate; least = 8 };
  span = span;
}

-- each section of a cycle with its packets
abbrev pub timings_with : ℕ → Planned → List Timing
timings_with rate f = plan_of f (place_at (gap_at rate))

-- a cycle has no more sections than so many, where its body and its leads have these
abbrev pub most_timings : ℕ → ℕ → ℕ → ℕ
most_timings body round most = body + (1 + body + round) * most

-- ---- what a plan is made of

-- each section has 4,096 bytes at most, and the number of its sub-table is that of a section
pub record AreNumbered (ss : List Paced) : Type 0 where
  pub tables : (x : ℕ) → x < length ss → (section_at ss x).table < length ss
  pub lens : (x : ℕ) → x < length ss → (section_at ss x).len ≤ 4096

abbrev pub IsWithin : List Paced → ℕ → Type 0
IsWithin ss x = x < length ss
