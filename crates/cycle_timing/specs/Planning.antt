-- What is planned of the cycle of an airing at a bit rate: its frames, leads and body.
use Rattle.std.specs.Prelude.{ℕ, List, ◌++◌, map, length, flat_map}
use Rattle.version_book.specs.Airings.{AiredTables}
use Rattle.section_codec.specs.Tables.{tier_of}
use Rattle.air_model.specs.Cycle.{Planned as Tiers, fast_of, near_of, chunks_of}
use Rattle.air_model.specs.Sections.{planned}
use Rattle.air_timing.specs.declared.pace.Paced.{Paced}
use Rattle.air_timing.specs.declared.timing.Timing.{Timing}
use Rattle.air_timing.specs.Pacing.{place_at, timings}
use Rattle.air_timing.specs.Spreading.{spread}
use Rattle.air_timing.specs.Rate.{gap_at, span_at}
use Rattle.air_timing.specs.Plan.{Planned, section_at, timed_of, order_in}
use Rattle.air_model.specs.Air.{Sent, sections_once, weights_once}
use Rattle.cycle_timing.specs.SubTables.{name_of, number_of, groups}
use Rattle.cycle_timing.specs.Leads.{leads_of, measure}

-- sections as they are paced: PID, the tier of their table_id, bytes, and the number of the sub-table
abbrev pub paced_of : List Sent → Sent → Paced
paced_of ss s = record {
  pid = s.pid;
  tier = tier_of (name_of s).table;
  len = length s.bytes;
  table = number_of ss s;
}

abbrev pub paced_in : List Sent → List Paced
paced_in ss = map (paced_of ss) ss

abbrev pub table_at : List Paced → ℕ → ℕ
table_at ss x = (section_at ss x).table

-- ---- the body

-- these sections in turns: the first ones of all sub-tables, then the second ones, and so on
abbrev pub in_turns : List Paced → List ℕ → List ℕ
in_turns ss xs = spread (length xs) (groups (table_at ss) xs)

-- for each chunk of Far, all of Near and then the chunk, each in turns
abbrev pub body_of : List Paced → Tiers → List ℕ
body_of ss p =
    flat_map (λ (chunk : List ℕ). in_turns ss (near_of p) ++ in_turns ss chunk) (chunks_of p)

-- ---- the plan

abbrev pub fast_groups : List Paced → Tiers → List (List ℕ)
fast_groups ss p = groups (table_at ss) (fast_of p)

-- no section begins in a packet that has room for less than 8 bytes of it
abbrev pub plan_at : ℕ → List Paced → Tiers → Planned
plan_at rate ss p = record {
  sections = ss;
  leads = leads_of (fast_groups ss p);
  body = body_of ss p;
  spacing = record { gap = gap_at rate; least = 8 };
  span = span_at rate (measure ss (fast_groups ss p));
}

-- of the cycle of an airing after others; a section is named by its place among those of the airing
abbrev pub plan_of : ℕ → List AiredTables → AiredTables → Planned
plan_of rate past a =
    plan_at rate (paced_in (sections_once past a)) (planned (weights_once past a) a.form.quota)

-- where its sections begin and end, in packets from its first one on; those of a gap come first
abbrev pub timings_of : ℕ → List AiredTables → AiredTables → List Timing
timings_of rate past a =
    timings (timed_of (plan_of rate past a)) (place_at (gap_at rate))
    (order_in (plan_of rate past a) (place_at (gap_at rate)))
