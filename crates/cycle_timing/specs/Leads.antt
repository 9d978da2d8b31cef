-- The leads of a round: what stands in front of each frame of a cycle.
use Rattle.std.specs.Prelude.{ℕ, suc, List, [], ◌∷◌, Bool, not, ◌==◌, max, Option, None, Some, map, length, slice_get, take_while}
use Rattle.std.specs.List.{cons_option, list_any}
use Rattle.section_codec.specs.Contents.{numbers_from}
use Rattle.ts_packets.specs.Packets.{packets_of}
use Rattle.air_model.specs.Cutting.{packets_in}
use Rattle.air_timing.specs.declared.pace.Paced.{Paced}
use Rattle.air_timing.specs.declared.span.Leads.{Leads}
use Rattle.air_timing.specs.Plan.{section_at}
use Rattle.air_timing.specs.Turns.{often_of, round_of, turn_of}

abbrev pub largest : List ℕ → ℕ
largest [] = 0
largest (n ∷ ns) = max n (largest ns)

-- of Fast sub-tables, each a list of its sections, the most sections that one has
abbrev pub most_sections : List (List ℕ) → ℕ
most_sections groups = largest (map (λ (group : List ℕ). length group) groups)

-- the section of a sub-table that has a turn, if one has
abbrev pub in_turn : List ℕ → Option ℕ → Option ℕ
in_turn group None = None
in_turn group (Some k) = slice_get group k

-- The lead with place i in a round: of each sub-table, from the q-th on, the section that has a
-- turn.
abbrev pub lead_from : ℕ → ℕ → ℕ → List (List ℕ) → List ℕ
lead_from often i q [] = []
lead_from often i q (group ∷ groups) =
    cons_option (in_turn group (turn_of often q i (length group)))
    (lead_from often i (suc q) groups)

-- the leads of a round where the largest Fast sub-table has n sections
abbrev pub leads_within : ℕ → List (List ℕ) → List (List ℕ)
leads_within n groups =
    map (λ (i : ℕ). lead_from (often_of n) i 0 groups) (numbers_from 0 (round_of n))

abbrev pub leads_of : List (List ℕ) → List (List ℕ)
leads_of groups = leads_within (most_sections groups) groups

-- ---- their packets

-- the packets of these sections, each counted alone
abbrev pub lead_packets : List Paced → List ℕ → ℕ
lead_packets ss lead = packets_in (λ (x : ℕ). packets_of (section_at ss x).len) lead

abbrev pub most_packets : List Paced → List (List ℕ) → ℕ
most_packets ss leads = largest (map (lead_packets ss) leads)

-- event information is sent on PID 0x0012 (EN 300 468, 5.1.3)
abbrev pub is_of_events : List Paced → List ℕ → Bool
is_of_events ss group = list_any (λ (x : ℕ). (section_at ss x).pid == 0x0012) group

-- the sub-tables before present and following: PAT, PMT, NIT, SDT, TDT and TOT
abbrev pub before_events : List Paced → List (List ℕ) → List (List ℕ)
before_events ss groups = take_while (λ (group : List ℕ). not (is_of_events ss group)) groups

-- what these leads are like, in packets: their first part is that of the sub-tables before events
abbrev pub measure : List Paced → List (List ℕ) → Leads
measure ss groups = record {
  first = most_packets ss (leads_within (most_sections groups) (before_events ss groups));
  most = most_packets ss (leads_of groups);
  often = often_of (most_sections groups);
  round = round_of (most_sections groups);
}
