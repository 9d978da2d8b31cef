use Rattle.std.proofs.Common.{◌≡◌, ℕ, map}
use Rattle.section_codec.specs.Contents.{numbers_from}
use Rattle.air_timing.specs.Turns.{often_of}
use Rattle.cycle_timing.specs.Leads.{lead_from}
use Rattle.cycle_timing.proofs.leads.leads_within.Given as goal

abbrev pub invariant-loop-place : goal.invariant-loop-place
invariant-loop-place l = l.leads.items ≡ map (λ (i : ℕ). lead_from (often_of l.largest) i 0 l.groups) (numbers_from 0 l.place)
