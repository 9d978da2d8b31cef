-- How many cycles at a bit rate are short: the span of their frames is not right. And the least rate
-- that would have done.
use Rattle.std.specs.Prelude.{ℕ, ◌+◌, ◌*◌, ◌<◌, List, [], ◌∷◌, ◌++◌, Bool, ◌&&◌, nat_le, max, Option, if◌then◌else◌}
use Rattle.std.specs.List.{find}
use Rattle.section_codec.specs.Contents.{numbers_from}
use Rattle.version_book.specs.Airings.{AiredTables}
use Rattle.air_timing.specs.declared.span.Leads.{Leads}
use Rattle.air_timing.specs.Rate.{gap_at, half_second, first_again, all_again, least_span, span_at}
use Rattle.cycle_timing.specs.Again.{leads_in}
use Rattle.cycle_player.specs.declared.tally.Tally.TheInside.{Inside}

-- whether the span of frames with these leads is right: what `IsRightSpan` says of it
abbrev pub is_right : ℕ → Leads → Bool
is_right rate l =
    nat_le (first_again l (span_at rate l) (gap_at rate)) (half_second rate)
    && nat_le (all_again l (span_at rate l) (gap_at rate)) (4 * half_second rate)
    && nat_le (least_span l (gap_at rate)) (span_at rate l)

-- leads as large as these and as those
abbrev pub larger : Leads → Leads → Leads
larger a b = record {
  first = max a.first b.first;
  most = max a.most b.most;
  often = max a.often b.often;
  round = max a.round b.round;
}

-- the first bit rate that a description may have, of 100,000 to 100,000,000, at which it is right
unfoldable pub least_rate : Leads → Option ℕ
least_rate l = find (λ (rate : ℕ). is_right rate l) (numbers_from 100000 99900001)

-- of cycles: how many are short, and the largest of their leads
pub record Tallied : Type 0 where
  pub short : ℕ
  pub most : Leads

abbrev pub no_cycles : Tallied
no_cycles = record { short = 0; most = record { first = 0; most = 0; often = 1; round = 1 } }

-- one more, with these leads
abbrev pub with_cycle : ℕ → Leads → Tallied → Tallied
with_cycle rate l t = record {
  short = t.short + (if is_right rate l then 0 else 1);
  most = larger t.most l;
}

-- those of these airings more, after others
abbrev pub with_cycles : ℕ → List AiredTables → List AiredTables → Tallied → Tallied
with_cycles rate past [] t = t
with_cycles rate past (a ∷ rest) t =
    with_cycles rate (past ++ a ∷ []) rest (with_cycle rate (leads_in rate past a) t)

-- ---- what is kept of them

abbrev pub tallied_of : Inside → Tallied
tallied_of t = record { short = t.short; most = t.most }

pub record HasTurns (t : Inside) : Type 0 where
  pub often : 0 < t.most.often
  pub round : 0 < t.most.round
