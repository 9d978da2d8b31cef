-- A strict receiver, and the packets for which it stands.
use Rattle.std.specs.Prelude.{◌≡◌, ℕ, ◌<◌, List, [], Bool, false, slice_index_or}
use Rattle.ts_demux.specs.Arrivals.{arrivals_on}
use Rattle.ts_demux.specs.Breaks.{ends_in_gap}
use Rattle.guide_receiver.specs.Heard.{Hearing, ReceiverStandsAfter}
use Rattle.strict_receiver.specs.Earlier.{sections_in, taken_after}

-- what a strict receiver keeps: a receiver, and of each PID whether a gap came last
pub record StrictHearing : Type 0 where
  pub receiver : Hearing
  pub gaps : List Bool

-- Of each PID this says whether a gap came last.
abbrev pub AreGapsOf : List (List ℕ) → List Bool → Type 0
AreGapsOf past gaps = (pid : ℕ) → pid < 8192 → slice_index_or gaps pid false ≡ ends_in_gap (arrivals_on pid past)

-- A strict receiver stands for earlier recordings, after each of which it started afresh, and for the packets since, each by
-- its bytes: its receiver stands for them and for the marks that they make.
pub record StrictStandsAfter (earlier : List (List (List ℕ))) (past : List (List ℕ)) (strict : StrictHearing) : Type 0 where
  pub heard : ReceiverStandsAfter (sections_in earlier) past (taken_after earlier past) strict.receiver
  pub gaps : AreGapsOf past strict.gaps

-- It stands for these packets.
abbrev pub StrictStandsFor : List (List ℕ) → StrictHearing → Type 0
StrictStandsFor past strict = StrictStandsAfter [] past strict
