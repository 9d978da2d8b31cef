-- Recorded packets of an air, at a bit rate or without one.
use Rattle.std.specs.Prelude.{ℕ, Bool, List, Option, Some, None}
use Rattle.version_book.specs.Airings.{AiredTables}
use Rattle.air_audit.specs.Audits.{AreAnAir, BeginAnAir}
use Rattle.air_audit.specs.TimedAirs.{AreTheAir, BeginTheAir}

-- These packets, each by its bytes, are an air of the airing list: without a bit rate any air of it
-- without null packets, and at one the air of the player, without its null packets or with them.
abbrev pub AreAirAt : Option ℕ → Bool → List AiredTables → List (List ℕ) → Type 0
AreAirAt None nulls airings packets = AreAnAir airings packets
AreAirAt (Some rate) nulls airings packets = AreTheAir rate nulls airings packets

-- They are first ones of such an air.
abbrev pub BeginAirAt : Option ℕ → Bool → List AiredTables → List (List ℕ) → Type 0
BeginAirAt None nulls airings packets = BeginAnAir airings packets
BeginAirAt (Some rate) nulls airings packets = BeginTheAir rate nulls airings packets
