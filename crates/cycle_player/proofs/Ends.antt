-- What a player has sent is an air.
use Rattle.std.proofs.Common.{ℕ, List, [], ◌∷◌, ◌++◌, Option, Some, None}
use Rattle.ts_packets.specs.Bytes.{Packet}
use Rattle.air_model.specs.Air.{Aired, airings_of}
use Rattle.cycle_timing.proofs.Airs.{timed_airs_are_airs}
use Rattle.cycle_player.specs.Airs.{IsAirAt}
use Rattle.cycle_player.specs.Sending.{Sending, AtEndAt, AtEnd, WithinAt, Within}

air_at_end : (rate : Option ℕ) (xs : List Aired) (s : Sending) → AtEndAt rate xs s → IsAirAt rate (airings_of xs) xs
air_at_end None xs s end = end.is_air
air_at_end (Some rate) xs s end = timed_airs_are_airs rate xs end.timed end.can

-- at the end of a cycle
pub end_air : (xs : List Aired) (s : Sending) → AtEnd xs s → IsAirAt s.rate (airings_of xs) xs
end_air xs s end = air_at_end s.rate xs s end

air_within : (rate : Option ℕ) (xs : List Aired) (x : Aired) (rest : List Packet) (s : Sending) → WithinAt rate xs x rest s
    → IsAirAt rate (airings_of (xs ++ x ∷ [])) (xs ++ x ∷ [])
air_within None xs x rest s within = within.is_air
air_within (Some rate) xs x rest s within = timed_airs_are_airs rate (xs ++ x ∷ []) within.timed within.can

-- and within one, with all that is left of it
pub within_air : (xs : List Aired) (x : Aired) (rest : List Packet) (s : Sending) → Within xs x rest s
    → IsAirAt s.rate (airings_of (xs ++ x ∷ [])) (xs ++ x ∷ [])
within_air xs x rest s within = air_within s.rate xs x rest s within
