-- How many keys a receiver hears.
use Rattle.std.specs.Prelude.{ℕ, ◌≤◌, List, length, slice_range}
use Rattle.sub_collect.specs.KeyCounts.{key_count}
use Rattle.guide_receiver.specs.Dones.{counted_heard}

-- Of whichever of these packets are heard, from one place on and before another, the sections that
-- count have at most 2,258 keys: no receiver meets its limit.
abbrev pub HaveFewKeys : List (List ℕ) → Type 0
HaveFewKeys packets =
    (join end : ℕ) → end ≤ length packets
    → key_count (counted_heard (slice_range packets join end)) ≤ 2258
