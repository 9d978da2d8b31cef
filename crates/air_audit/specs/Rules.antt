-- The first rule by which a packet differs from the one that is expected (ISO/IEC 13818-1,
-- 2.4.3.2).
use Rattle.std.specs.Prelude.{ℕ, ◌/◌, ◌%◌, List, Bool, not, ◌&&◌, ◌||◌, ◌==◌, if◌then◌else◌, slice_index}
use Rattle.ts_packets.specs.Bytes.{pid_in, continuity_counter}
use Rattle.air_model.specs.declared.rule.Rule.{Rule}
use Rattle.air_model.specs.declared.rule.Rule.TheVariants.{Shape, Pid, Counter, Pointer, Bytes}
use Rattle.air_audit.specs.Checking.{has_shape}

-- sections begin in both or in neither, and at the same place
abbrev pub is_placed_as : List ℕ → List ℕ → Bool
is_placed_as expected found =
    (slice_index found 1 / 64) % 2 == (slice_index expected 1 / 64) % 2
    && (not ((slice_index expected 1 / 64) % 2 == 1) || slice_index found 4 == slice_index expected
    4)

-- All packets of an air have a header that is written.
abbrev pub rule_between : List ℕ → List ℕ → Rule
rule_between expected found =
    if not (has_shape found) then Shape
    else if not (pid_in found == pid_in expected) then Pid
    else if not (continuity_counter found == continuity_counter expected) then Counter
    else if not (is_placed_as expected found) then Pointer
    else Bytes
