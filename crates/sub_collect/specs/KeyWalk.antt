-- The keys of a PID, one after the other, as a mark meets them.
use Rattle.std.specs.Prelude.{◌≡◌, ℕ, ◌≤◌, true, false, Bool, ◌==◌, ◌&&◌, Option, Some, None, IsSome}
use Rattle.std.specs.Ordering.{is_lt, is_gt}
use Rattle.std.specs.declared.ops.Bound.{Bound}
use Rattle.std.specs.BTreeMap.Range.{IsFromStart}
use Rattle.section_codec.specs.declared.table.Key.{Key}
use Rattle.section_codec.specs.KeyOrder.{key_cmp}
use Rattle.sub_collect.specs.Collectors.{KeysHeard, kept_in}

-- a key of a PID, after the last one that was met, if one was met
abbrev pub is_after : ℕ → Option Key → Key → Bool
is_after pid None k = k.pid == pid
is_after pid (Some last) k = k.pid == pid && is_lt (key_cmp last k)

-- No key of the PID that had a section comes after that one.
abbrev pub HasNoKeyAfter : ℕ → Option Key → KeysHeard → Type 0
HasNoKeyAfter pid last collector = (k : Key) → IsSome (kept_in k collector) → is_after pid last k ≡ false

-- This is the first key of the PID after that one that had a section.
pub record IsNextKey (pid : ℕ) (last : Option Key) (collector : KeysHeard) (key : Key) : Type 0 where
  pub there : IsSome (kept_in key collector)
  pub after : is_after pid last key ≡ true
  pub first : (k : Key) → IsSome (kept_in k collector) → is_after pid last k ≡ true
      → is_gt (key_cmp key k) ≡ false

-- From this start on come the keys of the PID after that one, and otherwise only keys of greater PIDs.
pub record BeginsAfter (pid : ℕ) (last : Option Key) (start : Bound Key) : Type 0 where
  pub has : (k : Key) → is_after pid last k ≡ true → IsFromStart key_cmp start k
  pub least : (k : Key) → IsFromStart key_cmp start k → pid ≤ k.pid
  pub own : (k : Key) → IsFromStart key_cmp start k → k.pid ≡ pid → is_after pid last k ≡ true
