-- How far a cycle has come, as it is kept: its sections in their order, each linked to the next one of its PID, and a lane for each PID.
use Rattle.std.specs.Prelude.{◌≡◌, ℕ, suc, ◌+◌, ◌-◌, ◌<◌, ◌≤◌, List, [], ◌∷◌, Bool, not, ◌&&◌, ◌==◌, if◌then◌else◌, length, get_or, slice_index, count_by, take, drop, map, vec_capacity, Option, Some, None, Result, Ok, Err}
use Rattle.std.specs.List.{All}
use Rattle.air_model.specs.declared.placed.Placed.{Placed}
use Rattle.air_model.specs.Laying.{sent_at, IsPlaced}
use Rattle.air_model.specs.declared.rule.Rule.{Rule}
use Rattle.air_model.specs.declared.rule.Rule.TheVariants.{Bytes}
use Rattle.air_audit.specs.declared.lanes.Lane.{Lane}
use Rattle.air_audit.specs.declared.linking.Room.{Room}
use Rattle.air_audit.specs.Fronts.{ToCome, to_come_on}
use Rattle.air_audit.specs.Audits.{on_pid}

abbrev pub rest_of : List ℕ → Lane → List ℕ
rest_of bytes l = take (l.end - l.at) (drop l.at bytes)

abbrev pub waiting_from : ℕ → List ℕ → List Placed → ℕ → List (List ℕ)
waiting_from pid bytes placed next = on_pid pid (map (sent_at bytes) (drop next placed))

-- what is to come on a lane
abbrev pub to_come_of : List ℕ → List Placed → Lane → ToCome
to_come_of bytes placed l = record { rest = rest_of bytes l; waiting = waiting_from l.pid bytes placed l.next }

-- what contracts see of lanes
abbrev pub all_shown : List ℕ → List Placed → List Lane → List ToCome
all_shown bytes placed lanes = map (to_come_of bytes placed) lanes

-- ---- the next section of a PID

-- how many sections stand before the first of a PID, where it has one
abbrev pub before_on : ℕ → List Placed → ℕ
before_on pid [] = 0
before_on pid (p ∷ ps) = if p.pid == pid then 0 else suc (before_on pid ps)

-- the place of the first section of a PID from a place on, or the number of sections
abbrev pub next_on : ℕ → List Placed → ℕ → ℕ
next_on pid placed from = from + before_on pid (drop from placed)

-- Each section is linked to the next one of its PID.
pub record AreLinked (placed : List Placed) (links : List ℕ) : Type 0 where
  pub many : length links ≡ length placed
  pub each : (i : ℕ) (p : Placed) → i < length placed → p ≡ get_or placed i p → slice_index links i ≡ next_on p.pid placed (i + 1)

-- ---- lanes

-- a lane is within so many bytes and these sections, and names the next section of its PID
pub record IsWithin (size : ℕ) (placed : List Placed) (l : Lane) : Type 0 where
  pub order : l.at ≤ l.end
  pub end : l.end ≤ size
  pub next : l.next ≤ length placed
  pub first : next_on l.pid placed l.next ≡ l.next

-- lanes for all PIDs, on which nothing has begun, each with the place of the section that begins next on it
pub record AreFresh (first : ℕ → ℕ) (lanes : List Lane) : Type 0 where
  pub many : length lanes ≡ 8192
  pub each : (pid : ℕ) (d : Lane) → pid < 8192 → get_or lanes pid d ≡ record { pid = pid; at = 0; end = 0; next = first pid }

-- There is room for a cycle of so many sections as its order names, and idle lanes for all PIDs.
pub record IsReady (room : Room) : Type 0 where
  pub empty : room.placed.items ≡ []
  pub capacity : length room.order.items ≤ vec_capacity room.placed
  pub links : length room.links.items ≡ length room.order.items
  pub lanes : AreFresh (λ (pid : ℕ). length room.order.items) room.lanes.items

-- something is to come on a lane of a cycle with so many sections
abbrev pub is_busy : ℕ → Lane → Bool
is_busy places l = not (l.at == l.end && l.next == places)

-- lanes for the PIDs from 0 on, and how many of them are busy
pub record AreWithin (bytes : List ℕ) (placed : List Placed) (links : List ℕ) (lanes : List Lane) (busy : ℕ) : Type 0 where
  pub sections : All (IsPlaced (length bytes)) placed
  pub linked : AreLinked placed links
  pub each : All (IsWithin (length bytes) placed) lanes
  pub own : (i : ℕ) (d : Lane) → i < length lanes → (get_or lanes i d).pid ≡ i
  pub count : busy ≡ count_by (is_busy (length placed)) lanes

-- ---- moves

-- a lane where a packet was told to go, or the rule
abbrev pub IsMoved : List ℕ → List Placed → Lane → Result ToCome Rule → Result Lane Rule → Type 0
IsMoved bytes placed old (Ok t) (Ok new) = (new.pid ≡ old.pid) × (to_come_of bytes placed new ≡ t) × IsWithin (length bytes) placed new
IsMoved bytes placed old (Ok t) (Err rule) = Prim.⊥
IsMoved bytes placed old (Err rule) (Ok new) = Prim.⊥
IsMoved bytes placed old (Err told) (Err rule) = rule ≡ told

-- The cycle goes where a packet of a PID was told to, or stays where the packet breaks a rule.
abbrev pub HasMoved : Result ToCome Rule → ℕ → List ToCome → List ToCome → Option Rule → Type 0
HasMoved (Ok t) pid old new None = (to_come_on new pid ≡ t) × ((q : ℕ) → (pid ≡ q → Prim.⊥) → to_come_on new q ≡ to_come_on old q)
HasMoved (Ok t) pid old new (Some rule) = Prim.⊥
HasMoved (Err told) pid old new None = Prim.⊥
HasMoved (Err told) pid old new (Some rule) = rule ≡ told

-- the bytes of a section where it is laid
abbrev pub laid_at : List ℕ → Placed → List ℕ
laid_at bytes p = take p.len (drop p.start bytes)

-- where sections that begin on a lane were told to go
abbrev pub HasBegun : List ℕ → List Placed → Lane → Result ToCome Rule → Option Lane → Type 0
HasBegun bytes placed old (Ok t) (Some new) = (new.pid ≡ old.pid) × (to_come_of bytes placed new ≡ t) × IsWithin (length bytes) placed new
HasBegun bytes placed old (Ok t) None = Prim.⊥
HasBegun bytes placed old (Err rule) (Some new) = Prim.⊥
HasBegun bytes placed old (Err told) None = told ≡ Bytes
