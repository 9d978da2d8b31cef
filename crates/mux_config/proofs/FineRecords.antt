-- Records that were taken: each is fine, and they fit together.
use Rattle.std.specs.Prelude.{◌≡◌, ◌≢◌, ℕ, ◌≤◌, false, List, [], length, map, Option, Some, None}
use Rattle.std.specs.List.{AllByRecursion, list_any}
use Rattle.guide_model.specs.declared.stream.Component.{Component}
use Rattle.guide_model.specs.Descriptors.{AreSoundDescriptors}
use Rattle.mux_model.specs.declared.mux.MuxService.{MuxService}
use Rattle.mux_model.specs.declared.mux.RemoteService.{RemoteService}
use Rattle.mux_model.specs.declared.mux.Other.{Other}
use Rattle.mux_model.specs.Order.{DoCome, all_placed}
use Rattle.mux_model.specs.Rooms.{made_of_component}
use Rattle.mux_model.specs.Sound.{AreDifferent, DoAscend, AreOfRegions, comes_before, has_lower_id, has_stream_ids, pmt_pids}
use Rattle.mux_lines.specs.declared.record.Place.TheVariants.{InComponent}
use Rattle.mux_lines.specs.declared.record.Record.{Record}
use Rattle.mux_lines.specs.declared.record.Record.TheVariants.{Elsewhere}
use Rattle.mux_lines.specs.declared.record.Numbered.{Numbered}
use Rattle.mux_config.specs.Taken.{other_taken, own_taken, program_taken, service_taken}
use Rattle.mux_config.specs.Descriptions.{all_of, descriptors_at, has_any_id, has_part, local_in, other_in, part_in, remote_in, remote_of, service_in, sorted, stream_in}
use Rattle.mux_config.proofs.Tallies.{tally}
use Rattle.mux_lines.specs.Fine.{IsFine}

-- ---- records that were taken

abbrev pub in_order : List Numbered → List MuxService
in_order rs = sorted (all_of service_in rs)

abbrev pub parts_in : ℕ → List Numbered → List Component
parts_in id rs = all_of (part_in id) rs

-- the service has no component's PID as its PMT's
abbrev pub IsApart : List Component → MuxService → Type 0
IsApart cs s = AllByRecursion (λ (c : Component). s.pmt_pid ≢ c.pid) cs

abbrev pub others_in : List Numbered → List Other
others_in rs = all_placed comes_before (all_of other_in rs) []

abbrev pub remotes_in : ℕ → ℕ → List Numbered → List RemoteService
remotes_in s o rs = all_placed has_lower_id (all_of (remote_of s o) rs) []

-- no other stream has the ids of this one
abbrev pub IsAlone : List Other → Option (ℕ × ℕ) → Type 0
IsAlone others None = Unit {0}
IsAlone others (Some ids) = AllByRecursion (λ (o : Other). has_stream_ids ids.0 ids.1 o ≡ false) others

pub record AreFineOthers (rs : List Numbered) : Type 0 where
  pub few : length (all_of other_in rs) ≤ 15
  pub ascend : DoCome comes_before (others_in rs)
  pub few_remotes : length (all_of remote_in rs) ≤ 64
  pub remotes_ascend : (s o : ℕ) → DoCome has_lower_id (remotes_in s o rs)
  pub alone : AllByRecursion (λ (r : Numbered). IsAlone (others_in rs) (stream_in r.says)) rs
  -- no two records have one service_id
  pub ids : (id : ℕ) → tally (λ (r : Numbered). has_any_id id r.says) rs ≤ 1

-- a section of the NIT has room for the entry of this other stream
abbrev pub HasOtherRoom : List Numbered → Record → Type 0
HasOtherRoom rs (Elsewhere s o cable) = other_taken s o rs ≤ 1012
HasOtherRoom rs r = Unit {0}

-- the rooms
pub record AreInRooms (rs : List Numbered) : Type 0 where
  pub own : own_taken rs ≤ 1012
  pub others : AllByRecursion (λ (r : Numbered). HasOtherRoom rs r.says) rs
  pub program : (id : ℕ) → program_taken id rs ≤ 1012
  pub service : (id : ℕ) → service_taken id rs ≤ 799

-- a component's further descriptors may stand beside its language
abbrev pub IsSpoken : List Numbered → ℕ → Component → Type 0
IsSpoken rs id c = AreSoundDescriptors (made_of_component c.language) (descriptors_at (InComponent id c.pid) rs)

pub record AreFineFurther (rs : List Numbered) : Type 0 where
  -- those of a component stand after it
  pub homeless : (id pid : ℕ) → list_any (λ (r : Numbered). has_part id pid r.says) rs ≡ false → descriptors_at (InComponent id pid) rs ≡ []
  pub spoken : (id : ℕ) → AllByRecursion (IsSpoken rs id) (parts_in id rs)

pub record AreFine (rs : List Numbered) : Type 0 where
  pub each : AllByRecursion (λ (r : Numbered). IsFine r.says) rs
  pub count : length (in_order rs) ≤ 64
  pub ascend : DoAscend (in_order rs)
  pub pmts : AreDifferent (pmt_pids (in_order rs))
  pub few : (id : ℕ) → length (parts_in id rs) ≤ 16
  pub once : (id : ℕ) → AreDifferent (map (λ (c : Component). c.pid) (parts_in id rs))
  pub apart : (id : ℕ) → AllByRecursion (IsApart (parts_in id rs)) (in_order rs)
  pub few_offsets : length (all_of local_in rs) ≤ 16
  pub regions : AreOfRegions (all_of local_in rs)
  pub others : AreFineOthers rs

-- they are fine, within their rooms, and their further descriptors are
pub record AreTaken (rs : List Numbered) : Type 0 where
  pub fine : AreFine rs
  pub rooms : AreInRooms rs
  pub further : AreFineFurther rs
