-- What is true of the inside of a Packer.
use Rattle.std.specs.Prelude.{◌≡◌, ℕ, ◌<◌, ◌≤◌, Some, length}
use Rattle.ts_packets.specs.declared.packer.Packer.TheInside.{Inside}

pub record IsBegun (p : Inside) : Type 0 where
  pub pid : p.pid < 8192
  pub size : length p.payload ≡ 184
  pub used : p.used ≤ 184
  -- where a section begins in the packet, the pointer_field takes a byte, and the section has one
  pub pointed : (pointer : ℕ) → p.pointer ≡ Some pointer → (0 < p.used) × (p.used ≤ 183)
