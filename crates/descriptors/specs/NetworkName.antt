-- network_name_descriptor (EN 300 468, 6.2.27).
use Rattle.std.specs.Prelude.{◌≡◌, ℕ, List, Option, Some}
use Rattle.guide_model.specs.declared.shown.Shown.{Shown}
use Rattle.guide_model.specs.Decoding.{decoded, shown_bytes, IsAsDecoded}
use Rattle.descriptors.specs.Descriptors.{descriptor}

-- written: the body is the name
abbrev pub network_name : Shown → List ℕ
network_name name = descriptor 0x40 (shown_bytes name)

-- read: any body is what it is shown as
abbrev pub network_name_in : List ℕ → Shown
network_name_in body = decoded body

-- the same, as a reading that refuses nothing
abbrev pub name_read : List ℕ → Option Shown
name_read body = Some (network_name_in body)

-- Reading a written name gives it back.
abbrev pub NetworkNameReadsBack : Type 0
NetworkNameReadsBack = (name : Shown) → IsAsDecoded name → network_name_in (shown_bytes name) ≡ name
