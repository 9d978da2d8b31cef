-- The sections that counted last, beside the collector that counted them.
use Rattle.std.specs.Prelude.{◌≡◌, ◌≤◌, ◌<◌, ℕ}
use Rattle.std.specs.List.{All}
use Rattle.std.specs.HashMap.{values}
use Rattle.section_codec.specs.Section.{long_body}
use Rattle.sub_collect.specs.Runs.{counted}
use Rattle.sub_collect.specs.Collectors.{KeysHeard, IsRepeated}
use Rattle.guide_receiver.specs.declared.known_section.KnownSection.{KnownSection}
use Rattle.guide_receiver.specs.declared.known.KnownSections.{KnownSections}

-- A section was seen to be held in no round behind this one, and if in this one, then the collector holds it.
pub record IsKnown (collector : KeysHeard) (round : ℕ) (known : KnownSection) : Type 0 where
  pub before : known.round ≤ round
  pub held : known.round ≡ round → IsRepeated collector (counted known.key known.header (long_body known.raw.bytes))

-- So it is with each of these sections, and no round has the number 0.
pub record AreKnown (collector : KeysHeard) (known : KnownSections) : Type 0 where
  pub begun : 0 < known.round
  pub each : All (IsKnown collector known.round) (values known.sections)
