-- What the order of a cycle is planned of: the tier of each section, and how many packets it has.
use Rattle.std.specs.Prelude.{ℕ, ◌+◌, List, [], ◌∷◌, ◌++◌, length, map, flat_map}
use Rattle.ts_packets.specs.Packets.{packets_of}
use Rattle.guide_model.specs.declared.offset.Offset.{Offset}
use Rattle.time_tables.specs.LocalOffsets.{offsets_body}
use Rattle.section_codec.specs.declared.table.NumberedBody.{NumberedBody}
use Rattle.section_codec.specs.declared.table.SubTable.{SubTable}
use Rattle.section_codec.specs.declared.table.Tier3.{Tier3}
use Rattle.section_codec.specs.declared.table.Tier3.TheVariants.{Fast}
use Rattle.air_model.specs.Air.{before_tdt, behind_tdt}

-- of the sections of a sub-table, whatever their version: a section has 12 bytes more than its body
abbrev pub weights_in : SubTable → List (Tier3 × ℕ)
weights_in t = map (λ (s : NumberedBody). (t.tier, packets_of (12 + length s.body))) t.sections

abbrev pub weights_of : List SubTable → List (Tier3 × ℕ)
weights_of ts = flat_map weights_in ts

-- of the sections that tell the time: the TDT has one packet, and the TOT 16 bytes beside its offsets
abbrev pub tot_weight : List Offset → List (Tier3 × ℕ)
tot_weight [] = []
tot_weight (o ∷ offsets) = (Fast, packets_of (16 + length (offsets_body (o ∷ offsets)))) ∷ []

abbrev pub time_weights : List Offset → List (Tier3 × ℕ)
time_weights offsets = (Fast, 1) ∷ tot_weight offsets

-- of the sections of a cycle, each once
abbrev pub weights_under : List SubTable → List Offset → List (Tier3 × ℕ)
weights_under ts offsets = weights_of (before_tdt ts) ++ (time_weights offsets ++ weights_of (behind_tdt ts))
