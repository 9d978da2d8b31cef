-- What the sections that tell the time take.
use Rattle.std.proofs.Common.{◌≡◌, ℕ, ◌+◌, ◌*◌, false, ◌==◌, List, [], ◌∷◌, length, sym, ap, arith, true≢false}
use Rattle.guide_model.specs.declared.offset.Offset.{Offset}
use Rattle.section_codec.specs.declared.table.Tier3.{Tier3}
use Rattle.section_codec.specs.declared.table.Tier3.TheVariants.{Fast}
use Rattle.ts_packets.specs.Packets.{packets_of}
use Rattle.time_tables.specs.Tot.{tot_section}
use Rattle.time_tables.proofs.Offsets.{length-offsets_body}
use Rattle.time_tables.proofs.Loops.{length-tot_section}
use Rattle.air_model.specs.Air.{CanBeTold}
use Rattle.air_model.specs.Laying.{tot_size}
use Rattle.air_model.specs.Planning.{tot_weight}

pub size_is : (offsets : List Offset) → CanBeTold offsets → (length offsets == 0) ≡ false → 16 + 13 * length offsets ≡ tot_size offsets
size_is [] can some = absurd (true≢false some)
size_is (o ∷ offsets) can some = omega (arith, length-offsets_body (o ∷ offsets) can.each)

pub size_sent : (at : ℕ) (offsets : List Offset) → (length offsets == 0) ≡ false → length (tot_section at offsets) ≡ tot_size offsets
size_sent at [] some = absurd (true≢false some)
size_sent at (o ∷ offsets) some = length-tot_section at (o ∷ offsets)

pub weight_is : (offsets : List Offset) → CanBeTold offsets → (length offsets == 0) ≡ false
    → ◌≡◌ {A = List (Tier3 × ℕ)} ((Fast, packets_of (16 + 13 * length offsets)) ∷ []) (tot_weight offsets)
weight_is [] can some = absurd (true≢false some)
weight_is (o ∷ offsets) can some = ap (λ (n : ℕ). (Fast, packets_of (16 + n)) ∷ []) (sym (length-offsets_body (o ∷ offsets) can.each))
