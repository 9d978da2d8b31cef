-- The bytes of the sections that tell the time.
use Rattle.std.proofs.Common.{◌≡◌, ℕ, ◌+◌, ◌*◌, false, List, [], ◌∷◌, ◌==◌, length, sym, ap, ◌∙◌, true≢false}
use Rattle.guide_model.specs.declared.offset.Offset.{Offset}
use Rattle.time_tables.proofs.Offsets.{length-offsets_body}
use Rattle.air_model.specs.Air.{CanBeTold}
use Rattle.cycle_timing.specs.declared.listed.Listed.{Listed}
use Rattle.cycle_timing.specs.Listing.{time_listed, tot_listed}

pub tot_is : (offsets : List Offset) (l : Listed) → CanBeTold offsets → (length offsets == 0) ≡ false → l ≡ time_listed 0x73 (16 + 13 * length offsets) → l ∷ [] ≡ tot_listed offsets
tot_is [] l can some is = absurd (true≢false some)
tot_is (o ∷ offsets) l can some is = ap (λ (s : Listed). s ∷ []) is ∙ ap (λ (n : ℕ). time_listed 0x73 (16 + n) ∷ []) (sym (length-offsets_body (o ∷ offsets) can.each))
