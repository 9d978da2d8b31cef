-- A written time is a section, and a body of other than 5 bytes is no time.
use Rattle.std.proofs.Common.{◌≡◌, ℕ, List, [], ◌∷◌, None, length, refl, arith, lit<}
use Rattle.si_time.specs.Moments.{moment_bcd}
use Rattle.si_time.specs.Readings.{moment_from_bcd}
use Rattle.section_codec.proofs.ReadBack.{section_in-short_bytes}
use Rattle.std.specs.Prelude.{Ok}
use Rattle.section_codec.specs.Section.{section_in}
use Rattle.section_codec.specs.declared.section.Section.TheVariants.{Short}
use Rattle.time_tables.specs.Tdt.{tdt_section, tdt_in, TdtIsASection}

pub five_bytes : (at : ℕ) → length (moment_bcd at) ≡ 5
unfolding moment_bcd
five_bytes at = refl

-- at whatever moment
pub tdt-is_a_section_any : (at : ℕ) → section_in (tdt_section at) ≡ Ok (Short 0x70 (moment_bcd at))
tdt-is_a_section_any at = section_in-short_bytes 0x70 (moment_bcd at) (record { fits = lit< tt; form = refl; no_crc = refl; within = omega (arith, five_bytes at) })

pub tdt-is_a_section : TdtIsASection
tdt-is_a_section at lt = tdt-is_a_section_any at

pub no_time : (body : List ℕ) → (length body ≡ 5 → ⊥) → None ≡ tdt_in body
unfolding moment_from_bcd
no_time [] other = refl
no_time (a ∷ []) other = refl
no_time (a ∷ b ∷ []) other = refl
no_time (a ∷ b ∷ c ∷ []) other = refl
no_time (a ∷ b ∷ c ∷ d ∷ []) other = refl
no_time (a ∷ b ∷ c ∷ d ∷ e ∷ []) other = absurd (other refl)
no_time (a ∷ b ∷ c ∷ d ∷ e ∷ f ∷ body) other = refl
