-- service_descriptor: the type of a service, its provider and its name (EN 300 468, 6.2.33).
use Rattle.std.specs.Prelude.{◌≡◌, ℕ, List, [], ◌∷◌, ◌++◌, Option, Some, None}
use Rattle.std.specs.Option.{option_map, option_and_then}
use Rattle.guide_model.specs.declared.shown.Shown.{Shown}
use Rattle.guide_model.specs.Decoding.{decoded, shown_bytes, IsAsDecoded}
use Rattle.descriptors.specs.Descriptors.{descriptor}
use Rattle.descriptors.specs.Lengths.{with_length, split_length, behind_length}
use Rattle.descriptors.specs.declared.service.ServiceText.{ServiceText}

-- ---- written

-- service_type 8, service_provider_name_length 8, provider, service_name_length 8, name
abbrev pub service_fields : ℕ → List ℕ → List ℕ → List ℕ
service_fields kind provider name = kind ∷ with_length provider ++ with_length name

abbrev pub service_body : ServiceText → List ℕ
service_body s = service_fields s.kind (shown_bytes s.provider) (shown_bytes s.name)

abbrev pub service_descriptor : ServiceText → List ℕ
service_descriptor s = descriptor 0x48 (service_body s)

-- the same of a type and two texts
abbrev pub service_written : ℕ → Shown → Shown → List ℕ
service_written kind provider name = service_descriptor (record { kind = kind; provider = provider; name = name })

-- ---- read

abbrev pub service_of : ℕ → List ℕ → List ℕ → ServiceText
service_of kind provider name = record { kind = kind; provider = decoded provider; name = decoded name }

-- what a body says; nothing where a length runs past the end or bytes are left over
abbrev pub service_in : List ℕ → Option ServiceText
service_in [] = None
service_in (kind ∷ names) =
    option_and_then (λ parts. option_map (λ name. service_of kind parts.0 name) (behind_length parts.1)) (split_length names)

-- ---- laws

-- texts that are shown as their bytes are
pub record HasShownNames (s : ServiceText) : Type 0 where
  pub provider : IsAsDecoded s.provider
  pub name : IsAsDecoded s.name

-- Reading a written body gives its value back.
abbrev pub ServiceReadsBack : Type 0
ServiceReadsBack = (s : ServiceText) → HasShownNames s → service_in (service_body s) ≡ Some s
