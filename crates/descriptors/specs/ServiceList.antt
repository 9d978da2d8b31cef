-- service_list_descriptor: the services of a stream and their types (EN 300 468, 6.2.35).
use Rattle.std.specs.Prelude.{◌≡◌, ℕ, ◌+◌, ◌*◌, ◌<◌, List, [], ◌∷◌, ◌++◌, Option, Some, None}
use Rattle.std.specs.Option.{option_map}
use Rattle.std.specs.List.{flat_map, AllByRecursion}
use Rattle.si_base.specs.Fields.{two}
use Rattle.descriptors.specs.declared.service_list.ServiceKind.{ServiceKind}
use Rattle.descriptors.specs.Descriptors.{descriptor}

-- ---- written

-- an entry: service_id 16, service_type 8
abbrev pub kind_bytes : ServiceKind → List ℕ
kind_bytes s = two s.service ++ s.kind ∷ []

abbrev pub service_list_body : List ServiceKind → List ℕ
service_list_body services = flat_map kind_bytes services

abbrev pub service_list : List ServiceKind → List ℕ
service_list services = descriptor 0x41 (service_list_body services)

-- ---- read

abbrev pub kind_of : ℕ → ℕ → ℕ → ServiceKind
kind_of high low kind = record { service = 256 * high + low; kind = kind }

-- the entries that a body is; there are none where it ends within one
abbrev pub service_list_in : List ℕ → Option (List ServiceKind)
service_list_in [] = Some []
service_list_in (high ∷ []) = None
service_list_in (high ∷ low ∷ []) = None
service_list_in (high ∷ low ∷ kind ∷ rest) = option_map (λ services. kind_of high low kind ∷ services) (service_list_in rest)

-- ---- laws

-- Reading written entries gives them back.
abbrev pub ServiceListReadsBack : Type 0
ServiceListReadsBack = (services : List ServiceKind) → AllByRecursion (λ s. s.service < 65536) services → service_list_in (service_list_body services) ≡ Some services
