-- The body of a section of the service description table, both ways (EN 300 468, 5.2.3).
use Rattle.std.specs.Prelude.{◌≡◌, ℕ, ◌+◌, ◌*◌, ◌/◌, ◌%◌, ◌<◌, ◌≤◌, Bool, true, ◌==◌, nat_le, if◌then◌else◌, List, [], ◌∷◌, ◌++◌, length, drop, sum_by, slice_index}
use Rattle.std.specs.Prelude.{Option, Some, None, is_some, option_map}
use Rattle.std.specs.Option.{unwrap_or}
use Rattle.std.specs.List.{flat_map, All, AllByRecursion}
use Rattle.si_base.specs.Fields.{two, two_at}
use Rattle.guide_model.specs.Decoding.{shown_bytes}
use Rattle.guide_model.specs.declared.shown.Shown.TheVariants.{Text}
use Rattle.guide_model.specs.declared.descriptor.RawDesc.{RawDesc}
use Rattle.guide_model.specs.Descriptors.{FitsDescriptor, descriptors_size}
use Rattle.descriptors.specs.declared.service.ServiceText.{ServiceText}
use Rattle.descriptors.specs.Descriptors.{descriptors_bytes}
use Rattle.descriptors.specs.Service.{service_descriptor, service_in, HasShownNames}
use Rattle.table_bodies.specs.Entries.{TableEntry, entry_bytes, Reads, entries_in}
use Rattle.descriptors.specs.First.{first_in, without_first, always}
use Rattle.table_bodies.specs.declared.sdt.SdtService.{SdtService}
use Rattle.table_bodies.specs.declared.sdt.Sdt.{Sdt}

-- ---- written

abbrev pub flag_bit : Bool → ℕ
flag_bit flag = if flag then 1 else 0

-- the type of a service, its provider and its name
abbrev pub text_of : SdtService → ServiceText
text_of s = record { kind = s.kind; provider = s.provider; name = s.name }

-- service_id 16, reserved 6, all 1, EIT_schedule_flag 1, EIT_present_following_flag 1; running_status 3, which is 4, running,
-- and free_CA_mode 1, which is 0; its service_descriptor, and its further descriptors
abbrev pub service_entry : SdtService → TableEntry
service_entry s = record {
  fields = two s.service ++ (0xFC + 2 * flag_bit s.schedule + flag_bit s.present) ∷ [];
  bits = 8;
  descriptors = service_descriptor (text_of s) ++ descriptors_bytes s.descriptors;
}

abbrev pub service_bytes : SdtService → List ℕ
service_bytes s = entry_bytes (service_entry s)

-- original_network_id 16, reserved 8, all 1, and the services
abbrev pub sdt_body : Sdt → List ℕ
sdt_body sdt = two sdt.original ++ 0xFF ∷ flat_map service_bytes sdt.services

-- the texts and each body fit the length of their descriptor, and the descriptors, of which that of the texts has at most 257 bytes,
-- their length of 12 bits
pub record FitsService (s : SdtService) : Type 0 where
  pub texts : length (shown_bytes s.provider) + length (shown_bytes s.name) ≤ 252
  pub bodies : All FitsDescriptor s.descriptors
  pub room : descriptors_size s.descriptors ≤ 3838

-- ---- read

-- the first service_descriptor that fits; without one the type is 0 and both texts are empty
abbrev pub text_in : List RawDesc → ServiceText
text_in descs = unwrap_or (first_in 0x48 service_in descs) (record { kind = 0; provider = Text []; name = Text [] })

-- the further descriptors of a service
abbrev pub further_of_service : List RawDesc → List RawDesc
further_of_service descs = without_first 0x48 service_in always descs

-- a service by its fields, its texts and its further descriptors
abbrev pub service_with : List ℕ → ServiceText → List RawDesc → SdtService
service_with fields text further = record {
  service = two_at 0 fields;
  schedule = slice_index fields 2 / 2 % 2 == 1;
  present = slice_index fields 2 % 2 == 1;
  kind = text.kind;
  provider = text.provider;
  name = text.name;
  descriptors = further;
}

-- what an entry says of a service
abbrev pub service_of : List ℕ → List RawDesc → SdtService
service_of fields descs = service_with fields (text_in descs) (further_of_service descs)

abbrev pub sdt_service_in : Reads SdtService
sdt_service_in fields descs = Some (service_of fields descs)

abbrev pub sdt_with : ℕ → List SdtService → Sdt
sdt_with original services = record { original = original; services = services }

-- original_network_id, a reserved byte, and entries of services, whatever their reserved bits, running_status and free_CA_mode; none
-- where the body is no such entries
abbrev pub sdt_in : List ℕ → Option Sdt
sdt_in body = if nat_le 3 (length body) then option_map (sdt_with (two_at 0 body)) (entries_in 3 sdt_service_in (drop 3 body)) else None

-- whether bytes are such a body
abbrev pub is_sdt_body : List ℕ → Bool
is_sdt_body body = is_some (sdt_in body)

-- ---- laws

-- fields that fit, and texts that are shown as their bytes are
pub record HasServiceWidths (s : SdtService) : Type 0 where
  pub service : s.service < 65536
  pub fits : FitsService s
  pub shown : HasShownNames (text_of s)

pub record FitsSdt (sdt : Sdt) : Type 0 where
  pub original : sdt.original < 65536
  pub services : AllByRecursion HasServiceWidths sdt.services

-- Reading a written body gives its value back.
abbrev pub SdtReadsBack : Type 0
SdtReadsBack = (sdt : Sdt) → FitsSdt sdt → sdt_in (sdt_body sdt) ≡ Some sdt

-- Each body that can be written is read.
abbrev pub WrittenSdtsAreRead : Type 0
WrittenSdtsAreRead = (sdt : Sdt) → All FitsService sdt.services → is_sdt_body (sdt_body sdt) ≡ true

-- An entry has the bytes of its texts, of its further descriptors, and 10 more; a body has its entries, and 3 more.
abbrev pub ServiceHasItsSize : Type 0
ServiceHasItsSize =
    (s : SdtService)
    → length (service_bytes s) ≡ 10 + length (shown_bytes s.provider) + length (shown_bytes s.name) + descriptors_size s.descriptors

abbrev pub SdtHasItsSize : Type 0
SdtHasItsSize = (sdt : Sdt) → length (sdt_body sdt) ≡ 3 + sum_by (λ s. length (service_bytes s)) sdt.services
