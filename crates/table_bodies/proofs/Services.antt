-- Written services read back.
use Rattle.std.proofs.Common.{◌≡◌, ◌∙◌, ℕ, ◌+◌, ◌*◌, ◌/◌, ◌%◌, ◌≤◌, Bool, true, false, List, [], ◌∷◌, ◌++◌, length, drop, Option, Some, None, refl, sym, ap, ap₂, arith, le-leb, length-append}
use Rattle.std.specs.Prelude.{◌==◌, nat_le, is_some, option_map, option_and_then}
use Rattle.std.specs.Option.{unwrap_or}
use Rattle.std.specs.List.{flat_map}
use Rattle.std.proofs.lemmas.Bool.{cond-true}
use Rattle.std.proofs.lemmas.List.{map-id}
use Rattle.std.proofs.lemmas.List.Concat.{length-flat_map}
use Rattle.std.proofs.lemmas.List.Elements.{recursion_from_All}
use Rattle.si_lists.proofs.Lists.{all_map}
use Rattle.si_lists.proofs.Outcomes.{mapped}
use Rattle.si_base.specs.Fields.{two_at}
use Rattle.guide_model.specs.declared.shown.Shown.TheVariants.{Text}
use Rattle.guide_model.specs.Decoding.{shown_bytes}
use Rattle.guide_model.specs.Descriptors.{descriptors_size}
use Rattle.guide_model.specs.declared.descriptor.RawDesc.{RawDesc}
use Rattle.descriptors.specs.declared.service.ServiceText.{ServiceText}
use Rattle.descriptors.specs.Descriptors.{descriptors_bytes}
use Rattle.descriptors.specs.Service.{service_body, service_descriptor, service_in, ServiceReadsBack}
use Rattle.descriptors.proofs.Loops.{length-descriptors_bytes}
use Rattle.table_bodies.specs.Entries.{FitsEntry, value_in, entries_in}
use Rattle.descriptors.specs.First.{always}
use Rattle.table_bodies.proofs.FirstOnes.{first_front, without_front}
use Rattle.table_bodies.proofs.EntryWritten.{descs_back, parts_of, entries_back, entries_read}
use Rattle.table_bodies.proofs.Words.{word_back}
use Rattle.table_bodies.specs.declared.sdt.SdtService.{SdtService}
use Rattle.table_bodies.specs.declared.sdt.Sdt.{Sdt}
use Rattle.table_bodies.specs.Sdt.{flag_bit, text_of, service_entry, service_bytes, service_with, sdt_service_in, sdt_with, sdt_in, sdt_body, FitsService, HasServiceWidths, ServiceHasItsSize, SdtHasItsSize}
use Rattle.table_bodies.specs.Sdt.{SdtReadsBack, WrittenSdtsAreRead}

-- ---- sizes

length-service_descriptor : (s : SdtService) → length (service_descriptor (text_of s)) ≡ 5 + length (shown_bytes s.provider) + length (shown_bytes s.name)
length-service_descriptor s = omega (arith, length-append (shown_bytes s.provider) (length (shown_bytes s.name) ∷ shown_bytes s.name))

pub length-service_descriptors : (s : SdtService) → length (service_descriptor (text_of s) ++ descriptors_bytes s.descriptors)
    ≡ 5 + length (shown_bytes s.provider) + length (shown_bytes s.name) + descriptors_size s.descriptors
length-service_descriptors s =
    let both = length-append (service_descriptor (text_of s)) (descriptors_bytes s.descriptors) in
    omega (arith, both, length-service_descriptor s, length-descriptors_bytes s.descriptors)

pub service-has_its_size : ServiceHasItsSize
service-has_its_size s = omega (arith, length-service_descriptors s)

pub sdt-has_its_size : SdtHasItsSize
sdt-has_its_size sdt = omega (arith, length-flat_map service_bytes sdt.services)

-- ---- written, and read back

schedule_back : (schedule present : Bool) → ((0xFC + 2 * flag_bit schedule + flag_bit present) / 2 % 2 == 1) ≡ schedule
schedule_back true true = refl
schedule_back true false = refl
schedule_back false true = refl
schedule_back false false = refl

present_back : (schedule present : Bool) → ((0xFC + 2 * flag_bit schedule + flag_bit present) % 2 == 1) ≡ present
present_back true true = refl
present_back true false = refl
present_back false true = refl
present_back false false = refl

same_service : (n m : ℕ) (a b c d : Bool) (t : ServiceText) (ds : List RawDesc) → n ≡ m → a ≡ b → c ≡ d
    → (let x : SdtService = record { service = n; schedule = a; present = c; kind = t.kind; provider = t.provider; name = t.name; descriptors = ds } in
    let y : SdtService = record { service = m; schedule = b; present = d; kind = t.kind; provider = t.provider; name = t.name; descriptors = ds } in x ≡ y)
same_service n m a b c d t ds e f g =
    λ i. record { service = e i; schedule = f i; present = g i; kind = t.kind; provider = t.provider; name = t.name; descriptors = ds }

abbrev no_text : ServiceText
no_text = record { kind = 0; provider = Text []; name = Text [] }

abbrev text_desc : SdtService → RawDesc
text_desc s = record { tag = 0x48; body = service_body (text_of s) }

-- what is read of a service, by its descriptors
read_by : (s : SdtService)
    → value_in sdt_service_in (parts_of (service_entry s)) ≡ sdt_service_in (service_entry s).fields (text_desc s ∷ s.descriptors)
read_by s = ap (option_and_then (sdt_service_in (service_entry s).fields)) (descs_back (text_desc s ∷ s.descriptors))

service_fits : (s : SdtService) → FitsService s → FitsEntry 3 (service_entry s)
service_fits s fits = record {
  fields = refl;
  bits = omega arith;
  descriptors = omega (arith, fits.texts, fits.room, length-service_descriptors s);
}

abbrev IsBack : SdtService → Type 0
IsBack s = FitsEntry 3 (service_entry s) × (value_in sdt_service_in (parts_of (service_entry s)) ≡ Some s)

each_back : ServiceReadsBack → (s : SdtService) → HasServiceWidths s → IsBack s
each_back back s has = (
  service_fits s has.fits,
  let said = back (text_of s) has.shown in
      read_by s
      ∙ ap₂ (λ (text : ServiceText) (further : List RawDesc). Some (service_with (service_entry s).fields text further))
      (ap (λ read. unwrap_or read no_text) (first_front 0x48 service_in (text_desc s) s.descriptors (text_of s) said))
      (without_front 0x48 service_in always (text_desc s) s.descriptors (text_of s) said refl)
      ∙ ap (λ x. Some x) (same_service _ s.service _ s.schedule _ s.present (text_of s) s.descriptors (word_back s.service has.service)
      (schedule_back s.schedule s.present) (present_back s.schedule s.present)),
)

abbrev IsRead : SdtService → Type 0
IsRead s = FitsEntry 3 (service_entry s) × (is_some (value_in sdt_service_in (parts_of (service_entry s))) ≡ true)

each_read : (s : SdtService) → FitsService s → IsRead s
each_read s fits = (service_fits s fits, ap is_some (read_by s))

-- the entries after a head decide
pub sdt_test : (body : List ℕ) → 3 ≤ length body → is_some (entries_in 3 sdt_service_in (drop 3 body)) ≡ is_some (sdt_in body)
sdt_test body le =
    mapped (sdt_with (two_at 0 body)) (entries_in 3 sdt_service_in (drop 3 body))
    ∙ sym (ap is_some (cond-true (nat_le 3 (length body)) _ None (le-leb 3 (length body) le)))

-- a written body is read by its services
sdt_by : (sdt : Sdt) → sdt_in (sdt_body sdt) ≡ option_map (sdt_with (256 * (sdt.original / 256 % 256) + sdt.original % 256)) (entries_in 3 sdt_service_in (flat_map service_bytes sdt.services))
sdt_by sdt = cond-true (nat_le 3 (length (sdt_body sdt))) _ None (le-leb 3 (length (sdt_body sdt)) (omega arith))

pub sdt-reads_back : ServiceReadsBack → SdtReadsBack
sdt-reads_back back sdt fits =
    sdt_by sdt
    ∙ ap₂ (λ (original : ℕ) (services : Option (List SdtService)). option_map (sdt_with original) services) (word_back sdt.original fits.original)
    (entries_back 3 sdt_service_in service_entry (λ s. s) sdt.services (all_map HasServiceWidths IsBack (each_back back) sdt.services fits.services)
    ∙ ap (λ (ss : List SdtService). Some ss) (map-id sdt.services))

pub written_sdts : WrittenSdtsAreRead
written_sdts sdt fits =
    ap is_some (sdt_by sdt) ∙ sym (mapped _ (entries_in 3 sdt_service_in (flat_map service_bytes sdt.services)))
    ∙ entries_read 3 sdt_service_in service_entry sdt.services (all_map FitsService IsRead each_read sdt.services (recursion_from_All FitsService sdt.services fits))
