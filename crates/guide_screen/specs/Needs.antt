-- What a receiver needs before it can show a guide (ISO/IEC 13818-1, 2.4.4; EN 300 468, 5.2).
use Rattle.std.specs.Prelude.{ℕ, ◌+◌, ◌-◌, min, Bool, List, [], ◌∷◌, ◌++◌, ◌==◌, if◌then◌else◌, nat_lt, Option, Some, None, is_some, map}
use Rattle.std.specs.List.{flat_map}
use Rattle.section_codec.specs.declared.table.Key.{Key}
use Rattle.section_codec.specs.Contents.{Content, numbers_from}
use Rattle.section_codec.specs.Keys.{eit_numbers_in}
use Rattle.table_bodies.specs.declared.pat.PatEntry.{PatEntry}
use Rattle.table_bodies.specs.declared.sdt.SdtService.{SdtService}
use Rattle.guide_screen.specs.declared.need.Need.{Need}
use Rattle.guide_screen.specs.declared.need.Need.TheVariants.{Pat, Nit, Sdt, Clock, Pmt, Present, Schedule}
use Rattle.guide_screen.specs.View.{View, sections_at, sdt_of, pmt_key, eit_key, table_at}
use Rattle.guide_screen.specs.Reading.{programs_in, services_in, value_in}

-- ---- programs and services

-- the programs of the PAT
abbrev pub programs_of : View → List PatEntry
programs_of V = programs_in (sections_at V.content V.pat)

-- by ascending service_id; a repeated one once, by its first entry
abbrev pub with_service : SdtService → List SdtService → List SdtService
with_service s [] = s ∷ []
with_service s (t ∷ ts) =
    if nat_lt s.service t.service then s ∷ t ∷ ts
    else if s.service == t.service then s ∷ ts
    else t ∷ with_service s ts

abbrev pub by_service : List SdtService → List SdtService
by_service [] = []
by_service (s ∷ ss) = with_service s (by_service ss)

-- the services of the SDT
abbrev pub services_of : View → List SdtService
services_of V = by_service (services_in (sections_at V.content (sdt_of V)))

-- ---- the tables of a schedule

-- last_table_id, which is the highest table_id of a schedule, by section 0 of its first table; at most this one, and 0 where none is there
abbrev pub last_beside : ℕ → Option (ℕ × ℕ) → ℕ
last_beside most None = 0
last_beside most (Some told) = min most told.1

abbrev pub last_table : ℕ → Content → ℕ
last_table most c = last_beside most (value_in eit_numbers_in 0 c)

-- the tables from a first one to a last one
abbrev pub tables_to : ℕ → ℕ → List ℕ
tables_to first last = numbers_from first (1 + last - first)

-- ---- wants

-- a need with the key that meets it
pub record Want : Type 0 where
  pub need : Need
  pub key : Key

-- the PMT of a program; program 0 has none
abbrev pub want_pmt : PatEntry → List Want
want_pmt e = if e.program == 0 then [] else record { need = Pmt e.pid e.program; key = pmt_key e.pid e.program } ∷ []

-- present and following events, where their flag tells that they are sent
abbrev pub want_present : Key → SdtService → List Want
want_present sdt s = if s.present then record { need = Present s.service; key = eit_key sdt 0x4E s.service } ∷ [] else []

-- a table of the schedule
abbrev pub want_table : Key → ℕ → ℕ → Want
want_table sdt service table = record { need = Schedule service table; key = eit_key sdt table service }

-- its first table, and those that it tells; where it was not completed it tells none
abbrev pub schedule_tables : (Key → Option Content) → Key → ℕ → List ℕ
schedule_tables content sdt service = 0x50 ∷ tables_to 0x51 (last_table 0x5F (table_at content sdt service 0x50))

-- the tables of the schedule, where its flag tells that they are sent
abbrev pub want_schedule : (Key → Option Content) → Key → SdtService → List Want
want_schedule content sdt s = if s.schedule then map (want_table sdt s.service) (schedule_tables content sdt s.service) else []

abbrev pub want_service : (Key → Option Content) → Key → SdtService → List Want
want_service content sdt s = want_present sdt s ++ want_schedule content sdt s

abbrev pub want_services : (Key → Option Content) → Option Key → List SdtService → List Want
want_services content None ss = []
want_services content (Some sdt) ss = flat_map (want_service content sdt) ss

abbrev pub wants : View → List Want
wants V = flat_map want_pmt (programs_of V) ++ want_services V.content (sdt_of V) (services_of V)

-- ---- needs

-- a need, where it is not met
abbrev pub unless : Need → Bool → List Need
unless need met = if met then [] else need ∷ []

abbrev pub unmet : (Key → Option Content) → Want → List Need
unmet content w = unless w.need (is_some (content w.key))

abbrev pub unmet_of : (Key → Option Content) → List Want → List Need
unmet_of content ws = flat_map (unmet content) ws

-- the needs that are not met, in order
abbrev pub needs : View → List Need
needs V =
    unless Pat (is_some V.pat) ++ unless Nit (is_some V.nit) ++ unless Sdt (is_some (sdt_of V))
    ++ unless Clock (is_some V.clock) ++ unmet_of V.content (wants V)
