-- Receivers take the sub-tables of a publication as they are meant.
use Rattle.std.proofs.Common.{◌≡◌, ℕ, ◌<◌, ◌≤◌, Bool, true, false, List, [], ◌∷◌, length, Option, Some, None, refl, sym, ap, ap₂, ◌∙◌, arith, le-leb}
use Rattle.std.specs.Prelude.{if◌then◌else◌, is_some, option_and_then}
use Rattle.std.specs.List.{AllByRecursion}
use Rattle.std.proofs.lemmas.Bool.{false≢true}
use Rattle.std.proofs.lemmas.Bool.Decides.{nat_tests}
use Rattle.std.proofs.lemmas.List.{length-map}
use Rattle.si_lists.proofs.Lists.{all_map, all_two}
use Rattle.si_base.specs.Fields.{two_at}
use Rattle.guide_model.specs.declared.guide.Guide.{Guide}
use Rattle.guide_model.specs.declared.guide.ServiceGuide.{ServiceGuide}
use Rattle.mux_model.specs.declared.mux.MuxService.{MuxService}
use Rattle.mux_model.specs.declared.mux.RemoteService.{RemoteService}
use Rattle.mux_model.specs.declared.mux.Other.{Other}
use Rattle.mux_model.specs.declared.mux.Mux.{Mux}
use Rattle.mux_model.specs.Sound.{IsSound, IsSoundService, IsSoundRemote, IsSoundOther, HasStreamIds}
use Rattle.guide_limits.specs.Events.{midnight}
use Rattle.guide_limits.specs.Limits.{IsServiceWithin}
use Rattle.section_codec.specs.declared.section.LongHeader.{LongHeader}
use Rattle.section_codec.specs.declared.table.Key.{Key}
use Rattle.section_codec.specs.declared.table.NumberedBody.{NumberedBody}
use Rattle.section_codec.specs.declared.table.SubTable.{SubTable}
use Rattle.section_codec.specs.declared.table.Tier3.{Tier3}
use Rattle.section_codec.specs.declared.table.Tier3.TheVariants.{Fast, Near}
use Rattle.section_codec.specs.Tables.{is_eit, is_pat, is_pmt, is_nit, is_sdt, is_events, naming_of}
use Rattle.section_codec.specs.Contents.{last_number}
use Rattle.section_codec.specs.Keys.{named_by, key_in}
use Rattle.section_codec.specs.declared.table.Naming.{Naming}
use Rattle.section_codec.specs.declared.table.Naming.TheVariants.{Network, Stream}
use Rattle.section_codec.proofs.NamingFacts.{pmts_named}
use Rattle.section_codec.specs.Segments.{segment_last_in}
use Rattle.section_codec.proofs.ContentFacts.{last_number-from}
use Rattle.sub_collect.proofs.Whole.{from_zero}
use Rattle.sub_collect.proofs.Segmented.{by_segments}
use Rattle.table_bodies.specs.declared.eit.Eit.{Eit}
use Rattle.table_bodies.specs.Eit.{IsTyped, eit_in}
use Rattle.publication.specs.Eit.{Bearer, own, bearer_key}
use Rattle.publication.specs.Present.{present_of}
use Rattle.publication.specs.Schedule.{schedule_of}
use Rattle.publication.specs.EitLaws.{AreSmallEntries, AreEit, Names}
use Rattle.publication.proofs.EntryFacts.{typed_small}
use Rattle.publication.proofs.EitFacts.{present_fit, schedule_fit, events_name, events_read}
use Rattle.table_bodies.specs.Pat.{pat_body, is_pat_body}
use Rattle.table_bodies.specs.Pmt.{pmt_body, is_pmt_body}
use Rattle.table_bodies.proofs.Programs.{written_pats, pmt-reads_back}
use Rattle.table_bodies.specs.Nit.{is_nit_body}
use Rattle.table_bodies.specs.Sdt.{is_sdt_body}
use Rattle.publication.specs.Sections.{single_table}
use Rattle.publication.specs.Programs.{pat_of, pat_key, pat_table, pmt_of, pmt_key, pmt_table}
use Rattle.publication.specs.Network.{nit_sections, nit_key, nit_table}
use Rattle.publication.specs.Parts.{own_guide, remote_guide}
use Rattle.publication.specs.Sdt.{entry_of, own_entries, remote_entries, remote_entry, sdt_sections}
use Rattle.publication.specs.Tables.{bearer_of}
use Rattle.publication.specs.Laws.{HasPartsOf, IsReadEit, IsSdtBody, AreSdt, TellsKey, TellsItself, PublicationsTellThemselves}
use Rattle.publication.proofs.PartFacts.{of_own, of_remote, others_have, by_ids, by_remote_ids}
use Rattle.publication.proofs.SdtFacts.{own_small, remote_small, sdt_fit}
use Rattle.publication.proofs.ProgramFacts.{pmt_fits}
use Rattle.publication.proofs.NetworkFacts.{IsNitSection, nit_fit, services_few}
use Rattle.publication.proofs.FitFacts.{each_pmt, each_sub_table}

-- ---- keys

abbrev key_of_fields : ℕ → ℕ → ℕ → ℕ → ℕ → Key
key_of_fields pid table ext stream network = record { pid = pid; table = table; ext = ext; stream = stream; network = network }

-- the key by what names the sub-tables of the table
abbrev key_named : ℕ → ℕ → ℕ → List ℕ → Option Naming → Option Key
key_named pid table ext body = option_and_then (λ naming. named_by naming (key_of_fields pid table ext) body)

-- the key by the fields of a header that it goes by
abbrev key_by : ℕ → ℕ → ℕ → List ℕ → Option Key
key_by pid table ext body = key_named pid table ext body (naming_of pid table)

key_by_fields : (pid : ℕ) (header : LongHeader) (table ext : ℕ) (body : List ℕ) → header.table ≡ table → header.ext ≡ ext → key_in pid header body ≡ key_by pid table ext body
key_by_fields pid header table ext body is_table is_ext = ap₂ (λ (t e : ℕ). key_by pid t e body) is_table is_ext

-- ---- tables of one section

never : {A : Type 0} {b : Bool} → b ≡ false → b ≡ true → A
never is e = absurd (false≢true (sym is ∙ e))

single_tells : (key : Key) (body : List ℕ) → key.table < 256 → key.ext < 65536 → is_eit key.table ≡ false
    → TellsKey key (record { number = 0; body = body })
    → (is_pat key.pid key.table ≡ true → is_pat_body body ≡ true) → (is_pmt key.pid key.table ≡ true → is_pmt_body body ≡ true)
    → (is_nit key.pid key.table ≡ true → is_nit_body body ≡ true) → is_sdt key.pid key.table ≡ false → TellsItself (single_table key body)
single_tells key body table ext other keyed pat pmt nit sdt = record {
  table = table;
  ext = ext;
  last = omega arith;
  numbered = from_zero key (single_table key body).sections other (omega arith) refl;
  keyed = (keyed, tt);
  read = never other;
  pat = λ e. (pat e, tt);
  pmt = λ e. (pmt e, tt);
  nit = λ e. (nit e, tt);
  sdt = never sdt;
}

pat_tells : (mux : Mux) → mux.stream < 65536 → TellsItself (pat_table mux)
pat_tells mux stream =
    let body = pat_body (pat_of mux) in
    single_tells (pat_key mux) body (omega arith) stream refl
    (λ header table ext. key_by_fields 0x0000 header 0x00 mux.stream body table ext)
    (λ e. written_pats (pat_of mux)) (never refl) (never refl) refl

pmt_tells : (s : MuxService) → IsSoundService s → TellsItself (pmt_table s)
pmt_tells s sound =
    let body = pmt_body (pmt_of s) in
    let pid = s.pmt_pid in
    let above : 0x20 ≤ pid = sound.pmt_pid.0 in
    let below : pid ≤ 8190 = sound.pmt_pid.1 in
    let no_pat : is_pat pid 0x02 ≡ false = grind (arith, nat_tests) in
    let no_nit : is_nit pid 0x02 ≡ false = grind (arith, nat_tests) in
    let no_sdt : is_sdt pid 0x02 ≡ false = grind (arith, nat_tests) in
    single_tells (pmt_key s) body (omega arith) (omega (arith, sound.service.1)) refl
    (λ header table ext.
    key_by_fields pid header 0x02 s.service body table ext
    ∙ ap (key_named pid 0x02 s.service body) (pmts_named pid above below))
    (never no_pat) (λ e. ap is_some (pmt-reads_back (pmt_of s) (pmt_fits s sound))) (never no_nit) no_sdt

-- ---- the NIT

nit_keyed : (network : ℕ) (s : NumberedBody) → TellsKey (key_of_fields 0x0010 0x40 network 0 0) s
nit_keyed network s header table ext = key_by_fields 0x0010 header 0x40 network s.body table ext

nit_tells : (mux : Mux) → IsSound mux → mux.network < 65536 → TellsItself (nit_table mux)
nit_tells mux sound network =
    let ss = nit_sections mux in
    let are = nit_fit mux sound in
    record {
      table = omega arith;
      ext = network;
      last = omega (arith, last_number-from 0 ss are.numbers are.some, are.few);
      numbered = from_zero (nit_key mux) ss refl are.some are.numbers;
      keyed = all_map IsNitSection (TellsKey (nit_key mux)) (λ s is. nit_keyed mux.network s) ss are.bodies;
      read = never refl;
      pat = never refl;
      pmt = never refl;
      nit = λ e. all_map IsNitSection (λ (s : NumberedBody). is_nit_body s.body ≡ true) (λ s is. is.body) ss are.bodies;
      sdt = never refl;
    }

-- ---- the SDT

-- the key of an SDT, by its table_id and the ids of its stream
abbrev sdt_named : ℕ → ℕ → ℕ → Key
sdt_named table stream original = key_of_fields 0x0011 table stream 0 original

sdt_keyed : (table stream original : ℕ) → naming_of 0x0011 table ≡ Some Network → (s : NumberedBody) → IsSdtBody original s → TellsKey (sdt_named table stream original) s
sdt_keyed table stream original named s is header is_table is_ext =
    key_by_fields 0x0011 header table stream s.body is_table is_ext
    ∙ ap (key_named 0x0011 table stream s.body) named
    ∙ ap (λ (b : Bool). if b then Some (sdt_named table stream (two_at 0 s.body)) else None) (le-leb 2 (length s.body) is.least)
    ∙ ap (λ (n : ℕ). Some (sdt_named table stream n)) is.network

sdt_tells : (table stream original : ℕ) (tier : Tier3) (sections : List NumberedBody) → naming_of 0x0011 table ≡ Some Network → table < 0x4E → is_eit table ≡ false → stream < 65536 → AreSdt original sections
    → TellsItself (record { key = sdt_named table stream original; tier = tier; sections = sections })
sdt_tells table stream original tier ss named few other id are =
    record {
      table = omega (arith, few);
      ext = id;
      last = omega (arith, last_number-from 0 ss are.numbers are.some, are.few);
      numbered = from_zero (sdt_named table stream original) ss other are.some are.numbers;
      keyed = all_map (IsSdtBody original) (TellsKey (sdt_named table stream original)) (sdt_keyed table stream original named) ss are.bodies;
      read = never other;
      pat = never refl;
      pmt = never refl;
      nit = never refl;
      sdt = λ e. all_map (IsSdtBody original) (λ (s : NumberedBody). is_sdt_body s.body ≡ true) (λ s is. is.body) ss are.bodies;
    }

-- ---- event information

abbrev eit_table : Bearer → ℕ → ℕ → Tier3 → List NumberedBody → SubTable
eit_table b table service tier sections = record { key = bearer_key b table service; tier = tier; sections = sections }

eit_keyed : (bearer : Bearer) (table service : ℕ) → is_events 0x0012 table ≡ true → (s : NumberedBody) → 6 ≤ length s.body → Names bearer s.body → TellsKey (bearer_key bearer table service) s
eit_keyed bearer table service events s least names header is_table is_ext =
    let key = key_of_fields 0x0012 table service in
    key_by_fields 0x0012 header table service s.body is_table is_ext
    ∙ ap (λ (b : Bool). key_named 0x0012 table service s.body (if b then Some Stream else None)) events
    ∙ ap (λ (b : Bool). if b then Some (key (two_at 0 s.body) (two_at 2 s.body)) else None) (le-leb 4 (length s.body) (omega (arith, least)))
    ∙ ap (λ (n : ℕ). Some (key n (two_at 2 s.body))) names.0 ∙ ap (λ (n : ℕ). Some (key bearer.stream n)) names.1

eit_tells : (bearer : Bearer) (table service : ℕ) (tier : Tier3) (sections : List NumberedBody) → is_events 0x0012 table ≡ true → is_eit table ≡ true → table < 256 → service < 65536
    → AreEit sections → AllByRecursion (λ (s : NumberedBody). Names bearer s.body) sections → AllByRecursion (λ (s : NumberedBody). (eit : Eit) × (eit_in s.body ≡ Some eit)) sections
    → TellsItself (eit_table bearer table service tier sections)
eit_tells bearer table service tier sections events eit few id are names read =
    let sized = λ (s : NumberedBody). (6 ≤ length s.body) × (length s.body ≤ 4084) in
    let named = λ (s : NumberedBody). Names bearer s.body in
    let told = λ (s : NumberedBody). (n : ℕ) × (segment_last_in s.number s.body ≡ Some n) × (n ≤ last_number sections) in
    let is_read = λ (s : NumberedBody). (e : Eit) × (eit_in s.body ≡ Some e) in
    record {
      table = few;
      ext = id;
      last = are.below;
      numbered = by_segments (bearer_key bearer table service) sections eit are.by_segments;
      keyed = all_two sized named (TellsKey (bearer_key bearer table service)) (λ s size name. eit_keyed bearer table service events s size.0 name) sections are.bodies names;
      read = λ e. all_two is_read told (IsReadEit (last_number sections)) (λ s r t. record { body = ap is_some r.1; told = t }) sections read are.told;
      pat = never refl;
      pmt = never refl;
      nit = never refl;
      sdt = never refl;
    }

-- ---- the sub-tables of a publication

id_fits : (s : MuxService) → IsSoundService s → s.service < 65536
id_fits s sound = omega (arith, sound.service.1)

remote_id_fits : (s : RemoteService) → IsSoundRemote s → s.service < 65536
remote_id_fits s sound = omega (arith, sound.service.1)

-- what is asked of a service
record IsTold (s : ServiceGuide) : Type 0 where
  within : IsServiceWithin s
  small : AreSmallEntries s.events
  typed : AllByRecursion IsTyped s.events
  id : s.service < 65536

services_told : (ss : List ServiceGuide) → AllByRecursion IsServiceWithin ss → AllByRecursion (λ (s : ServiceGuide). AreSmallEntries s.events) ss → AllByRecursion (λ (s : ServiceGuide). AllByRecursion IsTyped s.events) ss
    → AllByRecursion (λ (s : ServiceGuide). s.service < 65536) ss → AllByRecursion IsTold ss
services_told [] within small typed ids = tt
services_told (s ∷ ss) within small typed ids =
    (record { within = within.0; small = small.0; typed = typed.0; id = ids.0 }, services_told ss within.1 small.1 typed.1 ids.1)

-- what is asked of another stream: ids of 16 bits, few services, and parts of the guide
record IsToldOther (guide : Guide) (o : Other) : Type 0 where
  stream : o.stream < 65536
  original : o.original < 65536
  few : length o.services ≤ 64
  sound : IsSoundOther o
  parts : AllByRecursion IsTold (remote_guide guide o)

present_tells : (b : Bearer) → b.stream < 65536 → b.original < 65536 → is_events 0x0012 b.present ≡ true → is_eit b.present ≡ true → b.present < 256 → (moment : ℕ) (s : ServiceGuide) → IsTold s → TellsItself (present_of b moment s)
present_tells b stream original events eit few moment s told =
    let are = present_fit b moment s told.small in
    let names = events_name b moment s 0x50 stream original in
    let read = events_read b moment s 0x50 stream original told.within told.typed in
    let t = present_of b moment s in
    eit_tells b b.present s.service t.tier t.sections events eit few told.id are names.0 read.0

schedule_tells : (b : Bearer) → b.stream < 65536 → b.original < 65536 → (day : ℕ) (s : ServiceGuide) (table : ℕ) → 0x50 ≤ b.sent table → b.sent table < 0x70 → IsTold s → TellsItself (schedule_of b day s table)
schedule_tells b stream original day s table above below told =
    let are = schedule_fit b day s table told.within told.small in
    let names = events_name b day s table stream original in
    let read = events_read b day s table stream original told.within told.typed in
    let t = schedule_of b day s table in
    let events : is_events 0x0012 (b.sent table) ≡ true = grind (arith, nat_tests) in
    let eit : is_eit (b.sent table) ≡ true = grind (arith, nat_tests) in
    eit_tells b (b.sent table) s.service t.tier t.sections events eit (omega (arith, below)) told.id are names.1 read.1

-- another stream that is sound, has few services and parts of the guide
record IsReadyOther (guide : Guide) (o : Other) : Type 0 where
  ids : HasStreamIds o
  sound : IsSoundOther o
  few : length o.services ≤ 64
  have : HasPartsOf guide o

others_ready : (guide : Guide) (os : List Other) → AllByRecursion HasStreamIds os → AllByRecursion IsSoundOther os → AllByRecursion (λ (o : Other). length o.services ≤ 64) os → AllByRecursion (HasPartsOf guide) os
    → AllByRecursion (IsReadyOther guide) os
others_ready guide [] ids sound few have = tt
others_ready guide (o ∷ os) ids sound few have =
    (record { ids = ids.0; sound = sound.0; few = few.0; have = have.0 }, others_ready guide os ids.1 sound.1 few.1 have.1)

other_told : (guide : Guide) → AllByRecursion IsServiceWithin guide.services → AllByRecursion (λ (s : ServiceGuide). AreSmallEntries s.events) guide.services
    → AllByRecursion (λ (s : ServiceGuide). AllByRecursion IsTyped s.events) guide.services → (o : Other) → IsReadyOther guide o → IsToldOther guide o
other_told guide within small typed o ready = record {
  stream = ready.ids.stream;
  original = ready.ids.original;
  few = ready.few;
  sound = ready.sound;
  parts = services_told (remote_guide guide o) (of_remote IsServiceWithin guide o ready.have within)
      (of_remote (λ (s : ServiceGuide). AreSmallEntries s.events) guide o ready.have small)
      (of_remote (λ (s : ServiceGuide). AllByRecursion IsTyped s.events) guide o ready.have typed)
      (by_remote_ids (λ (n : ℕ). n < 65536) IsSoundRemote remote_id_fits guide o ready.sound.services);
}

pub publication_tells : PublicationsTellThemselves
publication_tells mux guide sound services within typed =
    let moment = guide.moment.0 in
    let day = midnight moment in
    let small = typed_small guide within typed in
    let told =
    services_told (own_guide mux guide) (of_own IsServiceWithin mux guide services within.services)
    (of_own (λ (s : ServiceGuide). AreSmallEntries s.events) mux guide services small)
    (of_own (λ (s : ServiceGuide). AllByRecursion IsTyped s.events) mux guide services typed)
    (by_ids (λ (n : ℕ). n < 65536) IsSoundService id_fits mux guide sound.sound.services) in
    each_sub_table TellsItself IsTold (λ (o : Other). IsTold) (IsToldOther guide) mux guide told
    (all_map (IsReadyOther guide) (IsToldOther guide) (other_told guide within.services small typed) mux.others
    (others_ready guide mux.others sound.others sound.sound.others.each (services_few mux.others sound.sound.others.few_services) (others_have mux guide services)))
    (pat_tells mux sound.stream)
    (each_pmt TellsItself IsSoundService pmt_tells mux.services sound.sound.services)
    (nit_tells mux sound.sound sound.network)
    (sdt_tells 0x42 mux.stream mux.original Fast (sdt_sections mux.original guide (own_entries mux)) refl (omega arith) refl sound.stream
    (sdt_fit mux.original guide (own_entries mux) sound.original (omega (arith, length-map mux.services entry_of, sound.sound.count.1)) within (own_small mux.services sound.sound.services)))
    (λ s q. present_tells (own mux) sound.stream sound.original refl refl (omega arith) moment s q)
    (λ s table q above below. schedule_tells (own mux) sound.stream sound.original day s table above (omega (arith, below)) q)
    (record {
      sdt = λ o r. sdt_tells 0x46 o.stream o.original Near (sdt_sections o.original guide (remote_entries o)) refl (omega arith) refl r.stream
          (sdt_fit o.original guide (remote_entries o) r.original (omega (arith, length-map o.services remote_entry, r.few)) within (remote_small o.services r.sound.services));
      parts = λ o r. r.parts;
      present = λ o s r q. present_tells (bearer_of o) r.stream r.original refl refl (omega arith) moment s q;
      schedule = λ o s table r q above below. schedule_tells (bearer_of o) r.stream r.original day s table (omega (arith, above)) (omega (arith, below)) q;
    })
