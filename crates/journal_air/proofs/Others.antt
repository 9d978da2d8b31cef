-- What a view that has the tables of other streams shows of them.
use Rattle.std.proofs.Common.{◌≡◌, ℕ, ◌==◌, ◌&&◌, List, [], ◌∷◌, Bool, true, false, Option, map, refl, ap, ap₂, ◌∙◌, arith}
use Rattle.std.specs.Prelude.{not, filter, if◌then◌else◌}
use Rattle.std.specs.List.{AllByRecursion}
use Rattle.std.proofs.lemmas.Bool.Decides.{nat_tests}
use Rattle.si_lists.proofs.Lists.{all_map, all_to_map}
use Rattle.si_lists.proofs.Filters.{all_stay}
use Rattle.guide_model.specs.declared.shown.Shown.TheVariants.{Text}
use Rattle.guide_model.specs.declared.stream.Cable.{Cable}
use Rattle.guide_model.specs.declared.descriptor.RawDesc.{RawDesc}
use Rattle.guide_model.specs.declared.guide.Guide.{Guide}
use Rattle.guide_model.specs.declared.guide.ServiceGuide.{ServiceGuide}
use Rattle.guide_model.specs.declared.screen.ScreenEvent.{ScreenEvent}
use Rattle.guide_model.specs.declared.screen.ScreenOther.{ScreenOther}
use Rattle.guide_model.specs.declared.screen.ScreenRemote.{ScreenRemote}
use Rattle.mux_model.specs.declared.mux.RemoteService.{RemoteService}
use Rattle.mux_model.specs.declared.mux.Other.{Other}
use Rattle.mux_model.specs.declared.mux.Mux.{Mux}
use Rattle.mux_model.specs.Sound.{IsSoundRemote, IsSoundOther, HasStreamIds, IsSoundWithIds, has_stream_ids}
use Rattle.guide_limits.specs.Events.{midnight}
use Rattle.guide_limits.specs.Limits.{IsGuideWithin}
use Rattle.section_codec.specs.declared.table.Key.{Key}
use Rattle.section_codec.specs.Contents.{Content}
use Rattle.table_bodies.specs.declared.nit.NitStream.{NitStream}
use Rattle.table_bodies.specs.declared.sdt.SdtService.{SdtService}
use Rattle.table_bodies.specs.Sdt.{SdtReadsBack}
use Rattle.publication.specs.Present.{present_of}
use Rattle.publication.specs.Schedule.{remote_tables}
use Rattle.guide_screen.specs.View.{sections, table_at}
use Rattle.guide_screen.specs.Reading.{services_in}
use Rattle.guide_screen.specs.Needs.{by_service}
use Rattle.guide_screen.specs.Screen.{cable_in, descriptors_in, event_at, schedule_of, remote_service, remote_services, other_stream, other_streams, is_other}
use Rattle.publication.specs.Network.{stream_of, other_stream as stream_sent}
use Rattle.publication.specs.Parts.{part_of}
use Rattle.publication.specs.Sdt.{remote_entries, remote_entry, named_service, sdt_services}
use Rattle.publication.specs.Tables.{other_sdt_key, other_sdt_table, bearer_of}
use Rattle.publication.proofs.PartFacts.{part_id}
use Rattle.publication.proofs.SdtFacts.{small_remote}
use Rattle.journal_air.specs.Screen.{now_shown, next_shown, part_shown, other_shown}
use Rattle.journal_air.proofs.Own.{IsNamed, sdt_said, remote_in_order, cables_said, further_said}
use Rattle.journal_air.proofs.Events.{HasIds}
use Rattle.journal_air.proofs.Schedules.{AreSentAt, has_all}
use Rattle.journal_air.proofs.Held.{Held, CanBeShown, HasEvents, now_is, next_is, events_are}

-- ---- another stream

-- its tables are held
pub record HasOther (guide : Guide) (content : Key → Option Content) (o : Other) : Type 0 where
  pub ids : HasStreamIds o
  pub sound : IsSoundOther o
  pub can : AllByRecursion (λ (s : RemoteService). CanBeShown (part_of guide s.service)) o.services
  pub sdt : Held content (other_sdt_table guide o)
  pub presents : AllByRecursion (λ (s : RemoteService). Held content (present_of (bearer_of o) guide.moment.0 (part_of guide s.service))) o.services
  pub tables :
      AllByRecursion (λ (s : RemoteService). AllByRecursion (Held content) (remote_tables (bearer_of o) (midnight guide.moment.0) (part_of guide s.service))) o.services

module _ (guide : Guide) (content : Key → Option Content) (o : Other) (ids : HasStreamIds o) where
  abbrev moment : ℕ
  moment = guide.moment.0

  abbrev sdt : Key
  sdt = other_sdt_key o

  stream_ids : HasIds (bearer_of o)
  stream_ids = record { stream = ids.stream; original = ids.original }

  higher : AreSentAt (bearer_of o)
  higher = record { more = 0x10; sent = λ table. refl }

  abbrev HasRemote : RemoteService → Type 0
  HasRemote s = HasEvents (bearer_of o) moment content (part_of guide s.service)

  -- one of its services
  module _ (s : RemoteService) (has : HasRemote s) where
    abbrev g : ServiceGuide
    g = part_of guide s.service

    abbrev made : Option ScreenEvent → Option ScreenEvent → List ScreenEvent → ScreenRemote
    made now next events = record {
      service = s.service;
      kind = s.kind;
      provider = Text g.provider;
      name = Text g.name;
      descriptors = s.descriptors;
      now = now;
      next = next;
      events = events;
    }

    remote_is : remote_service content sdt (named_service guide (remote_entry s)) ≡ part_shown guide s
    remote_is =
        let next = event_at 1 (table_at content sdt s.service 0x4F) in
        let events = schedule_of content sdt s.service 0x60 0x6F in
        ap (λ (x : Option ScreenEvent). made x next events) (now_is (bearer_of o) stream_ids higher moment content s.service g (part_id guide s.service) has)
        ∙ ap (λ (x : Option ScreenEvent). made (now_shown moment g) x events) (next_is (bearer_of o) stream_ids higher moment content s.service g (part_id guide s.service) has)
        ∙ ap (made (now_shown moment g) (next_shown moment g)) (events_are (bearer_of o) stream_ids higher moment content s.service g (part_id guide s.service) has)

  remotes_are : (ss : List RemoteService) → AllByRecursion HasRemote ss → map (remote_service content sdt) (sdt_services guide (map remote_entry ss)) ≡ map (part_shown guide) ss
  remotes_are [] has = refl
  remotes_are (s ∷ ss) has = ap₂ (λ (x : ScreenRemote) (l : List ScreenRemote). x ∷ l) (remote_is s has.0) (remotes_are ss has.1)

  remotes_have : (ss : List RemoteService) → AllByRecursion (λ (s : RemoteService). CanBeShown (part_of guide s.service)) ss
      → AllByRecursion (λ (s : RemoteService). Held content (present_of (bearer_of o) moment (part_of guide s.service))) ss
      → AllByRecursion (λ (s : RemoteService). AllByRecursion (Held content) (remote_tables (bearer_of o) (midnight moment) (part_of guide s.service))) ss
      → AllByRecursion HasRemote ss
  remotes_have [] can presents tables = tt
  remotes_have (s ∷ ss) can presents tables =
      let one : HasRemote s = record {
        can = can.0;
        present = presents.0;
        tables = has_all (bearer_of o) stream_ids higher (midnight moment) (part_of guide s.service) content tables.0;
      } in
      (one, remotes_have ss can.1 presents.1 tables.1)

  remotes_named : (ss : List RemoteService) → AllByRecursion IsSoundRemote ss → AllByRecursion (λ (s : RemoteService). CanBeShown (part_of guide s.service)) ss
      → AllByRecursion (IsNamed guide) (map remote_entry ss)
  remotes_named [] sound can = tt
  remotes_named (s ∷ ss) sound can =
      (record { small = small_remote s sound.0; service = omega (arith, sound.0.service.1); within = can.0.within; kept = can.0.kept }, remotes_named ss sound.1 can.1)

  services_are : SdtReadsBack → IsGuideWithin guide → HasOther guide content o → remote_services content sdt ≡ map (part_shown guide) o.services
  services_are back within has =
      ap (λ (x : Option Content). map (remote_service content sdt) (by_service (services_in (sections x)))) has.sdt
      ∙ ap (λ (l : List SdtService). map (remote_service content sdt) (by_service l))
      (sdt_said back o.original guide (remote_entries o) ids.original within (remotes_named o.services has.sound.services has.can))
      ∙ ap (map (remote_service content sdt)) (remote_in_order guide o has.sound.ascend)
      ∙ remotes_are o.services (remotes_have o.services has.can has.presents has.tables)

abbrev other_with : Other → Option Cable → List RawDesc → List ScreenRemote → ScreenOther
other_with o cable further services = record { stream = o.stream; original = o.original; cable = cable; descriptors = further; services = services }

-- the entry of a stream has its further descriptors
abbrev HasFurther : List NitStream → Other → Type 0
HasFurther streams o = descriptors_in o.stream o.original streams ≡ o.descriptors

other_is : SdtReadsBack → (guide : Guide) → IsGuideWithin guide → (content : Key → Option Content) (streams : List NitStream) (o : Other) → HasFurther streams o → HasOther guide content o
    → cable_in o.stream o.original streams ≡ o.cable → other_stream content streams (other_sdt_key o) ≡ other_shown guide o
other_is back guide within content streams o further has cable =
    (λ i. other_with o (cable i) (further i) (services_are guide content o has.ids back within has i))

-- ---- all of them

-- none has the ids of the multiplex
others_stay : (mux : Mux) (os : List Other) → AllByRecursion (λ (o : Other). has_stream_ids mux.stream mux.original o ≡ false) os
    → filter (is_other mux.stream mux.original) (map other_sdt_key os) ≡ map other_sdt_key os
others_stay mux os apart =
    all_stay (is_other mux.stream mux.original) (map other_sdt_key os)
    (all_to_map (λ (k : Key). is_other mux.stream mux.original k ≡ true) other_sdt_key os
    (all_map (λ (o : Other). has_stream_ids mux.stream mux.original o ≡ false) (λ (o : Other). is_other mux.stream mux.original (other_sdt_key o) ≡ true)
    (λ o e. ap not (turned mux.stream mux.original o.stream o.original e)) os apart))
  where
    turned : (a b c d : ℕ) → (a == c && b == d) ≡ false → (c == a && d == b) ≡ false
    turned a b c d e = grind (arith, nat_tests)

others_each : SdtReadsBack → (guide : Guide) → IsGuideWithin guide → (content : Key → Option Content) (streams : List NitStream) (os : List Other) → AllByRecursion (HasFurther streams) os → AllByRecursion (HasOther guide content) os
    → AllByRecursion (λ (o : Other). cable_in o.stream o.original streams ≡ o.cable) os → map (other_stream content streams) (map other_sdt_key os) ≡ map (other_shown guide) os
others_each back guide within content streams [] further has cables = refl
others_each back guide within content streams (o ∷ os) further has cables =
    ap₂ (λ (x : ScreenOther) (l : List ScreenOther). x ∷ l) (other_is back guide within content streams o further.0 has.0 cables.0)
    (others_each back guide within content streams os further.1 has.1 cables.1)

-- the entry of the multiplex itself is passed over
cables_found : (mux : Mux) (os all : List Other) → AllByRecursion (λ (o : Other). has_stream_ids mux.stream mux.original o ≡ false) os
    → AllByRecursion (λ (o : Other). cable_in o.stream o.original (map stream_sent all) ≡ o.cable) os
    → AllByRecursion (λ (o : Other). cable_in o.stream o.original (stream_of mux ∷ map stream_sent all) ≡ o.cable) os
cables_found mux [] all apart said = tt
cables_found mux (o ∷ os) all apart said = (
  ap (λ (b : Bool). if b then mux.cable else cable_in o.stream o.original (map stream_sent all)) apart.0 ∙ said.0,
  cables_found mux os all apart.1 said.1,
)

further_found : (mux : Mux) (os all : List Other) → AllByRecursion (λ (o : Other). has_stream_ids mux.stream mux.original o ≡ false) os
    → AllByRecursion (HasFurther (map stream_sent all)) os → AllByRecursion (HasFurther (stream_of mux ∷ map stream_sent all)) os
further_found mux [] all apart said = tt
further_found mux (o ∷ os) all apart said = (
  ap (λ (b : Bool). if b then mux.stream_descriptors else descriptors_in o.stream o.original (map stream_sent all)) apart.0 ∙ said.0,
  further_found mux os all apart.1 said.1,
)

pub others_are : SdtReadsBack → (mux : Mux) → IsSoundWithIds mux → (guide : Guide) → IsGuideWithin guide → (content : Key → Option Content) → AllByRecursion (HasOther guide content) mux.others
    → other_streams content (stream_of mux ∷ map stream_sent mux.others) mux.stream mux.original (map other_sdt_key mux.others) ≡ map (other_shown guide) mux.others
others_are back mux sound guide within content has =
    let streams : List NitStream = stream_of mux ∷ map stream_sent mux.others in
    ap (map (other_stream content streams)) (others_stay mux mux.others sound.sound.others.apart)
    ∙ others_each back guide within content streams mux.others (further_found mux mux.others mux.others sound.sound.others.apart (further_said mux.others sound.sound.others.ascend)) has
    (cables_found mux mux.others mux.others sound.sound.others.apart (cables_said mux.others sound.sound.others.ascend))
