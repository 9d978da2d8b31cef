-- A view that has a publication shows its screen.
use Rattle.std.proofs.Common.{◌≡◌, ℕ, ◌+◌, ◌-◌, ◌≤◌, List, [], ◌∷◌, ◌++◌, Bool, true, false, ◌==◌, ◌&&◌, Option, Some, None, map, refl, sym, ap, ap₂, ◌∙◌}
use Rattle.std.proofs.Common.{subst, arith, append-nil}
use Rattle.std.specs.Prelude.{suc, flat_map, if◌then◌else◌, is_some, option_map, unwrap_or}
use Rattle.std.specs.List.{AllByRecursion}
use Rattle.std.proofs.lemmas.Bool.Decides.{nat_tests}
use Rattle.si_lists.proofs.Lists.{all_append, all_front, all_behind, all_of_map}
use Rattle.guide_model.specs.declared.shown.Shown.{Shown}
use Rattle.guide_model.specs.declared.shown.Shown.TheVariants.{Text}
use Rattle.guide_model.specs.declared.stream.Cable.{Cable}
use Rattle.guide_model.specs.declared.descriptor.RawDesc.{RawDesc}
use Rattle.guide_model.specs.declared.guide.Guide.{Guide}
use Rattle.guide_model.specs.declared.guide.ServiceGuide.{ServiceGuide}
use Rattle.guide_model.specs.declared.screen.ScreenEvent.{ScreenEvent}
use Rattle.guide_model.specs.declared.screen.ScreenService.{ScreenService}
use Rattle.guide_model.specs.declared.screen.ScreenOther.{ScreenOther}
use Rattle.guide_model.specs.declared.screen.Screen.{Screen}
use Rattle.mux_model.specs.declared.mux.MuxService.{MuxService}
use Rattle.mux_model.specs.declared.mux.Other.{Other}
use Rattle.mux_model.specs.declared.mux.RemoteService.{RemoteService}
use Rattle.guide_model.specs.declared.offset.Offset.{Offset}
use Rattle.mux_model.specs.declared.mux.Mux.{Mux}
use Rattle.mux_model.specs.Sound.{IsSoundService, IsSoundOther, HasStreamIds, IsSoundWithIds}
use Rattle.guide_limits.specs.Events.{midnight}
use Rattle.guide_limits.specs.Limits.{IsGuideWithin}
use Rattle.section_codec.specs.declared.table.Key.{Key}
use Rattle.section_codec.specs.declared.table.SubTable.{SubTable}
use Rattle.section_codec.specs.Contents.{Content, numbers_from}
use Rattle.table_bodies.specs.declared.pat.PatEntry.{PatEntry}
use Rattle.table_bodies.specs.declared.pmt.HeardPmt.{HeardPmt}
use Rattle.table_bodies.specs.declared.nit.Nit.{Nit}
use Rattle.table_bodies.specs.declared.nit.NitStream.{NitStream}
use Rattle.table_bodies.specs.declared.sdt.SdtService.{SdtService}
use Rattle.table_bodies.specs.Pmt.{pmt_in, shown_pmt}
use Rattle.table_bodies.specs.Nit.{nit_in, NitReadsBack}
use Rattle.table_bodies.specs.Sdt.{SdtReadsBack}
use Rattle.publication.specs.Eit.{own, eit_key}
use Rattle.publication.specs.EitLaws.{HasTypedEvents}
use Rattle.publication.specs.Present.{present_of, present_table}
use Rattle.publication.specs.Schedule.{last_table_of, near_tables, far_tables, remote_tables}
use Rattle.publication.proofs.EntryFacts.{typed_small}
use Rattle.guide_screen.specs.declared.need.Need.{Need}
use Rattle.guide_screen.specs.declared.need.Need.TheVariants.{Pat, Nit as NeedNit, Sdt, Clock, Pmt as NeedPmt}
use Rattle.guide_screen.specs.declared.need.Heard.TheVariants.{Whole}
use Rattle.guide_screen.specs.View.{View, sections, sections_at, sdt_behind, sdt_of, table_at, pmt_key as guide_pmt_key}
use Rattle.guide_screen.specs.Reading.{programs_in, services_in, streams_in, value_in}
use Rattle.guide_screen.specs.Needs.{Want, by_service, last_table, needs, programs_of, schedule_tables, services_of, tables_to, unless, unmet_of, want_pmt, want_service, want_services, want_table, wants}
use Rattle.guide_screen.specs.Screen.{cable_in, descriptors_in, event_at, heard_by, heard_of, network_descriptors, network_name, other_streams, pid_in, pmt_of, pmt_pid, schedule_of, screen, screen_service}
use Rattle.publication.specs.Network.{other_stream as stream_sent, nit_key, nit_of, nit_sections, nit_table, streams_of}
use Rattle.publication.specs.Programs.{network_entry, program_entry, pat_of, pat_key, pat_table, pmt_tables}
use Rattle.publication.specs.Programs as programs
use Rattle.publication.specs.Laws.{HasPartsOf}
use Rattle.publication.specs.Parts.{part_of, own_guide, remote_guide}
use Rattle.publication.specs.Sdt.{entry_of, own_entries, sdt_service, named_service, sdt_services}
use Rattle.publication.specs.Tables.{HasServicesOf, sdt_key, sdt_table, present_tables, all_near_tables, all_far_tables, other_sdt_table, other_sdt_tables, bearer_of, remote_presents, remote_schedules, all_remote_presents, all_remote_schedules, near_part, far_part}
use Rattle.publication.proofs.SdtFacts.{small_entry}
use Rattle.publication.proofs.PartFacts.{part_id, of_parts, of_remote, others_have as others_have_parts}
use Rattle.journal_air.specs.Screen.{now_shown, next_shown, service_shown, services_shown, screen_of}
use Rattle.journal_air.specs.PublicationScreenShown.{HasPublication, HasKeptNames}
use Rattle.journal_air.specs.PublicationScreenLaws.{PublicationIsShown}
use Rattle.journal_air.proofs.Own.{IsNamed, pat_said, pmt_said, pids_said, network_said, nit_said, sdt_said, own_in_order}
use Rattle.journal_air.proofs.Events.{HasIds}
use Rattle.journal_air.proofs.Schedules.{AreSentAt, HasTable, has_tables}
use Rattle.journal_air.proofs.Held.{Held, CanBeShown, parts_can_be_shown, HasEvents, present_is, now_is, next_is, last_told, events_are}
use Rattle.journal_air.proofs.Others.{HasOther, others_are}

of_flat : {X Y : Type 0} (P : Y → Type 0) (f : X → List Y) (xs : List X) → AllByRecursion P (flat_map f xs) → AllByRecursion (λ (x : X). AllByRecursion P (f x)) xs
of_flat P f [] all = tt
of_flat P f (x ∷ xs) all = (all_front P (f x) (flat_map f xs) all, of_flat P f xs (all_behind P (f x) (flat_map f xs) all))

-- ---- what is held of each service

-- its PMT, and its event information
record HasService (mux : Mux) (moment : ℕ) (content : Key → Option Content) (s : MuxService) (g : ServiceGuide) : Type 0 where
  same : g.service ≡ s.service
  sound : IsSoundService s
  pmt : Held content (programs.pmt_table s)
  events : HasEvents (own mux) moment content g

-- tables of own services keep their table_id
as_they_are : (mux : Mux) → AreSentAt (own mux)
as_they_are mux = record { more = 0; sent = λ table. omega arith }

module _ (mux : Mux) (ids : HasIds (own mux)) (guide : Guide) (moment : ℕ) (content : Key → Option Content) where
  -- an own service, with the part that the guide has of it
  abbrev HasOwn : MuxService → Type 0
  HasOwn s = HasService mux moment content s (part_of guide s.service)

  abbrev Parts : (ServiceGuide → Type 0) → List MuxService → Type 0
  Parts P ss = AllByRecursion (λ (s : MuxService). P (part_of guide s.service)) ss

  abbrev AreHeld : List SubTable → Type 0
  AreHeld ts = AllByRecursion (Held content) ts

  all_services : (ss : List MuxService) → AllByRecursion IsSoundService ss → Parts CanBeShown ss → AllByRecursion (λ (s : MuxService). Held content (programs.pmt_table s)) ss
      → Parts (λ (g : ServiceGuide). Held content (present_table mux moment g)) ss → Parts (λ (g : ServiceGuide). AreHeld (near_tables mux (midnight moment) g)) ss
      → Parts (λ (g : ServiceGuide). AreHeld (far_tables mux (midnight moment) g)) ss → AllByRecursion HasOwn ss
  all_services [] sound can pmts presents near far = tt
  all_services (s ∷ ss) sound can pmts presents near far =
      let g = part_of guide s.service in
      let events : HasEvents (own mux) moment content g = record {
        can = can.0;
        present = presents.0;
        tables = has_tables (own mux) ids (as_they_are mux) (midnight moment) g content near.0 far.0;
      } in
      let one : HasOwn s = record { same = part_id guide s.service; sound = sound.0; pmt = pmts.0; events = events } in
      (one, all_services ss sound.1 can.1 pmts.1 presents.1 near.1 far.1)

  -- ---- one service

  abbrev sdt : Key
  sdt = sdt_key mux

  module _ (s : MuxService) (g : ServiceGuide) (has : HasService mux moment content s g) where
    abbrev made : Option ℕ → Option HeardPmt → Option ScreenEvent → Option ScreenEvent → List ScreenEvent → ScreenService
    made pid pmt now next events = record {
      service = s.service;
      kind = s.kind;
      provider = Text g.provider;
      name = Text g.name;
      descriptors = s.descriptors;
      pmt_pid = pid;
      pcr_pid = option_map (λ p. p.pcr_pid) pmt;
      program_descriptors = unwrap_or (option_map (λ p. p.descriptors) pmt) [];
      components = unwrap_or (option_map (λ p. p.components) pmt) [];
      now = now;
      next = next;
      events = events;
    }

    pmt_is : pmt_of content s.service (Some s.pmt_pid) ≡ Some (shown_pmt (programs.pmt_of s))
    pmt_is = ap (λ (o : Option Content). value_in pmt_in 0 (sections o)) has.pmt ∙ pmt_said s has.sound

    service_is : (es : List PatEntry) → pmt_pid es s.service ≡ Some s.pmt_pid → screen_service content es sdt (sdt_service (entry_of s) g) ≡ service_shown moment s g
    service_is es pid =
        let now = event_at 0 (table_at content sdt s.service 0x4E) in
        let next = event_at 1 (table_at content sdt s.service 0x4E) in
        let events = schedule_of content sdt s.service 0x50 0x5F in
        ap (λ (o : Option ℕ). made o (pmt_of content s.service o) now next events) pid
        ∙ ap (λ (o : Option HeardPmt). made (Some s.pmt_pid) o now next events) pmt_is
        ∙ ap (λ (o : Option ScreenEvent). made (Some s.pmt_pid) (Some (shown_pmt (programs.pmt_of s))) o next events)
        (now_is (own mux) ids (as_they_are mux) moment content s.service g has.same has.events)
        ∙ ap (λ (o : Option ScreenEvent). made (Some s.pmt_pid) (Some (shown_pmt (programs.pmt_of s))) (now_shown moment g) o events)
        (next_is (own mux) ids (as_they_are mux) moment content s.service g has.same has.events)
        ∙ ap (λ (l : List ScreenEvent). made (Some s.pmt_pid) (Some (shown_pmt (programs.pmt_of s))) (now_shown moment g) (next_shown moment g) l)
        (events_are (own mux) ids (as_they_are mux) moment content s.service g has.same has.events)

    -- its wants are met
    abbrev Met : Want → Type 0
    Met w = is_some (content w.key) ≡ true

    tables_met : (ts : List ℕ) → AllByRecursion (HasTable (own mux) (midnight moment) g content) ts → AllByRecursion Met (map (want_table sdt s.service) ts)
    tables_met [] all = tt
    tables_met (t ∷ ts) all = (ap is_some (ap (λ (n : ℕ). content (eit_key mux t n)) (sym has.same) ∙ all.0), tables_met ts all.1)

    schedule_met : AllByRecursion Met (map (want_table sdt s.service) (schedule_tables content sdt s.service))
    schedule_met =
        let last : ℕ = last_table_of (midnight moment) g.events in
        let told : last_table 0x5F (table_at content sdt s.service 0x50) ≡ last = last_told (own mux) ids (as_they_are mux) moment content s.service g has.same has.events in
        subst (λ (n : ℕ). AllByRecursion Met (map (want_table sdt s.service) (0x50 ∷ tables_to 0x51 n))) (sym told)
        (tables_met (0x50 ∷ tables_to 0x51 last)
        (subst (λ (n : ℕ). AllByRecursion (HasTable (own mux) (midnight moment) g content) (numbers_from 0x50 n))
        (let size : 1 + last - 0x50 ≡ suc (1 + last - 0x51) = omega arith in size) has.events.tables))

    service_met : AllByRecursion Met (want_service content sdt (sdt_service (entry_of s) g))
    service_met = (ap is_some (present_is (own mux) ids (as_they_are mux) moment content s.service g has.same has.events), schedule_met)

    pmt_met : AllByRecursion Met (want_pmt (program_entry s))
    pmt_met = go (s.service == 0)
      where
        go : (b : Bool) → AllByRecursion Met (if b then [] else (let w : Want = record { need = NeedPmt s.pmt_pid s.service; key = guide_pmt_key s.pmt_pid s.service } in w) ∷ [])
        go true = tt
        go false = (ap is_some has.pmt, tt)

  -- ---- all services

  services_are : (es : List PatEntry) (ss : List MuxService) → AllByRecursion HasOwn ss → AllByRecursion (λ (s : MuxService). pmt_pid es s.service ≡ Some s.pmt_pid) ss
      → map (screen_service content es sdt) (sdt_services guide (map entry_of ss)) ≡ map (λ (s : MuxService). service_shown moment s (part_of guide s.service)) ss
  services_are es [] has pids = refl
  services_are es (s ∷ ss) has pids =
      ap₂ (λ (x : ScreenService) (l : List ScreenService). x ∷ l) (service_is s (part_of guide s.service) has.0 es pids.0) (services_are es ss has.1 pids.1)

  pmts_met : (ss : List MuxService) → AllByRecursion HasOwn ss → AllByRecursion (λ (w : Want). is_some (content w.key) ≡ true) (flat_map want_pmt (map program_entry ss))
  pmts_met [] has = tt
  pmts_met (s ∷ ss) has =
      all_append (λ (w : Want). is_some (content w.key) ≡ true) (want_pmt (program_entry s)) (flat_map want_pmt (map program_entry ss)) (pmt_met s (part_of guide s.service) has.0)
      (pmts_met ss has.1)

  services_met : (ss : List MuxService) → AllByRecursion HasOwn ss
      → AllByRecursion (λ (w : Want). is_some (content w.key) ≡ true) (flat_map (want_service content sdt) (sdt_services guide (map entry_of ss)))
  services_met [] has = tt
  services_met (s ∷ ss) has =
      all_append (λ (w : Want). is_some (content w.key) ≡ true) (want_service content sdt (named_service guide (entry_of s))) (flat_map (want_service content sdt) (sdt_services guide (map entry_of ss)))
      (service_met s (part_of guide s.service) has.0) (services_met ss has.1)

none_unmet : (content : Key → Option Content) (ws : List Want) → AllByRecursion (λ (w : Want). is_some (content w.key) ≡ true) ws → unmet_of content ws ≡ []
none_unmet content [] all = refl
none_unmet content (w ∷ ws) all = ap₂ (λ (b : Bool) (l : List Need). unless w.need b ++ l) all.0 (none_unmet content ws all.1)

-- each PMT has the PID that the PAT tells
pids_found : (ss all : List MuxService) → AllByRecursion IsSoundService ss → AllByRecursion (λ (s : MuxService). pid_in s.service (map program_entry all) ≡ Some s.pmt_pid) ss
    → AllByRecursion (λ (s : MuxService). pmt_pid (network_entry ∷ map program_entry all) s.service ≡ Some s.pmt_pid) ss
pids_found [] all sound said = tt
pids_found (s ∷ ss) all sound said = (one s.service sound.0.service.0 said.0, pids_found ss all sound.1 said.1)
  where
    none : (n : ℕ) → 1 ≤ n → (n == 0) ≡ false
    none n le = grind (arith, nat_tests)

    other : (n : ℕ) → 1 ≤ n → (0 == n) ≡ false
    other n le = grind (arith, nat_tests)

    one : (n : ℕ) → 1 ≤ n → pid_in n (map program_entry all) ≡ Some s.pmt_pid → pmt_pid (network_entry ∷ map program_entry all) n ≡ Some s.pmt_pid
    one n le is =
        ap (λ (b : Bool). if b then None else pid_in n (network_entry ∷ map program_entry all)) (none n le)
        ∙ ap (λ (b : Bool). if b then Some 0x0010 else pid_in n (map program_entry all)) (other n le) ∙ is

-- ---- the view

module _ (nit_back : NitReadsBack) (sdt_back : SdtReadsBack) (mux : Mux) (guide : Guide) (clock : ℕ) (V : View) (sound : IsSoundWithIds mux) (same : HasServicesOf mux guide)
    (within : IsGuideWithin guide) (typed : HasTypedEvents guide) (kept : HasKeptNames mux guide) (has : HasPublication mux guide clock V) where
  abbrev moment : ℕ
  moment = guide.moment.0

  ids : HasIds (own mux)
  ids = record { stream = sound.stream; original = sound.original }

  abbrev IsHeld : List SubTable → Type 0
  IsHeld ts = AllByRecursion (Held V.content) ts

  abbrev events : List SubTable
  events = present_tables mux guide ++ (near_part mux guide ++ far_part mux guide)

  pat_has : Held V.content (pat_table mux)
  pat_has = has.contents.0

  pmts_have : IsHeld (pmt_tables mux)
  pmts_have = all_front (Held V.content) (pmt_tables mux) (nit_table mux ∷ sdt_table mux guide ∷ events) has.contents.1

  tables_have : IsHeld (nit_table mux ∷ sdt_table mux guide ∷ events)
  tables_have = all_behind (Held V.content) (pmt_tables mux) (nit_table mux ∷ sdt_table mux guide ∷ events) has.contents.1

  presents_have : IsHeld (present_tables mux guide)
  presents_have = all_front (Held V.content) (present_tables mux guide) (near_part mux guide ++ far_part mux guide) tables_have.1.1

  rest_have : IsHeld (near_part mux guide ++ far_part mux guide)
  rest_have = all_behind (Held V.content) (present_tables mux guide) (near_part mux guide ++ far_part mux guide) tables_have.1.1

  near_have : IsHeld (near_part mux guide)
  near_have = all_front (Held V.content) (near_part mux guide) (far_part mux guide) rest_have

  far_have : IsHeld (far_part mux guide)
  far_have = all_behind (Held V.content) (near_part mux guide) (far_part mux guide) rest_have

  events_have : IsHeld (all_remote_presents mux guide ++ all_near_tables mux guide)
  events_have = all_behind (Held V.content) (other_sdt_tables mux guide) (all_remote_presents mux guide ++ all_near_tables mux guide) near_have

  -- what holds of each part of the guide
  parts_shown : AllByRecursion CanBeShown guide.services
  parts_shown = parts_can_be_shown guide.services within.services kept.services typed (typed_small guide within typed)

  own_shown : AllByRecursion (λ (s : MuxService). CanBeShown (part_of guide s.service)) mux.services
  own_shown = of_parts CanBeShown mux guide same parts_shown

  of_tables : (P : ServiceGuide → Type 0) → AllByRecursion P (own_guide mux guide) → AllByRecursion (λ (s : MuxService). P (part_of guide s.service)) mux.services
  of_tables P all = all_of_map P (λ (s : MuxService). part_of guide s.service) mux.services all

  services_have : AllByRecursion (HasOwn mux ids guide moment V.content) mux.services
  services_have =
      all_services mux ids guide moment V.content mux.services sound.sound.services own_shown
      (all_of_map (Held V.content) programs.pmt_table mux.services pmts_have)
      (of_tables (λ (g : ServiceGuide). Held V.content (present_table mux moment g)) (all_of_map (Held V.content) (present_table mux moment) (own_guide mux guide) presents_have))
      (of_tables (λ (g : ServiceGuide). IsHeld (near_tables mux (midnight moment) g)) (of_flat (Held V.content) (near_tables mux (midnight moment)) (own_guide mux guide)
      (all_behind (Held V.content) (all_remote_presents mux guide) (all_near_tables mux guide) events_have)))
      (of_tables (λ (g : ServiceGuide). IsHeld (far_tables mux (midnight moment) g)) (of_flat (Held V.content) (far_tables mux (midnight moment)) (own_guide mux guide)
      (all_front (Held V.content) (all_far_tables mux guide) (all_remote_schedules mux guide) far_have)))

  services_named : (ss : List MuxService) → AllByRecursion IsSoundService ss → AllByRecursion (λ (s : MuxService). CanBeShown (part_of guide s.service)) ss
      → AllByRecursion (IsNamed guide) (map entry_of ss)
  services_named [] sound can = tt
  services_named (s ∷ ss) sound can = (
    record { small = small_entry s sound.0; service = omega (arith, sound.0.service.1); within = can.0.within; kept = can.0.kept },
    services_named ss sound.1 can.1,
  )

  -- ---- other streams

  of_remotes : (P : ServiceGuide → Type 0) (o : Other) → AllByRecursion P (remote_guide guide o) → AllByRecursion (λ (s : RemoteService). P (part_of guide s.service)) o.services
  of_remotes P o all = all_of_map P (λ (s : RemoteService). part_of guide s.service) o.services all

  one_other : (o : Other) → HasStreamIds o → IsSoundOther o → HasPartsOf guide o → Held V.content (other_sdt_table guide o) → IsHeld (remote_presents guide o) → IsHeld (remote_schedules guide o)
      → HasOther guide V.content o
  one_other o wide sound parts sdt presents schedules = record {
    ids = wide;
    sound = sound;
    can = of_remotes CanBeShown o (of_remote CanBeShown guide o parts parts_shown);
    sdt = sdt;
    presents = of_remotes (λ (g : ServiceGuide). Held V.content (present_of (bearer_of o) moment g)) o
        (all_of_map (Held V.content) (present_of (bearer_of o) moment) (remote_guide guide o) presents);
    tables = of_remotes (λ (g : ServiceGuide). IsHeld (remote_tables (bearer_of o) (midnight moment) g)) o
        (of_flat (Held V.content) (remote_tables (bearer_of o) (midnight moment)) (remote_guide guide o) schedules);
  }

  each_other : (os : List Other) → AllByRecursion HasStreamIds os → AllByRecursion IsSoundOther os → AllByRecursion (HasPartsOf guide) os → IsHeld (map (other_sdt_table guide) os)
      → IsHeld (flat_map (remote_presents guide) os) → IsHeld (flat_map (remote_schedules guide) os) → AllByRecursion (HasOther guide V.content) os
  each_other [] wide sound parts sdts presents schedules = tt
  each_other (o ∷ os) wide sound parts sdts presents schedules = (
    one_other o wide.0 sound.0 parts.0 sdts.0 (all_front (Held V.content) (remote_presents guide o) (flat_map (remote_presents guide) os) presents)
        (all_front (Held V.content) (remote_schedules guide o) (flat_map (remote_schedules guide) os) schedules),
    each_other os wide.1 sound.1 parts.1 sdts.1 (all_behind (Held V.content) (remote_presents guide o) (flat_map (remote_presents guide) os) presents)
        (all_behind (Held V.content) (remote_schedules guide o) (flat_map (remote_schedules guide) os) schedules),
  )

  others_have : AllByRecursion (HasOther guide V.content) mux.others
  others_have =
      each_other mux.others sound.others sound.sound.others.each (others_have_parts mux guide same)
      (all_front (Held V.content) (other_sdt_tables mux guide) (all_remote_presents mux guide ++ all_near_tables mux guide) near_have)
      (all_front (Held V.content) (all_remote_presents mux guide) (all_near_tables mux guide) events_have)
      (all_behind (Held V.content) (all_far_tables mux guide) (all_remote_schedules mux guide) far_have)

  -- ---- what is needed

  sdt_is : sdt_of V ≡ Some (sdt_key mux)
  sdt_is = ap (λ (o : Option Key). sdt_behind V o) has.pat ∙ has.sdt

  programs_are : programs_of V ≡ pat_of mux
  programs_are =
      ap (λ (o : Option Key). programs_in (sections_at V.content o)) has.pat ∙ ap (λ (o : Option Content). programs_in (sections o)) pat_has
      ∙ ap (λ (o : Option (List PatEntry)). unwrap_or o [] ++ []) (pat_said mux sound.sound) ∙ append-nil (pat_of mux)

  services_sorted : services_of V ≡ sdt_services guide (own_entries mux)
  services_sorted =
      ap (λ (o : Option Key). by_service (services_in (sections_at V.content o))) sdt_is
      ∙ ap (λ (o : Option Content). by_service (services_in (sections o))) tables_have.1.0
      ∙ ap by_service (sdt_said sdt_back mux.original guide (own_entries mux) sound.original within (services_named mux.services sound.sound.services own_shown))
      ∙ own_in_order mux guide sound.sound.ascend

  all_met : AllByRecursion (λ (w : Want). is_some (V.content w.key) ≡ true) (wants V)
  all_met =
      subst (λ (es : List PatEntry). AllByRecursion (λ (w : Want). is_some (V.content w.key) ≡ true) (flat_map want_pmt es ++ want_services V.content (sdt_of V) (services_of V))) (sym programs_are)
      (subst (λ (o : Option Key). AllByRecursion (λ (w : Want). is_some (V.content w.key) ≡ true) (flat_map want_pmt (pat_of mux) ++ want_services V.content o (services_of V))) (sym sdt_is)
      (subst (λ (ss : List SdtService). AllByRecursion (λ (w : Want). is_some (V.content w.key) ≡ true) (flat_map want_pmt (pat_of mux) ++ flat_map (want_service V.content (sdt_key mux)) ss)) (sym services_sorted)
      (all_append (λ (w : Want). is_some (V.content w.key) ≡ true) (flat_map want_pmt (pat_of mux)) (flat_map (want_service V.content (sdt_key mux)) (sdt_services guide (own_entries mux)))
      (pmts_met mux ids guide moment V.content mux.services services_have) (services_met mux ids guide moment V.content mux.services services_have))))

  abbrev needs_by : Option Key → Option Key → Option Key → Option ℕ → List Need → List Need
  needs_by pat nit sdt at rest = unless Pat (is_some pat) ++ unless NeedNit (is_some nit) ++ unless Sdt (is_some sdt) ++ unless Clock (is_some at) ++ rest

  none_needed : needs V ≡ []
  none_needed =
      ap (λ (o : Option Key). needs_by o V.nit (sdt_of V) V.clock (unmet_of V.content (wants V))) has.pat
      ∙ ap (λ (o : Option Key). needs_by (Some (pat_key mux)) o (sdt_of V) V.clock (unmet_of V.content (wants V))) has.nit
      ∙ ap (λ (o : Option Key). needs_by (Some (pat_key mux)) (Some (nit_key mux)) o V.clock (unmet_of V.content (wants V))) sdt_is
      ∙ ap (λ (o : Option ℕ). needs_by (Some (pat_key mux)) (Some (nit_key mux)) (Some (sdt_key mux)) o (unmet_of V.content (wants V))) has.clock_is
      ∙ none_unmet V.content (wants V) all_met

  -- ---- the screen

  network_is : (run : List NitStream) × (value_in nit_in 0 (nit_sections mux) ≡ Some (nit_of mux run))
  network_is = network_said nit_back mux sound kept.network

  name_is : network_name (sections (V.content (nit_key mux))) ≡ Text mux.network_name
  name_is =
      ap (λ (o : Option Content). network_name (sections o)) tables_have.0
      ∙ ap (λ (o : Option Nit). unwrap_or (option_map (λ (nit : Nit). nit.name) o) (Text [])) network_is.1

  network_further : network_descriptors (sections (V.content (nit_key mux))) ≡ mux.network_descriptors
  network_further =
      ap (λ (o : Option Content). network_descriptors (sections o)) tables_have.0
      ∙ ap (λ (o : Option Nit). unwrap_or (option_map (λ (nit : Nit). nit.descriptors) o) []) network_is.1

  streams_are : streams_in (sections (V.content (nit_key mux))) ≡ streams_of mux
  streams_are = ap (λ (o : Option Content). streams_in (sections o)) tables_have.0 ∙ nit_said nit_back mux sound kept.network

  own_first : (a b : ℕ) → (a == a && b == b) ≡ true
  own_first a b = grind (arith, nat_tests)

  cable_is : cable_in mux.stream mux.original (streams_in (sections (V.content (nit_key mux)))) ≡ mux.cable
  cable_is =
      ap (cable_in mux.stream mux.original) streams_are
      ∙ ap (λ (b : Bool). if b then mux.cable else cable_in mux.stream mux.original (map stream_sent mux.others)) (own_first mux.stream mux.original)

  stream_further : descriptors_in mux.stream mux.original (streams_in (sections (V.content (nit_key mux)))) ≡ mux.stream_descriptors
  stream_further =
      ap (descriptors_in mux.stream mux.original) streams_are
      ∙ ap (λ (b : Bool). if b then mux.stream_descriptors else descriptors_in mux.stream mux.original (map stream_sent mux.others)) (own_first mux.stream mux.original)

  services_are_shown : map (screen_service V.content (programs_of V) (sdt_key mux)) (services_of V) ≡ services_shown mux guide
  services_are_shown =
      ap (λ (es : List PatEntry). map (screen_service V.content es (sdt_key mux)) (services_of V)) programs_are
      ∙ ap (map (screen_service V.content (pat_of mux) (sdt_key mux))) services_sorted
      ∙ services_are mux ids guide moment V.content (pat_of mux) mux.services services_have
      (pids_found mux.services mux.services sound.sound.services (pids_said mux.services sound.sound.ascend))

  abbrev screen_with : List Offset → Shown → List RawDesc → Option Cable → List RawDesc → List ScreenService → List ScreenOther → Screen
  screen_with offsets name network cable stream services others = record {
    clock = record { 0 = clock };
    offsets = offsets;
    network = mux.network;
    network_name = name;
    network_descriptors = network;
    stream = mux.stream;
    original = mux.original;
    cable = cable;
    stream_descriptors = stream;
    services = services;
    others = others;
  }

  screen_is : screen V (pat_key mux) (nit_key mux) (sdt_key mux) clock ≡ screen_of mux guide clock
  screen_is =
      let others = λ (es : List NitStream) (ks : List Key). other_streams V.content es mux.stream mux.original ks in
      (λ i. screen_with (has.offsets_are i) (name_is i) (network_further i) (cable_is i) (stream_further i) (services_are_shown i) (others (streams_are i) (has.others_are i)))
      ∙ ap (screen_with mux.offsets (Text mux.network_name) mux.network_descriptors mux.cable mux.stream_descriptors (services_shown mux guide)) (others_are sdt_back mux sound guide within V.content others_have)

  pub shown : heard_of V ≡ Whole (screen_of mux guide clock)
  shown =
      ap (λ (o : Option Key). heard_by V o V.nit (sdt_of V) V.clock (needs V)) has.pat
      ∙ ap (λ (o : Option Key). heard_by V (Some (pat_key mux)) o (sdt_of V) V.clock (needs V)) has.nit
      ∙ ap (λ (o : Option Key). heard_by V (Some (pat_key mux)) (Some (nit_key mux)) o V.clock (needs V)) sdt_is
      ∙ ap (λ (o : Option ℕ). heard_by V (Some (pat_key mux)) (Some (nit_key mux)) (Some (sdt_key mux)) o (needs V)) has.clock_is
      ∙ ap (λ (ns : List Need). heard_by V (Some (pat_key mux)) (Some (nit_key mux)) (Some (sdt_key mux)) (Some clock) ns) none_needed
      ∙ ap Whole screen_is

pub publication_is_shown : NitReadsBack → SdtReadsBack → PublicationIsShown
publication_is_shown nit_back sdt_back mux guide clock V sound same within typed kept has = shown nit_back sdt_back mux guide clock V sound same within typed kept has
