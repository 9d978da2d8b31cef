-- What the tables of a multiplex say: its PAT, its PMTs, its NIT, its SDT and those of other streams.
use Rattle.std.proofs.Common.{◌≡◌, ℕ, ◌+◌, ◌<◌, ◌≤◌, List, [], ◌∷◌, ◌++◌, Bool, true, false, Option, Some, length, map, sum_by, refl, sym, ap, ap₂, ◌∙◌, subst, arith}
use Rattle.std.specs.Prelude.{flat_map, if◌then◌else◌, ◌==◌, ◌&&◌, ◌||◌, nat_lt, unwrap_or, option_map}
use Rattle.std.specs.List.{AllByRecursion}
use Rattle.std.proofs.lemmas.Bool.Decides.{nat_tests}
use Rattle.si_lists.proofs.Lists.{all_map, all_through, all_to_map, all_two, all_front, all_behind}
use Rattle.guide_model.specs.Decoding.{IsKept}
use Rattle.guide_model.proofs.RoundTrip.{decoded-coded}
use Rattle.guide_model.specs.declared.guide.Guide.{Guide}
use Rattle.guide_model.specs.declared.guide.ServiceGuide.{ServiceGuide}
use Rattle.mux_model.specs.declared.mux.MuxService.{MuxService}
use Rattle.mux_model.specs.declared.mux.RemoteService.{RemoteService}
use Rattle.mux_model.specs.declared.mux.Other.{Other}
use Rattle.mux_model.specs.declared.mux.Mux.{Mux}
use Rattle.mux_model.specs.Order.{DoCome}
use Rattle.mux_model.specs.Sound.{IsSound, IsSoundService, DoAscend, IsSoundRemote, IsSoundOther, has_lower_id, comes_before, HasStreamIds, IsSoundWithIds}
use Rattle.guide_limits.specs.Limits.{IsServiceWithin, IsGuideWithin}
use Rattle.si_lists.specs.Runs.{AreLongestRuns, longest_runs}
use Rattle.si_lists.proofs.RunFacts.{are_longest, runs_some}
use Rattle.table_bodies.specs.Pat.{pat_in, pat_body, FitsProgram}
use Rattle.table_bodies.specs.Pmt.{pmt_body, pmt_in, shown_pmt}
use Rattle.table_bodies.proofs.Programs.{pat-reads_back, pmt-reads_back}
use Rattle.publication.specs.declared.sdt.ServiceEntry.{ServiceEntry}
use Rattle.table_bodies.specs.declared.nit.Nit.{Nit}
use Rattle.table_bodies.specs.declared.nit.NitStream.{NitStream}
use Rattle.table_bodies.specs.declared.sdt.SdtService.{SdtService}
use Rattle.table_bodies.specs.declared.sdt.Sdt.{Sdt}
use Rattle.table_bodies.specs.Nit.{nit_in, stream_size, FitsStream, HasStreamWidths, NitReadsBack}
use Rattle.table_bodies.specs.Sdt.{sdt_in, HasServiceWidths, SdtReadsBack}
use Rattle.guide_screen.specs.Reading.{services_in, streams_in, value_in}
use Rattle.guide_screen.specs.Needs.{with_service, by_service}
use Rattle.guide_screen.specs.Screen.{pid_in, cable_in, descriptors_in}
use Rattle.publication.specs.Programs.{program_entry, pat_of, pmt_of}
use Rattle.publication.specs.Network.{nit_of, nit_section, nit_sections, kind_of, remote_kind, other_stream, streams_of, streams_room}
use Rattle.publication.specs.Parts.{part_of}
use Rattle.publication.specs.Sdt.{HasSmallDescriptors, entry_of, own_entries, remote_entries, remote_entry, named_service, sdt_services, service_size, section_body, sdt_sections}
use Rattle.publication.specs.Sections.{numbered}
use Rattle.publication.proofs.ProgramFacts.{pmt_fits}
use Rattle.publication.proofs.NetworkFacts.{network_fits, no_cable, streams_fit, streams_sized}
use Rattle.publication.proofs.SdtFacts.{service_fits, services_fit}

-- ---- programs

programs_fit : (ss : List MuxService) → AllByRecursion IsSoundService ss → AllByRecursion FitsProgram (map program_entry ss)
programs_fit [] all = tt
programs_fit (s ∷ ss) all =
    (record { program = omega (arith, all.0.service.1); pid = omega (arith, all.0.pmt_pid.1) }, programs_fit ss all.1)

pub pat_said : (mux : Mux) → IsSound mux → pat_in (pat_body (pat_of mux)) ≡ Some (pat_of mux)
pat_said mux sound =
    pat-reads_back (pat_of mux) (record { program = omega arith; pid = omega arith }, programs_fit mux.services sound.services)

pub pmt_said : (s : MuxService) → IsSoundService s → pmt_in (pmt_body (pmt_of s)) ≡ Some (shown_pmt (pmt_of s))
pmt_said s sound = pmt-reads_back (pmt_of s) (pmt_fits s sound)

-- the PID of each PMT is found under its program
pub pids_said : (ss : List MuxService) → DoAscend ss → AllByRecursion (λ (s : MuxService). pid_in s.service (map program_entry ss) ≡ Some s.pmt_pid) ss
pids_said [] up = tt
pids_said (s ∷ ss) up = (
  ap (λ (b : Bool). if b then Some s.pmt_pid else pid_in s.service (map program_entry ss)) (own s.service),
  all_two (λ (t : MuxService). s.service < t.service) (λ (t : MuxService). pid_in t.service (map program_entry ss) ≡ Some t.pmt_pid)
      (λ (t : MuxService). pid_in t.service (map program_entry (s ∷ ss)) ≡ Some t.pmt_pid)
      (λ t below said. ap (λ (b : Bool). if b then Some s.pmt_pid else pid_in t.service (map program_entry ss)) (other s.service t.service below) ∙ said)
      ss up.0 (pids_said ss up.1),
)
  where
    own : (n : ℕ) → (n == n) ≡ true
    own n = grind (arith, nat_tests)

    other : (a b : ℕ) → a < b → (a == b) ≡ false
    other a b lt = grind (arith, nat_tests)

-- ---- the network

-- the entry of each stream has fields that fit, and no further descriptor that is read as its cable
streams_wide : (mux : Mux) → IsSoundWithIds mux → AllByRecursion HasStreamWidths (streams_of mux)
streams_wide mux sound = (
  record {
    stream = sound.stream;
    original = sound.original;
    services = kinds_fit mux.services sound.sound.services;
    fits = fits.0;
    no_cable = no_cable mux.stream_descriptors sound.sound.stream_descriptors;
  },
  others_fit mux.others sound.others sound.sound.others.each fits.1,
)
  where
    kinds_fit : (ss : List MuxService) → AllByRecursion IsSoundService ss → AllByRecursion (λ k. k.service < 65536) (map kind_of ss)
    kinds_fit [] all = tt
    kinds_fit (s ∷ ss) all = (omega (arith, all.0.service.1), kinds_fit ss all.1)

    remotes_fit : (ss : List RemoteService) → AllByRecursion IsSoundRemote ss → AllByRecursion (λ k. k.service < 65536) (map remote_kind ss)
    remotes_fit [] all = tt
    remotes_fit (s ∷ ss) all = (omega (arith, all.0.service.1), remotes_fit ss all.1)

    fits : AllByRecursion FitsStream (streams_of mux)
    fits = streams_fit mux sound.sound

    others_fit : (os : List Other) → AllByRecursion HasStreamIds os → AllByRecursion IsSoundOther os → AllByRecursion FitsStream (map other_stream os) → AllByRecursion HasStreamWidths (map other_stream os)
    others_fit [] ids sound fit = tt
    others_fit (o ∷ os) ids sound fit = (
      record {
        stream = ids.0.stream;
        original = ids.0.original;
        services = remotes_fit o.services sound.0.services;
        fits = fit.0;
        no_cable = no_cable o.descriptors sound.0.descriptors;
      },
      others_fit os ids.1 sound.1 fit.1,
    )

-- what holds of things in runs holds of each run
in_runs : {X : Type 0} (P : X → Type 0) (runs : List (List X)) → AllByRecursion P (flat_map (λ (run : List X). run) runs) → AllByRecursion (AllByRecursion P) runs
in_runs P [] all = tt
in_runs P (run ∷ runs) all =
    (all_front P run (flat_map (λ r. r) runs) all, in_runs P runs (all_behind P run (flat_map (λ r. r) runs) all))

module _ (back : NitReadsBack) (mux : Mux) (sound : IsSoundWithIds mux) (kept : IsKept mux.network_name) where
  -- a section says the network and its streams
  section_said : (run : List NitStream) → AllByRecursion HasStreamWidths run → sum_by stream_size run ≤ streams_room mux → nit_in (nit_section mux run) ≡ Some (nit_of mux run)
  section_said run wide few =
      back (nit_of mux run) (record {
        room = network_fits mux run sound.sound;
        shown = decoded-coded mux.network_name kept;
        streams = wide;
        within = omega (arith, few);
      })

  abbrev Fit : List NitStream → Type 0
  Fit run = sum_by stream_size run ≤ streams_room mux

  runs_said : (n : ℕ) (runs : List (List NitStream)) → AllByRecursion (AllByRecursion HasStreamWidths) runs → AllByRecursion Fit runs
      → streams_in (numbered n (map (nit_section mux) runs)) ≡ flat_map (λ (run : List NitStream). run) runs
  runs_said n [] wide fit = refl
  runs_said n (run ∷ runs) wide fit =
      ap₂ (λ (o : Option Nit) (l : List NitStream). unwrap_or (option_map (λ (x : Nit). x.streams) o) [] ++ l) (section_said run wide.0 fit.0)
      (runs_said (1 + n) runs wide.1 fit.1)

  first_said : (runs : List (List NitStream)) → 0 < length runs → AllByRecursion (AllByRecursion HasStreamWidths) runs → AllByRecursion Fit runs
      → (run : List NitStream) × (value_in nit_in 0 (numbered 0 (map (nit_section mux) runs)) ≡ Some (nit_of mux run))
  first_said [] some wide fit = absurd (omega (arith, some))
  first_said (run ∷ runs) some wide fit = (run, section_said run wide.0 fit.0)

  longest : AreLongestRuns stream_size (streams_room mux) (streams_of mux) (longest_runs stream_size (streams_room mux) (streams_of mux))
  longest = are_longest stream_size (streams_room mux) (streams_of mux) (streams_sized mux sound.sound)

  wide_runs : AllByRecursion (AllByRecursion HasStreamWidths) (longest_runs stream_size (streams_room mux) (streams_of mux))
  wide_runs =
      in_runs HasStreamWidths (longest_runs stream_size (streams_room mux) (streams_of mux))
      (subst (AllByRecursion HasStreamWidths) (sym longest.join) (streams_wide mux sound))

  -- all sections together say all streams
  pub nit_said : streams_in (nit_sections mux) ≡ streams_of mux
  nit_said = runs_said 0 (longest_runs stream_size (streams_room mux) (streams_of mux)) wide_runs longest.fit ∙ longest.join

  -- section 0 says the network, whatever its streams
  pub network_said : (run : List NitStream) × (value_in nit_in 0 (nit_sections mux) ≡ Some (nit_of mux run))
  network_said =
      first_said (longest_runs stream_size (streams_room mux) (streams_of mux)) (runs_some stream_size (streams_room mux) (streams_of mux)) wide_runs longest.fit

-- ---- services

abbrev pub AreKept : ServiceGuide → Type 0
AreKept g = IsKept g.provider × IsKept g.name

-- a service of the SDT has a service_id of 16 bits and small descriptors, and the guide has a part of it within its limits, with names that
-- may be kept
pub record IsNamed (guide : Guide) (s : ServiceEntry) : Type 0 where
  pub small : HasSmallDescriptors s
  pub service : s.service < 65536
  pub within : IsServiceWithin (part_of guide s.service)
  pub kept : AreKept (part_of guide s.service)

named_wide : (guide : Guide) (s : ServiceEntry) → IsNamed guide s → HasServiceWidths (named_service guide s)
named_wide guide s named =
    let g = part_of guide s.service in
    record {
      service = named.service;
      fits = service_fits s g named.within named.small;
      shown = record { provider = decoded-coded g.provider named.kept.0; name = decoded-coded g.name named.kept.1 };
    }

sections_said : SdtReadsBack → (original : ℕ) → original < 65536 → (n : ℕ) (runs : List (List SdtService)) → AllByRecursion (AllByRecursion HasServiceWidths) runs
    → services_in (numbered n (map (section_body original) runs)) ≡ flat_map (λ (run : List SdtService). run) runs
sections_said back original lt n [] all = refl
sections_said back original lt n (run ∷ runs) all =
    let sdt : Sdt = record { original = original; services = run } in
    let said : sdt_in (section_body original run) ≡ Some sdt = back sdt (record { original = lt; services = all.0 }) in
    ap₂ (λ (o : Option Sdt) (l : List SdtService). unwrap_or (option_map (λ (x : Sdt). x.services) o) [] ++ l) said
    (sections_said back original lt (1 + n) runs all.1)

pub sdt_said : SdtReadsBack → (original : ℕ) (guide : Guide) (entries : List ServiceEntry) → original < 65536 → IsGuideWithin guide → AllByRecursion (IsNamed guide) entries
    → services_in (sdt_sections original guide entries) ≡ sdt_services guide entries
sdt_said back original guide entries lt within named =
    let things : List SdtService = sdt_services guide entries in
    let longest = are_longest service_size 1009 things (services_fit guide entries within (all_map (IsNamed guide) HasSmallDescriptors (λ s is. is.small) entries named)) in
    let wide : AllByRecursion HasServiceWidths things = all_through (IsNamed guide) HasServiceWidths (named_service guide) (named_wide guide) entries named in
    sections_said back original lt 0 (longest_runs service_size 1009 things)
    (in_runs HasServiceWidths (longest_runs service_size 1009 things) (subst (AllByRecursion HasServiceWidths) (sym longest.join) wide))
    ∙ longest.join

-- ---- their order

abbrev Rise : List SdtService → Type 0
Rise [] = Unit {0}
Rise (s ∷ ss) = AllByRecursion (λ (t : SdtService). s.service < t.service) ss × Rise ss

own_rise : (guide : Guide) (ss : List MuxService) → DoAscend ss → Rise (sdt_services guide (map entry_of ss))
own_rise guide [] up = tt
own_rise guide (s ∷ ss) up = (
  all_to_map (λ (t : SdtService). s.service < t.service) (named_service guide) (map entry_of ss) (all_to_map (λ (k : ServiceEntry). s.service < k.service) entry_of ss up.0),
  own_rise guide ss up.1,
)

remote_rise : (guide : Guide) (ss : List RemoteService) → DoCome has_lower_id ss → Rise (sdt_services guide (map remote_entry ss))
remote_rise guide [] up = tt
remote_rise guide (s ∷ ss) up = (
  all_to_map (λ (t : SdtService). s.service < t.service) (named_service guide) (map remote_entry ss)
      (all_to_map (λ (k : ServiceEntry). s.service < k.service) remote_entry ss (all_map (λ (t : RemoteService). has_lower_id s t ≡ true) (λ (t : RemoteService). s.service < t.service) (λ t lower. less s.service t.service lower) ss up.0)),
  remote_rise guide ss up.1,
)
  where
    less : (a b : ℕ) → nat_lt a b ≡ true → a < b
    less a b e = grind (arith, nat_tests)

put_first : (s : SdtService) (ss : List SdtService) → AllByRecursion (λ (t : SdtService). s.service < t.service) ss → with_service s ss ≡ s ∷ ss
put_first s [] all = refl
put_first s (t ∷ ts) all =
    ap (λ (b : Bool). if b then s ∷ t ∷ ts else if s.service == t.service then s ∷ ts else t ∷ with_service s ts) (less s.service t.service all.0)
  where
    less : (a b : ℕ) → a < b → nat_lt a b ≡ true
    less a b lt = grind (arith, nat_tests)

in_order : (ss : List SdtService) → Rise ss → by_service ss ≡ ss
in_order [] up = refl
in_order (s ∷ ss) up = ap (with_service s) (in_order ss up.1) ∙ put_first s ss up.0

pub own_in_order : (mux : Mux) (guide : Guide) → DoAscend mux.services → by_service (sdt_services guide (own_entries mux)) ≡ sdt_services guide (own_entries mux)
own_in_order mux guide up = in_order (sdt_services guide (own_entries mux)) (own_rise guide mux.services up)

pub remote_in_order : (guide : Guide) (other : Other) → DoCome has_lower_id other.services → by_service (sdt_services guide (remote_entries other)) ≡ sdt_services guide (remote_entries other)
remote_in_order guide other up = in_order (sdt_services guide (remote_entries other)) (remote_rise guide other.services up)

-- ---- how streams are sent

own_ids : (a b : ℕ) → (a == a && b == b) ≡ true
own_ids a b = grind (arith, nat_tests)

later_ids : (a b c d : ℕ) → (nat_lt a c || (a == c && nat_lt b d)) ≡ true → (a == c && b == d) ≡ false
later_ids a b c d before = grind (arith, nat_tests)

-- the entry of each other stream is found by its ids, and so are its further descriptors
pub cables_said : (os : List Other) → DoCome comes_before os → AllByRecursion (λ (o : Other). cable_in o.stream o.original (map other_stream os) ≡ o.cable) os
cables_said [] up = tt
cables_said (o ∷ os) up = (
  ap (λ (b : Bool). if b then o.cable else cable_in o.stream o.original (map other_stream os)) (own_ids o.stream o.original),
  all_two (λ (p : Other). comes_before o p ≡ true) (λ (p : Other). cable_in p.stream p.original (map other_stream os) ≡ p.cable)
      (λ (p : Other). cable_in p.stream p.original (map other_stream (o ∷ os)) ≡ p.cable)
      (λ p before said. ap (λ (b : Bool). if b then o.cable else cable_in p.stream p.original (map other_stream os)) (later_ids o.stream o.original p.stream p.original before) ∙ said)
      os up.0 (cables_said os up.1),
)

pub further_said : (os : List Other) → DoCome comes_before os → AllByRecursion (λ (o : Other). descriptors_in o.stream o.original (map other_stream os) ≡ o.descriptors) os
further_said [] up = tt
further_said (o ∷ os) up = (
  ap (λ (b : Bool). if b then o.descriptors else descriptors_in o.stream o.original (map other_stream os)) (own_ids o.stream o.original),
  all_two (λ (p : Other). comes_before o p ≡ true) (λ (p : Other). descriptors_in p.stream p.original (map other_stream os) ≡ p.descriptors)
      (λ (p : Other). descriptors_in p.stream p.original (map other_stream (o ∷ os)) ≡ p.descriptors)
      (λ p before said. ap (λ (b : Bool). if b then o.descriptors else descriptors_in p.stream p.original (map other_stream os)) (later_ids o.stream o.original p.stream p.original before) ∙ said)
      os up.0 (further_said os up.1),
)
