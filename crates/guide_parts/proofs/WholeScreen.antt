-- The screen of parts, where the whole screen is heard.
use Rattle.std.proofs.Common.{◌≡◌, ℕ, List, [], ◌∷◌, ◌++◌, map, refl, sym, ap, ap₂, ◌∙◌}
use Rattle.std.specs.Prelude.{if◌then◌else◌, filter, Option, Some, None, is_some, option_map, unwrap_or}
use Rattle.std.specs.List.{AllByRecursion}
use Rattle.guide_model.specs.declared.screen.Screen.{Screen}
use Rattle.section_codec.specs.declared.table.Key.{Key}
use Rattle.section_codec.specs.Contents.{Content}
use Rattle.table_bodies.specs.declared.pat.PatEntry.{PatEntry}
use Rattle.table_bodies.specs.declared.sdt.SdtService.{SdtService}
use Rattle.sub_collect.specs.Marks.{Taken}
use Rattle.guide_screen.specs.View.{View, sections, sdt_of, eit_key}
use Rattle.guide_screen.specs.Reading.{programs_in, streams_in, services_in}
use Rattle.guide_screen.specs.declared.need.Need.{Need}
use Rattle.guide_screen.specs.declared.need.Heard.TheVariants.{Whole}
use Rattle.guide_screen.specs.Needs.{unless, unmet_of, want_pmt, want_service, want_services, wants, needs, by_service, programs_of, services_of}
use Rattle.guide_screen.specs.Screen.{pmt_pid, event_at, screen_service, cable_in, descriptors_in, other_stream, is_other, network_name, network_descriptors, screen, heard_by}
use Rattle.guide_parts.specs.declared.part_screen.PartNetwork.{PartNetwork}
use Rattle.guide_parts.specs.declared.part_screen.PartService.{PartService}
use Rattle.guide_parts.specs.Parts.{Parts, parts_over, heard_key, pat_heard, nit_heard, sdt_heard, home_by, home_of, stream_by}
use Rattle.guide_parts.specs.PartScreen.{part_at, programs_heard, program_ids, event_ids, described, bare, in_order, services_heard, part_service, network_with, cable_of, stream_descriptors, is_foreign, moment_at, part_screen}
use Rattle.guide_parts.specs.Laws.{service_as_part, screen_as_part, NamesCompleted, IsWholeBeside, PartialIsListen}
use Rattle.guide_parts.proofs.Whole.{ArePartsOver, both_none, two_met, each_met, described_in_order, whole_same, present_same, schedule_same, pmt_same}

-- all that a whole screen shows is there, and no need is left
pub record WholeBy (V : View) (pat nit sdt : Option Key) (clock : Option ℕ) (ns : List Need) (shown : Screen) : Type 0 where
  pub p : Key
  pub n : Key
  pub s : Key
  pub c : ℕ
  pub pat_is : pat ≡ Some p
  pub nit_is : nit ≡ Some n
  pub sdt_is : sdt ≡ Some s
  pub clock_is : clock ≡ Some c
  pub none : ns ≡ []
  pub shown_is : screen V p n s c ≡ shown

whole_by : (V : View) (pat nit sdt : Option Key) (clock : Option ℕ) (ns : List Need) (shown : Screen) → heard_by V pat nit sdt clock ns ≡ Whole shown → WholeBy V pat nit sdt clock ns shown
whole_by V None nit sdt clock ns shown f = cc
whole_by V (Some p) None sdt clock ns shown f = cc
whole_by V (Some p) (Some n) None clock ns shown f = cc
whole_by V (Some p) (Some n) (Some s) None ns shown f = cc
whole_by V (Some p) (Some n) (Some s) (Some c) [] shown f = record {
  p = p;
  n = n;
  s = s;
  c = c;
  pat_is = refl;
  nit_is = refl;
  sdt_is = refl;
  clock_is = refl;
  none = refl;
  shown_is = let e : screen V p n s c ≡ shown = cc in e;
}
whole_by V (Some p) (Some n) (Some s) (Some c) (x ∷ ns) shown f = cc

module _ (past : List Taken) (P : Parts) (are : ArePartsOver past P) (sdt : Key) (es : List PatEntry) (pmts : unmet_of P.view.content (Rattle.std.specs.List.flat_map want_pmt es) ≡ []) where
  service_is : (s : SdtService) → IsWholeBeside P sdt s → unmet_of P.view.content (want_service P.view.content sdt s) ≡ []
      → part_service P.part es (Some sdt) (described s) ≡ service_as_part (screen_service P.view.content es sdt s)
  service_is s beside met =
      let pmt = pmt_same past P are es pmts s.service in
      let present = present_same past P are sdt s beside met in
      let schedule = schedule_same past P are sdt s beside met in
      λ i. record {
        service = s.service;
        kind = Some s.kind;
        provider = s.provider;
        name = s.name;
        descriptors = s.descriptors;
        pmt_pid = pmt_pid es s.service;
        pcr_pid = option_map (λ p. p.pcr_pid) (pmt i);
        program_descriptors = unwrap_or (option_map (λ p. p.descriptors) (pmt i)) [];
        components = unwrap_or (option_map (λ p. p.components) (pmt i)) [];
        now = event_at 0 (present i);
        next = event_at 1 (present i);
        events = schedule i;
      }

  services_are : (ss : List SdtService) → AllByRecursion (IsWholeBeside P sdt) ss
      → AllByRecursion (λ (s : SdtService). unmet_of P.view.content (want_service P.view.content sdt s) ≡ []) ss
      → map (part_service P.part es (Some sdt)) (map described ss) ≡ map service_as_part (map (screen_service P.view.content es sdt) ss)
  services_are [] beside met = refl
  services_are (s ∷ ss) beside met = ap₂ (λ (x : PartService) (xs : List PartService). x ∷ xs) (service_is s beside.0 met.0) (services_are ss beside.1 met.1)

abbrev named : ℕ → Content → Option PartNetwork
named id c = Some (record { id = id; name = network_name c; descriptors = network_descriptors c })

-- the needs of the tables that follow from the others
further_met : (V : View) (a b c d : List Need) → a ++ b ++ c ++ d ++ unmet_of V.content (wants V) ≡ [] → unmet_of V.content (wants V) ≡ []
further_met V a b c d e = (both_none (a ++ b ++ c ++ d) (unmet_of V.content (wants V)) e).1

module _ (past : List Taken) (P : Parts) (are : ArePartsOver past P) (names : NamesCompleted P.view)
    (beside : (sdt : Key) → sdt_of P.view ≡ Some sdt → AllByRecursion (IsWholeBeside P sdt) (services_of P.view))
    (shown : Screen) (of : WholeBy P.view P.view.pat P.view.nit (sdt_of P.view) P.view.clock (needs P.view) shown) where
  pat_is : pat_heard P ≡ Some of.p
  pat_is = ap (λ (o : Option Key). heard_key o 0x00 P.keys) of.pat_is

  nit_is : nit_heard P ≡ Some of.n
  nit_is = ap (λ (o : Option Key). heard_key o 0x40 P.keys) of.nit_is

  sdt_is : sdt_heard P ≡ Some of.s
  sdt_is = ap (λ (o : Option Key). heard_key o 0x42 P.keys) of.sdt_is

  home_is : home_of P ≡ Some of.s
  home_is = ap (λ (o : Option Key). home_by o (pat_heard P) P.keys) sdt_is

  stream_is : of.s.ext ≡ of.p.ext
  stream_is = names.stream of.p of.s of.pat_is of.sdt_is

  pat_same : P.part of.p ≡ sections (P.view.content of.p)
  pat_same = whole_same past P are of.p (names.pat of.p of.pat_is)

  nit_same : P.part of.n ≡ sections (P.view.content of.n)
  nit_same = whole_same past P are of.n (names.nit of.n of.nit_is)

  sdt_same : P.part of.s ≡ sections (P.view.content of.s)
  sdt_same = whole_same past P are of.s (names.sdt of.s of.sdt_is)

  programs_are : programs_heard P ≡ programs_of P.view
  programs_are =
      ap (λ (o : Option Key). programs_in (part_at P.part o)) pat_is ∙ ap programs_in pat_same
      ∙ sym (ap (λ (o : Option Key). programs_in (Rattle.guide_screen.specs.View.sections_at P.view.content o)) of.pat_is)

  streams_are : streams_in (part_at P.part (nit_heard P)) ≡ streams_in (sections (P.view.content of.n))
  streams_are = ap (λ (o : Option Key). streams_in (part_at P.part o)) nit_is ∙ ap streams_in nit_same

  listed_are : services_heard P ≡ map described (services_of P.view)
  listed_are =
      ap₂ (λ (o : Option Key) (ids : List ℕ). in_order (map described (services_in (part_at P.part o)) ++ map bare ids)) sdt_is
      (ap (λ (o : Option Key). if is_some o then [] else program_ids (programs_heard P) ++ event_ids (home_of P) P.keys) of.sdt_is)
      ∙ ap (λ (c : Content). in_order (map described (services_in c) ++ [])) sdt_same
      ∙ described_in_order (services_in (sections (P.view.content of.s)))
      ∙ sym (ap (λ (o : Option Key). map described (by_service (services_in (Rattle.guide_screen.specs.View.sections_at P.view.content o)))) of.sdt_is)

  all_met : unmet_of P.view.content (wants P.view) ≡ []
  all_met = further_met P.view (unless Rattle.guide_screen.specs.declared.need.Need.TheVariants.Pat (is_some P.view.pat)) (unless Rattle.guide_screen.specs.declared.need.Need.TheVariants.Nit (is_some P.view.nit))
      (unless Rattle.guide_screen.specs.declared.need.Need.TheVariants.Sdt (is_some (sdt_of P.view))) (unless Rattle.guide_screen.specs.declared.need.Need.TheVariants.Clock (is_some P.view.clock)) of.none

  met : (unmet_of P.view.content (Rattle.std.specs.List.flat_map want_pmt (programs_of P.view)) ≡ []) × (unmet_of P.view.content (Rattle.std.specs.List.flat_map (want_service P.view.content of.s) (services_of P.view)) ≡ [])
  met =
      let both = two_met P.view.content (Rattle.std.specs.List.flat_map want_pmt (programs_of P.view)) (want_services P.view.content (sdt_of P.view) (services_of P.view)) all_met in
      (both.0, ap (λ (o : Option Key). unmet_of P.view.content (want_services P.view.content o (services_of P.view))) (sym of.sdt_is) ∙ both.1)

  services_same : map (part_service P.part (programs_heard P) (home_of P)) (services_heard P) ≡ map service_as_part (map (screen_service P.view.content (programs_of P.view) of.s) (services_of P.view))
  services_same =
      (λ i. map (part_service P.part (programs_are i) (home_is i)) (listed_are i))
      ∙ services_are past P are of.s (programs_of P.view) met.0 (services_of P.view) (beside of.s of.sdt_is) (each_met P.view.content of.s (services_of P.view) met.1)

  cable_same : cable_of (home_of P) (streams_in (part_at P.part (nit_heard P))) ≡ cable_in of.p.ext of.s.network (streams_in (sections (P.view.content of.n)))
  cable_same = (λ i. cable_of (home_is i) (streams_are i)) ∙ ap (λ (ext : ℕ). cable_in ext of.s.network (streams_in (sections (P.view.content of.n)))) stream_is

  descriptors_same : stream_descriptors (home_of P) (streams_in (part_at P.part (nit_heard P))) ≡ descriptors_in of.p.ext of.s.network (streams_in (sections (P.view.content of.n)))
  descriptors_same = (λ i. stream_descriptors (home_is i) (streams_are i)) ∙ ap (λ (ext : ℕ). descriptors_in ext of.s.network (streams_in (sections (P.view.content of.n)))) stream_is

  others_same : map (other_stream P.view.content (streams_in (part_at P.part (nit_heard P)))) (filter (is_foreign (home_of P)) P.view.others)
      ≡ map (other_stream P.view.content (streams_in (sections (P.view.content of.n)))) (filter (is_other of.p.ext of.s.network) P.view.others)
  others_same =
      (λ i. map (other_stream P.view.content (streams_are i)) (filter (is_foreign (home_is i)) P.view.others))
      ∙ ap (λ (ext : ℕ). map (other_stream P.view.content (streams_in (sections (P.view.content of.n)))) (filter (is_other ext of.s.network) P.view.others)) stream_is

  network_same : option_map (network_with P.part) (nit_heard P) ≡ named of.n.ext (sections (P.view.content of.n))
  network_same =
      ap (option_map (network_with P.part)) nit_is
      ∙ ap (named of.n.ext) nit_same

  stream_same : stream_by (home_of P) (pat_heard P) ≡ Some of.p.ext
  stream_same = ap (λ (o : Option Key). stream_by o (pat_heard P)) home_is ∙ ap Some stream_is

  original_same : option_map (λ (k : Key). k.network) (home_of P) ≡ Some of.s.network
  original_same = ap (option_map (λ (k : Key). k.network)) home_is

  pub same_screen : part_screen P ≡ screen_as_part shown
  same_screen =
      (λ i. record {
        clock = option_map moment_at (of.clock_is i);
        offsets = P.view.offsets;
        network = network_same i;
        stream = stream_same i;
        original = original_same i;
        cable = cable_same i;
        stream_descriptors = descriptors_same i;
        services = services_same i;
        others = others_same i;
      })
      ∙ ap screen_as_part of.shown_is

pub partial_is_listen : PartialIsListen
partial_is_listen V taken contents names beside shown heard =
    same_screen taken (parts_over V taken) (record { content = contents; part = λ k. refl }) names beside shown
    (whole_by V V.pat V.nit (sdt_of V) V.clock (needs V) shown heard)
