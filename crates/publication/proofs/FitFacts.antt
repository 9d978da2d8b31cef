-- The sub-tables of a publication can be sent in one cycle.
use Rattle.std.proofs.Common.{◌≡◌, ◌≢◌, ℕ, zero, suc, ◌+◌, ◌-◌, ◌<◌, ◌≤◌, Bool, true, false, ◌||◌, List, [], ◌∷◌, ◌++◌, length, map, min, sum_by, refl, sym, ap, ap₂, ◌∙◌, subst, arith, lit<, append_assoc}
use Rattle.std.specs.Prelude.{flat_map, ◌==◌, ◌&&◌, nat_le, if◌then◌else◌}
use Rattle.std.specs.List.{AllByRecursion, range_with_len}
use Rattle.std.proofs.lemmas.Bool.{false≢true}
use Rattle.std.proofs.lemmas.Bool.Decides.{nat_tests}
use Rattle.std.proofs.lemmas.List.{length-map, map-append}
use Rattle.std.proofs.lemmas.List.Elements.{All-from_recursion}
use Rattle.si_lists.proofs.Lists.{all_append, all_behind, all_flat, all_front, all_map, all_of_map, all_through, all_two, each_flat, each_unit}
use Rattle.guide_model.specs.declared.guide.Guide.{Guide}
use Rattle.guide_model.specs.declared.guide.ServiceGuide.{ServiceGuide}
use Rattle.mux_model.specs.declared.mux.MuxService.{MuxService}
use Rattle.mux_model.specs.declared.mux.Other.{Other}
use Rattle.mux_model.specs.declared.mux.Mux.{Mux}
use Rattle.mux_model.specs.Order.{DoCome}
use Rattle.mux_model.specs.Sound.{IsSound, IsSoundOther, IsSoundService, DoAscend, AreDifferent, comes_before}
use Rattle.guide_limits.specs.Events.{midnight, block_of}
use Rattle.guide_limits.specs.Limits.{IsServiceWithin, AreWithin, IsGuideWithin}
use Rattle.si_lists.specs.Runs.{longest_runs}
use Rattle.si_lists.proofs.RunFacts.{runs_some, runs_fit}
use Rattle.section_codec.specs.declared.table.Key.{Key}
use Rattle.section_codec.specs.declared.table.NumberedBody.{NumberedBody}
use Rattle.section_codec.specs.declared.table.SubTable.{SubTable}
use Rattle.section_codec.specs.declared.table.Tier3.{Tier3}
use Rattle.section_codec.specs.declared.table.Tier3.TheVariants.{Fast, Near, Far}
use Rattle.section_codec.specs.Tables.{is_eit, has_short_form, tier_of, tier_rank}
use Rattle.section_codec.specs.Section.{longest_body}
use Rattle.section_codec.specs.SubTables.{AreFit, Lacks, KeysDiffer, IsFit, AreTiered}
use Rattle.eit_segments.specs.Schedule.{CanBePlaced, last_used}
use Rattle.eit_segments.proofs.Few.{events_can_be_placed}
use Rattle.eit_segments.proofs.Order.{used_less}
use Rattle.eit_segments.specs.Laws.{at_of}
use Rattle.publication.specs.Eit.{Bearer, own, bearer_key}
use Rattle.publication.specs.Present.{present_of, present_table}
use Rattle.publication.specs.Schedule.{last_table_of, schedule_of, schedule_table, near_tables, far_tables, remote_tables}
use Rattle.publication.specs.EitLaws.{AreSmallEntries, AreEit}
use Rattle.publication.proofs.EitFacts.{present_fit, placed_fit}
use Rattle.publication.specs.declared.sdt.ServiceEntry.{ServiceEntry}
use Rattle.table_bodies.specs.declared.sdt.SdtService.{SdtService}
use Rattle.publication.specs.Sections.{numbered, single_table}
use Rattle.publication.specs.Programs.{pat_of, pat_key, pat_table, pmt_of, pmt_key, pmt_table, pmt_tables}
use Rattle.publication.specs.Network.{nit_key, nit_sections, nit_table}
use Rattle.publication.specs.Parts.{own_guide, remote_guide}
use Rattle.publication.specs.Sdt.{HasSmallDescriptors, own_entries, remote_entries, sdt_services, sdt_sections, service_size, section_body}
use Rattle.publication.specs.Tables.{sdt_key, sdt_table, present_tables, all_near_tables, all_far_tables, other_sdt_key, other_sdt_table, other_sdt_tables, bearer_of, remote_presents, remote_schedules, all_remote_presents, all_remote_schedules, near_part, far_part, tables_of}
use Rattle.publication.specs.Laws.{HaveSmallEntries, HasSmallSentEntries, PublicationsAreFit}
use Rattle.table_bodies.specs.Pat.{pat_body}
use Rattle.table_bodies.specs.Pmt.{pmt_body}
use Rattle.mux_model.proofs.FedFacts.{different_parts}
use Rattle.publication.proofs.PartFacts.{of_any, remote_of_any, own_different, remote_different, apart_parts}
use Rattle.publication.proofs.ProgramFacts.{pat_short, pmt_short}
use Rattle.publication.proofs.NetworkFacts.{IsNitSection, nit_fit}
use Rattle.publication.proofs.SdtFacts.{length-body, length-numbered, ascend-numbered, services_fit, own_small, remote_small}

-- ---- which tables a service has

-- a table_id that a schedule has, and one of the first eight days, or of the later ones
abbrev pub IsIn : ℕ → ℕ → SubTable → Type 0
IsIn low high t = (low ≤ t.key.table) × (t.key.table ≤ high)

pub last_is : (day : ℕ) (service : ServiceGuide) → last_table_of day service.events ≤ 0x5F
last_is day service =
    let less : last_used (block_of day) 512 (map at_of service.events) < 512 = used_less (block_of day) 512 (map at_of service.events) (omega arith) in
    omega (arith, less)

-- what holds of each table of a range
pub each_table : (P : SubTable → Type 0) (b : Bearer) (day : ℕ) (service : ServiceGuide) (from n high : ℕ) → from + n ≤ high → ((table : ℕ) → from ≤ table → table < high → P (schedule_of b day service table))
    → AllByRecursion P (map (schedule_of b day service) (range_with_len from n))
each_table P b day service from zero high le each = tt
each_table P b day service from (suc n) high le each =
    (each from (omega arith) (omega (arith, le)), each_table P b day service (from + 1) n high (omega (arith, le)) (λ table above below. each table (omega (arith, above)) below))

pub each_near : (P : SubTable → Type 0) (mux : Mux) (day : ℕ) (service : ServiceGuide) → ((table : ℕ) → 0x50 ≤ table → table < 0x52 → P (schedule_table mux day service table)) → AllByRecursion P (near_tables mux day service)
each_near P mux day service each = each_table P (own mux) day service 0x50 (1 + min 0x51 (last_table_of day service.events) - 0x50) 0x52 (omega arith) each

pub each_far : (P : SubTable → Type 0) (mux : Mux) (day : ℕ) (service : ServiceGuide) → ((table : ℕ) → 0x52 ≤ table → table < 0x60 → P (schedule_table mux day service table)) → AllByRecursion P (far_tables mux day service)
each_far P mux day service each = each_table P (own mux) day service 0x52 (1 + last_table_of day service.events - 0x52) 0x60 (omega (arith, last_is day service)) each

-- of a service of another stream
pub each_remote : (P : SubTable → Type 0) (b : Bearer) (day : ℕ) (service : ServiceGuide) → ((table : ℕ) → 0x50 ≤ table → table < 0x60 → P (schedule_of b day service table)) → AllByRecursion P (remote_tables b day service)
each_remote P b day service each = each_table P b day service 0x50 (1 + last_table_of day service.events - 0x50) 0x60 (omega (arith, last_is day service)) each

-- what holds of the tables of each service
pub each_service : (P : SubTable → Type 0) (Q : ServiceGuide → Type 0) (f : ServiceGuide → List SubTable) → ((s : ServiceGuide) → Q s → AllByRecursion P (f s)) → (ss : List ServiceGuide) → AllByRecursion Q ss
    → AllByRecursion P (flat_map f ss)
each_service P Q f each [] all = tt
each_service P Q f each (s ∷ ss) all = all_append P (f s) (flat_map f ss) (each s all.0) (each_service P Q f each ss all.1)

abbrev pub one_present : Bearer → ℕ → ServiceGuide → List SubTable
one_present b moment service = present_of b moment service ∷ []

pub presents : (b : Bearer) (moment : ℕ) (ss : List ServiceGuide) → flat_map (one_present b moment) ss ≡ map (present_of b moment) ss
presents b moment [] = refl
presents b moment (s ∷ ss) = ap (λ (l : List SubTable). present_of b moment s ∷ l) (presents b moment ss)

-- what holds of the PMT of each service
pub each_pmt : (P : SubTable → Type 0) (R : MuxService → Type 0) → ((s : MuxService) → R s → P (pmt_table s))
    → (ss : List MuxService) → AllByRecursion R ss → AllByRecursion P (map pmt_table ss)
each_pmt P R each [] all = tt
each_pmt P R each (s ∷ ss) all = (each s all.0, each_pmt P R each ss all.1)

-- what holds of the PMTs of all services, whatever they are
pub any_pmt : (P : SubTable → Type 0) (mux : Mux) → ((s : MuxService) → P (pmt_table s)) → AllByRecursion P (pmt_tables mux)
any_pmt P mux each = each_pmt P (λ s. Unit {0}) (λ s q. each s) mux.services (each_unit mux.services)

-- what holds of the tables of other streams: of their SDTs, of their services' parts of the guide, and of the event information of these
pub record OfOthers (P : SubTable → Type 0) (Q : Other → ServiceGuide → Type 0) (R : Other → Type 0) (guide : Guide) : Type 0 where
  pub sdt : (o : Other) → R o → P (other_sdt_table guide o)
  pub parts : (o : Other) → R o → AllByRecursion (Q o) (remote_guide guide o)
  pub present : (o : Other) (s : ServiceGuide) → R o → Q o s → P (present_of (bearer_of o) guide.moment.0 s)
  pub schedule :
      (o : Other) (s : ServiceGuide) (table : ℕ) → R o → Q o s → 0x50 ≤ table → table < 0x60
      → P (schedule_of (bearer_of o) (midnight guide.moment.0) s table)

module _ (P : SubTable → Type 0) (Q : Other → ServiceGuide → Type 0) (R : Other → Type 0) (guide : Guide) (each : OfOthers P Q R guide) where
  each_remote_present : (o : Other) → R o → AllByRecursion P (remote_presents guide o)
  each_remote_present o r = all_through (Q o) P (present_of (bearer_of o) guide.moment.0) (λ s q. each.present o s r q) (remote_guide guide o) (each.parts o r)

  each_remote_schedule : (o : Other) → R o → AllByRecursion P (remote_schedules guide o)
  each_remote_schedule o r =
      each_service P (Q o) (remote_tables (bearer_of o) (midnight guide.moment.0))
      (λ s q. each_remote P (bearer_of o) (midnight guide.moment.0) s (λ table above below. each.schedule o s table r q above below)) (remote_guide guide o) (each.parts o r)

  -- of all other streams
  pub each_other_sdt : (os : List Other) → AllByRecursion R os → AllByRecursion P (map (other_sdt_table guide) os)
  each_other_sdt os all = all_through R P (other_sdt_table guide) each.sdt os all

  pub each_present : (os : List Other) → AllByRecursion R os → AllByRecursion P (flat_map (remote_presents guide) os)
  each_present os all = all_flat R P (remote_presents guide) each_remote_present os all

  pub each_schedule : (os : List Other) → AllByRecursion R os → AllByRecursion P (flat_map (remote_schedules guide) os)
  each_schedule os all = all_flat R P (remote_schedules guide) each_remote_schedule os all

-- what holds of each sub-table of a publication
pub each_sub_table : (P : SubTable → Type 0) (Q : ServiceGuide → Type 0) (S : Other → ServiceGuide → Type 0) (R : Other → Type 0) (mux : Mux) (guide : Guide) → AllByRecursion Q (own_guide mux guide)
    → AllByRecursion R mux.others
    → P (pat_table mux) → AllByRecursion P (pmt_tables mux) → P (nit_table mux) → P (sdt_table mux guide)
    → ((s : ServiceGuide) → Q s → P (present_table mux guide.moment.0 s))
    → ((s : ServiceGuide) (table : ℕ) → Q s → 0x50 ≤ table → table < 0x60 → P (schedule_table mux (midnight guide.moment.0) s table))
    → OfOthers P S R guide
    → AllByRecursion P (tables_of mux guide)
each_sub_table P Q S R mux guide all others pat pmts nit sdt present schedule each =
    let ss = own_guide mux guide in
    let day = midnight guide.moment.0 in
    let events = present_tables mux guide ++ (near_part mux guide ++ far_part mux guide) in
    let of_near : AllByRecursion P (near_part mux guide) =
    all_append P (other_sdt_tables mux guide) (all_remote_presents mux guide ++ all_near_tables mux guide) (each_other_sdt P S R guide each mux.others others)
    (all_append P (all_remote_presents mux guide) (all_near_tables mux guide) (each_present P S R guide each mux.others others)
    (each_service P Q (near_tables mux day) (λ s q. each_near P mux day s (λ table above below. schedule s table q above (omega (arith, below)))) ss all)) in
    let of_far : AllByRecursion P (far_part mux guide) =
    all_append P (all_far_tables mux guide) (all_remote_schedules mux guide)
    (each_service P Q (far_tables mux day) (λ s q. each_far P mux day s (λ table above below. schedule s table q (omega (arith, above)) below)) ss all)
    (each_schedule P S R guide each mux.others others) in
    let of_events : AllByRecursion P events =
    all_append P (present_tables mux guide) (near_part mux guide ++ far_part mux guide)
    (all_through Q P (present_table mux guide.moment.0) present ss all) (all_append P (near_part mux guide) (far_part mux guide) of_near of_far) in
    (pat, all_append P (pmt_tables mux) (nit_table mux ∷ sdt_table mux guide ∷ events) pmts (nit, (sdt, of_events)))

-- ---- keys

lacks_append : (k : Key) (xs ys : List SubTable) → Lacks k xs → Lacks k ys → Lacks k (xs ++ ys)
lacks_append k [] ys a b = b
lacks_append k (x ∷ xs) ys a b = (a.0, lacks_append k xs ys a.1 b)

differ_append : (xs ys : List SubTable) → KeysDiffer xs → KeysDiffer ys → AllByRecursion (λ (x : SubTable). Lacks x.key ys) xs → KeysDiffer (xs ++ ys)
differ_append [] ys a b apart = b
differ_append (x ∷ xs) ys a b apart = (lacks_append x.key xs ys a.0 apart.0, differ_append xs ys a.1 b apart.1)

-- by their tables
lacks_table : (k : Key) (n : ℕ) (ys : List SubTable) → k.table < n → AllByRecursion (λ (y : SubTable). n ≤ y.key.table) ys → Lacks k ys
lacks_table k n [] less above = tt
lacks_table k n (y ∷ ys) less above = ((λ e. (let same : k.table ≡ y.key.table = ap (λ (q : Key). q.table) e in absurd (omega (arith, same, less, above.0)))), lacks_table k n ys less above.1)

differ_tables : (n : ℕ) (xs ys : List SubTable) → KeysDiffer xs → KeysDiffer ys → AllByRecursion (λ (x : SubTable). x.key.table < n) xs → AllByRecursion (λ (y : SubTable). n ≤ y.key.table) ys
    → KeysDiffer (xs ++ ys)
differ_tables n xs ys a b below above = differ_append xs ys a b (all_map (λ (x : SubTable). x.key.table < n) (λ (x : SubTable). Lacks x.key ys) (λ x less. lacks_table x.key n ys less above) xs below)

lacks_other : (k : Key) (ys : List SubTable) → AllByRecursion (λ (y : SubTable). k.table ≢ y.key.table) ys → Lacks k ys
lacks_other k [] other = tt
lacks_other k (y ∷ ys) other = ((λ e. other.0 (ap (λ (q : Key). q.table) e)), lacks_other k ys other.1)

-- by their services
lacks_service : (k : Key) (ys : List SubTable) → AllByRecursion (λ (y : SubTable). k.ext ≢ y.key.ext) ys → Lacks k ys
lacks_service k [] other = tt
lacks_service k (y ∷ ys) other = ((λ e. other.0 (ap (λ (q : Key). q.ext) e)), lacks_service k ys other.1)

abbrev IsOf : ServiceGuide → SubTable → Type 0
IsOf s t = t.key.ext ≡ s.service

abbrev ids : List ServiceGuide → List ℕ
ids ss = map (λ (s : ServiceGuide). s.service) ss

-- no table has this id where no service has it
other_services : (f : ServiceGuide → List SubTable) → ((s : ServiceGuide) → AllByRecursion (IsOf s) (f s)) → (n : ℕ) (ss : List ServiceGuide) → AllByRecursion (λ (m : ℕ). n ≢ m) (ids ss)
    → AllByRecursion (λ (t : SubTable). n ≢ t.key.ext) (flat_map f ss)
other_services f of n [] other = tt
other_services f of n (s ∷ ss) other =
    all_append (λ (t : SubTable). n ≢ t.key.ext) (f s) (flat_map f ss)
    (all_map (IsOf s) (λ (t : SubTable). n ≢ t.key.ext) (λ t e same. other.0 (same ∙ e)) (f s) (of s)) (other_services f of n ss other.1)

differ_services : (f : ServiceGuide → List SubTable) → ((s : ServiceGuide) → AllByRecursion (IsOf s) (f s)) → ((s : ServiceGuide) → KeysDiffer (f s)) → (ss : List ServiceGuide) → AreDifferent (ids ss)
    → KeysDiffer (flat_map f ss)
differ_services f of own [] different = tt
differ_services f of own (s ∷ ss) different =
    differ_append (f s) (flat_map f ss) (own s) (differ_services f of own ss different.1)
    (all_map (IsOf s) (λ (t : SubTable). Lacks t.key (flat_map f ss))
    (λ t e. lacks_service t.key (flat_map f ss) (subst (λ (n : ℕ). AllByRecursion (λ (u : SubTable). n ≢ u.key.ext) (flat_map f ss)) (sym e) (other_services f of s.service ss different.0))) (f s) (of s))

-- of services in groups, as of one list of them
module _ {G : Type 0} (g : G → List ServiceGuide) (f : G → ServiceGuide → List SubTable) (of : (x : G) (s : ServiceGuide) → AllByRecursion (IsOf s) (f x s)) (own : (x : G) (s : ServiceGuide) → KeysDiffer (f x s)) where
  abbrev of_group : G → List SubTable
  of_group x = flat_map (f x) (g x)

  -- their ids, of a group and of the later ones
  joined_ids : (x : G) (xs : List G) → ids (flat_map g (x ∷ xs)) ≡ ids (g x) ++ ids (flat_map g xs)
  joined_ids x xs = map-append (λ (s : ServiceGuide). s.service) (g x) (flat_map g xs)

  other_groups : (n : ℕ) (xs : List G) → AllByRecursion (λ (m : ℕ). n ≢ m) (ids (flat_map g xs)) → AllByRecursion (λ (t : SubTable). n ≢ t.key.ext) (flat_map of_group xs)
  other_groups n [] other = tt
  other_groups n (x ∷ xs) other =
      let all : AllByRecursion (λ (m : ℕ). n ≢ m) (ids (g x) ++ ids (flat_map g xs)) = subst (AllByRecursion (λ (m : ℕ). n ≢ m)) (joined_ids x xs) other in
      all_append (λ (t : SubTable). n ≢ t.key.ext) (of_group x) (flat_map of_group xs)
      (other_services (f x) (of x) n (g x) (all_front (λ (m : ℕ). n ≢ m) (ids (g x)) (ids (flat_map g xs)) all))
      (other_groups n xs (all_behind (λ (m : ℕ). n ≢ m) (ids (g x)) (ids (flat_map g xs)) all))

  -- the tables of services whose ids later groups have not
  lacking : (x : G) (xs : List G) (ss : List ServiceGuide) → AllByRecursion (λ (s : ServiceGuide). AllByRecursion (λ (m : ℕ). s.service ≢ m) (ids (flat_map g xs))) ss
      → AllByRecursion (λ (t : SubTable). Lacks t.key (flat_map of_group xs)) (flat_map (f x) ss)
  lacking x xs [] apart = tt
  lacking x xs (s ∷ ss) apart =
      all_append (λ (t : SubTable). Lacks t.key (flat_map of_group xs)) (f x s) (flat_map (f x) ss)
      (all_map (IsOf s) (λ (t : SubTable). Lacks t.key (flat_map of_group xs))
      (λ t e. lacks_service t.key (flat_map of_group xs) (subst (λ (n : ℕ). AllByRecursion (λ (u : SubTable). n ≢ u.key.ext) (flat_map of_group xs)) (sym e) (other_groups s.service xs apart.0))) (f x s) (of x s))
      (lacking x xs ss apart.1)

  differ_groups : (xs : List G) → AreDifferent (ids (flat_map g xs)) → KeysDiffer (flat_map of_group xs)
  differ_groups [] different = tt
  differ_groups (x ∷ xs) different =
      let split : AreDifferent (ids (g x) ++ ids (flat_map g xs)) = subst AreDifferent (joined_ids x xs) different in
      let parts = different_parts (ids (g x)) (ids (flat_map g xs)) split in
      let apart = apart_parts (ids (g x)) (ids (flat_map g xs)) split in
      differ_append (of_group x) (flat_map of_group xs) (differ_services (f x) (of x) (own x) (g x) parts.0) (differ_groups xs parts.1)
      (lacking x xs (g x) (all_of_map (λ (n : ℕ). AllByRecursion (λ (m : ℕ). n ≢ m) (ids (flat_map g xs))) (λ (s : ServiceGuide). s.service) (g x) apart))

-- of one schedule, whose tables are sent under ascending table_ids
differ_range : (b : Bearer) → ((m n : ℕ) → m < n → b.sent m < b.sent n) → (day : ℕ) (service : ServiceGuide) (from n : ℕ) → KeysDiffer (map (schedule_of b day service) (range_with_len from n))
differ_range b up day service from zero = tt
differ_range b up day service from (suc n) = (
  lacks_table (bearer_key b (b.sent from) service.service) (b.sent from + 1) (map (schedule_of b day service) (range_with_len (from + 1) n)) (omega arith)
      (each_table (λ (t : SubTable). b.sent from + 1 ≤ t.key.table) b day service (from + 1) n (from + 1 + n) (omega arith)
      (λ table above below. (let more : b.sent from < b.sent table = up from table (omega (arith, above)) in omega (arith, more)))),
  differ_range b up day service (from + 1) n,
)

-- ---- the keys of PAT, PMTs, NIT and SDT

pmts_differ : (ss : List MuxService) → DoAscend ss → KeysDiffer (map pmt_table ss)
pmts_differ [] ascend = tt
pmts_differ (s ∷ ss) ascend = (
  lacks_service (pmt_key s) (map pmt_table ss)
      (each_pmt (λ (t : SubTable). s.service ≢ t.key.ext) (λ (t : MuxService). s.service < t.service) (λ t less same. absurd (omega (arith, same, less))) ss ascend.0),
  pmts_differ ss ascend.1,
)

-- ---- the keys of the SDTs of other streams

-- a stream that comes before another one has other ids
ids_apart : (o p : Other) → comes_before o p ≡ true → other_sdt_key o ≡ other_sdt_key p → ⊥
ids_apart o p before same =
    let stream : o.stream ≡ p.stream = ap (λ (k : Key). k.ext) same in
    let original : o.original ≡ p.original = ap (λ (k : Key). k.network) same in
    let not_before : comes_before o p ≡ false = grind (arith, nat_tests) in
    false≢true (sym not_before ∙ before)

other_sdts_differ : (guide : Guide) (os : List Other) → DoCome comes_before os → KeysDiffer (map (other_sdt_table guide) os)
other_sdts_differ guide [] come = tt
other_sdts_differ guide (o ∷ os) come = (lacks_sdt os come.0, other_sdts_differ guide os come.1)
  where
    lacks_sdt : (ps : List Other) → AllByRecursion (λ (p : Other). comes_before o p ≡ true) ps → Lacks (other_sdt_key o) (map (other_sdt_table guide) ps)
    lacks_sdt [] before = tt
    lacks_sdt (p ∷ ps) before = (ids_apart o p before.0, lacks_sdt ps before.1)

-- before the tables of event information and those of other streams
all_differ : (mux : Mux) (guide : Guide) → DoAscend mux.services
    → (events : List SubTable) → KeysDiffer events → AllByRecursion (λ (t : SubTable). 0x46 ≤ t.key.table) events
    → KeysDiffer (pat_table mux ∷ (pmt_tables mux ++ (nit_table mux ∷ sdt_table mux guide ∷ events)))
all_differ mux guide ascend events differ above =
    let pmts = pmt_tables mux in
    let behind = nit_table mux ∷ sdt_table mux guide ∷ events in
    let from : (n : ℕ) → n ≤ 0x46 → AllByRecursion (λ (t : SubTable). n ≤ t.key.table) events =
    λ n le.
    all_map (λ (t : SubTable). 0x46 ≤ t.key.table) (λ (t : SubTable). n ≤ t.key.table) (λ t ge. omega (arith, ge, le)) events above in
    let lacks_pat : Lacks (pat_key mux) (pmts ++ behind) =
    lacks_table (pat_key mux) 1 (pmts ++ behind) (omega arith)
    (all_append (λ (t : SubTable). 1 ≤ t.key.table) pmts behind
    (any_pmt (λ (t : SubTable). 1 ≤ t.key.table) mux (λ s. omega arith)) (omega arith, (omega arith, from 1 (omega arith)))) in
    let lacks_nit : Lacks (nit_key mux) (sdt_table mux guide ∷ events) =
    lacks_table (nit_key mux) 0x41 (sdt_table mux guide ∷ events) (omega arith) (omega arith, from 0x41 (omega arith)) in
    let lacks_sdt : Lacks (sdt_key mux) events = lacks_table (sdt_key mux) 0x46 events (omega arith) above in (
      lacks_pat,
      differ_tables 0x40 pmts behind (pmts_differ mux.services ascend) (lacks_nit, (lacks_sdt, differ))
          (any_pmt (λ (t : SubTable). t.key.table < 0x40) mux (λ s. omega arith)) (omega arith, (omega arith, from 0x40 (omega arith))),
    )

-- ---- tiers

tiered_append : (n : ℕ) (xs ys : List SubTable) → AllByRecursion (λ (x : SubTable). tier_rank x.tier ≤ n) xs → AllByRecursion (λ (y : SubTable). n ≤ tier_rank y.tier) ys → AreTiered xs → AreTiered ys → AreTiered (xs ++ ys)
tiered_append n [] ys below above a b = b
tiered_append n (x ∷ []) [] below above a b = tt
tiered_append n (x ∷ []) (y ∷ ys) below above a b = (let le : tier_rank x.tier ≤ n = below.0 in let ge : n ≤ tier_rank y.tier = above.0 in omega (arith, le, ge), b)
tiered_append n (x ∷ z ∷ xs) ys below above a b = (a.0, tiered_append n (z ∷ xs) ys below.1 above a.1 b)

tiered_same : (n : ℕ) (ts : List SubTable) → AllByRecursion (λ (t : SubTable). tier_rank t.tier ≡ n) ts → AreTiered ts
tiered_same n [] same = tt
tiered_same n (t ∷ []) same = tt
tiered_same n (t ∷ u ∷ ts) same = (let a : tier_rank t.tier ≡ n = same.0 in let b : tier_rank u.tier ≡ n = (same.1).0 in omega (arith, a, b), tiered_same n (u ∷ ts) same.1)

near_tier : (table : ℕ) → 0x50 ≤ table → table < 0x52 → tier_rank (tier_of table) ≡ 1
near_tier table above below =
    let one : (table == 0x50 || table == 0x51 || table == 0x46 || table == 0x4F) ≡ true = grind (arith, nat_tests) in
    ap (λ (b : Bool). tier_rank (if b then Near else if nat_le 0x52 table && nat_le table 0x6F then Far else Fast)) one

far_tier : (table : ℕ) → 0x52 ≤ table → table < 0x70 → tier_rank (tier_of table) ≡ 2
far_tier table above below =
    let none : (table == 0x50 || table == 0x51 || table == 0x46 || table == 0x4F) ≡ false = grind (arith, nat_tests) in
    let far : (nat_le 0x52 table && nat_le table 0x6F) ≡ true = grind (arith, nat_tests) in
    ap (λ (b : Bool). tier_rank (if b then Near else if nat_le 0x52 table && nat_le table 0x6F then Far else Fast)) none
    ∙ ap (λ (b : Bool). tier_rank (if b then Far else Fast)) far

-- ---- each sub-table

single_fit : (key : Key) (body : List ℕ) → key.pid < 8191 → key.table < 0x43 → length body ≤ 1012 → IsFit (single_table key body)
single_fit key body pid table fits =
    let other : is_eit key.table ≡ false = grind (arith, nat_tests) in
    let most : longest_body key.table ≡ 1012 = ap (λ (b : Bool). if b then 4084 else 1012) other in
    record {
      pid = pid;
      long = grind (arith, nat_tests);
      no_fill = λ e. absurd (omega (arith, e, table));
      some = omega arith;
      ascending = tt;
      bodies = All-from_recursion (λ (s : NumberedBody). length s.body ≤ longest_body key.table) (single_table key body).sections
          (omega (arith, most, fits), tt);
    }

pmts_fit : (ss : List MuxService) → AllByRecursion IsSoundService ss → AllByRecursion IsFit (map pmt_table ss)
pmts_fit ss sound =
    each_pmt IsFit IsSoundService
    (λ s is. single_fit (pmt_key s) (pmt_body (pmt_of s)) (omega (arith, is.pmt_pid.1)) (omega arith) (pmt_short s is)) ss sound

short : (original n : ℕ) (runs : List (List SdtService)) → AllByRecursion (λ (r : List SdtService). sum_by service_size r ≤ 1009) runs
    → AllByRecursion (λ (s : NumberedBody). length s.body ≤ 1012) (numbered n (map (section_body original) runs))
short original n [] h = tt
short original n (r ∷ runs) h = (omega (arith, length-body original r, h.0), short original (1 + n) runs h.1)

-- the NIT, by its sections
nit_sections-fit : (mux : Mux) → IsSound mux → IsFit (nit_table mux)
nit_sections-fit mux sound =
    let are = nit_fit mux sound in
    let ss = nit_sections mux in
    record {
      pid = lit< tt;
      long = refl;
      no_fill = λ e. absurd (omega (arith, e));
      some = are.some;
      ascending = are.ascending;
      bodies = All-from_recursion (λ (s : NumberedBody). length s.body ≤ longest_body 0x40) ss
          (all_map IsNitSection (λ (s : NumberedBody). length s.body ≤ longest_body 0x40) (λ s is. is.short) ss are.bodies);
    }

-- an SDT, of this stream or of another, by its sections
sdt_sections-fit : (key : Key) (tier : Tier3) (original : ℕ) (guide : Guide) (entries : List ServiceEntry) → IsGuideWithin guide → AllByRecursion HasSmallDescriptors entries → key.pid < 8191 → has_short_form key.table ≡ false → longest_body key.table ≡ 1012
    → key.table < 0x47 → IsFit (record { key = key; tier = tier; sections = sdt_sections original guide entries })
sdt_sections-fit key tier original guide entries within small pid long most below =
    let services = sdt_services guide entries in
    let runs = longest_runs service_size 1009 services in
    let bodies = map (section_body original) runs in
    record {
      pid = pid;
      long = long;
      no_fill = λ e. absurd (omega (arith, e, below));
      some = omega (arith, length-numbered 0 bodies, length-map runs (section_body original), runs_some service_size 1009 services);
      ascending = ascend-numbered 0 bodies;
      bodies = All-from_recursion (λ (s : NumberedBody). length s.body ≤ longest_body key.table) (numbered 0 bodies)
          (all_map (λ (s : NumberedBody). length s.body ≤ 1012) (λ (s : NumberedBody). length s.body ≤ longest_body key.table) (λ s le. omega (arith, most, le)) (numbered 0 bodies)
          (short original 0 runs (runs_fit service_size 1009 services (services_fit guide entries within small))));
    }

eit_fit : (t : SubTable) → t.key.pid ≡ 0x0012 → 0x4E ≤ t.key.table → t.key.table < 0x70 → AreEit t.sections → IsFit t
eit_fit t pid above below are =
    let long : is_eit t.key.table ≡ true = grind (arith, nat_tests) in
    let most : longest_body t.key.table ≡ 4084 = ap (λ (b : Bool). if b then 4084 else 1012) long in
    record {
      pid = omega (arith, pid);
      long = grind (arith, nat_tests);
      no_fill = λ e. absurd (omega (arith, e, below));
      some = are.by_segments.some;
      ascending = are.by_segments.ascending;
      bodies = All-from_recursion (λ (s : NumberedBody). length s.body ≤ longest_body t.key.table) t.sections
          (all_map (λ (s : NumberedBody). (6 ≤ length s.body) × (length s.body ≤ 4084)) (λ (s : NumberedBody). length s.body ≤ longest_body t.key.table)
          (λ s fits. omega (arith, most, fits.1)) t.sections are.bodies);
    }

-- the first tables before some of event information, and these before later ones
joined_front : (mux : Mux) (guide : Guide) (ps later : List SubTable)
    → (pat_table mux ∷ (pmt_tables mux ++ (nit_table mux ∷ sdt_table mux guide ∷ ps))) ++ later
    ≡ pat_table mux ∷ (pmt_tables mux ++ (nit_table mux ∷ sdt_table mux guide ∷ (ps ++ later)))
joined_front mux guide ps later =
    ap (λ (l : List SubTable). pat_table mux ∷ l) (append_assoc (pmt_tables mux) (nit_table mux ∷ sdt_table mux guide ∷ ps) later)

-- a service with small entries, whose events can be placed
abbrev IsSmall : ServiceGuide → Type 0
IsSmall s = AreSmallEntries s.events × CanBePlaced (map at_of s.events)

none_within : AreWithin []
none_within = record { apart = tt; few = omega arith; each = tt; blocks = λ block. omega arith }

-- another stream, and what its services have in a guide
record HasSmall (guide : Guide) (o : Other) : Type 0 where
  sound : IsSoundOther o
  parts : AllByRecursion IsSmall (remote_guide guide o)

others_small : (guide : Guide) → IsGuideWithin guide → (os : List Other) → AllByRecursion IsSoundOther os → AllByRecursion (λ (o : Other). HaveSmallEntries (remote_guide guide o)) os
    → AllByRecursion (HasSmall guide) os
others_small guide within os sound small =
    all_two IsSoundOther (λ (o : Other). HaveSmallEntries (remote_guide guide o)) (HasSmall guide)
    (λ o is entries. record {
      sound = is;
      parts = all_two (λ (s : ServiceGuide). AreWithin s.events) (λ (s : ServiceGuide). AreSmallEntries s.events) IsSmall (λ s w t. (t, events_can_be_placed s.events w t)) (remote_guide guide o)
          (remote_of_any (λ (s : ServiceGuide). AreWithin s.events) (λ id. none_within) guide o (all_map IsServiceWithin (λ (s : ServiceGuide). AreWithin s.events) (λ s w. w.events) guide.services within.services))
          entries;
    }) os sound small

-- ---- lists by the ranges of their table_ids

in_both : (xs ys : List SubTable) (a b c d : ℕ) → a ≤ c → b ≤ d → AllByRecursion (IsIn a b) xs → AllByRecursion (IsIn c d) ys → AllByRecursion (IsIn a d) (xs ++ ys)
in_both xs ys a b c d low high first second =
    all_append (IsIn a d) xs ys (all_map (IsIn a b) (IsIn a d) (λ t is. (is.0, omega (arith, is.1, high))) xs first) (all_map (IsIn c d) (IsIn a d) (λ t is. (omega (arith, is.0, low), is.1)) ys second)

differ_in : (xs ys : List SubTable) (a b c d : ℕ) → b < c → KeysDiffer xs → KeysDiffer ys → AllByRecursion (IsIn a b) xs → AllByRecursion (IsIn c d) ys → KeysDiffer (xs ++ ys)
differ_in xs ys a b c d less differ_xs differ_ys first second =
    differ_tables c xs ys differ_xs differ_ys (all_map (IsIn a b) (λ (t : SubTable). t.key.table < c) (λ t is. omega (arith, is.1, less)) xs first)
    (all_map (IsIn c d) (λ (t : SubTable). c ≤ t.key.table) (λ t is. is.0) ys second)

-- ---- the parts of a publication

module _ (mux : Mux) (guide : Guide) where
  abbrev moment : ℕ
  moment = guide.moment.0

  abbrev day : ℕ
  day = midnight moment

  abbrev own_parts : List ServiceGuide
  own_parts = own_guide mux guide

  -- what holds of each table of a part, whatever the services are
  own_each : (P : SubTable → Type 0) (f : ServiceGuide → List SubTable) → ((s : ServiceGuide) → AllByRecursion P (f s)) → AllByRecursion P (flat_map f own_parts)
  own_each P f each = each_flat P f each own_parts

  presents_each : (P : SubTable → Type 0) → ((s : ServiceGuide) → P (present_table mux moment s)) → AllByRecursion P (present_tables mux guide)
  presents_each P each = all_through (λ (s : ServiceGuide). Unit {0}) P (present_table mux moment) (λ s q. each s) own_parts (each_unit own_parts)

  nears_each : (P : SubTable → Type 0) → ((s : ServiceGuide) (table : ℕ) → 0x50 ≤ table → table < 0x52 → P (schedule_table mux day s table)) → AllByRecursion P (all_near_tables mux guide)
  nears_each P each = own_each P (near_tables mux day) (λ s. each_near P mux day s (each s))

  fars_each : (P : SubTable → Type 0) → ((s : ServiceGuide) (table : ℕ) → 0x52 ≤ table → table < 0x60 → P (schedule_table mux day s table)) → AllByRecursion P (all_far_tables mux guide)
  fars_each P each = own_each P (far_tables mux day) (λ s. each_far P mux day s (each s))

  sdts_each : (P : SubTable → Type 0) → ((o : Other) → P (other_sdt_table guide o)) → AllByRecursion P (other_sdt_tables mux guide)
  sdts_each P each = all_through (λ (o : Other). Unit {0}) P (other_sdt_table guide) (λ o q. each o) mux.others (each_unit mux.others)

  remotes_each : (P : SubTable → Type 0) → ((o : Other) (s : ServiceGuide) → P (present_of (bearer_of o) moment s)) → AllByRecursion P (all_remote_presents mux guide)
  remotes_each P each =
      each_flat P (remote_presents guide)
      (λ o. all_through (λ (s : ServiceGuide). Unit {0}) P (present_of (bearer_of o) moment) (λ s q. each o s) (remote_guide guide o) (each_unit (remote_guide guide o))) mux.others

  schedules_each : (P : SubTable → Type 0) → ((o : Other) (s : ServiceGuide) (table : ℕ) → 0x50 ≤ table → table < 0x60 → P (schedule_of (bearer_of o) day s table)) → AllByRecursion P (all_remote_schedules mux guide)
  schedules_each P each =
      each_flat P (remote_schedules guide) (λ o. each_flat P (remote_tables (bearer_of o) day) (λ s. each_remote P (bearer_of o) day s (each o s)) (remote_guide guide o)) mux.others

  -- ---- their table_ids

  in_presents : AllByRecursion (IsIn 0x4E 0x4E) (present_tables mux guide)
  in_presents = presents_each (IsIn 0x4E 0x4E) (λ s. (omega arith, omega arith))

  in_sdts : AllByRecursion (IsIn 0x46 0x46) (other_sdt_tables mux guide)
  in_sdts = sdts_each (IsIn 0x46 0x46) (λ o. (omega arith, omega arith))

  in_remotes : AllByRecursion (IsIn 0x4F 0x4F) (all_remote_presents mux guide)
  in_remotes = remotes_each (IsIn 0x4F 0x4F) (λ o s. (omega arith, omega arith))

  in_nears : AllByRecursion (IsIn 0x50 0x51) (all_near_tables mux guide)
  in_nears = nears_each (IsIn 0x50 0x51) (λ s table above below. (above, omega (arith, below)))

  in_rest : AllByRecursion (IsIn 0x4F 0x51) (all_remote_presents mux guide ++ all_near_tables mux guide)
  in_rest = in_both (all_remote_presents mux guide) (all_near_tables mux guide) 0x4F 0x4F 0x50 0x51 (omega arith) (omega arith) in_remotes in_nears

  in_near : AllByRecursion (IsIn 0x46 0x51) (near_part mux guide)
  in_near =
      in_both (other_sdt_tables mux guide) (all_remote_presents mux guide ++ all_near_tables mux guide) 0x46 0x46 0x4F 0x51 (omega arith) (omega arith) in_sdts in_rest

  in_fars : AllByRecursion (IsIn 0x52 0x5F) (all_far_tables mux guide)
  in_fars = fars_each (IsIn 0x52 0x5F) (λ s table above below. (above, omega (arith, below)))

  in_schedules : AllByRecursion (IsIn 0x60 0x6F) (all_remote_schedules mux guide)
  in_schedules = schedules_each (IsIn 0x60 0x6F) (λ o s table above below. (omega (arith, above), omega (arith, below)))

  in_far : AllByRecursion (IsIn 0x52 0x6F) (far_part mux guide)
  in_far = in_both (all_far_tables mux guide) (all_remote_schedules mux guide) 0x52 0x5F 0x60 0x6F (omega arith) (omega arith) in_fars in_schedules

  in_later : AllByRecursion (IsIn 0x46 0x6F) (near_part mux guide ++ far_part mux guide)
  in_later = in_both (near_part mux guide) (far_part mux guide) 0x46 0x51 0x52 0x6F (omega arith) (omega arith) in_near in_far

  no_own_present : (t : SubTable) → t.key.table ≡ 0x4E → AllByRecursion (λ (u : SubTable). t.key.table ≢ u.key.table) (near_part mux guide ++ far_part mux guide)
  no_own_present t is =
      all_append (λ (u : SubTable). t.key.table ≢ u.key.table) (near_part mux guide) (far_part mux guide)
      (all_append (λ (u : SubTable). t.key.table ≢ u.key.table) (other_sdt_tables mux guide) (all_remote_presents mux guide ++ all_near_tables mux guide)
      (all_map (IsIn 0x46 0x46) (λ (u : SubTable). t.key.table ≢ u.key.table) (λ u range same. absurd (omega (arith, is, same, range.1))) (other_sdt_tables mux guide) in_sdts)
      (all_map (IsIn 0x4F 0x51) (λ (u : SubTable). t.key.table ≢ u.key.table) (λ u range same. absurd (omega (arith, is, same, range.0))) (all_remote_presents mux guide ++ all_near_tables mux guide) in_rest))
      (all_map (IsIn 0x52 0x6F) (λ (u : SubTable). t.key.table ≢ u.key.table) (λ u range same. absurd (omega (arith, is, same, range.0))) (far_part mux guide) in_far)

  -- ---- their keys

  presents_differ : AreDifferent (ids own_parts) → KeysDiffer (present_tables mux guide)
  presents_differ own_ids =
      subst KeysDiffer (presents (own mux) moment own_parts) (differ_services (one_present (own mux) moment) (λ s. (refl, tt)) (λ s. (tt, tt)) own_parts own_ids)

  nears_differ : AreDifferent (ids own_parts) → KeysDiffer (all_near_tables mux guide)
  nears_differ own_ids =
      differ_services (near_tables mux day) (λ s. each_near (IsOf s) mux day s (λ table above below. refl))
      (λ s. differ_range (own mux) (λ m n less. less) day s 0x50 (1 + min 0x51 (last_table_of day s.events) - 0x50)) own_parts own_ids

  fars_differ : AreDifferent (ids own_parts) → KeysDiffer (all_far_tables mux guide)
  fars_differ own_ids =
      differ_services (far_tables mux day) (λ s. each_far (IsOf s) mux day s (λ table above below. refl))
      (λ s. differ_range (own mux) (λ m n less. less) day s 0x52 (1 + last_table_of day s.events - 0x52)) own_parts own_ids

  remotes_differ : AreDifferent (ids (flat_map (remote_guide guide) mux.others)) → KeysDiffer (all_remote_presents mux guide)
  remotes_differ remote_ids =
      subst KeysDiffer (grouped mux.others)
      (differ_groups (remote_guide guide) (λ o. one_present (bearer_of o) moment) (λ o s. (refl, tt)) (λ o s. (tt, tt)) mux.others remote_ids)
    where
      grouped : (os : List Other) → flat_map (λ (o : Other). flat_map (one_present (bearer_of o) moment) (remote_guide guide o)) os ≡ flat_map (remote_presents guide) os
      grouped [] = refl
      grouped (o ∷ os) = ap₂ (λ (xs ys : List SubTable). xs ++ ys) (presents (bearer_of o) moment (remote_guide guide o)) (grouped os)

  schedules_differ : AreDifferent (ids (flat_map (remote_guide guide) mux.others)) → KeysDiffer (all_remote_schedules mux guide)
  schedules_differ remote_ids =
      differ_groups (remote_guide guide) (λ o. remote_tables (bearer_of o) day) (λ o s. each_remote (IsOf s) (bearer_of o) day s (λ table above below. refl))
      (λ o s. differ_range (bearer_of o) (λ m n less. omega (arith, less)) day s 0x50 (1 + last_table_of day s.events - 0x50)) mux.others remote_ids

  later_differ : IsSound mux → KeysDiffer (near_part mux guide ++ far_part mux guide)
  later_differ sound =
      let own_ids = own_different mux guide sound in
      let remote_ids = remote_different mux guide sound in
      let rest : KeysDiffer (all_remote_presents mux guide ++ all_near_tables mux guide) =
      differ_in (all_remote_presents mux guide) (all_near_tables mux guide) 0x4F 0x4F 0x50 0x51 (omega arith) (remotes_differ remote_ids) (nears_differ own_ids) in_remotes in_nears in
      let near : KeysDiffer (near_part mux guide) =
      differ_in (other_sdt_tables mux guide) (all_remote_presents mux guide ++ all_near_tables mux guide) 0x46 0x46 0x4F 0x51 (omega arith)
      (other_sdts_differ guide mux.others sound.others.ascend) rest in_sdts in_rest in
      let far : KeysDiffer (far_part mux guide) =
      differ_in (all_far_tables mux guide) (all_remote_schedules mux guide) 0x52 0x5F 0x60 0x6F (omega arith) (fars_differ own_ids) (schedules_differ remote_ids) in_fars in_schedules in
      differ_in (near_part mux guide) (far_part mux guide) 0x46 0x51 0x52 0x6F (omega arith) near far in_near in_far

  events_differ : IsSound mux → KeysDiffer (present_tables mux guide ++ (near_part mux guide ++ far_part mux guide))
  events_differ sound =
      differ_append (present_tables mux guide) (near_part mux guide ++ far_part mux guide) (presents_differ (own_different mux guide sound)) (later_differ sound)
      (all_map (IsIn 0x4E 0x4E) (λ (t : SubTable). Lacks t.key (near_part mux guide ++ far_part mux guide))
      (λ t is. lacks_other t.key (near_part mux guide ++ far_part mux guide) (no_own_present t (let e : t.key.table ≡ 0x4E = omega (arith, is.0, is.1) in e))) (present_tables mux guide) in_presents)

  in_events : AllByRecursion (λ (t : SubTable). 0x46 ≤ t.key.table) (present_tables mux guide ++ (near_part mux guide ++ far_part mux guide))
  in_events =
      all_append (λ (t : SubTable). 0x46 ≤ t.key.table) (present_tables mux guide) (near_part mux guide ++ far_part mux guide)
      (all_map (IsIn 0x4E 0x4E) (λ (t : SubTable). 0x46 ≤ t.key.table) (λ t is. omega (arith, is.0)) (present_tables mux guide) in_presents)
      (all_map (IsIn 0x46 0x6F) (λ (t : SubTable). 0x46 ≤ t.key.table) (λ t is. is.0) (near_part mux guide ++ far_part mux guide) in_later)

  -- ---- their tiers

  abbrev Ranks : ℕ → List SubTable → Type 0
  Ranks n ts = AllByRecursion (λ (t : SubTable). tier_rank t.tier ≡ n) ts

  rank_near : Ranks 1 (near_part mux guide)
  rank_near =
      all_append (λ (t : SubTable). tier_rank t.tier ≡ 1) (other_sdt_tables mux guide) (all_remote_presents mux guide ++ all_near_tables mux guide) (sdts_each (λ (t : SubTable). tier_rank t.tier ≡ 1) (λ o. refl))
      (all_append (λ (t : SubTable). tier_rank t.tier ≡ 1) (all_remote_presents mux guide) (all_near_tables mux guide) (remotes_each (λ (t : SubTable). tier_rank t.tier ≡ 1) (λ o s. refl))
      (nears_each (λ (t : SubTable). tier_rank t.tier ≡ 1) (λ s table above below. near_tier table above below)))

  rank_far : Ranks 2 (far_part mux guide)
  rank_far =
      all_append (λ (t : SubTable). tier_rank t.tier ≡ 2) (all_far_tables mux guide) (all_remote_schedules mux guide)
      (fars_each (λ (t : SubTable). tier_rank t.tier ≡ 2) (λ s table above below. far_tier table above (omega (arith, below))))
      (schedules_each (λ (t : SubTable). tier_rank t.tier ≡ 2) (λ o s table above below. far_tier (table + 0x10) (omega (arith, above)) (omega (arith, below))))

  abbrev front : List SubTable
  front = pat_table mux ∷ (pmt_tables mux ++ (nit_table mux ∷ sdt_table mux guide ∷ present_tables mux guide))

  rank_front : Ranks 0 front
  rank_front = (
    refl,
    all_append (λ (t : SubTable). tier_rank t.tier ≡ 0) (pmt_tables mux) (nit_table mux ∷ sdt_table mux guide ∷ present_tables mux guide)
        (any_pmt (λ (t : SubTable). tier_rank t.tier ≡ 0) mux (λ s. refl)) (refl, (refl, presents_each (λ (t : SubTable). tier_rank t.tier ≡ 0) (λ s. refl))),
  )

  least : (n m : ℕ) → m ≤ n → (ts : List SubTable) → Ranks n ts → AllByRecursion (λ (t : SubTable). m ≤ tier_rank t.tier) ts
  least n m le ts same = all_map (λ (t : SubTable). tier_rank t.tier ≡ n) (λ (t : SubTable). m ≤ tier_rank t.tier) (λ t e. omega (arith, e, le)) ts same

  most : (n : ℕ) (ts : List SubTable) → Ranks n ts → AllByRecursion (λ (t : SubTable). tier_rank t.tier ≤ n) ts
  most n ts same = all_map (λ (t : SubTable). tier_rank t.tier ≡ n) (λ (t : SubTable). tier_rank t.tier ≤ n) (λ t e. omega (arith, e)) ts same

  tiered : AreTiered (tables_of mux guide)
  tiered =
      let ns = near_part mux guide in
      let fs = far_part mux guide in
      let later : AllByRecursion (λ (t : SubTable). 0 ≤ tier_rank t.tier) (ns ++ fs) =
      all_append (λ (t : SubTable). 0 ≤ tier_rank t.tier) ns fs (least 1 0 (omega arith) ns rank_near) (least 2 0 (omega arith) fs rank_far) in
      subst AreTiered (joined_front mux guide (present_tables mux guide) (ns ++ fs))
      (tiered_append 0 front (ns ++ fs) (most 0 front rank_front) later (tiered_same 0 front rank_front)
      (tiered_append 1 ns fs (most 1 ns rank_near) (least 2 1 (omega arith) fs rank_far)
      (tiered_same 1 ns rank_near) (tiered_same 2 fs rank_far)))

pub sent_fit : (mux : Mux) (guide : Guide) → IsSound mux → IsGuideWithin guide → HasSmallSentEntries mux guide → AreFit (tables_of mux guide)
sent_fit mux guide sound within small =
    let ss = own_guide mux guide in
    let at = guide.moment.0 in
    let from = midnight at in
    let services : AllByRecursion IsSmall ss =
    all_two (λ (s : ServiceGuide). AreWithin s.events) (λ (s : ServiceGuide). AreSmallEntries s.events) IsSmall (λ s w t. (t, events_can_be_placed s.events w t)) ss
    (of_any (λ (s : ServiceGuide). AreWithin s.events) (λ id. none_within) mux guide (all_map IsServiceWithin (λ (s : ServiceGuide). AreWithin s.events) (λ s w. w.events) guide.services within.services))
    small.own in
    record {
      differ = all_differ mux guide sound.ascend (present_tables mux guide ++ (near_part mux guide ++ far_part mux guide)) (events_differ mux guide sound) (in_events mux guide);
      each = All-from_recursion IsFit (tables_of mux guide)
          (each_sub_table IsFit IsSmall (λ (o : Other). IsSmall) (HasSmall guide) mux guide services (others_small guide within mux.others sound.others.each small.remote)
          (single_fit (pat_key mux) (pat_body (pat_of mux)) (lit< tt) (omega arith) (pat_short mux sound))
          (pmts_fit mux.services sound.services)
          (nit_sections-fit mux sound)
          (sdt_sections-fit (sdt_key mux) Fast mux.original guide (own_entries mux) within (own_small mux.services sound.services) (lit< tt) refl refl (omega arith))
          (λ s q. eit_fit (present_table mux at s) refl (omega arith) (omega arith) (present_fit (own mux) at s q.0))
          (λ s table q above below. eit_fit (schedule_table mux from s table) refl (omega (arith, above)) (omega (arith, below)) (placed_fit (own mux) from s table q.1))
          (record {
            sdt = λ o r. sdt_sections-fit (other_sdt_key o) Near o.original guide (remote_entries o) within (remote_small o.services r.sound.services) (lit< tt) refl refl (omega arith);
            parts = λ o r. r.parts;
            present = λ o s r q. eit_fit (present_of (bearer_of o) at s) refl (omega arith) (omega arith) (present_fit (bearer_of o) at s q.0);
            schedule = λ o s table r q above below. eit_fit (schedule_of (bearer_of o) from s table) refl (omega (arith, above)) (omega (arith, below)) (placed_fit (bearer_of o) from s table q.1);
          }));
      tiers = All-from_recursion (λ (t : SubTable). t.tier ≡ tier_of t.key.table) (tables_of mux guide)
          (each_sub_table (λ (t : SubTable). t.tier ≡ tier_of t.key.table) (λ (s : ServiceGuide). Unit {0}) (λ (o : Other) (s : ServiceGuide). Unit {0}) (λ (o : Other). Unit {0}) mux guide (each_unit ss) (each_unit mux.others)
          refl (any_pmt (λ (t : SubTable). t.tier ≡ tier_of t.key.table) mux (λ s. refl)) refl refl
          (λ s q. refl) (λ s table q above below. refl)
          (record { sdt = λ o r. refl; parts = λ o r. each_unit (remote_guide guide o); present = λ o s r q. refl; schedule = λ o s table r q above below. refl }));
      ordered = tiered mux guide;
    }

pub publication_fit : PublicationsAreFit
publication_fit mux guide sound within small = sent_fit mux guide sound within (record {
  own = of_any (λ (s : ServiceGuide). AreSmallEntries s.events) (λ id. tt) mux guide small;
  remote = all_map (λ (o : Other). Unit {0}) (λ (o : Other). HaveSmallEntries (remote_guide guide o)) (λ o q. remote_of_any (λ (s : ServiceGuide). AreSmallEntries s.events) (λ id. tt) guide o small)
      mux.others (each_unit mux.others);
})
