-- What is published is shown.
use Rattle.std.proofs.Common.{◌≡◌, ℕ, ◌<◌, List, [], ◌∷◌, ◌++◌, true, false, Option, Some, None, length, map, refl, sym, ap, ◌∙◌, subst, append_assoc, eq-eqb}
use Rattle.std.specs.Prelude.{◌*◌, slice_range, IsSome}
use Rattle.std.specs.List.{AllByRecursion, Contains}
use Rattle.si_lists.proofs.Lists.{all_map, all_of_map, all_through, all_two, all_front, all_behind}
use Rattle.guide_model.specs.declared.guide.Guide.{Guide}
use Rattle.mux_model.specs.declared.mux.Other.{Other}
use Rattle.mux_model.specs.declared.mux.Mux.{Mux}
use Rattle.mux_model.specs.Sound.{IsSoundWithIds}
use Rattle.section_codec.specs.declared.table.Key.{Key}
use Rattle.section_codec.specs.declared.table.SubTable.{SubTable}
use Rattle.section_codec.specs.Contents.{Content}
use Rattle.version_book.specs.Airings.{AiredTables, content_at, content_in}
use Rattle.version_book.proofs.Airs.{AreOwn-all}
use Rattle.ts_packets.specs.Bytes.{bytes_of_packet}
use Rattle.ts_demux.specs.Sections.{heard_all}
use Rattle.table_bodies.specs.Nit.{NitReadsBack}
use Rattle.table_bodies.specs.Sdt.{SdtReadsBack}
use Rattle.guide_screen.specs.View.{View}
use Rattle.section_codec.specs.Tables.{is_counted}
use Rattle.guide_receiver.specs.Latest.{is_pat_key, is_nit_key, is_sdt_key, is_other_sdt_key, clock_of}
use Rattle.guide_receiver.specs.Guides.{view_of}
use Rattle.air_model.specs.Air.{Aired, air, airings_of}
use Rattle.air_model.specs.Repeating.{IsRepeatingAirOf}
use Rattle.air_laws.specs.Counting.{CanBeHeard}
use Rattle.air_laws.specs.Joining.{HasPacketIn}
use Rattle.air_laws.specs.Exact.{StaysOnAir, IsCarried, HaveOneEach, TellOffsetsOf, HasOnAir}
use Rattle.air_laws.proofs.Views.{element_at, on_air_heard}
use Rattle.publication.specs.Network.{nit_key, nit_table}
use Rattle.publication.specs.Programs.{pat_key, pat_table, pmt_tables}
use Rattle.publication.specs.Tables.{sdt_key, sdt_table, present_tables, all_near_tables, other_sdt_key, other_sdt_table, other_sdt_tables, all_remote_presents, near_part, far_part, tables_of}
use Rattle.journal_air.specs.PublicationScreenShown.{HasPublication}
use Rattle.publication.proofs.CountedFacts.{published_counted}
use Rattle.journal_air.proofs.Whole.{publication_is_shown}
use Rattle.journal_air.specs.Published.{CanBePublished, ArePublished, HaveOffsetsOf, number_at, StaysPublished, AreShown}
use Rattle.journal_air.specs.AirScreenLaws.{PublishedIsShown}
use Rattle.journal_air.proofs.AirScreenKeys.{other_keys, only_pat, only_nit, only_sdt, only_others, others_ascend}
use Rattle.air_laws.proofs.Contents.{can_at}

-- ---- the publication of an airing

-- the tables of the airing with this place
pub tables_at : (mux : Mux) (guides : ℕ → Guide) (numbers : List ℕ) (before : List Aired) (x : Aired) (after : List Aired)
    → ArePublished mux guides numbers (airings_of (before ++ x ∷ after)) → x.airing.tables ≡ tables_of mux (guides (number_at numbers (length before)))
tables_at mux guides [] [] x after e = cc
tables_at mux guides (n ∷ numbers) [] x after e = (let first : x.airing.tables ≡ tables_of mux (guides n) = cc in first)
tables_at mux guides [] (y ∷ before) x after e = cc
tables_at mux guides (n ∷ numbers) (y ∷ before) x after e =
    let rest : ArePublished mux guides numbers (airings_of (before ++ x ∷ after)) = cc in
    tables_at mux guides numbers before x after rest

-- what holds of the tables of each publication holds of each airing
each_published : (P : List SubTable → Type 0) (mux : Mux) (guides : ℕ → Guide) → ((n : ℕ) → P (tables_of mux (guides n))) → (numbers : List ℕ) (airings : List AiredTables)
    → ArePublished mux guides numbers airings → AllByRecursion (λ (a : AiredTables). P a.tables) airings
each_published P mux guides holds numbers [] e = tt
each_published P mux guides holds [] (a ∷ airings) e = cc
each_published P mux guides holds (n ∷ numbers) (a ∷ airings) e =
    let first : a.tables ≡ tables_of mux (guides n) = cc in
    let rest : ArePublished mux guides numbers airings = cc in
    (subst P (sym first) (holds n), each_published P mux guides holds numbers airings rest)

pub some_clock : (o : Option ℕ) → IsSome o → (clock : ℕ) × (o ≡ Some clock)
some_clock None some = (let no : false ≡ true = some in cc)
some_clock (Some at) some = (at, refl)

-- ---- what is shown

module _ (nit_back : NitReadsBack) (sdt_back : SdtReadsBack) (mux : Mux) (guides : ℕ → Guide) (numbers : List ℕ) (airings : List AiredTables) (sound : IsSoundWithIds mux)
    (can_publish : (n : ℕ) → CanBePublished mux (guides n)) (are : ArePublished mux guides numbers airings) (tell : HaveOffsetsOf mux airings) (can : AllByRecursion CanBeHeard airings)
    (before : List Aired) (x : Aired) (after : List Aired) (is : IsRepeatingAirOf airings (before ++ x ∷ after)) where
  abbrev guide : Guide
  guide = guides (number_at numbers (length before))

  pub published : ArePublished mux guides numbers (airings_of (before ++ x ∷ after))
  published = subst (ArePublished mux guides numbers) (sym is.airings_are) are

  pub own : x.airing.tables ≡ tables_of mux guide
  own = tables_at mux guides numbers before x after published

  own_offsets : x.airing.form.offsets ≡ mux.offsets
  own_offsets = element_at (λ (a : AiredTables). a.form.offsets ≡ mux.offsets) before x after (subst (HaveOffsetsOf mux) (sym is.airings_are) tell)

  tells : TellOffsetsOf x.airing airings
  tells = all_map (λ (a : AiredTables). a.form.offsets ≡ mux.offsets) (λ (a : AiredTables). a.form.offsets ≡ x.airing.form.offsets) (λ a e. e ∙ sym own_offsets) airings tell

  stays_on_air : (join end : ℕ) → StaysPublished numbers join end before x after → StaysOnAir join end before x after
  stays_on_air join end stays = record { joined = stays.joined; whole = stays.whole; same = same }
    where
      same : (one two : List Aired) (y : Aired) → after ≡ one ++ y ∷ two → HasPacketIn join end (length (air (before ++ x ∷ one))) y → y.airing.tables ≡ x.airing.tables
      same one two y e there =
          let cut : before ++ x ∷ after ≡ (before ++ x ∷ one) ++ y ∷ two =
          ap (λ (l : List Aired). before ++ x ∷ l) e ∙ sym (append_assoc before (x ∷ one) (y ∷ two)) in
          tables_at mux guides numbers (before ++ x ∷ one) y two (subst (λ (l : List Aired). ArePublished mux guides numbers (airings_of l)) cut published)
          ∙ ap (λ (n : ℕ). tables_of mux (guides n)) (stays.same one two y e there) ∙ sym own

  -- its tables are found by their keys
  found : AllByRecursion (λ (t : SubTable). content_in t.key x.airing.tables ≡ Some t.sections) (tables_of mux guide)
  found =
      subst (AllByRecursion (λ (t : SubTable). content_in t.key x.airing.tables ≡ Some t.sections)) own
      (AreOwn-all x.airing.tables (can_at before x after (subst (AllByRecursion CanBeHeard) (sym is.airings_are) can)).differ)

  some_of : (k : Key) (c : Content) → content_at k x.airing ≡ Some c → IsSome (content_at k x.airing)
  some_of k c e = subst IsSome (sym e) refl

  abbrev Found : SubTable → Type 0
  Found t = content_in t.key x.airing.tables ≡ Some t.sections

  abbrev events : List SubTable
  events = present_tables mux guide ++ (near_part mux guide ++ far_part mux guide)

  tables_found : AllByRecursion Found (nit_table mux ∷ sdt_table mux guide ∷ events)
  tables_found = all_behind Found (pmt_tables mux) (nit_table mux ∷ sdt_table mux guide ∷ events) found.1

  -- those of the other streams among them
  others_found : AllByRecursion Found (map (other_sdt_table guide) mux.others)
  others_found =
      all_front Found (other_sdt_tables mux guide) (all_remote_presents mux guide ++ all_near_tables mux guide)
      (all_front Found (near_part mux guide) (far_part mux guide) (all_behind Found (present_tables mux guide) (near_part mux guide ++ far_part mux guide) tables_found.1.1))

  other_carried : (o : Other) → Found (other_sdt_table guide o) → IsCarried is_other_sdt_key (other_sdt_key o) x.airing
  other_carried o e = record { passes = refl; counted = refl; some = some_of (other_sdt_key o) (other_sdt_table guide o).sections e }

  others_carried : AllByRecursion (λ (k : Key). IsCarried is_other_sdt_key k x.airing) (other_keys mux)
  others_carried =
      all_through (λ (o : Other). Found (other_sdt_table guide o)) (λ (k : Key). IsCarried is_other_sdt_key k x.airing) other_sdt_key other_carried mux.others
      (all_of_map Found (other_sdt_table guide) mux.others others_found)

  pub once : HaveOneEach airings x.airing (pat_key mux) (nit_key mux) (sdt_key mux) (other_keys mux)
  once = record {
    pats = each_published (AllByRecursion (λ (t : SubTable). is_pat_key t.key ≡ true → t.key ≡ pat_key mux)) mux guides (λ n. only_pat mux (guides n) sound.sound) numbers airings are;
    nits = each_published (AllByRecursion (λ (t : SubTable). is_nit_key t.key ≡ true → t.key ≡ nit_key mux)) mux guides (λ n. only_nit mux (guides n) sound.sound) numbers airings are;
    sdts = each_published (AllByRecursion (λ (t : SubTable). is_sdt_key mux.stream t.key ≡ true → t.key ≡ sdt_key mux)) mux guides (λ n. only_sdt mux (guides n) sound.sound) numbers airings are;
    others_only = each_published (AllByRecursion (λ (t : SubTable). is_other_sdt_key t.key ≡ true → Contains (other_keys mux) t.key)) mux guides (λ n. only_others mux (guides n) sound.sound) numbers airings are;
    others_ascend = others_ascend mux sound.sound;
    pat_is = record { passes = refl; counted = refl; some = some_of (pat_key mux) (pat_table mux).sections found.0 };
    nit_is = record { passes = refl; counted = refl; some = some_of (nit_key mux) (nit_table mux).sections tables_found.0 };
    sdt_is = record { passes = eq-eqb mux.stream mux.stream refl; counted = refl; some = some_of (sdt_key mux) (sdt_table mux guide).sections tables_found.1.0 };
    others_are = others_carried;
  }

  pub has_publication : (clock : ℕ) (V : View) → HasOnAir x.airing (pat_key mux) (nit_key mux) (sdt_key mux) (other_keys mux) V → V.clock ≡ Some clock → HasPublication mux guide clock V
  has_publication clock V on told = record {
    contents = all_two (λ (t : SubTable). is_counted t.key.pid t.key.table ≡ true) Found (λ (t : SubTable). V.content t.key ≡ Some t.sections)
        (λ t counted found. on.content t.key t.sections counted found) (tables_of mux guide) (published_counted mux guide sound.sound) found;
    pat = on.pat_is;
    nit = on.nit_is;
    sdt = on.sdt_is;
    others_are = on.others_are;
    clock_is = told;
    offsets_are = on.offsets ∙ own_offsets;
  }

  pub shown_of : x.airing.moment < 65536 * 86400 → (join end : ℕ) → StaysPublished numbers join end before x after
      → AreShown mux guide (map bytes_of_packet (slice_range (air (before ++ x ∷ after)) join end))
  shown_of moment join end stays =
      let packets : List (List ℕ) = map bytes_of_packet (slice_range (air (before ++ x ∷ after)) join end) in
      let on = on_air_heard airings before x after is can join end (stays_on_air join end stays) moment (pat_key mux) (nit_key mux) (sdt_key mux) (other_keys mux) once tells in
      let at = some_clock (clock_of (heard_all [] packets)) on.clock in
      let p = can_publish (number_at numbers (length before)) in
      record {
        clock = at.0;
        told = at.1;
        shown = publication_is_shown nit_back sdt_back mux guide at.0 (view_of packets) sound p.services p.within p.typed p.names (has_publication at.0 (view_of packets) on at.1);
      }

pub published_is_shown : NitReadsBack → SdtReadsBack → PublishedIsShown
published_is_shown nit_back sdt_back mux guides numbers airings sound can_publish are tell can before x after is moment join end stays =
    shown_of nit_back sdt_back mux guides numbers airings sound can_publish are tell can before x after is moment join end stays
