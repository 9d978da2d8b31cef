-- The air of a journal is exact.
use Rattle.std.proofs.Common.{◌≡◌, ℕ, ◌*◌, ◌/◌, ◌<◌, ◌≤◌, List, [], ◌∷◌, ◌++◌, length, take, map, refl, sym, ap, ap₂, ◌∙◌, subst, arith, length-take}
use Rattle.std.specs.Prelude.{slice_range}
use Rattle.std.specs.List.{AllByRecursion}
use Rattle.si_lists.proofs.Lists.{all_front}
use Rattle.si_time.specs.declared.moment.Moment.{Moment}
use Rattle.guide_model.specs.declared.guide.Guide.{Guide}
use Rattle.mux_model.specs.declared.mux.Mux.{Mux}
use Rattle.section_codec.specs.declared.table.SubTable.{SubTable}
use Rattle.journal_model.specs.declared.step.Entry.{Entry}
use Rattle.desk_core.specs.Journal.{Legal}
use Rattle.desk_core.specs.Publications.{publication, swaps}
use Rattle.desk_core.proofs.MomentFacts.{swaps_range}
use Rattle.desk_core.proofs.WithinFacts.{publications_within}
use Rattle.version_book.specs.Airings.{AiredTables}
use Rattle.ts_packets.specs.Bytes.{bytes_of_packet}
use Rattle.ts_packets.specs.WholePackets.{whole_packets}
use Rattle.air_model.specs.Air.{Aired, air, airings_of, air_bytes}
use Rattle.air_model.specs.Repeating.{IsRepeatingAirOf}
use Rattle.air_laws.specs.Counting.{CanBeHeard}
use Rattle.air_laws.proofs.Coherent.{front_part, part-map, front_packets}
use Rattle.cycle_player.proofs.Sent.{sent_repeats}
use Rattle.air_laws.proofs.Views.{element_at}
use Rattle.journal_air.specs.Published.{ArePublished, HaveOffsetsOf, CanBePublished, number_at, StaysPublished, AreShown}
use Rattle.journal_air.proofs.AirScreenShown.{published_is_shown}
use Rattle.journal_air.specs.Air.{airing_at, airings}
use Rattle.journal_air.proofs.Published.{published_services, published_typed}
use Rattle.journal_air.proofs.CarryFacts.{each_airing, airings_heard}
use Rattle.journal_air.specs.JournalScreenShown.{IsAsRead, numbers_on_air, IsExact}
use Rattle.journal_air.specs.JournalScreenLaws.{JournalsAreShown, SentIsShown}
use Rattle.journal_air.proofs.Names.{published_named}
use Rattle.journal_air.proofs.ReadBack.{nit_back, sdt_back}

module _ (mux : Mux) (journal : List Entry) (is : IsAsRead mux journal) (legal : Legal mux journal) where
  abbrev pub guides : ℕ → Guide
  guides n = publication mux journal n

  pub can_publish : (n : ℕ) → CanBePublished mux (guides n)
  can_publish n =
      let within = publications_within mux journal n is.sound.sound legal in
      record {
        services = published_services mux journal n;
        within = within;
        typed = published_typed mux journal n is.edits within;
        names = published_named mux journal n is.network is.services is.edits;
      }

  -- the first airings of a journal have the tables of the publications with its first numbers
  pub front_published : (front others : List AiredTables) (aired : List (ℕ × Moment)) → map (airing_at mux journal) aired ≡ front ++ others
      → ArePublished mux guides (map (λ (swap : ℕ × Moment). swap.0) aired) front
  front_published [] others aired e = refl
  front_published (a ∷ front) others [] e = cc
  front_published (a ∷ front) others (swap ∷ aired) e =
      let here : airing_at mux journal swap ≡ a = cc in
      let rest : map (airing_at mux journal) aired ≡ front ++ others = cc in
      ap₂ (λ (ts : List SubTable) (tables : List (List SubTable)). ts ∷ tables) (ap (λ (x : AiredTables). x.tables) (sym here)) (front_published front others aired rest)

  abbrev pub IsInRange : AiredTables → Type 0
  IsInRange a = a.moment < 65536 * 86400

  moments : (aired : List (ℕ × Moment)) → AllByRecursion (λ (swap : ℕ × Moment). (swap.1).0 < 65536 * 86400) aired → AllByRecursion IsInRange (map (airing_at mux journal) aired)
  moments [] all = tt
  moments (swap ∷ aired) all = (all.0, moments aired all.1)

  module _ (cycles : List Aired) (others : List AiredTables) (are : airings mux journal ≡ airings_of cycles ++ others) (air_is : IsRepeatingAirOf (airings_of cycles) cycles) where
    pub can : AllByRecursion CanBeHeard (airings_of cycles)
    can = all_front CanBeHeard (airings_of cycles) others (subst (AllByRecursion CanBeHeard) are (airings_heard mux journal is.sound is.edits legal))

    pub in_range : AllByRecursion IsInRange (airings_of cycles)
    in_range =
        all_front IsInRange (airings_of cycles) others
        (subst (AllByRecursion IsInRange) are (moments (swaps journal) (swaps_range mux journal is.sound.sound is.steps legal)))

    abbrev TellsOffsets : AiredTables → Type 0
    TellsOffsets a = a.form.offsets ≡ mux.offsets

    tell : HaveOffsetsOf mux (airings_of cycles)
    tell = all_front TellsOffsets (airings_of cycles) others (subst (AllByRecursion TellsOffsets) are (each_airing TellsOffsets mux journal (λ swap. refl) (swaps journal)))

    pub exact_of : (join end : ℕ) (before : List Aired) (x : Aired) (after : List Aired) → cycles ≡ before ++ x ∷ after
        → StaysPublished (numbers_on_air journal) join end before x after
        → AreShown mux (guides (number_at (numbers_on_air journal) (length before))) (map bytes_of_packet (slice_range (air cycles) join end))
    exact_of join end before x after cut stays =
        let moment = element_at IsInRange before x after (subst (λ (l : List Aired). AllByRecursion IsInRange (airings_of l)) cut in_range) in
        let here = published_is_shown nit_back sdt_back mux guides (numbers_on_air journal) (airings_of cycles) is.sound can_publish
        (front_published (airings_of cycles) others (swaps journal) are) tell can before x after (subst (IsRepeatingAirOf (airings_of cycles)) cut air_is) moment join end stays in
        subst (λ (l : List Aired). AreShown mux (guides (number_at (numbers_on_air journal) (length before))) (map bytes_of_packet (slice_range (air l) join end))) (sym cut) here

    front_exact : (n : ℕ) → IsExact mux journal cycles (take n (map bytes_of_packet (air cycles)))
    front_exact n join end le before x after cut stays =
        let packets : List (List ℕ) = map bytes_of_packet (air cycles) in
        let few : end ≤ n = omega (arith, le, length-take n packets) in
        subst (AreShown mux (guides (number_at (numbers_on_air journal) (length before))))
        (sym (front_part n join end packets few ∙ part-map bytes_of_packet join end (air cycles)))
        (exact_of join end before x after cut stays)

    pub bytes_exact : (n : ℕ) → IsExact mux journal cycles (whole_packets (take n (air_bytes cycles)))
    bytes_exact n = subst (IsExact mux journal cycles) (sym (front_packets (airings_of cycles) cycles air_is n)) (front_exact (n / 188))

pub journals_shown : JournalsAreShown
journals_shown mux journal is legal cycles others are air_is n = bytes_exact mux journal is legal cycles others are air_is n

pub sent_shown : SentIsShown
sent_shown mux journal is legal before now sent =
    bytes_exact mux journal is legal sent.cycles sent.others sent.airings_are (sent_repeats mux.rate (airings mux journal) before now sent) sent.size
