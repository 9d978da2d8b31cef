-- What is heard of an air of a journal from which packets were lost.
use Rattle.std.proofs.Common.{◌≡◌, ℕ, ◌*◌, ◌<◌, List, [], ◌∷◌, ◌++◌, length, refl, sym, ap, ◌∙◌, subst, append_assoc, append-nil}
use Rattle.std.specs.List.{AllByRecursion}
use Rattle.si_lists.proofs.Lists.{all_map}
use Rattle.guide_model.specs.declared.guide.Guide.{Guide}
use Rattle.mux_model.specs.declared.mux.Mux.{Mux}
use Rattle.journal_model.specs.declared.step.Entry.{Entry}
use Rattle.desk_core.specs.Journal.{Legal}
use Rattle.desk_core.specs.Publications.{publication, swaps}
use Rattle.version_book.specs.Airings.{AiredTables}
use Rattle.ts_demux.specs.Sections.{heard_all}
use Rattle.guide_receiver.specs.Latest.{clock_of}
use Rattle.strict_receiver.specs.Strict.{strict_view}
use Rattle.air_model.specs.Air.{Aired, airings_of}
use Rattle.air_model.specs.Repeating.{IsRepeatingAirOf}
use Rattle.cycle_player.specs.Airs.{IsAirAt}
use Rattle.cycle_player.proofs.Airs.{air_repeats}
use Rattle.air_laws.specs.Counting.{CanBeHeard}
use Rattle.air_laws.specs.Exact.{TellOffsetsOf}
use Rattle.air_laws.proofs.Views.{element_at}
use Rattle.publication.specs.Network.{nit_key}
use Rattle.publication.specs.Programs.{pat_key}
use Rattle.publication.specs.Tables.{sdt_key, tables_of}
use Rattle.journal_air.proofs.Whole.{publication_is_shown}
use Rattle.journal_air.specs.Published.{ArePublished, HaveOffsetsOf, number_at}
use Rattle.journal_air.proofs.AirScreenKeys.{other_keys}
use Rattle.journal_air.proofs.AirScreenShown.{tables_at, some_clock, once, has_publication}
use Rattle.loss_laws.specs.Thinned.{Fate, bytes_that_came, SomeCame, IsThinnedAir, CameWhole}
use Rattle.loss_laws.proofs.Coherent.{thinned_coherent}
use Rattle.loss_laws.proofs.Dones.{thinned_dones}
use Rattle.loss_laws.proofs.Views.{thinned_on_air}
use Rattle.journal_air.specs.Air.{airings}
use Rattle.journal_air.proofs.CarryFacts.{each_airing}
use Rattle.journal_air.specs.JournalScreenShown.{IsAsRead, numbers_on_air}
use Rattle.journal_air.proofs.ReadBack.{nit_back, sdt_back}
use Rattle.journal_air.proofs.JournalScreenShown.{guides, can_publish, front_published, can, in_range, IsInRange}
use Rattle.loss_laws.specs.Heard.{CamePublished, AreStrictlyShown, ThinnedJournalIsHeard}

module _ (mux : Mux) (journal : List Entry) (is : IsAsRead mux journal) (legal : Legal mux journal) (cycles : List Aired) (air_is : IsAirAt mux.rate (airings mux journal) cycles)
    (fates : List Fate) (thin : IsThinnedAir cycles fates) where
  abbrev numbers : List ℕ
  numbers = numbers_on_air journal

  own_air : IsRepeatingAirOf (airings mux journal) cycles
  own_air = air_repeats mux.rate (airings mux journal) cycles air_is

  are : airings mux journal ≡ airings_of cycles ++ []
  are = sym own_air.airings_are ∙ sym (append-nil (airings_of cycles))

  repeating : IsRepeatingAirOf (airings_of cycles) cycles
  repeating =
      subst (λ (l : List AiredTables). IsRepeatingAirOf l cycles) (sym own_air.airings_are) own_air

  all : AllByRecursion CanBeHeard (airings_of cycles)
  all = can mux journal is legal cycles [] are repeating

  published_all : ArePublished mux (guides mux journal is legal) numbers (airings_of cycles)
  published_all = front_published mux journal is legal (airings_of cycles) [] (swaps journal) are

  abbrev TellsOffsets : AiredTables → Type 0
  TellsOffsets a = a.form.offsets ≡ mux.offsets

  -- all airings tell the offsets of the multiplex
  tell : HaveOffsetsOf mux (airings_of cycles)
  tell = subst (AllByRecursion TellsOffsets) (sym own_air.airings_are) (each_airing TellsOffsets mux journal (λ swap. refl) (swaps journal))

  tells_of : (before : List Aired) (x : Aired) (after : List Aired) → cycles ≡ before ++ x ∷ after → TellOffsetsOf x.airing (airings_of cycles)
  tells_of before x after cut =
      let own : x.airing.form.offsets ≡ mux.offsets = element_at TellsOffsets before x after (subst (λ (l : List Aired). HaveOffsetsOf mux (airings_of l)) cut tell) in
      all_map TellsOffsets (λ (a : AiredTables). a.form.offsets ≡ x.airing.form.offsets) (λ a e. e ∙ sym own) (airings_of cycles) tell

  exact_here : (before : List Aired) (x : Aired) (after : List Aired) (cut : cycles ≡ before ++ x ∷ after) → CamePublished numbers fates before x after
      → AreStrictlyShown mux (publication mux journal (number_at numbers (length before))) (bytes_that_came fates)
  exact_here before x after cut came =
      let guide_numbers : ℕ → Guide = guides mux journal is legal in
      let moment : x.airing.moment < 65536 * 86400 =
      element_at (IsInRange mux journal is legal) before x after (subst (λ (l : List Aired). AllByRecursion (IsInRange mux journal is legal) (airings_of l)) cut (in_range mux journal is legal cycles [] are repeating)) in
      let here : IsRepeatingAirOf (airings_of cycles) (before ++ x ∷ after) = subst (IsRepeatingAirOf (airings_of cycles)) cut repeating in
      let own_thin : IsThinnedAir (before ++ x ∷ after) fates = subst (λ (l : List Aired). IsThinnedAir l fates) cut thin in
      let whole : CameWhole fates before x after = record { whole = came.whole; same = same } in
      let on = thinned_on_air (airings_of cycles) before x after here all fates own_thin whole moment (pat_key mux) (nit_key mux) (sdt_key mux) (other_keys mux)
      (once nit_back sdt_back mux guide_numbers numbers (airings_of cycles) is.sound (can_publish mux journal is legal) published_all tell all before x after here)
      (tells_of before x after cut) in
      let packets : List (List ℕ) = bytes_that_came fates in
      let at = some_clock (clock_of (heard_all [] packets)) on.clock in
      let p = can_publish mux journal is legal (number_at numbers (length before)) in
      record {
        clock = at.0;
        told = at.1;
        shown = publication_is_shown nit_back sdt_back mux (guide_numbers (number_at numbers (length before))) at.0 (strict_view packets) is.sound p.services p.within p.typed p.names
            (has_publication nit_back sdt_back mux guide_numbers numbers (airings_of cycles) is.sound (can_publish mux journal is legal) published_all tell all before x after here at.0 (strict_view packets) on at.1);
      }
    where
      same : (one two : List Aired) (y : Aired) → after ≡ one ++ y ∷ two → SomeCame fates (before ++ x ∷ one) y → y.airing.tables ≡ x.airing.tables
      same one two y e there =
          let guide_numbers : ℕ → Guide = guides mux journal is legal in
          let behind : before ++ x ∷ after ≡ (before ++ x ∷ one) ++ y ∷ two =
          ap (λ (l : List Aired). before ++ x ∷ l) e ∙ sym (append_assoc before (x ∷ one) (y ∷ two)) in
          tables_at mux guide_numbers numbers (before ++ x ∷ one) y two (subst (λ (l : List Aired). ArePublished mux guide_numbers numbers (airings_of l)) (cut ∙ behind) published_all)
          ∙ ap (λ (n : ℕ). tables_of mux (guide_numbers n)) (came.same one two y e there)
          ∙ sym (tables_at mux guide_numbers numbers before x after (subst (λ (l : List Aired). ArePublished mux guide_numbers numbers (airings_of l)) cut published_all))

pub thinned_heard : ThinnedJournalIsHeard
thinned_heard mux journal is legal cycles air_is fates thin = record {
  dones = thinned_dones (airings_of cycles) cycles (repeating mux journal is legal cycles air_is fates thin) (all mux journal is legal cycles air_is fates thin) fates thin;
  coherent = λ k. thinned_coherent (airings_of cycles) cycles (repeating mux journal is legal cycles air_is fates thin) (all mux journal is legal cycles air_is fates thin) fates thin k;
  exact = exact_here mux journal is legal cycles air_is fates thin;
}
