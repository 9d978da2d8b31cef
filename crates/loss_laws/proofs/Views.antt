-- What is heard of what stays on air, whatever was lost before.
use Rattle.std.proofs.Common.{◌≡◌, ℕ, List, ◌∷◌, ◌++◌, [], true, Some, map, refl, sym, ◌∙◌, subst}
use Rattle.std.specs.Prelude.{filter, Bool, IsSome}
use Rattle.std.specs.List.{AllByRecursion, Contains}
use Rattle.std.specs.List.Sorted.{IsStrictlySortedBy}
use Rattle.si_lists.proofs.Lists.{all_map}
use Rattle.section_codec.specs.declared.table.Key.{Key}
use Rattle.section_codec.specs.declared.table.SubTable.{SubTable}
use Rattle.section_codec.specs.KeyOrder.{key_cmp, in_order}
use Rattle.version_book.specs.Airings.{AiredTables, content_at}
use Rattle.ts_packets.specs.Bytes.{bytes_of_packet}
use Rattle.sub_collect.specs.declared.completed.Completed.{Completed}
use Rattle.guide_receiver.specs.Latest.{last_of, is_pat_key, is_nit_key, is_sdt_key, is_other_sdt_key}
use Rattle.air_model.specs.Air.{Aired, airings_of}
use Rattle.air_model.specs.Repeating.{IsRepeatingAirOf}
use Rattle.air_laws.specs.Counting.{CanBeHeard}
use Rattle.air_laws.specs.Exact.{IsOnlyKey, AreOnlyKeys, IsCarried}
use Rattle.air_laws.proofs.Latest.{IsShown, only_is_latest, ordered_are}
use Rattle.air_laws.proofs.Views.{element_at, key_carried, some_content, some_done}
use Rattle.sub_collect.specs.Marks.{latest_over, dones_over}
use Rattle.strict_receiver.specs.Strict.{taken_of}
use Rattle.guide_receiver.specs.Latest.{keys_shown_over}
use Rattle.sub_collect.proofs.MarksShown.{latest_over_is_shown, all_shown_over}
use Rattle.loss_laws.specs.Thinned.{Fate, came_of, IsThinnedAir, IsAiredAmong, CameWhole}
use Rattle.loss_laws.specs.ThinnedAirLaws.{ThinnedOnAirIsHeard}
use Rattle.loss_laws.proofs.Coherent.{thinned_coherent}
use Rattle.loss_laws.proofs.Exact.{thinned_contents}
use Rattle.loss_laws.proofs.Times.{clock_heard, offsets_heard_last}

module _ (airings : List AiredTables) (before : List Aired) (x : Aired) (after : List Aired) (is : IsRepeatingAirOf airings (before ++ x ∷ after)) (can : AllByRecursion CanBeHeard airings)
    (fates : List Fate) (thin : IsThinnedAir (before ++ x ∷ after) fates) (whole : CameWhole fates before x after) where
  abbrev packets : List (List ℕ)
  packets = map bytes_of_packet (came_of fates)

  each_aired : AllByRecursion (IsAiredAmong fates (before ++ x ∷ after)) (dones_over [] (taken_of packets))
  each_aired = all_shown_over (IsAiredAmong fates (before ++ x ∷ after)) (taken_of packets) (λ k. thinned_coherent airings (before ++ x ∷ after) is can fates thin k)

  each_key : (Q : Key → Type 0) → AllByRecursion (λ (a : AiredTables). AllByRecursion (λ (t : SubTable). Q t.key) a.tables) airings
      → AllByRecursion (λ (d : Completed). Q d.key) (dones_over [] (taken_of packets))
  each_key Q each = all_map (IsAiredAmong fates (before ++ x ∷ after)) (λ (d : Completed). Q d.key) one (dones_over [] (taken_of packets)) each_aired
    where
      HoldOf : List AiredTables → Type 0
      HoldOf = AllByRecursion (λ (a : AiredTables). AllByRecursion (λ (t : SubTable). Q t.key) a.tables)

      one : (d : Completed) → IsAiredAmong fates (before ++ x ∷ after) d → Q d.key
      one d aired =
          let all = subst (λ (ys : List Aired). HoldOf (airings_of ys)) aired.cut (subst HoldOf (sym is.airings_are) each) in
          key_carried Q d.key aired.cycle.airing.tables
          (element_at (λ (a : AiredTables). AllByRecursion (λ (t : SubTable). Q t.key) a.tables) aired.before aired.cycle aired.after all) d.sections aired.content

  key_shown : (test : Key → Bool) (k : Key) → IsCarried test k x.airing → IsShown (dones_over [] (taken_of packets)) k
  key_shown test k carried =
      let some = some_content (content_at k x.airing) carried.some in
      let heard = thinned_contents airings before x after is can fates thin whole k carried.counted some.0 some.1 in
      let last = some_done (latest_over k (taken_of packets)) some.0 heard in
      (last.0, sym (latest_over_is_shown k (taken_of packets)) ∙ last.1)

  latest_key : (test : Key → Bool) (k : Key) → IsOnlyKey test k airings → IsCarried test k x.airing → last_of (filter test (keys_shown_over (taken_of packets))) ≡ Some k
  latest_key test k only carried =
      let last = key_shown test k carried in
      only_is_latest test k (dones_over [] (taken_of packets)) (each_key (λ (q : Key). test q ≡ true → q ≡ k) only) carried.passes last.0 last.1

  keys_in_order : (test : Key → Bool) (ks : List Key) → AreOnlyKeys test ks airings → IsStrictlySortedBy key_cmp ks → AllByRecursion (λ (k : Key). IsCarried test k x.airing) ks
      → in_order (filter test (keys_shown_over (taken_of packets))) ≡ ks
  keys_in_order test ks only up carried =
      ordered_are test ks (dones_over [] (taken_of packets)) up (each_key (λ (q : Key). test q ≡ true → Contains ks q) only)
      (all_map (λ (k : Key). IsCarried test k x.airing) (λ (k : Key). test k ≡ true) (λ k one. one.passes) ks carried)
      (all_map (λ (k : Key). IsCarried test k x.airing) (IsShown (dones_over [] (taken_of packets))) (key_shown test) ks carried)

pub thinned_on_air : ThinnedOnAirIsHeard
thinned_on_air airings before x after is can fates thin whole within pat nit sdt others once offsets =
    let clock = clock_heard airings before x after is can fates thin whole within in
    record {
      content = λ k c counted content. thinned_contents airings before x after is can fates thin whole k counted c content;
      pat_is = latest_key airings before x after is can fates thin whole is_pat_key pat once.pats once.pat_is;
      nit_is = latest_key airings before x after is can fates thin whole is_nit_key nit once.nits once.nit_is;
      sdt_is = latest_key airings before x after is can fates thin whole (is_sdt_key sdt.ext) sdt once.sdts once.sdt_is;
      others_are = keys_in_order airings before x after is can fates thin whole is_other_sdt_key others once.others_only once.others_ascend once.others_are;
      clock = subst IsSome (sym clock.1) refl;
      offsets = offsets_heard_last airings before x after is can fates thin whole within offsets;
    }
