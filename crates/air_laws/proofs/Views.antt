-- What is heard of what stays on air.
use Rattle.std.proofs.Common.{◌≡◌, ℕ, List, [], ◌∷◌, ◌++◌, Bool, true, false, Option, Some, None, map, refl, sym, ◌∙◌, subst}
use Rattle.std.specs.Prelude.{filter, slice_range, option_map, if◌then◌else◌, IsSome}
use Rattle.std.specs.List.{AllByRecursion, Contains}
use Rattle.std.specs.List.Sorted.{IsStrictlySortedBy}
use Rattle.si_lists.proofs.Lists.{all_map}
use Rattle.section_codec.specs.declared.table.Key.{Key}
use Rattle.section_codec.specs.declared.table.SubTable.{SubTable}
use Rattle.section_codec.specs.Contents.{Content}
use Rattle.section_codec.specs.KeyOrder.{is_key, key_cmp, in_order}
use Rattle.section_codec.proofs.KeyOrderFacts.{is_key-same}
use Rattle.version_book.specs.Airings.{AiredTables, content_at, content_in as content_among}
use Rattle.ts_packets.specs.Bytes.{bytes_of_packet}
use Rattle.sub_collect.specs.Completions.{latest_of, dones}
use Rattle.sub_collect.specs.declared.completed.Completed.{Completed}
use Rattle.sub_collect.proofs.Done.{latest-is_shown}
use Rattle.section_codec.specs.Tables.{is_counted}
use Rattle.guide_receiver.specs.Dones.{counted_heard}
use Rattle.guide_receiver.specs.Latest.{last_of, keys_shown, is_pat_key, is_nit_key, is_sdt_key, is_other_sdt_key}
use Rattle.air_model.specs.Air.{Aired, air, airings_of}
use Rattle.air_model.specs.Repeating.{IsRepeatingAirOf}
use Rattle.air_laws.specs.Counting.{CanBeHeard}
use Rattle.air_laws.specs.Coherence.{IsAiredIn}
use Rattle.air_laws.proofs.Coherent.{coherent_in}
use Rattle.air_laws.specs.Exact.{StaysOnAir, IsOnlyKey, AreOnlyKeys, IsCarried}
use Rattle.air_laws.specs.ExactnessLaws.{OnAirIsHeard}
use Rattle.air_laws.proofs.Contents.{contents_heard}
use Rattle.air_laws.proofs.Shown.{all_shown}
use Rattle.air_laws.proofs.Latest.{IsShown, only_is_latest, ordered_are}
use Rattle.air_laws.proofs.Clock.{clock_heard}
use Rattle.air_laws.proofs.Offsets.{offsets_are_heard}

-- ---- keys of airings

pub element_at : (P : AiredTables → Type 0) (before : List Aired) (x : Aired) (after : List Aired) → AllByRecursion P (airings_of (before ++ x ∷ after)) → P x.airing
element_at P [] x after all = all.0
element_at P (y ∷ before) x after all = element_at P before x after all.1

pub key_carried : (Q : Key → Type 0) (k : Key) (ts : List SubTable) → AllByRecursion (λ (t : SubTable). Q t.key) ts → (c : Content) → content_among k ts ≡ Some c → Q k
key_carried Q k [] all c e = cc
key_carried Q k (t ∷ ts) all c e = pick (is_key k t.key) refl e (λ f. key_carried Q k ts all.1 c f)
  where
    pick : (b : Bool) → is_key k t.key ≡ b → (if b then Some t.sections else content_among k ts) ≡ Some c → (content_among k ts ≡ Some c → Q k) → Q k
    pick true f g rest = subst Q (sym (is_key-same k t.key f)) all.0
    pick false f g rest = rest g

pub some_content : (o : Option Content) → IsSome o → (c : Content) × (o ≡ Some c)
some_content None some = (let no : false ≡ true = some in cc)
some_content (Some c) some = (c, refl)

pub some_done : (o : Option Completed) (c : Content) → option_map (λ (d : Completed). d.sections) o ≡ Some c → (d : Completed) × (o ≡ Some d)
some_done None c e = cc
some_done (Some d) c e = (d, refl)

-- ---- the view

module _ (airings : List AiredTables) (before : List Aired) (x : Aired) (after : List Aired) (is : IsRepeatingAirOf airings (before ++ x ∷ after)) (can : AllByRecursion CanBeHeard airings)
    (join end : ℕ) (stays : StaysOnAir join end before x after) where
  abbrev packets : List (List ℕ)
  packets = map bytes_of_packet (slice_range (air (before ++ x ∷ after)) join end)

  -- each completion that is shown is of one airing
  each_aired : AllByRecursion (IsAiredIn join end (before ++ x ∷ after)) (dones [] (counted_heard packets))
  each_aired =
      all_shown (IsAiredIn join end (before ++ x ∷ after)) (counted_heard packets)
      (λ k. coherent_in airings (before ++ x ∷ after) is can join end k (is_counted k.pid k.table) refl)

  -- what holds of each key of the airings holds of each that is shown
  each_key : (Q : Key → Type 0) → AllByRecursion (λ (a : AiredTables). AllByRecursion (λ (t : SubTable). Q t.key) a.tables) airings
      → AllByRecursion (λ (d : Completed). Q d.key) (dones [] (counted_heard packets))
  each_key Q each = all_map (IsAiredIn join end (before ++ x ∷ after)) (λ (d : Completed). Q d.key) one (dones [] (counted_heard packets)) each_aired
    where
      HoldOf : List AiredTables → Type 0
      HoldOf = AllByRecursion (λ (a : AiredTables). AllByRecursion (λ (t : SubTable). Q t.key) a.tables)

      one : (d : Completed) → IsAiredIn join end (before ++ x ∷ after) d → Q d.key
      one d aired =
          let all = subst (λ (ys : List Aired). HoldOf (airings_of ys)) aired.cut (subst HoldOf (sym is.airings_are) each) in
          key_carried Q d.key aired.cycle.airing.tables
          (element_at (λ (a : AiredTables). AllByRecursion (λ (t : SubTable). Q t.key) a.tables) aired.before aired.cycle aired.after all) d.sections aired.content

  -- each key that this cycle carries is shown
  key_shown : (test : Key → Bool) (k : Key) → IsCarried test k x.airing → IsShown (dones [] (counted_heard packets)) k
  key_shown test k carried =
      let some = some_content (content_at k x.airing) carried.some in
      let heard = contents_heard airings before x after is can join end stays k carried.counted some.0 some.1 in
      let last = some_done (latest_of k (counted_heard packets)) some.0 heard in
      (last.0, sym (latest-is_shown k (counted_heard packets)) ∙ last.1)

  -- the only key that passes a test is the latest
  latest_key : (test : Key → Bool) (k : Key) → IsOnlyKey test k airings → IsCarried test k x.airing → last_of (filter test (keys_shown (counted_heard packets))) ≡ Some k
  latest_key test k only carried =
      let last = key_shown test k carried in
      only_is_latest test k (dones [] (counted_heard packets)) (each_key (λ (q : Key). test q ≡ true → q ≡ k) only) carried.passes last.0 last.1

  -- the keys that pass a test are shown in their order
  keys_in_order : (test : Key → Bool) (ks : List Key) → AreOnlyKeys test ks airings → IsStrictlySortedBy key_cmp ks → AllByRecursion (λ (k : Key). IsCarried test k x.airing) ks
      → in_order (filter test (keys_shown (counted_heard packets))) ≡ ks
  keys_in_order test ks only up carried =
      ordered_are test ks (dones [] (counted_heard packets)) up (each_key (λ (q : Key). test q ≡ true → Contains ks q) only)
      (all_map (λ (k : Key). IsCarried test k x.airing) (λ (k : Key). test k ≡ true) (λ k one. one.passes) ks carried)
      (all_map (λ (k : Key). IsCarried test k x.airing) (IsShown (dones [] (counted_heard packets))) (key_shown test) ks carried)

pub on_air_heard : OnAirIsHeard
on_air_heard airings before x after is can join end stays within pat nit sdt others once offsets =
    let clock = clock_heard airings before x after is can join end stays.joined stays.whole within in
    record {
      content = λ k c counted content. contents_heard airings before x after is can join end stays k counted c content;
      pat_is = latest_key airings before x after is can join end stays is_pat_key pat once.pats once.pat_is;
      nit_is = latest_key airings before x after is can join end stays is_nit_key nit once.nits once.nit_is;
      sdt_is = latest_key airings before x after is can join end stays (is_sdt_key sdt.ext) sdt once.sdts once.sdt_is;
      others_are = keys_in_order airings before x after is can join end stays is_other_sdt_key others once.others_only once.others_ascend once.others_are;
      clock = subst IsSome (sym clock.1) refl;
      offsets = offsets_are_heard airings before x after is can join end stays.joined stays.whole within offsets;
    }
