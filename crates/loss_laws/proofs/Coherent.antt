-- Thinned airs are coherent.
use Rattle.std.proofs.Common.{◌≡◌, ℕ, ◌+◌, ◌-◌, ◌<◌, ◌≤◌, ◌⊎◌, inl, inr, List, [], ◌∷◌, ◌++◌, Bool, true, false, Some, length, map, refl, sym, ap, ap₂, ◌∙◌, subst, arith}
use Rattle.std.specs.Prelude.{flat_map, filter_map}
use Rattle.std.specs.List.{AllByRecursion, cons_option}
use Rattle.si_lists.proofs.Lists.{all_map, all_flat}
use Rattle.si_lists.proofs.Parts.{le_either}
use Rattle.section_codec.specs.declared.table.Key.{Key}
use Rattle.section_codec.specs.Contents.{Content}
use Rattle.version_book.specs.Airings.{AiredTables, content_at, version_at}
use Rattle.ts_packets.specs.Bytes.{bytes_of_packet}
use Rattle.ts_packets.specs.Counting.{of_pid}
use Rattle.ts_demux.specs.Arrivals.{Arrival, arrivals_on, heard_of}
use Rattle.ts_demux.specs.Sections.{on_pid}
use Rattle.sub_collect.specs.Runs.{Counted}
use Rattle.sub_collect.specs.Completions.{of_key, completions}
use Rattle.sub_collect.specs.declared.completed.Completed.{Completed}
use Rattle.section_codec.specs.Tables.{is_counted}
use Rattle.guide_receiver.specs.Counting.{counted_among}
use Rattle.air_model.specs.Air.{Aired, air, airings_of}
use Rattle.air_model.specs.Repeating.{IsRepeatingAirOf}
use Rattle.air_laws.specs.Counting.{CanBeHeard}
use Rattle.air_laws.proofs.HearingTold.{sent_of}
use Rattle.air_laws.proofs.Keys.{count_on}
use Rattle.air_laws.proofs.Counts.{key_heard, counted_below, none_counts}
use Rattle.air_laws.proofs.CoherenceTold.{Told, section_of, told_by, sections_told, IsToldOf, each_told}
use Rattle.air_laws.proofs.Steady.{IsSteady, steady_told}
use Rattle.air_laws.proofs.Coherent.{IsOfLast, each_completion, cans}
use Rattle.ts_demux.specs.Breaks.{Before.Never, parts}
use Rattle.sub_collect.specs.Marks.{completions_over}
use Rattle.strict_receiver.specs.Strict.{taken_of}
use Rattle.loss_laws.specs.Thinned.{Fate, came_of, SomeCame, IsThinnedAir, IsAiredAmong}
use Rattle.loss_laws.specs.ThinnedAirLaws.{ThinnedAirIsCoherent}
use Rattle.loss_laws.proofs.Lanes.{Lane, lane, AllCame, came_at, came_at-front, came_at-behind, came_at-all, some_came}
use Rattle.loss_laws.proofs.Covers.{arrived, came_in, Covers, IsRunOf, cover_runs}
use Rattle.loss_laws.proofs.ByParts.{done_in, by_parts}
use Rattle.loss_laws.proofs.ThinnedAirHeard.{arrivals_are, covers_on, run_heard}

-- in a run each place came
pub came_in_run : (all before here after : Lane) → all ≡ before ++ (here ++ after) → AllCame here → (i : ℕ) → length before ≤ i → i < length before + length here → came_at i all ≡ true
came_in_run all before here after cut came i low high =
    let j : ℕ = i - length before in
    let place : i ≡ length before + j = omega (arith, low) in
    let less : j < length here = omega (arith, low, high) in
    ap₂ came_at place cut ∙ came_at-behind j before (here ++ after) ∙ came_at-front j here after less ∙ came_at-all j here came less

-- a place that two parts have
pub both_have : (a b c d : ℕ) → a < d → c < b → a < b → c < d → (i : ℕ) × (a ≤ i) × (i < b) × (c ≤ i) × (i < d)
both_have a b c d ad cb ab cd = go (le_either a c)
  where
    go : (a ≤ c) ⊎ (c ≤ a) → (i : ℕ) × (a ≤ i) × (i < b) × (c ≤ i) × (i < d)
    go (inl le) = (c, le, cb, omega arith, cd)
    go (inr le) = (a, omega arith, ab, le, ad)

-- of a key that does not count nothing is completed
count_each : (pid : ℕ) (bs : List (List ℕ)) → filter_map (count_on pid) bs ≡ counted_among (map (on_pid pid) bs)
count_each pid [] = refl
count_each pid (b ∷ bs) = ap (λ (l : List Counted). cons_option (count_on pid b) l) (count_each pid bs)

none_heard : (k : Key) → is_counted k.pid k.table ≡ false → (bs : List (List ℕ)) → key_heard k bs ≡ []
none_heard k other bs = ap (of_key k) (count_each k.pid bs) ∙ none_counts k other (map (on_pid k.pid) bs)

none_done : (k : Key) → is_counted k.pid k.table ≡ false → (P : Completed → Type 0) (ps : List (List Arrival)) → AllByRecursion P (flat_map (done_in k) ps)
none_done k other P [] = tt
none_done k other P (p ∷ ps) =
    subst (λ (ss : List Counted). AllByRecursion P (completions [] ss ++ flat_map (done_in k) ps)) (sym (none_heard k other (heard_of p))) (none_done k other P ps)

module _ (airings : List AiredTables) (xs : List Aired) (is : IsRepeatingAirOf airings xs) (can : AllByRecursion CanBeHeard airings) (fates : List Fate) (thin : IsThinnedAir xs fates)
    (k : Key) (counted : is_counted k.pid k.table ≡ true) where
  abbrev pub own_lane : Lane
  own_lane = lane k.pid fates

  abbrev pub small : k.pid < 8191
  small = counted_below k.pid k.table counted

  abbrev pub own_parts : List (List Arrival)
  own_parts = parts Never (came_in own_lane)

  pub own_covers : Covers own_lane own_parts
  own_covers = covers_on airings xs is (sent_of airings can) k.pid small fates thin

  pub completions_are : completions_over k (taken_of (map bytes_of_packet (came_of fates))) ≡ flat_map (done_in k) own_parts
  completions_are = by_parts k (map bytes_of_packet (came_of fates)) ∙ ap (λ (l : List Arrival). flat_map (done_in k) (parts Never l)) (arrivals_are airings xs is (sent_of airings can) k.pid small fates thin)

  -- what is heard of places of the PID, each section with its cycle
  abbrev pub told_in : ℕ → ℕ → List Told
  told_in low high = told_by k small [] [] xs is.cycles low high

  pub told_each_in : (low high : ℕ) → AllByRecursion (IsToldOf k low high xs) (told_in low high)
  told_each_in low high = each_told k small low high xs [] [] xs is.cycles (cans airings xs is can) refl refl low high (whole low) (whole high)
    where
      whole : (n : ℕ) → n ≡ n - 0
      whole n = omega arith

  pub steady_in : (low high : ℕ) → IsSteady k (told_in low high)
  steady_in low high = steady_told k small counted [] [] xs is.cycles (cans airings xs is can) low high

  pub run_told : (before here after : Lane) (part : List Arrival) → own_lane ≡ before ++ (here ++ after) → part ≡ arrived here
      → key_heard k (heard_of part) ≡ map section_of (told_in (length before) (length before + length here))
  run_told before here after part cut part_is =
      ap (key_heard k) (run_heard airings xs is (sent_of airings can) k.pid small fates thin before here after part cut part_is)
      ∙ sym (sections_told k small [] [] xs is.cycles (length before) (length before + length here))

  -- what a completion of a run is of
  pub record IsFromRun (low : ℕ) (d : Completed) : Type 0 where
    pub before : List Aired
    pub cycle : Aired
    pub after : List Aired
    pub cut : xs ≡ before ++ cycle ∷ after
    pub there : SomeCame fates before cycle
    pub reaches : low < length (of_pid k.pid (air before)) + length (of_pid k.pid cycle.packets)
    pub content : content_at k cycle.airing ≡ Some d.sections
    pub version : version_at k (airings_of before ++ cycle.airing ∷ []) ≡ d.version
    pub key : d.key ≡ k

  from_run : (low : ℕ) (part : List Arrival) (r : IsRunOf own_lane low part) (d : Completed) → IsOfLast k (length r.before) (length r.before + length r.here) xs d → IsFromRun low d
  from_run low part r d l =
      let b : List Aired = l.last.before in
      let x : Aired = l.last.cycle in
      let start : ℕ = length (of_pid k.pid (air b)) in
      let size : ℕ = length (of_pid k.pid x.packets) in
      let place = both_have start (start + size) (length r.before) (length r.before + length r.here) l.is.begins l.is.reaches (let z : start < start + size = omega (arith, l.is.some) in z) l.is.order in
      record {
        before = b;
        cycle = x;
        after = l.is.after;
        cut = l.is.cut;
        there = some_came k.pid fates b x l.is.after (thin.all ∙ ap air l.is.cut) place.0 place.1 place.2
            (came_in_run own_lane r.before r.here r.after r.cut r.came place.0 place.3 place.4);
        reaches = (let z : low < start + size = omega (arith, r.late, l.is.reaches) in z);
        content = l.is.carries ∙ ap (λ (c : Content). Some c) (sym l.sections);
        version = sym l.is.is.1 ∙ sym l.version;
        key = l.key;
      }

  pub each_from_run : (low : ℕ) (part : List Arrival) → IsRunOf own_lane low part → AllByRecursion (IsFromRun low) (done_in k part)
  each_from_run low part r =
      let from : ℕ = length r.before in
      let to : ℕ = from + length r.here in
      subst (λ (ss : List Counted). AllByRecursion (IsFromRun low) (completions [] ss)) (sym (run_told r.before r.here r.after part r.cut r.is))
      (each_completion k from to xs (IsFromRun low) (from_run low part r) [] (told_in from to) (told_each_in from to) (steady_in from to))

  pub each_from : (low : ℕ) (ps : List (List Arrival)) → AllByRecursion (IsRunOf own_lane low) ps → AllByRecursion (IsFromRun low) (flat_map (done_in k) ps)
  each_from low ps all = all_flat (IsRunOf own_lane low) (IsFromRun low) (done_in k) (each_from_run low) ps all

  aired_among : (d : Completed) → IsFromRun 0 d → IsAiredAmong fates xs d
  aired_among d r = record {
    before = r.before;
    cycle = r.cycle;
    after = r.after;
    cut = r.cut;
    there = r.there;
    content = ap (λ (q : Key). content_at q r.cycle.airing) r.key ∙ r.content;
    version = ap (λ (q : Key). version_at q (airings_of r.before ++ r.cycle.airing ∷ [])) r.key ∙ r.version;
  }

  pub coherent_of_key : AllByRecursion (IsAiredAmong fates xs) (completions_over k (taken_of (map bytes_of_packet (came_of fates))))
  coherent_of_key =
      subst (AllByRecursion (IsAiredAmong fates xs)) (sym completions_are)
      (all_map (IsFromRun 0) (IsAiredAmong fates xs) aired_among (flat_map (done_in k) own_parts)
      (each_from 0 own_parts (cover_runs own_lane 0 [] own_lane own_parts refl (let z : 0 ≤ 0 = omega arith in z) own_covers)))

pub thinned_coherent : ThinnedAirIsCoherent
thinned_coherent airings xs is can fates thin k = go (is_counted k.pid k.table) refl
  where
    go : (b : Bool) → is_counted k.pid k.table ≡ b → AllByRecursion (IsAiredAmong fates xs) (completions_over k (taken_of (map bytes_of_packet (came_of fates))))
    go true e = coherent_of_key airings xs is can fates thin k e
    go false e =
        subst (AllByRecursion (IsAiredAmong fates xs)) (sym (by_parts k (map bytes_of_packet (came_of fates))))
        (none_done k e (IsAiredAmong fates xs) (parts Never (arrivals_on k.pid (map bytes_of_packet (came_of fates)))))
