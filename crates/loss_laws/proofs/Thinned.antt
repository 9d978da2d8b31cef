-- What is held of a thinned air is of one airing.
use Rattle.std.proofs.Common.{◌≡◌, ◌≢◌, ℕ, ◌+◌, ◌<◌, ◌≤◌, List, [], ◌∷◌, ◌++◌, Bool, true, false, length, map, refl, sym, ap, ap₂, ◌∙◌, subst, arith, append_assoc}
use Rattle.std.specs.Prelude.{flat_map}
use Rattle.std.specs.List.{AllByRecursion, Contains}
use Rattle.std.proofs.lemmas.List.{map-append}
use Rattle.std.proofs.lemmas.List.Elements.{filter-append, Contains-append_left, Contains-append_right, Contains-push}
use Rattle.si_lists.proofs.Lists.{all_append, all_at, all_flat, all_map}
use Rattle.section_codec.specs.declared.table.Key.{Key}
use Rattle.section_codec.specs.Contents.{Content}
use Rattle.section_codec.specs.Tables.{is_counted}
use Rattle.version_book.specs.Airings.{AiredTables}
use Rattle.ts_packets.specs.Counting.{of_pid}
use Rattle.ts_demux.specs.Arrivals.{Arrival, arrivals_on, heard_of}
use Rattle.ts_demux.specs.Breaks.{Before.Never, parts}
use Rattle.ts_demux.specs.Sections.{heard_all}
use Rattle.sub_collect.specs.Runs.{Counted, run_of}
use Rattle.sub_collect.specs.Completions.{is_of, of_key, completions}
use Rattle.sub_collect.specs.Marks.{Taken, since_mark, run_over, completions_over}
use Rattle.sub_collect.specs.Parts.{held, part_of}
use Rattle.sub_collect.specs.declared.completed.Completed.{Completed}
use Rattle.guide_receiver.specs.Dones.{counted_heard}
use Rattle.strict_receiver.specs.Strict.{taken_of}
use Rattle.strict_receiver.specs.Earlier.{taken_after, counted_after}
use Rattle.strict_receiver.proofs.Apart.{heard_apart, sections_taken_after}
use Rattle.strict_receiver.proofs.Losing.{sections_taken_of}
use Rattle.air_model.specs.Air.{Aired, air}
use Rattle.air_model.specs.Repeating.{IsRepeatingAirOf}
use Rattle.air_laws.specs.Counting.{CanBeHeard}
use Rattle.air_laws.proofs.HearingTold.{sent_of}
use Rattle.air_laws.proofs.Counts.{key_heard, counted_below, none_counts}
use Rattle.air_laws.proofs.CoherenceTold.{section_of}
use Rattle.air_laws.proofs.Coherent.{each_completion}
use Rattle.loss_laws.specs.Thinned.{Fate, bytes_that_came, IsThinnedAir}
use Rattle.loss_laws.proofs.Lanes.{Lane, some_came}
use Rattle.loss_laws.proofs.Covers.{IsRunOf, cover_runs}
use Rattle.loss_laws.proofs.ByParts.{done_in}
use Rattle.loss_laws.proofs.ThinnedAirHeard.{arrivals_are}
use Rattle.loss_laws.proofs.Coherent.{came_in_run, both_have, own_lane, own_parts, own_covers, completions_are, told_in, told_each_in, steady_in, run_told}
use Rattle.loss_laws.specs.Aired.{IsPartAiredAmong}
use Rattle.loss_laws.specs.PartLaws.{ThinnedPartIsOfOneAiring, PartOfRecordingsIsOfOneAiring}
use Rattle.loss_laws.proofs.Held.{IsHeldOf, held_of_run, held_of_done, part_either, none_held_of, latest_is}
use Rattle.loss_laws.proofs.SinceParts.{last_part, since_parts}

-- ---- one recording

module _ (airings : List AiredTables) (xs : List Aired) (is : IsRepeatingAirOf airings xs) (can : AllByRecursion CanBeHeard airings) (fates : List Fate) (thin : IsThinnedAir xs fates)
    (k : Key) (counted : is_counted k.pid k.table ≡ true) where
  abbrev lane : Lane
  lane = own_lane airings xs is can fates thin k counted

  abbrev all_parts : List (List Arrival)
  all_parts = own_parts airings xs is can fates thin k counted

  -- an airing of which a run of packets that came has a section has a packet that came
  among : (part : List Arrival) (r : IsRunOf lane 0 part) (content : Content)
      → IsHeldOf k (length r.before) (length r.before + length r.here) xs content → IsPartAiredAmong fates xs k content
  among part r content h =
      let b : List Aired = h.last.before in
      let x : Aired = h.last.cycle in
      let start : ℕ = length (of_pid k.pid (air b)) in
      let size : ℕ = length (of_pid k.pid x.packets) in
      let place = both_have start (start + size) (length r.before) (length r.before + length r.here) h.is.begins h.is.reaches
      (let z : start < start + size = omega (arith, h.is.some) in z) h.is.order in
      record {
        before = b;
        cycle = x;
        after = h.is.after;
        content = h.is.content;
        cut = h.is.cut;
        there = some_came k.pid fates b x h.is.after (thin.all ∙ ap air h.is.cut) place.0 place.1 place.2
            (came_in_run lane r.before r.here r.after r.cut r.came place.0 place.3 place.4);
        carries = h.is.carries;
        some = h.some;
      }

  -- each part between breaks is a run of packets that came
  runs : AllByRecursion (IsRunOf lane 0) all_parts
  runs = cover_runs lane 0 [] lane all_parts refl (let z : 0 ≤ 0 = omega arith in z) (own_covers airings xs is can fates thin k counted)

  abbrev IsOfOne : Content → Type 0
  IsOfOne content = IsPartAiredAmong fates xs k content

  done_among : (part : List Arrival) → IsRunOf lane 0 part → AllByRecursion (λ (d : Completed). IsOfOne d.sections) (done_in k part)
  done_among part r =
      let from : ℕ = length r.before in
      let to : ℕ = from + length r.here in
      subst (λ (ss : List Counted). AllByRecursion (λ (d : Completed). IsOfOne d.sections) (completions [] ss))
      (sym (run_told airings xs is can fates thin k counted r.before r.here r.after part r.cut r.is))
      (each_completion k from to xs (λ (d : Completed). IsOfOne d.sections) (λ d l. among part r d.sections (held_of_done k from to xs d l)) []
      (told_in airings xs is can fates thin k counted from to) (told_each_in airings xs is can fates thin k counted from to)
      (steady_in airings xs is can fates thin k counted from to))

  pub dones_among : AllByRecursion (λ (d : Completed). IsOfOne d.sections) (completions_over k (taken_of (bytes_that_came fates)))
  dones_among =
      subst (AllByRecursion (λ (d : Completed). IsOfOne d.sections)) (sym (completions_are airings xs is can fates thin k counted))
      (all_flat (IsRunOf lane 0) (λ (d : Completed). IsOfOne d.sections) (done_in k) done_among all_parts runs)

  abbrev HeldIsOfOne : List Counted → Type 0
  HeldIsOfOne ss = held (run_of ss) ≢ [] → IsOfOne (held (run_of ss))

  held_among : (part : List Arrival) → IsRunOf lane 0 part → HeldIsOfOne (key_heard k (heard_of part))
  held_among part r =
      let from : ℕ = length r.before in
      let to : ℕ = from + length r.here in
      let told = told_in airings xs is can fates thin k counted from to in
      subst HeldIsOfOne (sym (run_told airings xs is can fates thin k counted r.before r.here r.after part r.cut r.is))
      (λ present. among part r (held (run_of (map section_of told)))
      (held_of_run k from to xs told (told_each_in airings xs is can fates thin k counted from to) (steady_in airings xs is can fates thin k counted from to) present))

  last_among : (ps : List (List Arrival)) → AllByRecursion (IsRunOf lane 0) ps → HeldIsOfOne (key_heard k (heard_of (last_part ps)))
  last_among [] all present = absurd (present refl)
  last_among (p ∷ []) all present = held_among p all.0 present
  last_among (p ∷ q ∷ ps) all present = last_among (q ∷ ps) all.1 present

  pub run_among : HeldIsOfOne (since_mark k (taken_of (bytes_that_came fates)))
  run_among =
      let same : all_parts ≡ parts Never (arrivals_on k.pid (bytes_that_came fates)) =
      ap (parts Never) (sym (arrivals_are airings xs is (sent_of airings can) k.pid (counted_below k.pid k.table counted) fates thin)) in
      subst HeldIsOfOne (ap (λ (ps : List (List Arrival)). key_heard k (heard_of (last_part ps))) same ∙ sym (since_parts k (bytes_that_came fates)))
      (last_among all_parts runs)

-- ---- recordings

-- what is of one airing, of whose cycle a packet came in one of these recordings
abbrev CameInOne : List (List Fate) → List Aired → Key → Content → Type 0
CameInOne recordings xs k content = (one : List Fate) × Contains recordings one × IsPartAiredAmong one xs k content

-- of a key that does not count nothing is heard
none_heard : (k : Key) → is_counted k.pid k.table ≡ false → (earlier : List (List (List ℕ))) (packets : List (List ℕ)) → of_key k (counted_after earlier packets) ≡ []
none_heard k other [] packets = none_counts k other (heard_all [] packets)
none_heard k other (first ∷ earlier) packets =
    ap (of_key k) (append_assoc (counted_heard first) (flat_map counted_heard earlier) (counted_heard packets))
    ∙ filter-append (is_of k) (counted_heard first) (counted_after earlier packets)
    ∙ ap₂ (λ (a b : List Counted). a ++ b) (none_counts k other (heard_all [] first)) (none_heard k other earlier packets)

module _ (airings : List AiredTables) (xs : List Aired) (is : IsRepeatingAirOf airings xs) (can : AllByRecursion CanBeHeard airings)
    (k : Key) (counted : is_counted k.pid k.table ≡ true) where
  abbrev IsDoneOf : List (List Fate) → Completed → Type 0
  IsDoneOf recordings d = CameInOne recordings xs k d.sections

  abbrev done_by : List (List ℕ) → List Completed
  done_by packets = completions_over k (taken_of packets)

  -- what each of them completes
  dones_in : (recordings : List (List Fate)) → AllByRecursion (IsThinnedAir xs) recordings
      → AllByRecursion (IsDoneOf recordings) (flat_map done_by (map bytes_that_came recordings))
  dones_in [] thin = tt
  dones_in (fates ∷ recordings) thin =
      let first : Contains (fates ∷ recordings) fates = Contains-append_left (fates ∷ []) recordings fates (Contains-push [] fates) in
      let later = flat_map done_by (map bytes_that_came recordings) in
      all_append (IsDoneOf (fates ∷ recordings)) (done_by (bytes_that_came fates)) later
      (all_map (λ (d : Completed). IsPartAiredAmong fates xs k d.sections) (IsDoneOf (fates ∷ recordings)) (λ d h. (fates, first, h)) (done_by (bytes_that_came fates))
      (dones_among airings xs is can fates thin.0 k counted))
      (all_map (IsDoneOf recordings) (IsDoneOf (fates ∷ recordings)) (λ d h. (h.0, Contains-append_right (fates ∷ []) recordings h.0 h.1, h.2)) later
      (dones_in recordings thin.1))

  module _ (earlier : List (List Fate)) (fates : List Fate) (thin : AllByRecursion (IsThinnedAir xs) (earlier ++ fates ∷ [])) where
    abbrev all : List (List Fate)
    all = earlier ++ fates ∷ []

    abbrev past : List Taken
    past = taken_after (map bytes_that_came earlier) (bytes_that_came fates)

    all_done : AllByRecursion (IsDoneOf all) (completions_over k past)
    all_done =
        subst (AllByRecursion (IsDoneOf all))
        (ap (flat_map done_by) (map-append bytes_that_came earlier (fates ∷ []))
        ∙ sym ((heard_apart (map bytes_that_came earlier) (bytes_that_came fates)).completions k)) (dones_in all thin)

    last_run : held (run_over k past) ≢ [] → CameInOne all xs k (held (run_over k past))
    last_run =
        subst (λ (run : List Counted). held run ≢ [] → CameInOne all xs k (held run))
        (sym ((heard_apart (map bytes_that_came earlier) (bytes_that_came fates)).run k))
        (λ present. (fates, Contains-push earlier fates, run_among airings xs is can fates (all_at (IsThinnedAir xs) earlier fates [] thin) k counted present))

    pub came_in_one : part_of k past ≢ [] → CameInOne all xs k (part_of k past)
    came_in_one present =
        part_either (CameInOne all xs k) k past (λ d e. latest_is (IsDoneOf all) (completions_over k past) d all_done e) last_run present

pub part_of_recordings : PartOfRecordingsIsOfOneAiring
part_of_recordings airings xs is can earlier fates thin k present = go (is_counted k.pid k.table) refl
  where
    E : List (List (List ℕ))
    E = map bytes_that_came earlier

    P : List (List ℕ)
    P = bytes_that_came fates

    go : (b : Bool) → is_counted k.pid k.table ≡ b → CameInOne (earlier ++ fates ∷ []) xs k (part_of k (taken_after E P))
    go true e = came_in_one airings xs is can k e earlier fates thin present
    go false e = absurd (present (none_held_of k (taken_after E P) (ap (of_key k) (sections_taken_after E P) ∙ none_heard k e E P)))

pub thinned_part : ThinnedPartIsOfOneAiring
thinned_part airings xs is can fates thin k present = go (is_counted k.pid k.table) refl
  where
    P : List (List ℕ)
    P = bytes_that_came fates

    go : (b : Bool) → is_counted k.pid k.table ≡ b → IsPartAiredAmong fates xs k (part_of k (taken_of P))
    go true e =
        part_either (IsPartAiredAmong fates xs k) k (taken_of P)
        (λ d f. latest_is (λ (c : Completed). IsPartAiredAmong fates xs k c.sections) (completions_over k (taken_of P)) d (dones_among airings xs is can fates thin k e) f)
        (run_among airings xs is can fates thin k e) present
    go false e = absurd (present (none_held_of k (taken_of P) (ap (of_key k) (sections_taken_of P) ∙ none_counts k e (heard_all [] P))))
