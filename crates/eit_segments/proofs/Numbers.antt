-- The numbers of a table's sections.
use Rattle.std.proofs.Common.{◌≡◌, ℕ, zero, suc, ◌+◌, ◌-◌, ◌*◌, ◌/◌, ◌<◌, ◌≤◌, List, [], ◌∷◌, ◌++◌, length, map, flat_map, Some, refl, sym, ap, ap₂, ◌∙◌, subst, arith, eqb, inl, inr}
use Rattle.std.specs.Prelude.{option_map, find}
use Rattle.std.specs.List.{AllByRecursion, range_with_len}
use Rattle.std.proofs.lemmas.Bool.{cond-true, cond-false, eq-eqb, ne_eqb, cases_lt}
use Rattle.std.proofs.lemmas.List.{map-append}
use Rattle.si_lists.proofs.Lists.{all_map, all_append}
use Rattle.section_codec.specs.Contents.{numbers_from}
use Rattle.section_codec.specs.Segments.{segment_of, numbers_in_segment, and_numbers, segments_need}
use Rattle.eit_segments.specs.declared.event.EventAt.{EventAt}
use Rattle.eit_segments.specs.declared.piece.Piece.{Piece}
use Rattle.eit_segments.specs.Placement.{block_place}
use Rattle.eit_segments.specs.Schedule.{FitSegments, block_runs, sections_from, segment_sections, last_used, last_number, table_sections}
use Rattle.eit_segments.specs.Laws.{is_of_segment, told_last, TablesAreWhole}
use Rattle.eit_segments.proofs.Order.{runs_few, used_less}

eighth : (h i : ℕ) → i < 8 → (8 * h + i) / 8 ≡ h
eighth h i lt = grind arith

-- the sections of one segment, from its i-th on
module _ (table last segment_last segment : ℕ) where
  numbers_are : (number from : ℕ) (runs : List (List EventAt)) → map (λ (p : Piece). p.number) (sections_from table last segment_last number from runs) ≡ numbers_from number (length runs)
  numbers_are number from [] = refl
  numbers_are number from (run ∷ runs) = ap (λ (l : List ℕ). number ∷ l) (numbers_are (1 + number) (from + length run) runs)

  -- a section of the segment
  abbrev IsOf : Piece → Type 0
  IsOf p = (p.number / 8 ≡ segment) × (p.last ≡ last) × (p.segment_last ≡ segment_last)

  are_of : (i from : ℕ) (runs : List (List EventAt)) → i + length runs ≤ 8 → AllByRecursion IsOf (sections_from table last segment_last (8 * segment + i) from runs)
  are_of i from [] le = tt
  are_of i from (run ∷ runs) le = (
    (eighth segment i (omega arith), refl, refl),
    subst (λ (n : ℕ). AllByRecursion IsOf (sections_from table last segment_last n (from + length run) runs)) (let e : 8 * segment + (1 + i) ≡ 1 + (8 * segment + i) = omega arith in e)
        (are_of (1 + i) (from + length run) runs (omega arith)),
  )

-- sections of other segments are passed over
find_past : (segment : ℕ) (ps qs : List Piece) → AllByRecursion (λ (p : Piece). p.number / 8 ≡ segment → ⊥) ps → told_last (ps ++ qs) segment ≡ told_last qs segment
find_past segment [] qs h = refl
find_past segment (p ∷ ps) qs h =
    ap (option_map (λ (x : Piece). x.segment_last)) (cond-false (is_of_segment segment p) (Some p) (find (is_of_segment segment) (ps ++ qs)) (ne_eqb (p.number / 8) segment h.0)) ∙ find_past segment ps qs h.1

-- the segments of a table
module _ (table last first : ℕ) (events : List EventAt) (fit : FitSegments events) where
  abbrev count : ℕ → ℕ
  count n = length (block_runs (first + n) events)

  abbrev of : ℕ → List Piece
  of n = segment_sections table last n (first + n) events

  abbrev pieces : ℕ → ℕ → List Piece
  pieces a k = flat_map of (range_with_len a k)

  few : (n : ℕ) → (0 < count n) × (count n ≤ 8)
  few n = runs_few (first + n) events fit

  of_segment : (n : ℕ) → AllByRecursion (IsOf table last (8 * n + (count n - 1)) n) (of n)
  of_segment n =
      subst (λ (m : ℕ). AllByRecursion (IsOf table last (8 * n + (count n - 1)) n) (sections_from table last (8 * n + (count n - 1)) m (block_place (first + n) events) (block_runs (first + n) events)))
      (let e : 8 * n + 0 ≡ 8 * n = omega arith in e)
      (are_of table last (8 * n + (count n - 1)) n 0 (block_place (first + n) events) (block_runs (first + n) events) (omega (arith, (few n).1)))

  -- the first section of a segment tells its last number
  told_here : (n : ℕ) (qs : List Piece) → told_last (of n ++ qs) n ≡ Some (8 * n + (count n - 1))
  told_here n qs = go (block_runs (first + n) events) (few n).0 (of_segment n)
    where
      go : (runs : List (List EventAt)) → 0 < length runs → AllByRecursion (IsOf table last (8 * n + (count n - 1)) n) (sections_from table last (8 * n + (count n - 1)) (8 * n) (block_place (first + n) events) runs)
          → told_last (sections_from table last (8 * n + (count n - 1)) (8 * n) (block_place (first + n) events) runs ++ qs) n ≡ Some (8 * n + (count n - 1))
      go [] some h = absurd (omega arith)
      go (run ∷ runs) some h = ap (option_map (λ (x : Piece). x.segment_last)) (cond-true (eqb ((8 * n) / 8) n) (Some _) _ (eq-eqb ((8 * n) / 8) n (h.0).0))

  told : (n a k : ℕ) → a ≤ n → n < a + k → told_last (pieces a k) n ≡ Some (8 * n + (count n - 1))
  told n a zero le lt = absurd (omega arith)
  told n a (suc k) le lt = elim (cases_lt a n) [
    | inl b ↦ find_past n (of a) (pieces (a + 1) k) (all_map (IsOf table last (8 * a + (count a - 1)) a) (λ (p : Piece). p.number / 8 ≡ n → ⊥) (λ p h e. let s : p.number / 8 ≡ a = h.0 in omega arith) (of a) (of_segment a))
        ∙ told n (a + 1) k (omega arith) (omega arith)
    | inr b ↦ let same : a ≡ n = omega arith in subst (λ (m : ℕ). told_last (of m ++ pieces (m + 1) k) n ≡ Some (8 * n + (count n - 1))) (sym same) (told_here n (pieces (n + 1) k))
  ]

  -- what is needed are the numbers
  need : (many g k : ℕ) → g + k ≤ many → segments_need (told_last (pieces 0 many)) g k ≡ Some (map (λ (p : Piece). p.number) (pieces g k))
  need many g zero le = refl
  need many g (suc k) le =
      let here = told g 0 many (omega arith) (omega arith) in
      let behind = need many (1 + g) k (omega arith) in
      let numbers : numbers_in_segment g (8 * g + (count g - 1)) ≡ map (λ (p : Piece). p.number) (of g) =
      ap (numbers_from (8 * g)) (let e : 1 + (8 * g + (count g - 1)) - 8 * g ≡ count g = omega (arith, (few g).0) in e)
      ∙ sym (numbers_are table last (8 * g + (count g - 1)) g (8 * g) (block_place (first + g) events) (block_runs (first + g) events)) in
      ap₂ and_numbers (ap (option_map (numbers_in_segment g)) here) behind
      ∙ ap (λ (l : List ℕ). Some (l ++ map (λ (p : Piece). p.number) (pieces (1 + g) k))) numbers
      ∙ ap (λ (a : ℕ). Some (map (λ (p : Piece). p.number) (of g) ++ map (λ (p : Piece). p.number) (pieces a k))) (let e : 1 + g ≡ g + 1 = omega arith in e)
      ∙ ap Some (sym (map-append (λ (p : Piece). p.number) (of g) (pieces (g + 1) k)))

  same_last : (a k : ℕ) → AllByRecursion (λ (p : Piece). p.last ≡ last) (pieces a k)
  same_last a zero = tt
  same_last a (suc k) =
      all_append (λ (p : Piece). p.last ≡ last) (of a) (pieces (a + 1) k)
      (all_map (IsOf table last (8 * a + (count a - 1)) a) (λ (p : Piece). p.last ≡ last) (λ p h. h.1) (of a) (of_segment a)) (same_last (a + 1) k)

  same_segment : (many a k : ℕ) → a + k ≤ many → AllByRecursion (λ (p : Piece). told_last (pieces 0 many) (segment_of p.number) ≡ Some p.segment_last) (pieces a k)
  same_segment many a zero le = tt
  same_segment many a (suc k) le =
      all_append (λ (p : Piece). told_last (pieces 0 many) (segment_of p.number) ≡ Some p.segment_last) (of a) (pieces (a + 1) k)
      (all_map (IsOf table last (8 * a + (count a - 1)) a) (λ (p : Piece). told_last (pieces 0 many) (segment_of p.number) ≡ Some p.segment_last)
      (λ p h. ap (told_last (pieces 0 many)) h.0 ∙ told a 0 many (omega arith) (omega arith) ∙ ap Some (sym h.2)) (of a) (of_segment a))
      (same_segment many (a + 1) k (omega arith))

-- numbers that rise from one on
abbrev pub Rise : ℕ → List Piece → Type 0
Rise m [] = Unit {0}
Rise m (p ∷ ps) = (m ≤ p.number) × Rise (1 + p.number) ps

rise_less : (m k : ℕ) (ps : List Piece) → m ≤ k → Rise k ps → Rise m ps
rise_less m k [] le r = tt
rise_less m k (p ∷ ps) le r = (omega (arith, le, r.0), r.1)

rise_behind : (m k : ℕ) (ps qs : List Piece) → m ≤ k → Rise m ps → AllByRecursion (λ (p : Piece). p.number < k) ps → Rise k qs → Rise m (ps ++ qs)
rise_behind m k [] qs le r below q = rise_less m k qs le q
rise_behind m k (p ∷ ps) qs le r below q = (r.0, rise_behind (1 + p.number) k ps qs (omega (arith, below.0)) r.1 below.1 q)

rise_from : (table last segment_last number from : ℕ) (runs : List (List EventAt)) → Rise number (sections_from table last segment_last number from runs)
rise_from table last segment_last number from [] = tt
rise_from table last segment_last number from (run ∷ runs) = (omega arith, rise_from table last segment_last (1 + number) (from + length run) runs)

-- a section with a number below 256, which tells a last number of its own segment
abbrev pub IsInSegment : Piece → Type 0
IsInSegment p = (segment_of p.segment_last ≡ segment_of p.number) × (p.number < 256)

module _ (table last first : ℕ) (events : List EventAt) (fit : FitSegments events) where
  segments_rise : (a k : ℕ) → Rise (8 * a) (pieces table last first events fit a k)
  segments_rise a zero = tt
  segments_rise a (suc k) =
      rise_behind (8 * a) (8 * (a + 1)) (of table last first events fit a) (pieces table last first events fit (a + 1) k) (omega arith)
      (rise_from table last (8 * a + (count table last first events fit a - 1)) (8 * a) (block_place (first + a) events) (block_runs (first + a) events))
      (all_map (IsOf table last (8 * a + (count table last first events fit a - 1)) a) (λ (p : Piece). p.number < 8 * (a + 1)) (λ p h. let s : p.number / 8 ≡ a = h.0 in omega arith)
      (of table last first events fit a) (of_segment table last first events fit a))
      (segments_rise (a + 1) k)

  in_segment : (n : ℕ) → n < 32 → AllByRecursion IsInSegment (of table last first events fit n)
  in_segment n lt =
      all_map (IsOf table last (8 * n + (count table last first events fit n - 1)) n) IsInSegment
      (λ p h.
      let s : p.number / 8 ≡ n = h.0 in
      let some = few table last first events fit n in
      (ap segment_of h.2 ∙ eighth n (count table last first events fit n - 1) (omega (arith, some.0, some.1)) ∙ sym s, omega (arith, s, lt)))
      (of table last first events fit n) (of_segment table last first events fit n)

  in_segments : (a k : ℕ) → a + k ≤ 32 → AllByRecursion IsInSegment (pieces table last first events fit a k)
  in_segments a zero le = tt
  in_segments a (suc k) le =
      all_append IsInSegment (of table last first events fit a) (pieces table last first events fit (a + 1) k) (in_segment a (omega (arith, le))) (in_segments (a + 1) k (omega (arith, le)))

  -- no section of a segment up to the used one tells a number above the last
  below_last : (used n : ℕ) → n ≤ used → last ≡ 8 * used + (count table last first events fit used - 1) → AllByRecursion (λ (p : Piece). p.segment_last ≤ last) (of table last first events fit n)
  below_last used n le is = elim (cases_lt n used) [
    | inl b ↦ all_map (IsOf table last (8 * n + (count table last first events fit n - 1)) n) (λ (p : Piece). p.segment_last ≤ last)
        (λ p h. let some = few table last first events fit n in omega (arith, h.2, b, is, some.0, some.1)) (of table last first events fit n) (of_segment table last first events fit n)
    | inr b ↦
        let same : used ≡ n = omega (arith, le, b) in
        all_map (IsOf table last (8 * n + (count table last first events fit n - 1)) n) (λ (p : Piece). p.segment_last ≤ last)
        (λ p h. let e : last ≡ 8 * n + (count table last first events fit n - 1) = subst (λ (m : ℕ). last ≡ 8 * m + (count table last first events fit m - 1)) same is in omega (arith, h.2, e))
        (of table last first events fit n) (of_segment table last first events fit n)
  ]

  all_below : (used a k : ℕ) → a + k ≤ used + 1 → last ≡ 8 * used + (count table last first events fit used - 1) → AllByRecursion (λ (p : Piece). p.segment_last ≤ last) (pieces table last first events fit a k)
  all_below used a zero le is = tt
  all_below used a (suc k) le is =
      all_append (λ (p : Piece). p.segment_last ≤ last) (of table last first events fit a) (pieces table last first events fit (a + 1) k) (below_last used a (omega (arith, le)) is)
      (all_below used (a + 1) k (omega (arith, le)) is)

pub table_below : (table first : ℕ) (events : List EventAt) → FitSegments events → AllByRecursion (λ (p : Piece). p.segment_last ≤ last_number first events) (table_sections table first events)
table_below table first events fit =
    let used = last_used first 32 events in
    all_below table (last_number first events) first events fit used 0 (used + 1) (omega arith) refl

pub table_rises : (table first : ℕ) (events : List EventAt) → FitSegments events → Rise 0 (table_sections table first events)
table_rises table first events fit = segments_rise table (last_number first events) first events fit 0 (last_used first 32 events + 1)

pub table_in_segments : (table first : ℕ) (events : List EventAt) → FitSegments events → AllByRecursion IsInSegment (table_sections table first events)
table_in_segments table first events fit =
    let less : last_used first 32 events < 32 = used_less first 32 events (omega arith) in
    in_segments table (last_number first events) first events fit 0 (last_used first 32 events + 1) (omega (arith, less))

pub tables_are_whole : TablesAreWhole
tables_are_whole table first events fit =
    let used = last_used first 32 events in
    let last = last_number first events in
    let some = few table last first events fit used in
    let many : 1 + segment_of last ≡ used + 1 = ap (λ (n : ℕ). 1 + n) (eighth used (length (block_runs (first + used) events) - 1) (omega (arith, some.0, some.1))) ∙ (let e : 1 + used ≡ used + 1 = omega arith in e) in
    record {
      numbers = ap (segments_need (told_last (table_sections table first events)) 0) many ∙ need table last first events fit (used + 1) 0 (used + 1) (omega arith);
      last = same_last table last first events fit 0 (used + 1);
      segment_last = same_segment table last first events fit (used + 1) 0 (used + 1) (omega arith);
    }
