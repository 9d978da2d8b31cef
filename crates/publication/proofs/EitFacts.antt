-- Sections of event information can be sent, and go by segments.
use Rattle.std.proofs.Common.{◌≡◌, ℕ, zero, suc, ◌+◌, ◌-◌, ◌*◌, ◌<◌, ◌≤◌, Bool, true, false, List, [], ◌∷◌, ◌++◌, length, map, take, drop, flat_map, refl, sym, ap, ap₂, ◌∙◌, subst, arith, length-append, eq-eqb, le-leb}
use Rattle.std.specs.Prelude.{Option, Some, None, option_map, find, sum_by, if◌then◌else◌, slice_index, ◌==◌}
use Rattle.std.specs.List.{AllByRecursion, All, range_with_len, take-map, drop-map}
use Rattle.std.proofs.lemmas.List.Elements.{All-from_recursion, All-take, All-drop}
use Rattle.std.proofs.lemmas.List.{length-map}
use Rattle.std.proofs.lemmas.List.Sums.{sum_by-cons}
use Rattle.si_lists.proofs.Lists.{all_map, all_two, range_more, all_of_map, all_to_map, each_flat}
use Rattle.si_base.specs.Fields.{two, two_at}
use Rattle.guide_model.specs.declared.event.Event.{Event}
use Rattle.guide_model.specs.declared.guide.ServiceGuide.{ServiceGuide}
use Rattle.descriptors.specs.EventDescriptors.{entry_size}
use Rattle.guide_limits.specs.Events.{block_of}
use Rattle.si_lists.proofs.RunFacts.{runs_fit}
use Rattle.section_codec.specs.declared.table.NumberedBody.{NumberedBody}
use Rattle.section_codec.specs.Contents.{numbers, last_number, Ascend}
use Rattle.section_codec.specs.Segments.{segment_of, last_beside, segment_last_in, numbers_in_segment, and_numbers, segments_need, table_needs, told_by, segment_last_at}
use Rattle.table_bodies.specs.declared.eit.EitHead.{EitHead}
use Rattle.table_bodies.specs.declared.eit.Eit.{Eit}
use Rattle.table_bodies.specs.Eit.{head_bytes, written_bytes, eit_body, IsCodable, IsTyped, eit_in, shown_event}
use Rattle.table_bodies.proofs.ReadBack.{entry-has_its_size, eit-reads_back}
use Rattle.eit_segments.specs.declared.event.EventAt.{EventAt}
use Rattle.eit_segments.specs.declared.piece.Piece.{Piece}
use Rattle.eit_segments.specs.Placement.{in_block, start_block, block_place, present_at, following_at}
use Rattle.eit_segments.specs.Schedule.{CanBePlaced, block_runs, sections_from, segment_sections, last_used, table_sections, sections_in_table, section_events, last_number as last_in_table}
use Rattle.eit_segments.specs.Laws.{at_of, events_of, told_last}
use Rattle.eit_segments.proofs.Few.{filter_all, sum_map, events_can_be_placed}
use Rattle.eit_segments.proofs.Order.{runs_few, used_less}
use Rattle.eit_segments.proofs.Numbers.{Rise, IsInSegment, table_rises, table_below, table_in_segments, tables_are_whole}
use Rattle.eit_segments.proofs.EventsOf.{segments_have_runs}
use Rattle.publication.specs.Eit.{Bearer, eit_head}
use Rattle.publication.specs.Present.{event_at, present_event, following_event}
use Rattle.publication.specs.Schedule.{last_table_of, schedule_section, schedule_of}
use Rattle.publication.specs.EitLaws.{AreSmallEntries, AreEit, Names, PresentIsFit, ScheduleIsFit, EventsAreRead, EventsNameTheStream}
use Rattle.publication.proofs.EventFacts.{all_codable}

-- ---- bodies

entries_size : (status : ℕ) (es : List Event) → length (flat_map (written_bytes status) es) ≡ sum_by entry_size es
entries_size status [] = refl
entries_size status (e ∷ es) =
    omega (arith, length-append (written_bytes status e) (flat_map (written_bytes status) es), entry-has_its_size status e, entries_size status es, sum_by-cons entry_size e es)

at_front : (s o : ℕ) (rest : List ℕ) → s < 65536 → two_at 0 (two s ++ two o ++ rest) ≡ s
at_front s o rest lt = omega (arith, lt)

behind_front : (s o : ℕ) (rest : List ℕ) → o < 65536 → two_at 2 (two s ++ two o ++ rest) ≡ o
behind_front s o rest lt = omega (arith, lt)

body_size : (h : EitHead) (status : ℕ) (es : List Event) → length (eit_body h status es) ≡ 6 + sum_by entry_size es
body_size h status es = omega (arith, length-append (head_bytes h) (flat_map (written_bytes status) es), entries_size status es)

body_fits : (h : EitHead) (status : ℕ) (es : List Event) → sum_by entry_size es ≤ 4078 → (6 ≤ length (eit_body h status es)) × (length (eit_body h status es) ≤ 4084)
body_fits h status es fits = (let size = body_size h status es in (omega (arith, size), omega (arith, size, fits)))

body_names : (bearer : Bearer) (segment_last last_table status : ℕ) (es : List Event) → bearer.stream < 65536 → bearer.original < 65536 → Names bearer (eit_body (eit_head bearer segment_last last_table) status es)
body_names bearer segment_last last_table status es stream original =
    let rest = segment_last ∷ last_table ∷ flat_map (written_bytes status) es in
    (at_front bearer.stream bearer.original rest stream, behind_front bearer.stream bearer.original rest original)

-- a body has the last number of its segment
tells : (h : EitHead) (rest : List ℕ) (number : ℕ) → segment_of h.segment_last ≡ segment_of number → segment_last_in number (head_bytes h ++ rest) ≡ Some h.segment_last
tells h rest number same =
    ap (λ (b : Bool). last_beside number (if b then Some (slice_index (head_bytes h ++ rest) 4, slice_index (head_bytes h ++ rest) 5) else None))
    (le-leb 6 (length (head_bytes h ++ rest)) (omega (arith, length-append (head_bytes h) rest)))
    ∙ ap (λ (b : Bool). if b then Some h.segment_last else None) (eq-eqb (segment_of h.segment_last) (segment_of number) same)

-- ---- present and following

small_one : (i : ℕ) (es : List Event) → AreSmallEntries es → sum_by entry_size (take 1 (drop i es)) ≤ 4078
small_one zero [] small = omega arith
small_one (suc i) [] small = omega arith
small_one zero (e ∷ es) small = omega (arith, small.0, sum_by-cons entry_size e [])
small_one (suc i) (e ∷ es) small = small_one i es small.1

small_at : (place : Option ℕ) (es : List Event) → AreSmallEntries es → sum_by entry_size (event_at place es) ≤ 4078
small_at None es small = omega arith
small_at (Some i) es small = small_one i es small

pub present_fit : PresentIsFit
present_fit bearer moment service small =
    let h = eit_head bearer 1 bearer.present in
    let on = flat_map (written_bytes 4) (present_event moment service.events) in
    let next = flat_map (written_bytes 1) (following_event moment service.events) in
    let zeroth : segment_last_in 0 (head_bytes h ++ on) ≡ Some 1 = tells h on 0 refl in
    let first : segment_last_in 1 (head_bytes h ++ next) ≡ Some 1 = tells h next 1 refl in
    record {
      below = omega arith;
      bodies = (
        body_fits h 4 (present_event moment service.events) (small_at _ service.events small),
        (body_fits h 1 (following_event moment service.events) (small_at _ service.events small), tt),
      );
      by_segments = record {
        some = omega arith;
        ascending = (omega arith, tt);
        needed = ap (λ (o : Option ℕ). and_numbers (option_map (numbers_in_segment 0) o) (Some [])) zeroth;
        agree = (refl, (first ∙ sym zeroth, tt));
      };
      told = ((1, zeroth, omega arith), ((1, first, omega arith), tt));
    }

-- ---- schedules

-- segments need the same where the same is known of them
needs_same : (f g : ℕ → Option ℕ) → ((n : ℕ) → f n ≡ g n) → (n k : ℕ) → segments_need f n k ≡ segments_need g n k
needs_same f g same n zero = refl
needs_same f g same n (suc k) = ap₂ and_numbers (ap (option_map (numbers_in_segment n)) (same n)) (needs_same f g same (1 + n) k)

length-from : (table last segment_last number from : ℕ) (runs : List (List EventAt)) → length (sections_from table last segment_last number from runs) ≡ length runs
length-from table last segment_last number from [] = refl
length-from table last segment_last number from (run ∷ runs) = omega (arith, length-from table last segment_last (1 + number) (from + length run) runs)

module _ (bearer : Bearer) (events : List Event) (end : ℕ) where
  abbrev made : Piece → NumberedBody
  made = schedule_section bearer events end

  made_numbers : (ps : List Piece) → numbers (map made ps) ≡ map (λ (p : Piece). p.number) ps
  made_numbers [] = refl
  made_numbers (p ∷ ps) = ap (λ (l : List ℕ). p.number ∷ l) (made_numbers ps)

  made_ascend : (m : ℕ) (ps : List Piece) → Rise m ps → Ascend (map made ps)
  made_ascend m [] r = tt
  made_ascend m (p ∷ []) r = tt
  made_ascend m (p ∷ q ∷ ps) r = (omega (arith, (r.1).0), made_ascend (1 + p.number) (q ∷ ps) r.1)

  last_behind : (ps : List Piece) (q : Piece) (qs : List Piece) → last_number (map made (ps ++ q ∷ qs)) ≡ last_number (map made (q ∷ qs))
  last_behind [] q qs = refl
  last_behind (p ∷ []) q qs = refl
  last_behind (p ∷ r ∷ ps) q qs = last_behind (r ∷ ps) q qs

  last_run : (table last segment_last number from : ℕ) (run : List EventAt) (runs : List (List EventAt))
      → last_number (map made (sections_from table last segment_last number from (run ∷ runs))) ≡ number + length runs
  last_run table last segment_last number from run [] = omega arith
  last_run table last segment_last number from run (next ∷ runs) = omega (arith, last_run table last segment_last (1 + number) (from + length run) next runs)

  last_of : (ps : List Piece) (table last segment_last number from : ℕ) (runs : List (List EventAt)) → 0 < length runs
      → last_number (map made (ps ++ sections_from table last segment_last number from runs)) ≡ number + (length runs - 1)
  last_of ps table last segment_last number from [] some = absurd (omega arith)
  last_of ps table last segment_last number from (run ∷ runs) some =
      let first : Piece = record { table = table; number = number; last = last; segment_last = segment_last; from = from; to = from + length run } in
      last_behind ps first (sections_from table last segment_last (1 + number) (from + length run) runs)
      ∙ last_run table last segment_last number from run runs ∙ (let e : number + length runs ≡ number + (suc (length runs) - 1) = omega arith in e)

  -- the numbers that the first section of a segment has
  made_told : (ps : List Piece) → AllByRecursion IsInSegment ps → (n : ℕ) → segment_last_at (map made ps) n ≡ told_last ps n
  made_told [] all n = refl
  made_told (p ∷ ps) all n = go (segment_of p.number == n) (made_told ps all.1 n)
    where
      go : (b : Bool) → segment_last_at (map made ps) n ≡ told_last ps n → told_by (if b then Some (made p) else find (λ (s : NumberedBody). segment_of s.number == n) (map made ps))
          ≡ option_map (λ (q : Piece). q.segment_last) (if b then Some p else find (λ (q : Piece). segment_of q.number == n) ps)
      go true rest = tells (eit_head bearer p.segment_last end) (flat_map (written_bytes 0) (section_events p events)) p.number (all.0).0
      go false rest = rest

  -- the entries of each section fit
  section_size : (p : Piece) → sum_by (λ (e : EventAt). e.size) (events_of (map at_of events) p) ≡ sum_by entry_size (section_events p events)
  section_size p =
      ap (sum_by (λ (e : EventAt). e.size)) (ap (take (p.to - p.from)) (drop-map at_of p.from events) ∙ take-map at_of (p.to - p.from) (drop p.from events))
      ∙ sum_map at_of (λ (e : EventAt). e.size) (section_events p events)

  segment_fits : CanBePlaced (map at_of events) → (table last segment block : ℕ)
      → AllByRecursion (λ (p : Piece). sum_by entry_size (section_events p events) ≤ 4078) (segment_sections table last segment block (map at_of events))
  segment_fits placed table last segment block =
      let ats = map at_of events in
      let ps = segment_sections table last segment block ats in
      let small = filter_all (λ (e : EventAt). e.size ≤ 4078) (λ (e : EventAt). start_block e == block) ats placed.small in
      let runs = runs_fit (λ (e : EventAt). e.size) 4078 (in_block block ats) small in
      all_map (λ (p : Piece). sum_by (λ (e : EventAt). e.size) (events_of ats p) ≤ 4078) (λ (p : Piece). sum_by entry_size (section_events p events) ≤ 4078)
      (λ p h. subst (λ (n : ℕ). n ≤ 4078) (section_size p) h) ps
      (all_of_map (λ (r : List EventAt). sum_by (λ (e : EventAt). e.size) r ≤ 4078) (events_of ats) ps
      (subst (λ (l : List (List EventAt)). AllByRecursion (λ (r : List EventAt). sum_by (λ (e : EventAt). e.size) r ≤ 4078) l) (sym (segments_have_runs table last segment block ats placed)) runs))

-- the sections of a table, by its first block
table_fit : (bearer : Bearer) (events : List Event) (end table first : ℕ) → CanBePlaced (map at_of events)
    → AreEit (map (schedule_section bearer events end) (table_sections table first (map at_of events)))
table_fit bearer events end table first placed =
    let ats = map at_of events in
    let made = schedule_section bearer events end in
    let ps = table_sections table first ats in
    let used = last_used first 32 ats in
    let less : used < 32 = used_less first 32 ats (omega arith) in
    let runs = block_runs (first + used) ats in
    let few = runs_few (first + used) ats placed.fit in
    let of = λ (segment : ℕ). segment_sections table (last_in_table first ats) segment (first + segment) ats in
    let before = flat_map of (range_with_len 0 used) in
    let parts : ps ≡ before ++ of used = range_more of 0 used used (omega arith) in
    let inside = table_in_segments table first ats placed.fit in
    let whole = tables_are_whole table first ats placed.fit in
    let last : last_number (map made ps) ≡ last_in_table first ats =
    ap (λ (l : List Piece). last_number (map made l)) parts
    ∙ last_of bearer events end before table (last_in_table first ats) (8 * used + (length runs - 1)) (8 * used) (block_place (first + used) ats) runs few.0 in
    let size = length-from table (last_in_table first ats) (8 * used + (length runs - 1)) (8 * used) (block_place (first + used) ats) runs in
    record {
      below = omega (arith, last, less, few.0, few.1);
      bodies = all_to_map (λ (s : NumberedBody). (6 ≤ length s.body) × (length s.body ≤ 4084)) made ps
          (all_map (λ (p : Piece). sum_by entry_size (section_events p events) ≤ 4078) (λ (p : Piece). (6 ≤ length (made p).body) × (length (made p).body ≤ 4084))
          (λ p h. body_fits (eit_head bearer p.segment_last end) 0 (section_events p events) h) ps
          (each_flat (λ (p : Piece). sum_by entry_size (section_events p events) ≤ 4078) of (λ segment. segment_fits bearer events end placed table (last_in_table first ats) segment (first + segment)) (range_with_len 0 (used + 1))));
      by_segments = record {
        some = omega (arith, length-map ps made, ap length parts, length-append before (of used), size, few.0);
        ascending = made_ascend bearer events end 0 ps (table_rises table first ats placed.fit);
        needed = ap (table_needs (segment_last_at (map made ps))) last
            ∙ needs_same (segment_last_at (map made ps)) (told_last ps) (made_told bearer events end ps inside) 0 (1 + segment_of (last_in_table first ats))
            ∙ whole.numbers ∙ ap Some (sym (made_numbers bearer events end ps));
        agree = all_to_map (λ (s : NumberedBody). segment_last_in s.number s.body ≡ segment_last_at (map made ps) (segment_of s.number)) made ps
            (all_two IsInSegment (λ (p : Piece). told_last ps (segment_of p.number) ≡ Some p.segment_last) (λ (p : Piece). segment_last_in p.number (made p).body ≡ segment_last_at (map made ps) (segment_of p.number))
            (λ p i t. tells (eit_head bearer p.segment_last end) (flat_map (written_bytes 0) (section_events p events)) p.number i.0
            ∙ sym t ∙ sym (made_told bearer events end ps inside (segment_of p.number)))
            ps inside whole.segment_last);
      };
      told = all_to_map (λ (s : NumberedBody). (n : ℕ) × (segment_last_in s.number s.body ≡ Some n) × (n ≤ last_number (map made ps))) made ps
          (all_two IsInSegment (λ (p : Piece). p.segment_last ≤ last_in_table first ats) (λ (p : Piece). (n : ℕ) × (segment_last_in p.number (made p).body ≡ Some n) × (n ≤ last_number (map made ps)))
          (λ p i b. (p.segment_last, tells (eit_head bearer p.segment_last end) (flat_map (written_bytes 0) (section_events p events)) p.number i.0, omega (arith, b, last)))
          ps inside (table_below table first ats placed.fit));
    }

-- and of a service whose events can be placed, whatever its names are
pub placed_fit : (bearer : Bearer) (day : ℕ) (service : ServiceGuide) (table : ℕ) → CanBePlaced (map at_of service.events) → AreEit (schedule_of bearer day service table).sections
placed_fit bearer day service table placed =
    table_fit bearer service.events (bearer.sent (last_table_of day service.events)) table (block_of day + 32 * (table - 0x50)) placed

pub schedule_fit : ScheduleIsFit
schedule_fit bearer day service table within small = placed_fit bearer day service table (events_can_be_placed service.events within.events small)

-- ---- names

each_piece : {X : Type 0} (P : X → Type 0) → ((x : X) → P x) → (xs : List X) → AllByRecursion P xs
each_piece P each [] = tt
each_piece P each (x ∷ xs) = (each x, each_piece P each xs)

pub events_name : EventsNameTheStream
events_name bearer moment service table stream original =
    let made = schedule_section bearer service.events (bearer.sent (last_table_of moment service.events)) in
    let ps = sections_in_table moment table (map at_of service.events) in (
      (
        body_names bearer 1 bearer.present 4 (present_event moment service.events) stream original,
        (body_names bearer 1 bearer.present 1 (following_event moment service.events) stream original, tt),
      ),
      all_to_map (λ (s : NumberedBody). Names bearer s.body) made ps
          (each_piece (λ (p : Piece). Names bearer (made p).body) (λ p. body_names bearer p.segment_last (bearer.sent (last_table_of moment service.events)) 0 (section_events p service.events) stream original) ps),
    )

-- ---- bodies are read

part_coded : (events part : List Event) → ((P : Event → Type 0) → All P events → All P part) → All IsCodable events → All IsTyped events → (bearer : Bearer) (segment_last last_table status : ℕ)
    → bearer.stream < 65536 → bearer.original < 65536 → status < 8 → (eit : Eit) × (eit_in (eit_body (eit_head bearer segment_last last_table) status part) ≡ Some eit)
part_coded events part of codable typed bearer segment_last last_table status stream original small =
    let h = eit_head bearer segment_last last_table in (
      record { head = h; events = map shown_event part },
      eit-reads_back h status part (record { stream = stream; original = original }) small (of IsCodable codable) (of IsTyped typed),
    )

at_place : (place : Option ℕ) (es : List Event) (P : Event → Type 0) → All P es → All P (event_at place es)
at_place None es P all = All-from_recursion P [] tt
at_place (Some i) es P all = All-take P 1 (drop i es) (All-drop P i es all)

pub events_read : EventsAreRead
events_read bearer moment service table stream original within typed =
    let es = service.events in
    let codable = all_codable es within.events.each in
    let types = All-from_recursion IsTyped es typed in
    let made = schedule_section bearer es (bearer.sent (last_table_of moment es)) in
    let ps = sections_in_table moment table (map at_of es) in (
      (
        part_coded es (present_event moment es) (at_place (present_at moment (map at_of es)) es) codable types bearer 1 bearer.present 4 stream original (omega arith),
        (part_coded es (following_event moment es) (at_place (following_at moment (map at_of es)) es) codable types bearer 1 bearer.present 1 stream original (omega arith), tt),
      ),
      all_to_map (λ (s : NumberedBody). (eit : Eit) × (eit_in s.body ≡ Some eit)) made ps
          (each_piece (λ (p : Piece). (eit : Eit) × (eit_in (made p).body ≡ Some eit))
          (λ p. part_coded es (section_events p es) (λ P all. All-take P (p.to - p.from) (drop p.from es) (All-drop P p.from es all)) codable types bearer p.segment_last (bearer.sent (last_table_of moment es)) 0 stream original (omega arith)) ps),
    )
