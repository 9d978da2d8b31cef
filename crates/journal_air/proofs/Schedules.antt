-- What the tables of a schedule say.
use Rattle.std.proofs.Common.{◌≡◌, ℕ, ◌+◌, ◌-◌, ◌*◌, ◌%◌, ◌<◌, ◌≤◌, ◌⊎◌, inl, inr, List, [], ◌∷◌, ◌++◌, Bool, Option, Some, None, length, map, refl, sym, ap, ap₂, ◌∙◌}
use Rattle.std.proofs.Common.{subst, arith, le-leb, length-append}
use Rattle.std.specs.Prelude.{zero, suc, min, flat_map, filter, if◌then◌else◌, slice_index}
use Rattle.std.specs.List.{All, AllByRecursion, range_with_len}
use Rattle.std.proofs.lemmas.List.{map-append}
use Rattle.std.proofs.lemmas.List.Concat.{flat_map-append}
use Rattle.si_lists.proofs.Lists.{all_of_map}
use Rattle.si_lists.proofs.Parts.{lt_or}
use Rattle.guide_model.specs.declared.event.Event.{Event}
use Rattle.guide_model.specs.declared.guide.ServiceGuide.{ServiceGuide}
use Rattle.guide_model.specs.declared.screen.ScreenEvent.{ScreenEvent}
use Rattle.guide_limits.specs.Events.{block_of}
use Rattle.guide_limits.specs.Limits.{IsServiceWithin}
use Rattle.section_codec.specs.declared.table.Key.{Key}
use Rattle.section_codec.specs.declared.table.NumberedBody.{NumberedBody}
use Rattle.section_codec.specs.declared.table.SubTable.{SubTable}
use Rattle.section_codec.specs.Contents.{Content, numbers_from}
use Rattle.section_codec.specs.Keys.{eit_numbers_in}
use Rattle.table_bodies.specs.declared.eit.EitHead.{EitHead}
use Rattle.table_bodies.specs.Eit.{IsCodable, IsTyped, head_bytes, written_bytes, shown_event}
use Rattle.eit_segments.specs.declared.event.EventAt.{EventAt}
use Rattle.eit_segments.specs.declared.piece.Piece.{Piece}
use Rattle.eit_segments.specs.Schedule.{CanBePlaced, FitSegments, block_runs, last_used, sections_from, segment_sections, table_sections, sections_in_table, section_events}
use Rattle.eit_segments.specs.Laws.{at_of}
use Rattle.eit_segments.proofs.Order.{runs_few, used_less}
use Rattle.publication.specs.Eit.{Bearer, bearer_key, eit_head}
use Rattle.publication.specs.Schedule.{last_table_of, schedule_section, schedule_of as table_sent, schedules_of, remote_tables}
use Rattle.guide_screen.specs.View.{sections, table_at}
use Rattle.guide_screen.specs.Reading.{events_in}
use Rattle.guide_screen.specs.Needs.{last_beside, last_table, tables_to}
use Rattle.guide_screen.specs.Screen.{events_at, schedule_of}
use Rattle.journal_air.specs.Screen.{is_scheduled}
use Rattle.journal_air.proofs.Events.{HasIds, pieces_said}
use Rattle.journal_air.proofs.Scheduled.{pieces_scheduled, all_tables}

-- ---- section 0 of the first table

-- a body tells its last numbers
numbers_told : (h : EitHead) (rest : List ℕ) → eit_numbers_in (head_bytes h ++ rest) ≡ Some (h.segment_last, h.last_table)
numbers_told h rest =
    ap (λ (b : Bool). if b then Some (slice_index (head_bytes h ++ rest) 4, slice_index (head_bytes h ++ rest) 5) else None)
    (le-leb 6 (length (head_bytes h ++ rest)) (omega (arith, length-append (head_bytes h) rest)))

-- the first section of a table has number 0
record BeginsAtZero (ps : List Piece) : Type 0 where
  piece : Piece
  rest : List Piece
  are : ps ≡ piece ∷ rest
  zeroth : piece.number ≡ 0

from_runs : (table last segment_last from : ℕ) (runs : List (List EventAt)) (more : List Piece) → 0 < length runs
    → BeginsAtZero (sections_from table last segment_last 0 from runs ++ more)
from_runs table last segment_last from [] more some = absurd (omega (arith, some))
from_runs table last segment_last from (run ∷ runs) more some = record {
  piece = record { table = table; number = 0; last = last; segment_last = segment_last; from = from; to = from + length run };
  rest = sections_from table last segment_last 1 (from + length run) runs ++ more;
  are = refl;
  zeroth = refl;
}

begins : (table first : ℕ) (ats : List EventAt) → FitSegments ats → BeginsAtZero (table_sections table first ats)
begins table first ats fit = go (last_used first 32 ats + 1) (let some : 0 < last_used first 32 ats + 1 = omega arith in some)
  where
    last : ℕ
    last = (let segment = last_used first 32 ats in 8 * segment + (length (block_runs (first + segment) ats) - 1))

    of : ℕ → List Piece
    of segment = segment_sections table last segment (first + segment) ats

    go : (n : ℕ) → 0 < n → BeginsAtZero (flat_map of (range_with_len 0 n))
    go zero some = absurd (omega (arith, some))
    go (suc n) some =
        from_runs table last (8 * 0 + (length (block_runs (first + 0) ats) - 1)) _ (block_runs (first + 0) ats) (flat_map of (range_with_len 1 n)) (runs_few (first + 0) ats fit).0

-- ---- of a stream

-- the SDT of a stream, as a screen looks its event information up by it
abbrev pub stream_key : Bearer → Key
stream_key b = record { pid = 0x0011; table = 0x42; ext = b.stream; stream = 0; network = b.original }

-- the tables of its schedules are sent under their own table_id, or all of them so many higher
pub record AreSentAt (b : Bearer) : Type 0 where
  pub more : ℕ
  pub sent : (table : ℕ) → b.sent table ≡ table + more

-- a table of the schedule of a service is held
abbrev pub HasTable : Bearer → ℕ → ServiceGuide → (Key → Option Content) → ℕ → Type 0
HasTable b day g content table = content (bearer_key b (b.sent table) g.service) ≡ Some (table_sent b day g table).sections

module _ (b : Bearer) (ids : HasIds b) (at : AreSentAt b) (day : ℕ) (g : ServiceGuide) where
  abbrev ats : List EventAt
  ats = map at_of g.events

  abbrev end : ℕ
  end = last_table_of day g.events

  last_low : 0x50 ≤ end
  last_low = omega arith

  pub last_high : end ≤ 0x5F
  last_high = (let less = used_less (block_of day) 512 ats (omega arith) in omega (arith, less))

  pub last_said : FitSegments ats → last_table (b.sent 0x5F) (table_sent b day g 0x50).sections ≡ b.sent end
  last_said fit =
      let first = begins 0x50 (block_of day + 32 * (0x50 - 0x50)) ats fit in
      ap (λ (ps : List Piece). last_table (b.sent 0x5F) (map (schedule_section b g.events (b.sent end)) ps)) first.are ∙ go first.piece first.rest first.zeroth
    where
      go : (p : Piece) (rest : List Piece) → p.number ≡ 0 → last_table (b.sent 0x5F) (map (schedule_section b g.events (b.sent end)) (p ∷ rest)) ≡ b.sent end
      go p rest e =
          let body : List ℕ = (schedule_section b g.events (b.sent end) p).body in
          let others : List NumberedBody = map (schedule_section b g.events (b.sent end)) rest in
          ap (λ (n : ℕ). let s : NumberedBody = record { number = n; body = body } in last_table (b.sent 0x5F) (s ∷ others)) e
          ∙ ap (last_beside (b.sent 0x5F)) (numbers_told (eit_head b p.segment_last (b.sent end)) (flat_map (written_bytes 0) (section_events p g.events)))
          ∙ smaller (b.sent end) (b.sent 0x5F) (omega (arith, last_high, at.sent end, at.sent 0x5F))
        where
          smaller : (n most : ℕ) → n ≤ most → min most n ≡ n
          smaller n most le = grind (arith, le)

  -- ---- table by table

  module _ (content : Key → Option Content) where
    abbrev Has : ℕ → Type 0
    Has table = HasTable b day g content table

    abbrev joined : List ℕ → List Piece
    joined tables = flat_map (λ (table : ℕ). sections_in_table day table ats) tables

    tables_said : All IsCodable g.events → All IsTyped g.events → (tables : List ℕ) → AllByRecursion Has tables
        → flat_map (events_at content (stream_key b) g.service) (map b.sent tables) ≡ map shown_event (flat_map (λ (p : Piece). section_events p g.events) (joined tables))
    tables_said codable typed [] all = refl
    tables_said codable typed (table ∷ tables) all =
        let here : List Piece = sections_in_table day table ats in
        let events : List Piece → List Event = λ ps. flat_map (λ (p : Piece). section_events p g.events) ps in
        ap₂ (λ (o : Option Content) (l : List ScreenEvent). events_in (sections o) ++ l) all.0 (tables_said codable typed tables all.1)
        ∙ ap (λ (l : List ScreenEvent). l ++ map shown_event (events (joined tables))) (pieces_said b ids g.events codable typed (b.sent end) here)
        ∙ sym (map-append shown_event (events here) (events (joined tables)))
        ∙ ap (map shown_event) (sym (flat_map-append (λ (p : Piece). section_events p g.events) here (joined tables)))

    same_range : (n k : ℕ) → numbers_from n k ≡ range_with_len n k
    same_range n zero = refl
    same_range n (suc k) =
        ap (λ (l : List ℕ). n ∷ l) (ap (λ (m : ℕ). numbers_from m k) (let e : 1 + n ≡ n + 1 = omega arith in e) ∙ same_range (n + 1) k)

    -- the table_ids under which they are sent
    sent_from : (n k : ℕ) → numbers_from (b.sent n) k ≡ map b.sent (numbers_from n k)
    sent_from n zero = refl
    sent_from n (suc k) =
        ap (λ (l : List ℕ). b.sent n ∷ l)
        (ap (λ (m : ℕ). numbers_from m k) (let e : 1 + b.sent n ≡ b.sent (1 + n) = omega (arith, at.sent n, at.sent (1 + n)) in e) ∙ sent_from (1 + n) k)

    pub all_sent : tables_to (b.sent 0x50) (b.sent end) ≡ map b.sent (tables_to 0x50 end)
    all_sent =
        ap (numbers_from (b.sent 0x50)) (let e : 1 + b.sent end - b.sent 0x50 ≡ 1 + end - 0x50 = omega (arith, at.sent 0x50, at.sent end) in e)
        ∙ sent_from 0x50 (1 + end - 0x50)

    abbrev Held : SubTable → Type 0
    Held t = content t.key ≡ Some t.sections

    -- the tables of the first eight days, and the others
    pub has_tables : AllByRecursion Held (schedules_of b day g 0x50 (1 + min 0x51 end)) → AllByRecursion Held (schedules_of b day g 0x52 (1 + end)) → AllByRecursion Has (tables_to 0x50 end)
    has_tables near far = go (lt_or 0x50 end)
      where
        near_are : AllByRecursion Has (range_with_len 0x50 ((1 + min 0x51 end) - 0x50))
        near_are = all_of_map Held (table_sent b day g) (range_with_len 0x50 ((1 + min 0x51 end) - 0x50)) near

        far_are : AllByRecursion Has (range_with_len 0x52 ((1 + end) - 0x52))
        far_are = all_of_map Held (table_sent b day g) (range_with_len 0x52 ((1 + end) - 0x52)) far

        go : (0x50 < end) ⊎ (end ≤ 0x50) → AllByRecursion Has (tables_to 0x50 end)
        go (inl more) =
            let two : (1 + min 0x51 end) - 0x50 ≡ 2 = grind (arith, more) in
            let first = subst (λ (n : ℕ). AllByRecursion Has (range_with_len 0x50 n)) two near_are in
            let rest = subst (AllByRecursion Has) (sym (same_range 0x52 ((1 + end) - 0x52))) far_are in
            let size : 1 + end - 0x50 ≡ suc (suc ((1 + end) - 0x52)) = omega (arith, more) in
            subst (λ (n : ℕ). AllByRecursion Has (numbers_from 0x50 n)) (sym size) (first.0, (first.1.0, rest))
        go (inr only) =
            let one : (1 + min 0x51 end) - 0x50 ≡ 1 = grind (arith, only, last_low) in
            let first = subst (λ (n : ℕ). AllByRecursion Has (range_with_len 0x50 n)) one near_are in
            let size : 1 + end - 0x50 ≡ suc zero = omega (arith, only, last_low) in
            subst (λ (n : ℕ). AllByRecursion Has (numbers_from 0x50 n)) (sym size) (first.0, tt)

    -- or all of them
    pub has_all : AllByRecursion Held (remote_tables b day g) → AllByRecursion Has (tables_to 0x50 end)
    has_all all =
        subst (AllByRecursion Has) (sym (same_range 0x50 ((1 + end) - 0x50))) (all_of_map Held (table_sent b day g) (range_with_len 0x50 ((1 + end) - 0x50)) all)

    -- the table that tells the last one
    pub last_is : FitSegments ats → Has 0x50 → last_table (b.sent 0x5F) (table_at content (stream_key b) g.service (b.sent 0x50)) ≡ b.sent end
    last_is fit has = ap (λ (o : Option Content). last_table (b.sent 0x5F) (sections o)) has ∙ last_said fit

    pub schedule_said : All IsCodable g.events → All IsTyped g.events → IsServiceWithin g → CanBePlaced ats → day % 86400 ≡ 0
        → AllByRecursion Has (tables_to 0x50 end) → last_table (b.sent 0x5F) (table_at content (stream_key b) g.service (b.sent 0x50)) ≡ b.sent end
        → schedule_of content (stream_key b) g.service (b.sent 0x50) (b.sent 0x5F) ≡ map shown_event (filter (is_scheduled day) g.events)
    schedule_said codable typed within placed zeroth all last =
        ap (λ (n : ℕ). flat_map (events_at content (stream_key b) g.service) (tables_to (b.sent 0x50) n)) last
        ∙ ap (flat_map (events_at content (stream_key b) g.service)) all_sent
        ∙ tables_said codable typed (tables_to 0x50 end) all
        ∙ ap (λ (ps : List Piece). map shown_event (flat_map (λ (p : Piece). section_events p g.events) ps)) (all_tables day ats)
        ∙ ap (map shown_event) (pieces_scheduled day g.events zeroth within.events.apart placed)
