-- Each part of a checkpoint reads back from its lines.
use Rattle.std.proofs.Common.{◌≡◌, ◌∙◌, ◌<◌, ◌≤◌, ◌+◌, ◌/◌, ◌%◌, ◌^◌, ◌++◌, ◌∷◌, [], ℕ, zero, suc, List, Bool, true, false, Option, Some, None, refl, ap, arith, length, map, lit<, lit≤, inl, inr, append_assoc}
use Rattle.std.specs.Prelude.{codes, decimal, nat_le, slice_index, flat_map, option_map, option_and_then, if◌then◌else◌, ◌&&◌}
use Rattle.std.specs.List.{list_all, AllByRecursion}
use Rattle.std.proofs.lemmas.Bool.{cases_lt, and_parts}
use Rattle.std.proofs.lemmas.Bool.Decides.{nat_tests}
use Rattle.std.proofs.lemmas.Fmt.{length-decimal-le}
use Rattle.hex.specs.Hex.{IsBytes, decode_of, encode_lower, encode_with, lower_digits}
use Rattle.hex.proofs.HexLemmas.{decode_of-encode_lower, length-encode_with}
use Rattle.si_causes.specs.Lines.{shown}
use Rattle.si_lists.proofs.Filters.{list_all-more}
use Rattle.section_codec.specs.declared.table.Key.{Key}
use Rattle.section_codec.specs.declared.table.NumberedBody.{NumberedBody}
use Rattle.section_codec.specs.Keys.{is_listed}
use Rattle.section_codec.proofs.NamingFacts.{listed_range}
use Rattle.ts_packets.specs.declared.pid_counter.PidCounter.{PidCounter}
use Rattle.cycle_player.specs.declared.clock.Clock.{Clock}
use Rattle.cycle_player.specs.Clock.{reads}
use Rattle.input_lines.specs.Fields.{record_of, fields_compute}
use Rattle.input_lines.specs.Numbers.{number_in}
use Rattle.input_lines.specs.Lines.{record_lines}
use Rattle.input_lines.specs.Ahead.{Ahead, Row, Tail, Found, Came, Stopped, NoCommand, and_then, on_line}
use Rattle.journal_model.specs.declared.step.Step.{Step}
use Rattle.script_lines.specs.Script.{read_command}
use Rattle.script_lines.proofs.NumberBack.{low, number_back, numeral_back, digits_of, decimal_some, value_back}
use Rattle.journal_text.specs.Lines.{line_text, item_text}
use Rattle.journal_text.specs.Commands.{command_text, step_items}
use Rattle.journal_text.specs.CommandBack.{IsRow, IsReadableCommand, ahead_of, command_lines, command_row, row_line, shown_lines}
use Rattle.journal_text.proofs.CleanRows.{line_first, line_shown}
use Rattle.journal_text.proofs.PlainFields.{is_written, written_kept, number_kept}
use Rattle.journal_text.proofs.CommandFields.{small_kept}
use Rattle.journal_text.proofs.CommandBack.{command_back, command_is_row, items_first, numbered, row_fields, row_first, step_rows}
use Rattle.desk_checkpoint.specs.declared.part.Part.{Part}
use Rattle.desk_checkpoint.specs.declared.part.Part.TheVariants.{Step as step, Version, Section, Counter, End}
use Rattle.desk_checkpoint.specs.declared.head.Head.{Head}
use Rattle.desk_checkpoint.specs.Checkpoints.{last_pid}
use Rattle.desk_checkpoint.specs.Fields.{begins_step, is_zero, body_in, clock_fields, clock_of, count_fields, count_in, count_of, counter_fields, decoded, is_lower_digit, key_in, part_of, section_fields, version_fields}
use Rattle.desk_checkpoint.specs.Reads.{NumberedPart, clock_ahead, clock_line, count_line, head_ahead, first_part, part_on, step_part}
use Rattle.desk_checkpoint.specs.Text.{clock_text, step_text}
use Rattle.desk_checkpoint.specs.Laws.{IsSectionWritten, IsClockWritten, IsCounterWritten, IsShortClock, clock_at}
use Rattle.desk_checkpoint.proofs.RowSizes.{row_size, number_size, small_size}

-- ---- lines

abbrev pub rows_from : ℕ → List ℕ → List Row
rows_from n text = record_lines n (shown_lines text)

abbrev pub in_rows : List Row → Tail → Ahead
in_rows rows tail = record { rows = rows; tail = tail }

-- a part on one line
pub part_first : (may : Bool) (n : ℕ) (fields : List (List ℕ)) (part : Part) (rest : List ℕ) (tail : Tail) → IsRow fields → begins_step fields ≡ false → part_of fields ≡ Some part
    → first_part may (ahead_of n (line_text fields ++ rest) tail) ≡ Came (n, part) (ahead_of (n + 1) rest tail)
part_first may n fields part rest tail row other is =
    let more = ahead_of (n + 1) rest tail in
    ap (λ (rows : List Row). first_part may (in_rows rows tail)) (row_first fields n rest row)
    ∙ ap (λ (o : Option (List (List ℕ))). and_then (on_line n o more) (λ fs behind. part_on may n fs behind)) (row_fields fields row)
    ∙ ap (λ (b : Bool). if b then (if may then step_part n (read_command n fields more) else Stopped (NoCommand n)) else on_line n (option_map (λ p. let r : NumberedPart = (n, p) in r) (part_of fields)) more) other
    ∙ ap (λ (o : Option Part). on_line n (option_map (λ p. let r : NumberedPart = (n, p) in r) o) more) is

zero_begins : (s : Step) → begins_step (command_row 0 s) ≡ true
zero_begins s = ap is_zero (numeral_back 0 (omega arith))

-- a step, with the items of a day
pub step_first : (n : ℕ) (s : Step) (rest : List ℕ) (tail : Tail) → IsReadableCommand 0 s
    → first_part true (ahead_of n (step_text (0, s) ++ rest) tail) ≡ Came (n, step s) (ahead_of (n + command_lines s) rest tail)
step_first n s rest tail h =
    let command = command_row 0 s in
    let items = step_items s in
    let is_row = command_is_row 0 s h.caller h.shaped h.within h.typed h.short in
    let rows = step_rows s h.shaped h.typed h.items_short in
    let at = n + command_lines s in
    let count : n + 1 + length items ≡ at = omega arith in
    let behind = numbered (n + 1) items ++ rows_from at rest in
    let lines : rows_from n (command_text 0 s ++ rest) ≡ (n, row_line command) ∷ behind =
    ap (rows_from n) (append_assoc (line_text command) (flat_map item_text items) rest)
    ∙ row_first command n (flat_map item_text items ++ rest) is_row
    ∙ ap (λ (l : List Row). (n, row_line command) ∷ l) (items_first items (n + 1) rest rows ∙ ap (λ k. numbered (n + 1) items ++ rows_from k rest) count) in
    ap (λ (l : List Row). first_part true (in_rows l tail)) lines
    ∙ ap (λ (o : Option (List (List ℕ))). and_then (on_line n o (in_rows behind tail)) (λ fs more. part_on true n fs more)) (row_fields command is_row)
    ∙ ap (λ (b : Bool). if b then (let f : Found NumberedPart = step_part n (read_command n command (in_rows behind tail)) in f) else on_line n (option_map (λ p. let r : NumberedPart = (n, p) in r) (part_of command)) (in_rows behind tail)) (zero_begins s)
    ∙ ap (step_part n) (command_back 0 n s (rows_from at rest) tail h.caller h.shaped h.within h.typed rows (n + 1))

end_lines : (rest : List ℕ) → shown_lines (codes "end\n" ++ rest) ≡ codes "end" ∷ shown_lines rest
end_lines rest =
    ap (map shown) (line_first (codes "end") rest refl) ∙ ap (λ (l : List ℕ). l ∷ shown_lines rest) (line_shown (codes "end") refl (lit≤ tt))

end_record : record_of (codes "end") ≡ Some (codes "end" ∷ [])
unfolding fields_compute
end_record = refl

end_part : part_of (codes "end" ∷ []) ≡ Some End
unfolding part_of
end_part = refl

pub end_first : (may : Bool) (n : ℕ) (rest : List ℕ) (tail : Tail) → first_part may (ahead_of n (codes "end\n" ++ rest) tail) ≡ Came (n, End) (ahead_of (n + 1) rest tail)
end_first may n rest tail =
    let more = ahead_of (n + 1) rest tail in
    ap (λ (l : List (List ℕ)). first_part may (in_rows (record_lines n l) tail)) (end_lines rest)
    ∙ ap (λ (o : Option (List (List ℕ))). and_then (on_line n o more) (λ fs behind. part_on may n fs behind)) end_record
    ∙ ap (λ (o : Option Part). on_line n (option_map (λ p. let r : NumberedPart = (n, p) in r) o) more) end_part

-- ---- the count

count_digits : (n : ℕ) → n < 10 ^ 18 → n < 2 ^ 64
count_digits n lt = let b : 10 ^ 18 < 2 ^ 64 = lit< tt in omega (arith, b, lt)

count_short : (n : ℕ) → n < 10 ^ 18 → length (decimal n) ≤ 18
count_short n lt = length-decimal-le 18 n (lit< tt) lt (count_digits n lt)

count_back : (n : ℕ) → n < 10 ^ 18 → count_in (decimal n) ≡ Some n
count_back n lt =
    let small = count_digits n lt in
    let some = decimal_some n small in
    let few = count_short n lt in
    let one : nat_le 1 (length (decimal n)) ≡ true = grind (arith, nat_tests) in
    let eighteen : nat_le (length (decimal n)) 18 ≡ true = grind (arith, nat_tests) in
    rw (digits_of n small, one, eighteen, value_back n small) refl

count_is_row : (n : ℕ) → n < 10 ^ 18 → IsRow (count_fields n)
count_is_row n lt = record {
  front = (refl, refl);
  kept = (written_kept (codes "checkpoint") refl, (number_kept n (count_digits n lt), tt));
  short = omega (arith, row_size (count_fields n), count_short n lt);
}

count_first : (n count : ℕ) (rest : List ℕ) (tail : Tail) → count < 10 ^ 18
    → count_line (ahead_of n (line_text (count_fields count) ++ rest) tail) ≡ Came count (ahead_of (n + 1) rest tail)
count_first n count rest tail lt =
    let fields = count_fields count in
    let row = count_is_row count lt in
    let more = ahead_of (n + 1) rest tail in
    ap (λ (rows : List Row). count_line (in_rows rows tail)) (row_first fields n rest row)
    ∙ ap (λ (o : Option (List (List ℕ))). on_line n (option_and_then count_of o) more) (row_fields fields row)
    ∙ ap (λ (o : Option ℕ). on_line n o more) (count_back count lt)

-- ---- the clock

bits_back : (n : ℕ) → n ≤ 99999999 → number_in 0 99999999 (decimal n) ≡ Some n
bits_back n le =
    let small = low n (omega (arith, le)) in
    let some = decimal_some n small in
    let few = number_size n (omega (arith, le)) in
    let one : nat_le 1 (length (decimal n)) ≡ true = grind (arith, nat_tests) in
    let nine : nat_le (length (decimal n)) 9 ≡ true = grind (arith, nat_tests) in
    let zero : nat_le 0 n ≡ true = grind (arith, nat_tests) in
    let within : nat_le n 99999999 ≡ true = grind (arith, nat_tests) in
    rw (digits_of n small, one, nine, value_back n small, zero, within) refl

clock_back : (clock : Clock) → IsShortClock clock
    → clock_of (clock_fields (reads clock)) ≡ Some clock
clock_back clock h = rw (count_back clock.moment h.moment, bits_back clock.bits h.bits) refl

clock_is_row : (clock : Clock) → IsShortClock clock → IsRow (clock_fields (reads clock))
clock_is_row clock h = record {
  front = (refl, refl);
  kept = (written_kept (codes "clock") refl, (number_kept clock.moment (count_digits clock.moment h.moment), (number_kept clock.bits (low clock.bits (omega (arith, h.bits))), tt)));
  short = omega (
    arith,
    row_size (clock_fields (reads clock)),
    count_short clock.moment h.moment,
    number_size clock.bits (omega (arith, h.bits)),
  );
}

clock_first : (n : ℕ) (clock : Clock) (rest : List ℕ) (tail : Tail) → IsShortClock clock
    → clock_line (ahead_of n (line_text (clock_fields (reads clock)) ++ rest) tail)
    ≡ Came clock (ahead_of (n + 1) rest tail)
clock_first n clock rest tail h =
    let fields = clock_fields (reads clock) in
    let row = clock_is_row clock h in
    let more = ahead_of (n + 1) rest tail in
    ap (λ (rows : List Row). clock_line (in_rows rows tail)) (row_first fields n rest row)
    ∙ ap (λ (o : Option (List (List ℕ))). on_line n (option_and_then clock_of o) more) (row_fields fields row)
    ∙ ap (λ (o : Option Clock). on_line n o more) (clock_back clock h)

-- ---- what stands before the parts

abbrev pub head_of : Option ℕ → ℕ → Clock → Head
head_of rate count clock = record { count = count; clock = clock_at rate clock }

abbrev and_clock : Option ℕ → ℕ → Ahead → Found Head
and_clock rate count behind =
    and_then (clock_ahead rate behind) (λ (c : Clock) more. let f : Found Head = Came (record { count = count; clock = c }) more in f)

pub head_first : (rate : Option ℕ) (n count : ℕ) (clock : Clock) (rest : List ℕ) (tail : Tail)
    → count < 10 ^ 18 → IsClockWritten rate clock
    → (m : ℕ) × (head_ahead rate
    (ahead_of n (line_text (count_fields count) ++ (clock_text rate (reads clock) ++ rest)) tail)
    ≡ Came (head_of rate count clock) (ahead_of m rest tail))
head_first None n count clock rest tail lt h =
    (n + 1, ap (λ (f : Found ℕ). and_then f (λ c behind. and_clock None c behind)) (count_first n count rest tail lt))
head_first (Some rate) n count clock rest tail lt h =
    let line = line_text (clock_fields (reads clock)) in (
      n + 1 + 1,
      ap (λ (f : Found ℕ). and_then f (λ c behind. and_clock (Some rate) c behind)) (count_first n count (line ++ rest) tail lt)
          ∙ ap (λ (f : Found Clock). and_then f (λ (c : Clock) more. let g : Found Head = Came (record { count = count; clock = c }) more in g))
          (clock_first (n + 1) clock rest tail h),
    )

-- ---- keys

key_back : (key : Key) → is_listed key ≡ true → key.ext ≤ 65535 → key.stream ≤ 65535 → key.network ≤ 65535
    → key_in (decimal key.pid) (decimal key.table) (decimal key.ext) (decimal key.stream) (decimal key.network) ≡ Some key
key_back key h ext stream network =
    let numbers = listed_range key h in
    rw (
      number_back key.pid 8190 numbers.0 (omega arith),
      number_back key.table 255 numbers.1 (omega arith),
      number_back key.ext 65535 ext (omega arith),
      number_back key.stream 65535 stream (omega arith),
      number_back key.network 65535 network (omega arith),
      h,
    ) refl

version_back : (key : Key) (version : ℕ) → is_listed key ≡ true → key.ext ≤ 65535 → key.stream ≤ 65535 → key.network ≤ 65535 → version < 32
    → part_of (version_fields key version) ≡ Some (Version key version)
unfolding part_of
version_back key version h ext stream network lt =
    rw (key_back key h ext stream network, number_back version 31 (omega arith) (omega arith)) refl

version_is_row : (key : Key) (version : ℕ) → is_listed key ≡ true → key.ext ≤ 65535 → key.stream ≤ 65535 → key.network ≤ 65535 → version < 32
    → IsRow (version_fields key version)
version_is_row key version h ext stream network lt =
    let numbers = listed_range key h in
    record {
      front = (refl, refl);
      kept = (written_kept (codes "version") refl, (small_kept key.pid 8190 numbers.0 (omega arith), (small_kept key.table 255 numbers.1 (omega arith), (small_kept key.ext 65535 ext (omega arith), (small_kept key.stream 65535 stream (omega arith), (small_kept key.network 65535 network (omega arith), (small_kept version 31 (omega arith) (omega arith), tt)))))));
      short = omega (
        arith,
        row_size (version_fields key version),
        small_size key.pid (omega (arith, numbers.0)),
        small_size key.table (omega (arith, numbers.1)),
        small_size key.ext ext,
        small_size key.stream stream,
        small_size key.network network,
        small_size version (omega arith),
      );
    }

pub version_first : (may : Bool) (n : ℕ) (key : Key) (version : ℕ) (rest : List ℕ) (tail : Tail) → is_listed key ≡ true → key.ext ≤ 65535 → key.stream ≤ 65535 → key.network ≤ 65535 → version < 32
    → first_part may (ahead_of n (line_text (version_fields key version) ++ rest) tail) ≡ Came (n, Version key version) (ahead_of (n + 1) rest tail)
version_first may n key version rest tail h ext stream network lt =
    part_first may n (version_fields key version) (Version key version) rest tail (version_is_row key version h ext stream network lt) refl
    (version_back key version h ext stream network lt)

-- ---- sections

-- the test of the first n digits, which computes
abbrev all_lower : ℕ → Bool
all_lower zero = true
all_lower (suc n) = is_lower_digit (slice_index lower_digits n) && all_lower n

lower_below : (n k : ℕ) → all_lower n ≡ true → k < n → is_lower_digit (slice_index lower_digits k) ≡ true
lower_below zero k h lt = absurd (omega arith)
lower_below (suc n) k h lt =
    let parts = and_parts (is_lower_digit (slice_index lower_digits n)) (all_lower n) h in
    elim (cases_lt k n) [
      | inl below ↦ lower_below n k parts.1 below
      | inr top ↦ (let e : k ≡ n = omega arith in rw e parts.0)
    ]

digits_lower : (bytes : List ℕ) → AllByRecursion (λ b. b < 256) bytes → list_all is_lower_digit (encode_lower bytes) ≡ true
unfolding encode_with
digits_lower [] h = refl
digits_lower (b ∷ bytes) h =
    let fits : b < 256 = h.0 in
    let first = lower_below 16 (b / 16) refl (omega arith) in
    let second = lower_below 16 (b % 16) refl (omega arith) in
    rw (first, second, digits_lower bytes h.1) refl

lower_written : (b : ℕ) → is_lower_digit b ≡ true → is_written b ≡ true
lower_written b h = grind (arith, nat_tests)

bytes_of : (bytes : List ℕ) → AllByRecursion (λ b. b < 256) bytes → IsBytes bytes
bytes_of [] h i = lit< tt
bytes_of (b ∷ bytes) h zero = h.0
bytes_of (b ∷ bytes) h (suc i) = bytes_of bytes h.1 i

body_back : (section : NumberedBody) → IsSectionWritten section → body_in (encode_lower section.body) ≡ Some section.body
body_back section h =
    let short : nat_le (length section.body) 4084 ≡ true = let k = h.short in grind (arith, nat_tests) in
    ap (λ (b : Bool). if b then decoded (decode_of (encode_lower section.body)) else None) (digits_lower section.body h.bytes)
    ∙ ap decoded (decode_of-encode_lower section.body (bytes_of section.body h.bytes))
    ∙ ap (λ (b : Bool). let o : Option (List ℕ) = if b then Some section.body else None in o) short

section_back : (section : NumberedBody) → IsSectionWritten section → part_of (section_fields section) ≡ Some (Section section)
unfolding part_of
section_back section h = rw (body_back section h, number_back section.number 255 h.number (omega arith)) refl

section_is_row : (section : NumberedBody) → IsSectionWritten section → IsRow (section_fields section)
section_is_row section h = record {
  front = (refl, refl);
  kept = (written_kept (codes "body") refl, (small_kept section.number 255 h.number (omega arith), (written_kept (encode_lower section.body) (list_all-more is_lower_digit is_written lower_written (encode_lower section.body) (digits_lower section.body h.bytes)), tt)));
  short = omega (
    arith,
    row_size (section_fields section),
    number_size section.number (omega (arith, h.number)),
    length-encode_with lower_digits section.body,
    h.short,
  );
}

pub section_first : (may : Bool) (n : ℕ) (section : NumberedBody) (rest : List ℕ) (tail : Tail) → IsSectionWritten section
    → first_part may (ahead_of n (line_text (section_fields section) ++ rest) tail) ≡ Came (n, Section section) (ahead_of (n + 1) rest tail)
section_first may n section rest tail h =
    part_first may n (section_fields section) (Section section) rest tail (section_is_row section h) refl (section_back section h)

-- ---- counters

low_pid : (rate : Option ℕ) (pid : ℕ) → pid ≤ last_pid rate → pid ≤ 8191
low_pid None pid h = omega (arith, h)
low_pid (Some rate) pid h = h

counter_back : (rate : Option ℕ) (counter : PidCounter) → IsCounterWritten rate counter → part_of (counter_fields counter) ≡ Some (Counter counter)
unfolding part_of
counter_back rate counter h =
    rw (number_back counter.pid 8191 (low_pid rate counter.pid h.pid) (omega arith), number_back counter.next 15 (omega (arith, h.next)) (omega arith)) refl

counter_is_row : (rate : Option ℕ) (counter : PidCounter) → IsCounterWritten rate counter → IsRow (counter_fields counter)
counter_is_row rate counter h = record {
  front = (refl, refl);
  kept = (written_kept (codes "counter") refl, (small_kept counter.pid 8191 (low_pid rate counter.pid h.pid) (omega arith), (small_kept counter.next 15 (omega (arith, h.next)) (omega arith), tt)));
  short = omega (
    arith,
    row_size (counter_fields counter),
    number_size counter.pid (omega (arith, low_pid rate counter.pid h.pid)),
    number_size counter.next (omega (arith, h.next)),
  );
}

pub counter_first : (rate : Option ℕ) (may : Bool) (n : ℕ) (counter : PidCounter) (rest : List ℕ) (tail : Tail) → IsCounterWritten rate counter
    → first_part may (ahead_of n (line_text (counter_fields counter) ++ rest) tail) ≡ Came (n, Counter counter) (ahead_of (n + 1) rest tail)
counter_first rate may n counter rest tail h =
    part_first may n (counter_fields counter) (Counter counter) rest tail (counter_is_row rate counter h) refl (counter_back rate counter h)
