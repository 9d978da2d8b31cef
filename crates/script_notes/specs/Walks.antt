-- Notings as they are read line by line: of a day each item in its turn.
use Rattle.std.specs.Prelude.{◌≡◌, ℕ, zero, suc, ◌+◌, ◌*◌, ◌≤◌, Bool, List, [], ◌∷◌, ◌++◌, Option, Some, None, Ok, Err, Result, option_and_then, if◌then◌else◌}
use Rattle.std.specs.Io.KnownBytes.{IsAtEnd}
use Rattle.si_causes.specs.Reading.{Reading, room, text_left}
use Rattle.si_causes.specs.declared.stop.ReadStop.{ReadStop}
use Rattle.input_lines.specs.Fields.{record_of}
use Rattle.input_lines.specs.declared.stop.EditStop.{EditStop}
use Rattle.input_lines.specs.declared.stop.EditStop.TheVariants.{NoCommand as Refused, Read, Memory}
use Rattle.input_lines.specs.Ahead.{Ahead, Row, Tail, Ends, Exceeds, Breaks, Found, Came, Stopped, End, TooLong, Unread, ahead, and_then, first_row, stop_at}
use Rattle.input_lines.specs.Reads.{Leaves, ReadOf}
use Rattle.input_lines.specs.Records.{NextRecord}
use Rattle.journal_model.specs.declared.edit.Item.{Item as AnItem}
use Rattle.script_lines.specs.Items.{item_line}
use Rattle.script_notes.specs.declared.day.ItemRead.{ItemRead}
use Rattle.script_notes.specs.declared.day.ItemRead.TheVariants as read
use Rattle.script_notes.specs.declared.head.DayHead.{DayHead}
use Rattle.script_notes.specs.declared.head.LineHead.{LineHead}
use Rattle.script_notes.specs.declared.head.LineHead.TheVariants as head
use Rattle.script_notes.specs.declared.noting.Held.{Held}
use Rattle.script_notes.specs.declared.noting.Held.TheVariants.{Attached, Line}
use Rattle.script_notes.specs.declared.noting.Noting.{Noting}
use Rattle.script_notes.specs.declared.noting.Noting.TheVariants.{Item, Bad}
use Rattle.script_notes.specs.declared.why.Why.{Why}
use Rattle.script_notes.specs.declared.why.Why.TheVariants.{NoItem}
use Rattle.script_notes.specs.Faults.{why_item_line, why_line}
use Rattle.script_notes.specs.Heads.{day_command, line_head}
use Rattle.script_notes.specs.Held.{EndsThere, IsHeldBy, PassesTo, came_held, left_over, with_held}
use Rattle.script_notes.specs.Notings.{is_attached, told, unattached}

-- ---- one line after another

abbrev pub item_in : List ℕ → Option AnItem
item_in line = option_and_then item_line (record_of line)

abbrev pub with_row : Row → Ahead → Ahead
with_row row behind = record { rows = row ∷ behind.rows; tail = behind.tail }

-- a row in place of an item, which is one or is not
abbrev pub item_walk : (List AnItem → Ahead → Found Noting) → List AnItem → Row → Option AnItem → Ahead → Found Noting
item_walk next items row (Some item) behind = next (items ++ item ∷ []) behind
item_walk next items row None behind = Came (Bad row.0 (told (why_item_line row.1))) (unattached (with_row row behind))

abbrev pub row_walk : (List AnItem → Ahead → Found Noting) → List AnItem → List Row → Tail → Found Noting
row_walk next items (row ∷ rows) tail = item_walk next items row (item_in row.1) (record { rows = rows; tail = tail })
row_walk next items [] (Ends n) = Came (Bad n NoItem) (record { rows = []; tail = Ends n })
row_walk next items [] Exceeds = Stopped TooLong
row_walk next items [] Breaks = Stopped Unread

-- a day of which these items were read and so many are still to come
unfoldable pub day_walk : DayHead → ℕ → List AnItem → Ahead → Found Noting
day_walk day zero items lines = Came (Item (day_command day items)) lines
day_walk day (suc k) items lines = row_walk (day_walk day k) items lines.rows lines.tail

abbrev pub head_walk : Why → ℕ → Option LineHead → Ahead → Found Noting
head_walk why n None behind = Came (Bad n why) (unattached behind)
head_walk why n (Some (head.Whole item)) behind = Came (Item item) behind
head_walk why n (Some (head.OfDay day)) behind = day_walk day day.count [] behind

abbrev pub line_walk : Bool → Row → Ahead → Found Noting
line_walk after row behind = head_walk (told (why_line after row.1)) row.0 (line_head after row.0 row.1) behind

abbrev pub walk : Bool → Ahead → Found Noting
walk after lines = and_then (first_row stop_at lines) (line_walk after)

-- ---- what the parts of a call tell

-- A noting was read as `first` reads it, and this is held then.
pub record NotedTo {S : Type 0} (left : S → Option (List ℕ)) (faults : S → ℕ) (alike : S → S → Type 0) (first : Ahead → Found Noting) (noting : Noting) (held : Held) (old new : Reading S) : Type 0 where
  pub gives : (text : List ℕ) → text_left left old ≡ Some text → Leaves left first (came_held noting held new) old new text
  pub takes : PassesTo left first (came_held noting held new) old new
  pub held_by : IsHeldBy left held new
  pub falls : left_over held new ≤ 2 * room old + 1
  pub later : faults old.source ≤ faults new.source
  pub same : alike old.source new.source

-- a noting was read, or it says why not
abbrev pub IsNoted : {S : Type 0} → (S → Option (List ℕ)) → (S → ℕ) → (S → S → Type 0) → (Ahead → Found Noting) → Reading S → Reading S → Result (Noting × Held) EditStop → Type 0
IsNoted left faults alike first old new (Ok noted) = NotedTo left faults alike first noted.0 noted.1 old new
IsNoted left faults alike first old new (Err (Refused n)) = ⊥
IsNoted left faults alike first old new (Err stop) = ReadOf {T = Noting} left faults alike first old new (Err stop)

-- what a line that is no item leaves to be held
abbrev pub held_at : List ℕ → Held
held_at line = if is_attached line then Attached else Line

-- what line n is in place of an item
abbrev pub IsItemOn : ℕ → List ℕ → Result ItemRead EditStop → Type 0
IsItemOn n line (Ok (read.Item item)) = item_in line ≡ Some item
IsItemOn n line (Ok (read.Bad noting held)) = (item_in line ≡ None) × (noting ≡ Bad n (told (why_item_line line))) × (held ≡ held_at line)
IsItemOn n line (Err Memory) = Unit {0}
IsItemOn n line (Err stop) = ⊥

-- the next line came, and is this item
pub record ItemCame {S : Type 0} (left : S → Option (List ℕ)) (faults : S → ℕ) (alike : S → S → Type 0) (old new : Reading S) (item : AnItem) : Type 0 where
  pub n : ℕ
  pub came : NextRecord left faults alike old new (Ok (Some n))
  pub is : item_in new.line ≡ Some item

-- the next line in place of an item, of which one or more are to come
abbrev pub IsItemRead : {S : Type 0} → (S → Option (List ℕ)) → (S → ℕ) → (S → S → Type 0) → Reading S → Reading S → Result ItemRead EditStop → Type 0
IsItemRead left faults alike old new (Ok (read.Item item)) = ItemCame left faults alike old new item
IsItemRead left faults alike old new (Ok (read.Bad noting held)) = (day : DayHead) (k : ℕ) (items : List AnItem) → NotedTo left faults alike (day_walk day (suc k) items) noting held old new
IsItemRead left faults alike old new (Err (Refused n)) = ⊥
IsItemRead left faults alike old new (Err stop) = (day : DayHead) (k : ℕ) (items : List AnItem) → ReadOf {T = Noting} left faults alike (day_walk day (suc k) items) old new (Err stop)

-- ---- the line that is read as a command

-- the first line ahead with what is held
abbrev pub row_held : {S : Type 0} → Held → Reading S → Ahead → Found Row
row_held held reader lines = first_row stop_at (with_held held reader lines)

-- a line came, and is the reader's last
pub record RowCame {S : Type 0} (left : S → Option (List ℕ)) (faults : S → ℕ) (alike : S → S → Type 0) (held : Held) (old new : Reading S) (n : ℕ) : Type 0 where
  pub number : n ≡ new.number
  pub going : new.stop ≡ None
  pub reads : ReadOf left faults alike (row_held held old) old new (Ok (n, new.line))
  pub falls : left_over Line new ≤ left_over held old

-- no line is left
pub record RowsEnd {S : Type 0} (left : S → Option (List ℕ)) (faults : S → ℕ) (alike : S → S → Type 0) (first : Ahead → Found Row) (old new : Reading S) : Type 0 where
  pub gives : (text : List ℕ) → text_left left old ≡ Some text → (first (ahead old text) ≡ Stopped End) × (text_left left new ≡ Some [])
  pub takes : EndsThere left first old new
  pub at_end : IsAtEnd (left new.source)
  pub later : faults old.source ≤ faults new.source
  pub same : alike old.source new.source

abbrev pub IsRowRead : {S : Type 0} → (S → Option (List ℕ)) → (S → ℕ) → (S → S → Type 0) → Held → Reading S → Reading S → Result (Option ℕ) ReadStop → Type 0
IsRowRead left faults alike held old new (Ok (Some n)) = RowCame left faults alike held old new n
IsRowRead left faults alike held old new (Ok None) = RowsEnd left faults alike (row_held held old) old new
IsRowRead left faults alike held old new (Err stop) = ReadOf {T = Row} left faults alike (row_held held old) old new (Err (Read stop))
