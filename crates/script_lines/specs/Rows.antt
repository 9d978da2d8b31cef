-- Worked rows of the definitions.
use Rattle.std.specs.Prelude.{◌≡◌, ℕ, List, [], ◌∷◌, ◌++◌, Some, None, true, false, refl, codes}
use Rattle.std.specs.Fmt.{digits}
use Rattle.std.specs.Str.{chars, is_utf8}
use Rattle.input_lines.specs.Fields.{next_record, strip_bom}
use Rattle.journal_model.specs.declared.edit.Item.{Item}
use Rattle.journal_model.specs.declared.edit.Edit.TheVariants.{Put, Withdraw, Clear, Day}
use Rattle.script_lines.specs.declared.heads.Head.TheVariants.{Whole, OfDay}
use Rattle.input_lines.specs.Ahead.{End, NoCommand, Ends, Breaks, Unread}
use Rattle.script_lines.specs.Items.{genre_of, genres_of, rating_of, item_of, item_line}
use Rattle.script_lines.specs.Heads.{edit_head}
use Rattle.script_lines.specs.Edits.{items_of, edits_ahead, edits_of}
use Rattle.guide_model.specs.Genres.{genres_text}
use Rattle.script_lines.specs.EditFields.{edit_fields}
use Rattle.input_lines.specs.Fields.{fields_compute}
use Rattle.input_lines.specs.Groups.{groups_compute}
use Rattle.journal_model.specs.declared.reply.Field.TheVariants.{Segment}
use Rattle.journal_model.specs.declared.reply.DayFault.TheVariants.{Range as BadField, Overlap as Overlaps}
use Rattle.journal_model.specs.declared.reply.Reply.TheVariants.{Done, Member}
use Rattle.journal_model.specs.declared.step.Step.TheVariants.{Edit as edit, Publish, Swap}
use Rattle.journal_model.specs.declared.step.Outcome.TheVariants.{Edited, Published}
use Rattle.script_lines.specs.Controls.{control_of}
use Rattle.script_lines.specs.declared.script.ScriptItem.TheVariants.{Step as step, Kept}
use Rattle.script_lines.specs.Outcomes.{field_of, day_fault_of, reply_of, outcome_of_fields}
use Rattle.script_lines.specs.Script.{items_ahead, script_of}

-- single spaces part genres, and points their numbers
two_genres : genres_of (codes "1.2.255 03.0.0") ≡ Some (record { level1 = 1; level2 = 2; user = 255 } ∷ record { level1 = 3; level2 = 0; user = 0 } ∷ [])
two_genres = refl

no_genres : genres_of [] ≡ Some []
no_genres = refl

two_spaces : genres_of (codes "1.2.3  4.5.6") ≡ None
two_spaces = refl

space_behind : genres_of (codes "1.2.3 ") ≡ None
space_behind = refl

level_256 : genres_of (codes "1.256.3") ≡ None
level_256 = refl

four_numbers : genre_of (codes "1.2.3.4") ≡ None
four_numbers = refl

-- COUNTRY and RATING
rated : rating_of (codes "GBR") (codes "4") ≡ Some (Some (record { country = codes "GBR"; value = 4 }))
rated = refl

unrated : rating_of [] [] ≡ Some None
unrated = refl

country_alone : rating_of (codes "GBR") [] ≡ None
country_alone = refl

rating_alone : rating_of [] (codes "4") ≡ None
rating_alone = refl

-- an event of 13 October 1993, and its fields
abbrev news : Item
news = record {
  id = 7;
  start = record { 0 = codes "1993-10-13T13:00:00Z" };
  length = record { 0 = codes "00:30:00" };
  language = codes "eng";
  name = codes "News";
  short = [];
  extended = [];
  rating = None;
  genres = [];
  descriptors = [];
}

abbrev news_fields : List (List ℕ)
news_fields = codes "1993-10-13T13:00:00Z" ∷ codes "00:30:00" ∷ codes "eng" ∷ codes "News" ∷ [] ∷ [] ∷ [] ∷ [] ∷ [] ∷ []

of_ten : item_of (codes "0007" ∷ news_fields) ≡ Some news
unfolding item_of
of_ten = refl

-- one field more: nothing, or groups with one space between, each of a tag, a length and just so many bytes
of_eleven : item_of (codes "7" ∷ news_fields ++ [] ∷ []) ≡ Some news
unfolding item_of
of_eleven = refl

of_twelve : item_of (codes "7" ∷ news_fields ++ [] ∷ [] ∷ []) ≡ None
unfolding item_of
of_twelve = refl

abbrev described : Item
described = record news { descriptors = record { tag = 0x50; body = 0xF5 ∷ 0x0B ∷ 0x01 ∷ 0x64 ∷ 0x65 ∷ 0x75 ∷ [] } ∷ record { tag = 0xFF; body = [] } ∷ [] }

with_groups : item_of (codes "7" ∷ news_fields ++ codes "5006F50B01646575 ff00" ∷ []) ≡ Some described
unfolding item_of groups_compute
with_groups = refl

with_two_spaces : item_of (codes "7" ∷ news_fields ++ codes "5000  5000" ∷ []) ≡ None
unfolding item_of groups_compute
with_two_spaces = refl

of_a_digit : item_of (codes "7" ∷ news_fields ++ codes "5" ∷ []) ≡ None
unfolding item_of groups_compute
of_a_digit = refl

with_a_byte_more : item_of (codes "7" ∷ news_fields ++ codes "5000F5" ∷ []) ≡ None
unfolding item_of groups_compute
with_a_byte_more = refl

listed : item_line (codes "item" ∷ codes "7" ∷ news_fields) ≡ Some news
unfolding item_line item_of
listed = refl

-- heads of edits
put : edit_head (codes "put" ∷ codes "101" ∷ codes "7" ∷ news_fields) ≡ Some (Whole (Put 101 news))
unfolding edit_head item_of
put = refl

item_is_no_edit : edit_head (codes "item" ∷ codes "7" ∷ news_fields) ≡ None
unfolding edit_head item_of
item_is_no_edit = refl

day_of_2000 : edit_head (codes "day" ∷ codes "1" ∷ codes "9999-99-99" ∷ codes "2000" ∷ []) ≡ Some (OfDay 1 (record { 0 = codes "9999-99-99" }) 2000)
unfolding edit_head
day_of_2000 = refl

day_of_2001 : edit_head (codes "day" ∷ codes "1" ∷ codes "9999-99-99" ∷ codes "2001" ∷ []) ≡ None
unfolding edit_head
day_of_2001 = refl

-- edits of texts
two_edits : edits_of (codes "#x\n\nclear,101\r\n\"withdraw\",2,03") ≡ (Clear 101 ∷ Withdraw 2 3 ∷ [], End)
unfolding chars is_utf8 lib.Utf8.encode next_record strip_bom edit_head edits_ahead
two_edits = refl

other_line : edits_of (codes "clear,101\nname,1,Acme\nclear,2\n") ≡ (Clear 101 ∷ [], NoCommand 2)
unfolding chars is_utf8 lib.Utf8.encode next_record strip_bom edit_head edits_ahead
other_line = refl

a_day : edits_of (codes "day,101,1993-10-13,1\n#\nitem,7,1993-10-13T13:00:00Z,00:30:00,eng,News,,,,,\n") ≡ (Day 101 (record { 0 = codes "1993-10-13" }) (news ∷ []) ∷ [], End)
unfolding chars is_utf8 lib.Utf8.encode next_record strip_bom edit_head edits_ahead items_of item_line item_of
a_day = refl

-- where an item is missing, its line is the one that is no command
missing_item : edits_of (codes "day,101,1993-10-13,2\n#\nitem,7,1993-10-13T13:00:00Z,00:30:00,eng,News,,,,,\n#\n\n") ≡ ([], NoCommand 6)
unfolding chars is_utf8 lib.Utf8.encode next_record strip_bom edit_head edits_ahead items_of item_line item_of
missing_item = refl

bad_item : edits_of (codes "clear,3\nday,101,1993-10-13,2\n#\nclear,4\n") ≡ (Clear 3 ∷ [], NoCommand 4)
unfolding chars is_utf8 lib.Utf8.encode next_record strip_bom edit_head edits_ahead items_of item_line item_of
bad_item = refl

-- the way back: decimal numbers without leading zeros
put_fields : edit_fields (Put 101 news) ≡ codes "put" ∷ codes "101" ∷ codes "7" ∷ news_fields
unfolding digits
put_fields = refl

-- descriptors in lower-case digits
described_fields : edit_fields (Put 101 described) ≡ codes "put" ∷ codes "101" ∷ codes "7" ∷ news_fields ++ codes "5006f50b01646575 ff00" ∷ []
unfolding digits groups_compute
described_fields = refl

genres_back : genres_text (record { level1 = 1; level2 = 2; user = 255 } ∷ record { level1 = 3; level2 = 0; user = 0 } ∷ []) ≡ codes "1.2.255 3.0.0"
unfolding digits
genres_back = refl

-- ---- outcomes and scripts

-- the item at place 3 overlaps event 7; the one at place 0 has too much in its segment
row_member : outcome_of_fields (codes "member" ∷ codes "3" ∷ codes "overlap" ∷ codes "007" ∷ []) ≡ Some (Edited (Member 3 (Overlaps 7)))
unfolding outcome_of_fields reply_of day_fault_of field_of
row_member = refl

row_segment : outcome_of_fields (codes "member" ∷ codes "0" ∷ codes "range" ∷ codes "segment" ∷ codes "20001" ∷ []) ≡ Some (Edited (Member 0 (BadField (Segment 20001))))
unfolding outcome_of_fields reply_of day_fault_of field_of
row_segment = refl

-- nothing may stand behind `done`
row_more : outcome_of_fields (codes "done" ∷ [] ∷ []) ≡ None
unfolding outcome_of_fields reply_of
row_more = refl

-- a publish whose outcome is kept on line 2, and a swap of caller 7 on line 4
row_script : script_of (codes "publish\n=,published,1\n#\n7,swap\n") ≡ (((0, Publish), Some (2, Published 1)) ∷ ((7, Swap), None) ∷ [], End)
unfolding items_ahead fields_compute control_of outcome_of_fields reply_of
row_script = refl

-- a second outcome line behind one command
row_twice : script_of (codes "3,feed,1,clear,101\n=,done\n=,done\n") ≡ (((3, edit 1 (Clear 101)), Some (2, Edited Done)) ∷ [], NoCommand 3)
unfolding items_ahead fields_compute control_of outcome_of_fields reply_of edit_head
row_twice = refl

-- an outcome line before any command
row_early : script_of (codes "=,done\n") ≡ ([], NoCommand 1)
unfolding items_ahead fields_compute
row_early = refl

-- a read that failed behind the line of a publish
row_broken : items_ahead false (record { rows = (1, codes "publish") ∷ []; tail = Breaks }) ≡ (step 0 Publish ∷ [], Unread)
unfolding items_ahead fields_compute control_of
row_broken = refl

-- what stands behind a command that was read before
row_behind : items_ahead true (record { rows = (7, codes "=,done") ∷ []; tail = Ends 8 }) ≡ (Kept 7 (Edited Done) ∷ [], End)
unfolding items_ahead fields_compute outcome_of_fields reply_of
row_behind = refl
