-- What is reported of the pieces of a recording: without `--strict` the completions that packets show, with it also the breaks; where bytes
-- were passed over, how many; and then the guide of what was heard, with `--partial` of all that is held.
use Rattle.std.specs.Prelude.{ℕ, ◌+◌, ◌++◌, List, [], ◌∷◌, Bool, false, true, if◌then◌else◌, map, codes, Option, Some, None}
use Rattle.packet_finder.specs.Pieces.{Piece, Piece.Packet, Piece.Junk}
use Rattle.sub_collect.specs.Runs.{Counted}
use Rattle.sub_collect.specs.Marks.{Taken, all_took}
use Rattle.guide_receiver.specs.Dones.{at_packet, counted_heard, dones_by}
use Rattle.guide_receiver.specs.Texts.{field_text, done_lines}
use Rattle.guide_screen.specs.View.{View}
use Rattle.guide_screen.specs.Screen.{heard_of as shown_of}
use Rattle.guide_parts.specs.Parts.{parts_over}
use Rattle.guide_parts.specs.PartScreen.{part_guide}
use Rattle.guide_receiver.specs.Guides.{view_of}
use Rattle.strict_receiver.specs.Strict.{lost_by}
use Rattle.strict_receiver.specs.Earlier.{counted_after, strict_dones_after, strict_view_after, taken_after}
use Rattle.command_words.specs.Grammar.{ListenOptions}
use Rattle.guide_text.specs.Guides.{guide_text_with}
use Rattle.guide_parts.specs.PartTexts.{part_text_with}

-- ---- what was heard

-- What was heard: the packets since bytes were passed over last, and the recordings that passed bytes ended earlier.
pub record History : Type 0 where
  pub earlier : List (List (List ℕ))
  pub past : List (List ℕ)

abbrev pub nothing_heard : History
nothing_heard = record { earlier = []; past = [] }

-- what was heard after one piece more: where bytes are passed over, a recording ends with `--strict`, and nothing changes without it
abbrev pub after : Bool → History → Piece → History
after strict h (Packet packet) = record { earlier = h.earlier; past = h.past ++ packet ∷ [] }
after false h (Junk count) = h
after true h (Junk count) = record { earlier = h.earlier ++ h.past ∷ []; past = [] }

abbrev pub after_all : Bool → History → List Piece → History
after_all strict h [] = h
after_all strict h (piece ∷ pieces) = after_all strict (after strict h piece) pieces

-- what was heard of these pieces
abbrev pub heard_of : Bool → List Piece → History
heard_of strict pieces = after_all strict nothing_heard pieces

-- the sections of it that count
abbrev pub counted_in : History → List Counted
counted_in h = counted_after h.earlier h.past

-- ---- the lines

-- `lost`, and then the number of the packet and the PID of which packets were lost, each after a tab
abbrev pub lost_line : ℕ → ℕ → List ℕ
lost_line number pid = codes "lost" ++ field_text number ++ field_text pid ++ codes "\n"

abbrev pub lost_lines : ℕ → Option ℕ → List ℕ
lost_lines number None = []
lost_lines number (Some pid) = lost_line number pid

-- `junk`, and then the number of the next packet and how many bytes were passed over, each after a tab
abbrev pub junk_line : ℕ → ℕ → List ℕ
junk_line number count = codes "junk" ++ field_text number ++ field_text count ++ codes "\n"

-- The lines of a piece, after what was heard and so many packets: of a packet the completions that it shows, with `--strict` first the break
-- that it is.
abbrev pub piece_lines : Bool → ℕ → History → Piece → List ℕ
piece_lines strict number h (Junk count) = junk_line number count
piece_lines false number h (Packet packet) = done_lines (map (at_packet number) (dones_by h.past packet))
piece_lines true number h (Packet packet) =
    lost_lines number (lost_by h.past packet) ++ done_lines (map (at_packet number) (strict_dones_after h.earlier h.past packet))

-- the number of the next packet after a piece
abbrev pub number_after : ℕ → Piece → ℕ
number_after number (Packet packet) = number + 1
number_after number (Junk count) = number

-- the lines of pieces after others, piece by piece
abbrev pub lines_after : Bool → ℕ → History → List Piece → List ℕ
lines_after strict number h [] = []
lines_after strict number h (piece ∷ pieces) =
    piece_lines strict number h piece ++ lines_after strict (number_after number piece) (after strict h piece) pieces

-- the lines of these pieces
abbrev pub heard_text : Bool → List Piece → List ℕ
heard_text strict pieces = lines_after strict 0 nothing_heard pieces

-- ---- the guide

-- what was heard whole
abbrev pub view_heard : Bool → History → View
view_heard false h = view_of h.past
view_heard true h = strict_view_after h.earlier h.past

-- the sections of it that count, with the marks between them
abbrev pub taken_heard : Bool → History → List Taken
taken_heard false h = all_took (counted_heard h.past)
taken_heard true h = taken_after h.earlier h.past

-- The text of the guide of what was heard whole, and of these sections and marks: with `--partial` what is wanting and all that is held, and
-- else what is wanting or the whole screen; with `--details` also the descriptors that no other line shows whole.
abbrev pub guide_shown : ListenOptions → View → List Taken → List ℕ
guide_shown how V taken =
    if how.partial then part_text_with how.details (part_guide (parts_over V taken)) else guide_text_with how.details (shown_of V)

-- the text of the guide of what was heard, with these options, by a receiver that notices losses or by one that does not
abbrev pub heard_guide : ListenOptions → Bool → History → List ℕ
heard_guide how strict h = guide_shown how (view_heard strict h) (taken_heard strict h)
