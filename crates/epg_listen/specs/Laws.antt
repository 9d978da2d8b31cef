-- Laws of what is reported.
use Rattle.std.specs.Prelude.{◌≡◌, ℕ, ◌++◌, Bool, false, true, List, map}
use Rattle.packet_finder.specs.Pieces.{Piece, Piece.Packet}
use Rattle.guide_model.specs.declared.screen.Screen.{Screen}
use Rattle.guide_screen.specs.Screen.{heard_of as shown_of}
use Rattle.guide_screen.specs.declared.need.Heard.TheVariants.{Whole}
use Rattle.guide_parts.specs.Parts.{Parts, parts_over}
use Rattle.guide_receiver.specs.Dones.{dones_of}
use Rattle.guide_receiver.specs.Texts.{done_lines}
use Rattle.guide_receiver.specs.Guides.{guide_of}
use Rattle.guide_text.specs.Guides.{guide_text}
use Rattle.guide_parts.specs.HeardLaws.{HoldsWholeBeside}
use Rattle.command_words.specs.Grammar.{ListenOptions}
use Rattle.epg_listen.specs.Lines.{History, heard_of, view_heard, taken_heard}
use Rattle.epg_listen.specs.Leaves.{report_of, without_options}

-- Without options, and where no bytes were passed over, the report is the completions that the packets show, and their guide.
abbrev pub PacketsAreReported : Type 0
PacketsAreReported =
    (packets : List (List ℕ)) → report_of without_options (map Packet packets) ≡ done_lines (dones_of packets) ++ guide_text (guide_of packets)

-- all that is held of what was heard
abbrev pub parts_heard : Bool → History → Parts
parts_heard strict h = parts_over (view_heard strict h) (taken_heard strict h)

-- Where the whole guide is heard, and of the kinds of events that the SDT says are not sent nothing is held but what is whole, the report is
-- the same with `--partial` and without.
abbrev pub WholeIsReportedAlike : Type 0
WholeIsReportedAlike =
    (how : ListenOptions) (pieces : List Piece) → HoldsWholeBeside (parts_heard how.strict (heard_of how.strict pieces))
    → (shown : Screen) → shown_of (view_heard how.strict (heard_of how.strict pieces)) ≡ Whole shown
    → report_of (record how { partial = true }) pieces ≡ report_of (record how { partial = false }) pieces
