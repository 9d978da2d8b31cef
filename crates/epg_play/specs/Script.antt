-- The script of lines: the multiplex of their description, the commands after it, and why no more is played.
use Rattle.std.specs.Prelude.{ℕ, suc, ◌+◌, Bool, true, false, List, [], ◌∷◌, length, map, take, Option, Some, None, Ok, Err, if◌then◌else◌}
use Rattle.si_causes.specs.Text.{lines_left, text_limit}
use Rattle.input_lines.specs.Lines.{record_lines}
use Rattle.input_lines.specs.Going.{shown_whole}
use Rattle.mux_config.specs.declared.fault.Word.TheVariants as word
use Rattle.mux_config.specs.declared.fault.MuxFault.{MuxFault}
use Rattle.mux_config.specs.declared.fault.MuxFault.TheVariants.{Missing}
use Rattle.mux_model.specs.declared.mux.Mux.{Mux}
use Rattle.input_lines.specs.Ahead.{Tail, Breaks, tail_of, Came, Found, Stopped}
use Rattle.mux_config.specs.Descriptions.{Description, description_ahead}
use Rattle.input_lines.specs.Ahead as reading
use Rattle.journal_model.specs.declared.step.Outcome.{Outcome}
use Rattle.journal_model.specs.declared.step.Entry.{Entry}
use Rattle.desk_core.specs.Journal.{journal_after}
use Rattle.journal_model.specs.Steps.{Command}
use Rattle.script_lines.specs.declared.script.ScriptItem.{ScriptItem}
use Rattle.script_lines.specs.Script.{Asked, asked_by, items_ahead}
use Rattle.epg_play.specs.Outcomes.{is_outcome}

-- Why no more of a script is played: its end; a fault of the description of the multiplex; the first line (from 1) that is no
-- command there; the first outcome line that keeps another outcome (the first) than the desk's; the limit of a text; or a read that
-- failed before a further line was whole.
pub data Stop : Type 0 where
  Ended : Stop
  NoMux : MuxFault → Stop
  NoCommand : ℕ → Stop
  Disagreed : ℕ → Outcome → Outcome → Stop
  TooLong : Stop
  Unread : Stop

-- A script: its multiplex, where it is described, the commands that are played, and why no more are.
pub record Script : Type 0 where
  pub mux : Option Mux
  pub commands : List Command
  pub stop : Stop

-- ---- kept outcomes

-- the outcome that is kept, where it is another than the one that was found
abbrev pub difference : Option (ℕ × Outcome) → Outcome → Option Stop
difference None found = None
difference (Some kept) found = if is_outcome kept.1 found then None else Some (Disagreed kept.0 kept.1 found)

-- a difference at the first entry, or else the one found later, with how many entries there are up to it
abbrev pub first_of : Option Stop → Option (ℕ × Stop) → Option (ℕ × Stop)
first_of (Some here) later = Some (1, here)
first_of None None = None
first_of None (Some later) = Some (suc later.0, later.1)

-- the first kept outcome that differs from that of its entry, and how many entries there are up to it
abbrev pub first_difference : List Asked → List Entry → Option (ℕ × Stop)
first_difference [] entries = None
first_difference (asked ∷ more) [] = None
first_difference (asked ∷ more) (entry ∷ entries) = first_of (difference asked.1 entry.outcome) (first_difference more entries)

abbrev pub commands_of : List Asked → List Command
commands_of asked = map (λ (a : Asked). a.0) asked

-- commands up to the first difference, or all of them
abbrev pub up_to : Option (ℕ × Stop) → List Command → Stop → List Command × Stop
up_to None commands stop = (commands, stop)
up_to (Some found) commands stop = (take found.0 commands, found.1)

-- Of commands, each with the outcome that is kept after it, those that are played after these entries: all, or those up
-- to the first whose outcome is not the one that is kept. And why no more are.
abbrev pub played_after : Mux → List Entry → List Asked → Stop → List Command × Stop
played_after mux before asked stop = up_to (first_difference asked (journal_after mux before (commands_of asked))) (commands_of asked) stop

-- ---- lines

-- why no more items are read
abbrev pub stop_of : reading.Stop → Stop
stop_of reading.End = Ended
stop_of (reading.NoCommand n) = NoCommand n
stop_of reading.TooLong = TooLong
stop_of reading.Unread = Unread

abbrev pub with_commands : Mux → List Command × Stop → Script
with_commands mux played = record { mux = Some mux; commands = played.0; stop = played.1 }

abbrev pub played_items : Mux → List Entry → List ScriptItem × reading.Stop → List Command × Stop
played_items mux before items = played_after mux before (asked_by items.0) (stop_of items.1)

-- a script that stops before its multiplex is described
abbrev pub no_mux : Stop → Script
no_mux stop = record { mux = None; commands = []; stop = stop }

-- where the lines have neither a fault nor the end of the description
abbrev pub short_of : reading.Stop → Stop
short_of reading.TooLong = TooLong
short_of reading.Unread = Unread
short_of stop = NoMux (Missing word.End)

-- the script of a description, and of what is ahead after its lines
abbrev pub script_with : Found Description → Script
script_with (Came (Ok mux) behind) = with_commands mux (played_items mux [] (items_ahead false behind))
script_with (Came (Err fault) behind) = no_mux (NoMux fault)
script_with (Stopped stop) = no_mux (short_of stop)

-- the script of lines, and of what follows them
abbrev pub script_of_lines : List (List ℕ) → Tail → Script
script_of_lines lines tail = script_with (description_ahead (record { rows = record_lines 1 lines; tail = tail }))

-- how many bytes a long script may have
abbrev pub long_limit : ℕ
long_limit = 18446744073709551614

-- how many bytes a script may have that is long, or not
abbrev pub limit_for : Bool → ℕ
limit_for false = text_limit
limit_for true = long_limit

-- the script of a text of which so many bytes may be taken
abbrev pub script_within : ℕ → List ℕ → Script
script_within limit text = (let lines = lines_left limit text in script_of_lines lines.0 (tail_of (1 + length lines.0) lines.1))

-- the script of a text
abbrev pub script_in : List ℕ → Script
script_in text = script_within text_limit text

-- the script of the lines that are whole in bytes, after which a read failed
abbrev pub script_taken : List ℕ → Script
script_taken bytes = script_of_lines (shown_whole bytes) Breaks
