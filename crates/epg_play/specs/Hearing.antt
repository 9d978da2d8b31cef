-- What `listen` hears of what `play` sent.
use Rattle.std.specs.Prelude.{◌≡◌, ℕ, ◌<◌, ◌≤◌, List, [], length, take, Some, filter, map}
use Rattle.mux_model.specs.declared.mux.Mux.{Mux}
use Rattle.input_lines.specs.Ahead.{Tail}
use Rattle.desk_core.specs.Journal.{journal_of}
use Rattle.packet_reader.specs.Recordings.{RecordingEnd.AtEnd, packet_limit, recording}
use Rattle.section_codec.specs.declared.table.Key.{Key}
use Rattle.guide_receiver.specs.Dones.{DoneAt, dones_of}
use Rattle.air_model.specs.Air.{Aired, air, air_bytes}
use Rattle.air_laws.specs.Changes.{changes_of, is_done_key}
use Rattle.journal_air.specs.Air.{airings}
use Rattle.epg_play.specs.Script.{script_of_lines}
use Rattle.cycle_player.specs.Airs.{IsAirAt}

-- What `play` sends, `listen` hears: of an air of a journal of a script, which are its first commands or all, as a recording, each
-- piece is a packet, and of each key the completions are exactly its version changes along the airing list. The script is one of lines,
-- whatever follows them: so of an input's text, or of the lines that were whole where a read failed.
abbrev pub PlayIsHeard : Type 0
PlayIsHeard =
    (lines : List (List ℕ)) (tail : Tail) (mux : Mux) (k : ℕ) (xs : List Aired) → (script_of_lines lines tail).mux ≡ Some mux
    → IsAirAt mux.rate (airings mux (journal_of mux (take k (script_of_lines lines tail).commands))) xs → length (air xs) ≤ packet_limit
    → ((recording (air_bytes xs)).1 ≡ AtEnd)
    × ((key : Key) → key.pid < 8191
    → filter (is_done_key key) (map (λ (d : DoneAt). d.done) (dones_of (recording (air_bytes xs)).0))
    ≡ changes_of key [] (airings mux (journal_of mux (take k (script_of_lines lines tail).commands))))
