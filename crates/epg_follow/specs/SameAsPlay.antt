-- A script that is played to its end is followed as it is played.
use Rattle.std.specs.Prelude.{◌≡◌, Bool, List, [], map}
use Rattle.input_lines.specs.Ahead.{Ahead}
use Rattle.mux_model.specs.declared.mux.Mux.{Mux}
use Rattle.journal_model.specs.Steps.{Command}
use Rattle.journal_model.specs.declared.step.Entry.{Entry}
use Rattle.desk_core.specs.Journal.{journal_after}
use Rattle.journal_text.specs.Entries.{journal_text}
use Rattle.epg_play.specs.Behind.{played_behind}
use Rattle.epg_play.specs.Script.{Ended}
use Rattle.script_notes.specs.Pieces.{Entered, pieces_text}
use Rattle.epg_follow.specs.Course.{Followed, followed}

-- a script that was followed to its end, of which these entries were reported
abbrev pub entered_all : List Entry → Followed
entered_all entries = record { pieces = map Entered entries; stop = Ended; comment = [] }

-- Where `play` plays these commands after a journal to the end of the script, `play --follow`
-- reports their entries, and nothing else.
abbrev pub FollowIsPlay : Type 0
FollowIsPlay =
    (keep : Bool) (mux : Mux) (journal : List Entry) (lines : Ahead) (commands : List Command)
    → played_behind mux journal lines ≡ (commands, Ended)
    → followed keep 0 mux journal lines ≡ entered_all (journal_after mux journal commands)

-- And their text is that of the journal.
abbrev pub EntriesAreTheJournal : Type 0
EntriesAreTheJournal = (entries : List Entry) → pieces_text (map Entered entries) ≡ journal_text entries
