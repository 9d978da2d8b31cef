-- A printed journal is a script that prints it again.
use Rattle.std.specs.Prelude.{◌≡◌, ◌≤◌, ℕ, List, [], ◌∷◌, ◌++◌, length, map, Some, ◌+◌, Ok}
use Rattle.std.specs.List.{AllByRecursion}
use Rattle.si_causes.specs.Text.{AtEnd, text_limit}
use Rattle.mux_model.specs.declared.mux.Mux.{Mux}
use Rattle.mux_config.specs.Descriptions.{description_ahead}
use Rattle.input_lines.specs.Ahead.{Came, Ends, ahead_in}
use Rattle.journal_model.specs.declared.step.Entry.{Entry}
use Rattle.desk_core.specs.Journal.{Legal}
use Rattle.journal_model.specs.Steps.{command_of}
use Rattle.journal_text.specs.Back.{IsReadable}
use Rattle.journal_text.specs.CommandBack.{shown_lines}
use Rattle.journal_text.specs.Entries.{journal_text}
use Rattle.epg_play.specs.Script.{Script, Ended, script_in}
use Rattle.epg_play.specs.Leaves.{whole_journal}

-- The text describes this multiplex, with an LF after its `end`, and nothing else.
pub record Describes (text : List ℕ) (mux : Mux) : Type 0 where
  pub front : List ℕ
  pub closed : text ≡ front ++ 10 ∷ []
  pub whole : (let lines = shown_lines text in description_ahead (ahead_in 1 (lines, AtEnd)) ≡ Came (Ok mux) (record { rows = []; tail = Ends (1 + length lines) }))

-- The script of a description and of the text of a legal journal of its multiplex, whose entries can be read: all its steps are
-- played, each outcome is the one that is kept, and the journal is this one.
pub record PlaysAgain (mux : Mux) (journal : List Entry) (script : Script) : Type 0 where
  pub script_is : script ≡ record { mux = Some mux; commands = map command_of journal; stop = Ended }
  pub journal_is : whole_journal script ≡ journal

abbrev pub JournalsPlayAgain : Type 0
JournalsPlayAgain =
    (mux : Mux) (block : List ℕ) (journal : List Entry) → Describes block mux → Legal mux journal → AllByRecursion IsReadable journal
    → length (block ++ journal_text journal) ≤ text_limit → PlaysAgain mux journal (script_in (block ++ journal_text journal))
