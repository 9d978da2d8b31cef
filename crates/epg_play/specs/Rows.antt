-- Worked scripts.
use Rattle.std.specs.Prelude.{◌≡◌, List, ℕ, [], ◌∷◌, ◌++◌, Some, refl, codes}
use Rattle.input_lines.specs.Fields.{fields_compute}
use Rattle.mux_config.specs.declared.fault.Word.TheVariants as word
use Rattle.mux_config.specs.declared.fault.MuxFault.TheVariants.{Line, Twice, Missing}
use Rattle.journal_model.specs.declared.edit.Edit.TheVariants.{Name}
use Rattle.script_lines.specs.Heads.{edit_head}
use Rattle.journal_model.specs.declared.step.Outcome.TheVariants.{Published}
use Rattle.journal_model.specs.declared.step.Step.TheVariants.{Edit as edit, Publish, Swap}
use Rattle.script_lines.specs.Controls.{control_of}
use Rattle.si_time.specs.Readings.{readings_compute}
use Rattle.std.specs.Fmt.{digits}
use Rattle.csv.specs.Writing.{fields_text}
use Rattle.journal_text.specs.Entries.{journal_text}
use Rattle.mux_model.specs.Rows.{row_mux}
use Rattle.journal_model.specs.Rows.{row_commands, row_journal}
use Rattle.script_lines.specs.Outcomes.{outcome_of_fields, reply_of}
use Rattle.script_lines.specs.Script.{items_ahead}
use Rattle.epg_play.specs.Script.{Ended, NoMux, NoCommand, Disagreed, Unread, no_mux, script_in, script_taken}

abbrev pub row_block : List ℕ
row_block = codes "network,40,Demo\nstream,1,1\nservice,101,1,1,256,257,Acme,One\nend\n"

row_script : script_in (row_block ++ codes "feed,1,name,101,Acme,News\npublish\nswap\n") ≡ record { mux = Some row_mux; commands = row_commands; stop = Ended }
unfolding items_ahead fields_compute control_of edit_head
row_script = refl

-- a line that is no command
row_swop : script_in (row_block ++ codes "feed,1,name,101,Acme,News\npublish\nswop\n") ≡ record { mux = Some row_mux; commands = (0, edit 1 (Name 101 (codes "Acme") (codes "News"))) ∷ (0, Publish) ∷ []; stop = NoCommand 7 }
unfolding items_ahead fields_compute control_of edit_head
row_swop = refl

-- a kept outcome is compared as a value; a step after one that differs is not played
row_kept : script_in (row_block ++ codes "publish\n=,published,001\n3,publish\n=,published,1\nswap\n")
    ≡ record { mux = Some row_mux; commands = (0, Publish) ∷ (3, Publish) ∷ []; stop = Disagreed 8 (Published 1) (Published 2) }
unfolding items_ahead fields_compute control_of outcome_of_fields reply_of
row_kept = refl

-- what was whole when a read failed
row_taken : script_taken (row_block ++ codes "publish\n=,published,1\n\nswap\nswa") ≡ record { mux = Some row_mux; commands = (0, Publish) ∷ (0, Swap) ∷ []; stop = Unread }
unfolding items_ahead fields_compute control_of outcome_of_fields reply_of
row_taken = refl

row_short : script_taken (codes "network,40,Demo\nstream,1,1\nservice") ≡ no_mux Unread
unfolding fields_compute
row_short = refl

-- faults of the description
row_lacks : script_in (codes "network,40,Demo\nservice,101,1,1,256,257,Acme,One\nend\n") ≡ no_mux (NoMux (Missing word.Stream))
unfolding fields_compute
row_lacks = refl

row_repeats : script_in (codes "network,40,Demo\nstream,1,1\nservice,101,1,1,256,257,Acme,One\nservice,101,1,1,256,257,Acme,One\nend\n") ≡ no_mux (NoMux (Twice 4 3))
unfolding fields_compute
row_repeats = refl

row_unreadable : script_in (codes "network,40\n") ≡ no_mux (NoMux (Line 1))
unfolding fields_compute
row_unreadable = refl

row_empty : script_in [] ≡ no_mux (NoMux (Missing word.End))
row_empty = refl

-- the printed journal, as a script
row_again : script_in (row_block ++ journal_text row_journal) ≡ record { mux = Some row_mux; commands = row_commands; stop = Ended }
unfolding items_ahead fields_compute control_of edit_head outcome_of_fields reply_of digits readings_compute fields_text
row_again = refl
