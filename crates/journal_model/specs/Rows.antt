-- A worked journal: a name edit, a publish and a swap, on a multiplex that starts at 1970-01-01T00:00:00Z.
use Rattle.std.specs.Prelude.{List, [], ◌∷◌, codes}
use Rattle.journal_model.specs.declared.edit.Edit.TheVariants.{Name}
use Rattle.journal_model.specs.declared.reply.Reply.TheVariants.{Done}
use Rattle.journal_model.specs.declared.step.Step.TheVariants.{Edit as edit, Publish, Swap}
use Rattle.journal_model.specs.declared.step.Outcome.TheVariants.{Edited, Published, Swapped}
use Rattle.journal_model.specs.declared.step.Entry.{Entry}
use Rattle.journal_model.specs.Steps.{Command}

abbrev pub row_commands : List Command
row_commands = (0, edit 1 (Name 101 (codes "Acme") (codes "News"))) ∷ (0, Publish) ∷ (0, Swap) ∷ []

abbrev pub row_journal : List Entry
row_journal =
    record { who = 0; step = edit 1 (Name 101 (codes "Acme") (codes "News")); outcome = Edited Done }
    ∷ record { who = 0; step = Publish; outcome = Published 1 }
    ∷ record { who = 0; step = Swap; outcome = Swapped 1 (record { 0 = 3506716800 }) }
    ∷ []
