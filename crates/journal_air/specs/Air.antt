-- What a journal puts on air.
use Rattle.std.specs.Prelude.{ℕ, List, map}
use Rattle.si_time.specs.declared.moment.Moment.{Moment}
use Rattle.mux_model.specs.declared.mux.Mux.{Mux}
use Rattle.version_book.specs.Airings.{CycleForm, AiredTables}
use Rattle.publication.specs.Tables.{tables_of}
use Rattle.journal_model.specs.declared.step.Entry.{Entry}
use Rattle.desk_core.specs.Publications.{publication, swaps}

-- the form of the cycles of a multiplex
abbrev pub mux_form : Mux → CycleForm
mux_form mux = record { quota = mux.quota; offsets = mux.offsets }

-- what a swap of the journal puts on air: the sub-tables of the publication with its number, at its moment, in cycles of that form
abbrev pub airing_at : Mux → List Entry → ℕ × Moment → AiredTables
airing_at mux journal swap = record { tables = tables_of mux (publication mux journal swap.0); moment = swap.1.0; form = mux_form mux }

-- what these entries of the journal put on air, in order
abbrev pub airings_by : Mux → List Entry → List Entry → List AiredTables
airings_by mux journal entries = map (airing_at mux journal) (swaps entries)

-- The airing list of a journal: what each of its swaps puts on air, in order. Two airings are of one publication where their swaps have
-- one number.
abbrev pub airings : Mux → List Entry → List AiredTables
airings mux journal = airings_by mux journal journal
