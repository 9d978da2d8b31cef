-- The tally of a player: which of its cycles at a bit rate are short.
use Rattle.std.specs.Prelude.{◌≡◌, List, Ok, Err, Result}
use Rattle.version_book.specs.Airings.{AiredTables}
use Rattle.mux_model.specs.declared.mux.Mux.{Mux}
use Rattle.journal_model.specs.declared.step.Entry.{Entry}
use Rattle.journal_air.specs.Air.{airings}
use Rattle.cycle_player.specs.Tally.{Tallied}
use Rattle.cycle_player.specs.Sending.{Sending}
use Rattle.cycle_player.specs.Tallies.{tallied_at, tally_of}
use Rattle.desk_core.specs.Desks.{DeskState}
use Rattle.journal_air.specs.declared.send.SendStop.{SendStop}
use Rattle.journal_air.specs.declared.send.SendStop.TheVariants.{Air, Memory}

-- the cycle of an airing was begun, and was counted
abbrev pub HasCounted : AiredTables → Sending → Sending → Type 0
HasCounted a old new =
    (past : List AiredTables) → new.tally ≡ tallied_at old.rate past a old.tally

-- so it was, whether the cycle was sent whole or not, but for want of memory
abbrev pub CountedCycle : AiredTables → Sending → Sending → Result (Unit {0}) SendStop → Type 0
CountedCycle a old new (Ok u) = HasCounted a old new
CountedCycle a old new (Err Air) = HasCounted a old new
CountedCycle a old new (Err Memory) = Unit {0}

-- the tally is that of the cycles of a journal
abbrev pub IsTallyOf : Mux → List Entry → Tallied → Type 0
IsTallyOf mux journal tally = tally ≡ tally_of mux.rate (airings mux journal)

abbrev pub HasTallied : DeskState → Sending → Type 0
HasTallied desk player = IsTallyOf desk.mux desk.entries player.tally

-- it is so once steps are done as far as this
abbrev pub TalliedTo : DeskState → Sending → Result (Unit {0}) SendStop → Type 0
TalliedTo desk player (Ok u) = HasTallied desk player
TalliedTo desk player (Err Air) = HasTallied desk player
TalliedTo desk player (Err Memory) = Unit {0}
