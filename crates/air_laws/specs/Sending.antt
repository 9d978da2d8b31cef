-- What is sent of an airing list.
use Rattle.std.specs.Prelude.{List, [], ◌∷◌, ◌++◌, map, flat_map}
use Rattle.section_codec.specs.declared.table.Key.{Key}
use Rattle.section_codec.specs.declared.table.SubTable.{SubTable}
use Rattle.version_book.specs.Airings.{AiredTables}
use Rattle.air_model.specs.Air.{Sent, cycle_sections}

-- the sections of the cycles of these airings behind others, in the order in which they are sent
abbrev pub sections_sent : List AiredTables → List AiredTables → List Sent
sections_sent past [] = []
sections_sent past (a ∷ airings) = cycle_sections past a ++ sections_sent (past ++ a ∷ []) airings

-- the keys that these airings carry
abbrev pub carried_keys : List AiredTables → List Key
carried_keys airings = flat_map (λ (a : AiredTables). map (λ (t : SubTable). t.key) a.tables) airings
