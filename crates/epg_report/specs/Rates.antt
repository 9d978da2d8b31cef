-- The report's line on the bit rate of an air.
use Rattle.std.specs.Prelude.{ℕ, ◌==◌, List, [], ◌++◌, Option, Some, None, codes, decimal, if◌then◌else◌}
use Rattle.mux_model.specs.declared.mux.Mux.{Mux}
use Rattle.journal_model.specs.declared.step.Entry.{Entry}
use Rattle.journal_air.specs.Air.{airings}
use Rattle.cycle_player.specs.Tally.{Tallied, least_rate}
use Rattle.cycle_player.specs.Tallies.{tally_of}

-- a rate that would do, where there is one
abbrev pub needed_text : Option ℕ → List ℕ
needed_text None = codes "none"
needed_text (Some rate) = decimal rate

-- whether all that is frequent was repeated in time, or how many cycles are short
abbrev pub kept_text : Tallied → List ℕ
kept_text t =
    if t.short == 0 then codes "kept"
    else codes "short," ++ decimal t.short ++ codes "," ++ needed_text (least_rate t.most)

-- there is no line without a bit rate
abbrev pub rate_line : Option ℕ → Tallied → List ℕ
rate_line None t = []
rate_line (Some rate) t = codes "rate," ++ decimal rate ++ codes "," ++ kept_text t ++ codes "\n"

-- of the cycles of a journal
abbrev pub rate_lines : Mux → List Entry → List ℕ
rate_lines mux journal = rate_line mux.rate (tally_of mux.rate (airings mux journal))
