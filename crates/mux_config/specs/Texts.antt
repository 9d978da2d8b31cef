-- The description of a multiplex that stands in a text.
use Rattle.std.specs.Prelude.{ℕ, List}
use Rattle.si_causes.specs.Text.{text_lines}
use Rattle.input_lines.specs.Lines.{record_lines}
use Rattle.input_lines.specs.Going.{shown_whole}
use Rattle.input_lines.specs.Ahead.{Ahead, Breaks, Found, ahead_in}
use Rattle.mux_config.specs.Descriptions.{Description, description_ahead}

-- what is ahead in a text
abbrev pub ahead_of : List ℕ → Ahead
ahead_of text = ahead_in 1 (text_lines text)

-- the description in a text
abbrev pub described : List ℕ → Found Description
described text = description_ahead (ahead_of text)

-- what is ahead in the lines that are whole in bytes, behind which a read failed
abbrev pub ahead_taken : List ℕ → Ahead
ahead_taken bytes = record { rows = record_lines 1 (shown_whole bytes); tail = Breaks }

-- the description in those
abbrev pub described_taken : List ℕ → Found Description
described_taken bytes = description_ahead (ahead_taken bytes)
