-- Worked rows: the text of a checkpoint, its lines, and what they are read as.
use Rattle.std.specs.Prelude.{◌≡◌, [], ◌∷◌, ◌++◌, Ok, Err, None, Some, refl, codes}
use Rattle.std.specs.Fmt.{digits}
use Rattle.csv.specs.Writing.{fields_text}
use Rattle.hex.specs.Hex.{encode_with}
use Rattle.hex.proofs.OnLiterals.{hex_on_literals}
use Rattle.si_time.specs.Moments.{moments_compute}
use Rattle.section_codec.specs.declared.table.Key.{Key}
use Rattle.section_codec.specs.declared.table.NumberedBody.{NumberedBody}
use Rattle.cycle_timing.specs.Clock.{Clock}
use Rattle.mux_model.specs.declared.mux.Mux.{Mux}
use Rattle.mux_model.specs.Rows.{row_mux}
use Rattle.desk_core.specs.Desks.{fresh}
use Rattle.input_lines.specs.Fields.{fields_compute}
use Rattle.input_lines.specs.Ahead.{Ends, NoCommand}
use Rattle.journal_text.specs.CommandBack.{ahead_of}
use Rattle.desk_checkpoint.specs.Steps.{checkpoint_steps}
use Rattle.desk_checkpoint.specs.Fields.{part_of}
use Rattle.desk_checkpoint.specs.Reads.{checkpoint_in, no_clock}
use Rattle.desk_checkpoint.specs.Text.{checkpoint_text, counter_text, key_text}

abbrev at_zero : Clock
at_zero = record { moment = 0; bits = 0 }

-- the checkpoint of a journal without an entry
row_text : checkpoint_text 0 None at_zero (checkpoint_steps row_mux []) [] []
    ≡ codes "checkpoint,0\n0,feed,1,clear,101\n0,feed,1,name,101,Acme,One\n0,tick,1970-01-01T00:00:00Z\nend\n"
unfolding digits moments_compute fields_text
row_text = refl

abbrev row_key : Key
row_key = record { pid = 0; table = 0; ext = 1; stream = 0; network = 0 }

abbrev row_section : NumberedBody
row_section = record { number = 0; body = 0 ∷ 101 ∷ 225 ∷ [] }

row_lines : key_text (row_key, record { version = 3; content = row_section ∷ [] }) ++ counter_text (record { pid = 17; next = 5 })
    ≡ codes "version,0,0,1,0,0,3\nbody,0,0065e1\ncounter,17,5\n"
unfolding digits fields_text encode_with
row_lines = refl

row_read : checkpoint_in row_mux (ahead_of 1 (codes "checkpoint,0\nversion,0,0,1,0,0,3\nbody,0,0065e1\ncounter,17,5\nend\n0,publish\n") (Ends 7))
    ≡ Ok (record {
      count = 0;
      desk = fresh row_mux;
      keys = record { key = row_key; version = 3; sections = row_section ∷ [] } ∷ [];
      current = None;
      number = 1;
      counters = record { pid = 17; next = 5 } ∷ [];
      pid = 18;
      clock = no_clock;
    })
unfolding fields_compute part_of hex_on_literals
row_read = refl

-- a checkpoint without its end; a key without a section; a count that no publish of the steps makes
row_open : checkpoint_in row_mux (ahead_of 1 (codes "checkpoint,0\n") (Ends 2)) ≡ Err (NoCommand 2)
unfolding fields_compute
row_open = refl

row_empty : checkpoint_in row_mux (ahead_of 1 (codes "checkpoint,0\nversion,0,0,1,0,0,3\nend\n") (Ends 4)) ≡ Err (NoCommand 3)
unfolding fields_compute part_of
row_empty = refl

row_unpublished : checkpoint_in row_mux (ahead_of 1 (codes "checkpoint,1\nend\n") (Ends 3)) ≡ Err (NoCommand 2)
unfolding fields_compute part_of
row_unpublished = refl

-- ---- at a bit rate

abbrev rate_mux : Mux
rate_mux = record row_mux { rate = Some 1000000 }

row_timed : checkpoint_text 0 (Some 1000000) (record { moment = 3506716801; bits = 4000 })
    (checkpoint_steps rate_mux []) [] (record { pid = 8191; next = 5 } ∷ [])
    ≡ codes "checkpoint,0\nclock,3506716801,4000\n0,feed,1,clear,101\n0,feed,1,name,101,Acme,One\n0,tick,1970-01-01T00:00:00Z\ncounter,8191,5\nend\n"
unfolding digits moments_compute fields_text
row_timed = refl

-- the clock stands in the second line, and null packets may have a counter
row_clock : checkpoint_in rate_mux (ahead_of 1 (codes "checkpoint,0\nclock,3506716801,4000\ncounter,8191,5\nend\n") (Ends 5))
    ≡ Ok (record {
      count = 0;
      desk = fresh rate_mux;
      keys = [];
      current = None;
      number = 0;
      counters = record { pid = 8191; next = 5 } ∷ [];
      pid = 8192;
      clock = record { moment = 3506716801; bits = 4000 };
    })
unfolding fields_compute part_of
row_clock = refl

-- no clock; bits of nine digits; a clock without a bit rate; and null packets without one
row_no_clock : checkpoint_in rate_mux (ahead_of 1 (codes "checkpoint,0\nend\n") (Ends 3)) ≡ Err (NoCommand 2)
unfolding fields_compute
row_no_clock = refl

row_bits : checkpoint_in rate_mux (ahead_of 1 (codes "checkpoint,0\nclock,0,100000000\nend\n") (Ends 4)) ≡ Err (NoCommand 2)
unfolding fields_compute
row_bits = refl

row_unasked : checkpoint_in row_mux (ahead_of 1 (codes "checkpoint,0\nclock,0,0\nend\n") (Ends 4)) ≡ Err (NoCommand 2)
unfolding fields_compute part_of
row_unasked = refl

row_null : checkpoint_in row_mux (ahead_of 1 (codes "checkpoint,0\ncounter,8191,5\nend\n") (Ends 4)) ≡ Err (NoCommand 2)
unfolding fields_compute part_of
row_null = refl
