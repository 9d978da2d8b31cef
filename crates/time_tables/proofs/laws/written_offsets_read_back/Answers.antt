use Rattle.time_tables.proofs.Offsets.{offsets-read_back}
use Rattle.time_tables.proofs.Loops.{tot-is_a_section, tot-reads_back}
use Rattle.time_tables.proofs.laws.written_offsets_read_back.Goals as goal

pub returns : goal.returns
returns c = record { section = tot-is_a_section; body = tot-reads_back; entries = offsets-read_back }
