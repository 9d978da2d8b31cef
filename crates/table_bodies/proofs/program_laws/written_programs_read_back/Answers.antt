use Rattle.table_bodies.proofs.Programs.{pat-reads_back, written_pats, pmt-reads_back}
use Rattle.table_bodies.proofs.program_laws.written_programs_read_back.Goals as goal

pub returns : goal.returns
returns c = record { pat = pat-reads_back; pats = written_pats; pmt = pmt-reads_back }
