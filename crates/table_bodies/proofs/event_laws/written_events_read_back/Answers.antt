use Rattle.table_bodies.proofs.ReadBack.{entry-has_its_size, eit-reads_back}
use Rattle.table_bodies.proofs.event_laws.written_events_read_back.Goals as goal

pub returns : goal.returns
returns c = record { size = entry-has_its_size; reads_back = eit-reads_back }
