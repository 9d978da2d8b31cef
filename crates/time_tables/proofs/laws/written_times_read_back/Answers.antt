use Rattle.si_time.proofs.RoundTrips.{moment_from_bcd-moment_bcd}
use Rattle.time_tables.proofs.Sections.{tdt-is_a_section}
use Rattle.time_tables.proofs.laws.written_times_read_back.Goals as goal

pub returns : goal.returns
returns c = record { section = tdt-is_a_section; body = moment_from_bcd-moment_bcd }
