use Rattle.descriptors.proofs.EventEntries.{content-reads_back, parental_rating-reads_back}
use Rattle.descriptors.proofs.Fields.{short_event-reads_back, extended_event-reads_back}
use Rattle.descriptors.proofs.event_laws.written_event_descriptors_read_back.Goals as goal

pub returns : goal.returns
returns c = record {
  short_event = short_event-reads_back;
  extended_event = extended_event-reads_back;
  content = content-reads_back;
  parental_rating = parental_rating-reads_back;
}
