use Rattle.publication.proofs.EitFacts.{present_fit, schedule_fit, events_name, events_read}
use Rattle.publication.proofs.eit_laws.events_are_fit.Goals as goal

pub returns : goal.returns
returns c = record {
  present = present_fit;
  schedule = schedule_fit;
  names = events_name;
  read = events_read;
}
