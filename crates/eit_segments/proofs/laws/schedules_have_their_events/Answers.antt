use Rattle.eit_segments.proofs.EventsOf.{segments_have_runs, schedules_have_events}
use Rattle.eit_segments.proofs.laws.schedules_have_their_events.Goals as goal

pub returns-clause-segments : goal.returns-clause-segments
returns-clause-segments c = segments_have_runs

pub returns-clause-schedules : goal.returns-clause-schedules
returns-clause-schedules c = schedules_have_events
