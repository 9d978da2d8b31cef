use Rattle.publication.proofs.EventFacts.{codable_at}
use Rattle.publication.proofs.present.present_sections.Goals as goal

pub body_of-requires-clause-events : goal.body_of-requires-clause-events
body_of-requires-clause-events c = codable_at _ c.args.events.now c.event_at.result.now c.event_at.ensures c.requires.codable

pub body_of-requires-2-clause-events : goal.body_of-requires-2-clause-events
body_of-requires-2-clause-events c = codable_at _ c.args.events.now c.event_at-2.result.now c.event_at-2.ensures c.requires.codable
