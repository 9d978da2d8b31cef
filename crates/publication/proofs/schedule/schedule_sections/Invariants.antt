use Rattle.std.proofs.Common.{◌≡◌, map, take}
use Rattle.publication.specs.Schedule.{schedule_section}
use Rattle.publication.specs.Streams.{bearer_of}
use Rattle.publication.proofs.schedule.schedule_sections.Given as goal

-- the sections so far are made
abbrev pub invariant-loop-piece : goal.invariant-loop-piece
invariant-loop-piece l = l.sections ≡ map (schedule_section (bearer_of l.of) l.events l.last_table) (take l.piece-index l.pieces)
