-- The lines of a guide, which its post is kept as.
use Rattle.std.specs.Prelude.{ℕ, ◌==◌, Bool, List, map}
use Rattle.guide_model.specs.declared.event.Event.{Event}
use Rattle.guide_model.specs.declared.guide.Guide.{Guide}
use Rattle.guide_model.specs.declared.guide.ServiceGuide.{ServiceGuide}
use Rattle.eit_segments.specs.declared.event.EventAt.{EventAt}
use Rattle.guide_board.specs.declared.lines.Line.{Line}
use Rattle.guide_board.specs.Posts.{present, following}

-- when an event is: its place without the size of its entry, on which neither order nor moment depends
abbrev pub time_of : Event → EventAt
time_of event = record { start = event.start; seconds = event.seconds; size = 0 }

abbrev pub line_of : ℕ → ServiceGuide → Line
line_of moment service = record {
  service = service.service;
  present = present moment service.events;
  following = following moment service.events;
}

-- a line for each service of a guide, at its moment
abbrev pub lines_of : Guide → List Line
lines_of guide = map (line_of guide.moment.0) guide.services

abbrev pub is_line : ℕ → Line → Bool
is_line service line = line.service == service
