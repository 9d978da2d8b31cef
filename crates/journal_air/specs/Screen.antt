-- What a receiver shows of a publication. The further descriptors are those of the multiplex and of its events.
use Rattle.std.specs.Prelude.{ℕ, ◌+◌, ◌*◌, Bool, ◌&&◌, nat_le, nat_lt, List, [], ◌∷◌, map, filter, Option, Some, None}
use Rattle.guide_model.specs.declared.shown.Shown.TheVariants.{Text}
use Rattle.guide_model.specs.declared.event.Event.{Event}
use Rattle.guide_model.specs.declared.guide.Guide.{Guide}
use Rattle.guide_model.specs.declared.guide.ServiceGuide.{ServiceGuide}
use Rattle.guide_model.specs.declared.screen.Screen.{Screen}
use Rattle.guide_model.specs.declared.screen.ScreenEvent.{ScreenEvent}
use Rattle.guide_model.specs.declared.screen.ScreenOther.{ScreenOther}
use Rattle.guide_model.specs.declared.screen.ScreenRemote.{ScreenRemote}
use Rattle.guide_model.specs.declared.screen.ScreenService.{ScreenService}
use Rattle.mux_model.specs.declared.mux.Mux.{Mux}
use Rattle.mux_model.specs.declared.mux.MuxService.{MuxService}
use Rattle.mux_model.specs.declared.mux.Other.{Other}
use Rattle.mux_model.specs.declared.mux.RemoteService.{RemoteService}
use Rattle.guide_limits.specs.Events.{start_of, midnight}
use Rattle.table_bodies.specs.Eit.{shown_event}
use Rattle.table_bodies.specs.Pmt.{shown_component}
use Rattle.publication.specs.Present.{present_event, following_event}
use Rattle.publication.specs.Parts.{part_of}

-- ---- the events of a service

-- the event, where there is one
abbrev pub first_shown : List Event → Option ScreenEvent
first_shown [] = None
first_shown (event ∷ events) = Some (shown_event event)

-- what is present at a moment, and what follows
abbrev pub now_shown : ℕ → ServiceGuide → Option ScreenEvent
now_shown moment guide = first_shown (present_event moment guide.events)

abbrev pub next_shown : ℕ → ServiceGuide → Option ScreenEvent
next_shown moment guide = first_shown (following_event moment guide.events)

-- an event that the schedule of the 64 days from a midnight on has: one that starts in them
abbrev pub is_scheduled : ℕ → Event → Bool
is_scheduled day event = nat_le day (start_of event) && nat_lt (start_of event) (day + 64 * 86400)

-- the events of the schedule from the midnight before a moment on
abbrev pub events_shown : ℕ → ServiceGuide → List ScreenEvent
events_shown moment guide = map shown_event (filter (is_scheduled (midnight moment)) guide.events)

-- ---- own services

-- a service: its numbers, components and further descriptors are the multiplex's, its names and events the guide's, and what is present
-- and following at a moment
abbrev pub service_shown : ℕ → MuxService → ServiceGuide → ScreenService
service_shown moment service guide = record {
  service = service.service;
  kind = service.kind;
  provider = Text guide.provider;
  name = Text guide.name;
  descriptors = service.descriptors;
  pmt_pid = Some service.pmt_pid;
  pcr_pid = Some service.pcr_pid;
  program_descriptors = service.program_descriptors;
  components = map shown_component service.components;
  now = now_shown moment guide;
  next = next_shown moment guide;
  events = events_shown moment guide;
}

-- an own service with the part that a guide has of it
abbrev pub own_shown : Guide → MuxService → ScreenService
own_shown guide service = service_shown guide.moment.0 service (part_of guide service.service)

-- the own services of a multiplex, by ascending id
abbrev pub services_shown : Mux → Guide → List ScreenService
services_shown mux guide = map (own_shown guide) mux.services

-- ---- other streams

-- a service of another stream: its numbers and further descriptors are the multiplex's, its names and events the guide's
abbrev pub remote_shown : ℕ → RemoteService → ServiceGuide → ScreenRemote
remote_shown moment service guide = record {
  service = service.service;
  kind = service.kind;
  provider = Text guide.provider;
  name = Text guide.name;
  descriptors = service.descriptors;
  now = now_shown moment guide;
  next = next_shown moment guide;
  events = events_shown moment guide;
}

-- the same with the part that a guide has of it
abbrev pub part_shown : Guide → RemoteService → ScreenRemote
part_shown guide service = remote_shown guide.moment.0 service (part_of guide service.service)

-- another stream with its further descriptors and its services, by ascending id
abbrev pub other_shown : Guide → Other → ScreenOther
other_shown guide other = record {
  stream = other.stream;
  original = other.original;
  cable = other.cable;
  descriptors = other.descriptors;
  services = map (part_shown guide) other.services;
}

-- the other streams, by ascending transport_stream_id and then original_network_id
abbrev pub others_shown : Mux → Guide → List ScreenOther
others_shown mux guide = map (other_shown guide) mux.others

-- ---- the screen

-- The screen of a guide that a multiplex sends, with the moment that was heard last.
abbrev pub screen_of : Mux → Guide → ℕ → Screen
screen_of mux guide clock = record {
  clock = record { 0 = clock };
  offsets = mux.offsets;
  network = mux.network;
  network_name = Text mux.network_name;
  network_descriptors = mux.network_descriptors;
  stream = mux.stream;
  original = mux.original;
  cable = mux.cable;
  stream_descriptors = mux.stream_descriptors;
  services = services_shown mux guide;
  others = others_shown mux guide;
}
