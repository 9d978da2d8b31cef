-- The load that is made of a number, as values: the multiplex, what the control asks for, and the edits of each feed.
use Rattle.std.specs.Prelude.{ℕ, ◌+◌, ◌*◌, ◌%◌, List, [], ◌∷◌, ◌++◌, take, map, flat_map, None, codes, decimal}
use Rattle.std.specs.List.{range_with_len}
use Rattle.si_time.specs.Moments.{moment_text, duration_text}
use Rattle.mux_model.specs.declared.mux.MuxService.{MuxService}
use Rattle.mux_model.specs.declared.mux.Mux.{Mux}
use Rattle.mux_model.specs.Muxes.{mux_of}
use Rattle.journal_model.specs.declared.control.Control.{Control}
use Rattle.journal_model.specs.declared.control.Control.TheVariants.{Tick, Publish}
use Rattle.journal_model.specs.declared.edit.Item.{Item}
use Rattle.journal_model.specs.declared.edit.Edit.{Edit}
use Rattle.journal_model.specs.declared.edit.Edit.TheVariants.{Name, Day}
use Rattle.si_workload.specs.declared.shows.Show.{Show}
use Rattle.si_workload.specs.Shows.{shows_of, shows_on}
use Rattle.si_workload.specs.Texts.{moment_at}

-- ---- the multiplex

-- each second service is of feed 2
abbrev pub soak_service : ℕ → MuxService
soak_service i = record {
  service = 101 + i;
  feed = 1 + i % 2;
  kind = 1;
  pmt_pid = 256 + i;
  pcr_pid = 512 + i;
  provider = codes "Maker";
  name = codes "Channel " ++ decimal i;
  components = [];
  descriptors = [];
  program_descriptors = [];
}

-- it starts at 1993-10-13T00:00:00Z
abbrev pub soak_mux : Mux
soak_mux = mux_of 40 (codes "Soak") 1 1 (record { 0 = moment_at 0 }) 200 (map soak_service (range_with_len 0 8))

-- ---- what the control asks for

abbrev pub tick_at : ℕ → Control
tick_at quarters = Tick (record { 0 = moment_at quarters })

-- at 6, 12 and 18 hours
abbrev pub soak_controls : List Control
soak_controls = tick_at 24 ∷ Publish ∷ tick_at 48 ∷ Publish ∷ tick_at 72 ∷ Publish ∷ []

-- ---- the edits of a feed

abbrev pub show_item : Show → Item
show_item s = record {
  id = s.id;
  start = record { 0 = moment_text (moment_at s.start) };
  length = record { 0 = duration_text (900 * s.quarters) };
  language = codes "eng";
  name = codes "Show " ++ decimal s.title;
  short = [];
  extended = [];
  rating = None;
  genres = [];
  descriptors = [];
}

abbrev pub name_edit : ℕ → Edit
name_edit service = Name service (codes "Maker") (codes "Station " ++ decimal service)

-- a day of a service, of all its shows
abbrev pub day_edit : ℕ → List Show → ℕ → Edit
day_edit service shows day = Day service (record { 0 = take 10 (moment_text (moment_at (96 * day))) }) (map show_item (shows_on day shows))

abbrev pub service_edits : ℕ → ℕ → List Edit
service_edits number service = name_edit service ∷ map (day_edit service (shows_of number service)) (range_with_len 0 14)

-- the four services of feed 1 or 2
abbrev pub feed_services : ℕ → List ℕ
feed_services feed = map (λ (i : ℕ). 100 + feed + 2 * i) (range_with_len 0 4)

abbrev pub soak_edits : ℕ → ℕ → List Edit
soak_edits number feed = flat_map (service_edits number) (feed_services feed)
