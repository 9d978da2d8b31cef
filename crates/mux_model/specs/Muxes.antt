-- A multiplex with what each has, and nothing else: no cable delivery, no bit rate, no offsets, no other stream and no
-- further descriptors.
use Rattle.std.specs.Prelude.{ℕ, List, [], None}
use Rattle.si_time.specs.declared.moment.Moment.{Moment}
use Rattle.mux_model.specs.declared.mux.MuxService.{MuxService}
use Rattle.mux_model.specs.declared.mux.Mux.{Mux}

abbrev pub mux_of : (network : ℕ) (name : List ℕ) (stream original : ℕ) (start : Moment) (quota : ℕ) (services : List MuxService) → Mux
mux_of network name stream original start quota services = record {
  network = network;
  network_name = name;
  stream = stream;
  original = original;
  cable = None;
  start = start;
  quota = quota;
  rate = None;
  offsets = [];
  services = services;
  others = [];
  network_descriptors = [];
  stream_descriptors = [];
}
