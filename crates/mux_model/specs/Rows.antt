-- A worked multiplex: one service without components, which starts at 1970-01-01T00:00:00Z.
use Rattle.std.specs.Prelude.{[], ◌∷◌, codes}
use Rattle.std.proofs.Common.{lit≤, lit<}
use Rattle.si_time.specs.declared.moment.Moment.{Moment}
use Rattle.mux_model.specs.declared.mux.Mux.{Mux}
use Rattle.mux_model.specs.Muxes.{mux_of}
use Rattle.mux_model.specs.Sound.{IsSound}

-- 1970-01-01T00:00:00Z
abbrev pub row_start : Moment
row_start = record { 0 = 3506716800 }

abbrev pub row_mux : Mux
row_mux = mux_of 40 (codes "Demo") 1 1 row_start 200
    (record { service = 101; feed = 1; kind = 1; pmt_pid = 256; pcr_pid = 257; provider = codes "Acme"; name = codes "One"; components = []; descriptors = []; program_descriptors = [] } ∷ [])

pub row_sound : IsSound row_mux
row_sound = record {
  network_name = (lit≤ tt, lit≤ tt);
  cable = tt;
  start = lit< tt;
  quota = (lit≤ tt, lit≤ tt);
  rate = tt;
  offsets = record { few = lit≤ tt; each = tt; once = tt };
  count = (lit≤ tt, lit≤ tt);
  services = (
    record {
      service = (lit≤ tt, lit≤ tt);
      feed = (lit≤ tt, lit≤ tt);
      pmt_pid = (lit≤ tt, lit≤ tt);
      pcr_pid = (lit≤ tt, lit≤ tt);
      provider = lit≤ tt;
      name = (lit≤ tt, lit≤ tt);
      count = lit≤ tt;
      components = tt;
      components_once = tt;
      descriptors = tt;
      room = lit≤ tt;
      program_descriptors = tt;
      program_room = lit≤ tt;
    },
    tt,
  );
  ascend = (tt, tt);
  pmts_once = (tt, tt);
  apart = (tt, tt);
  others = record { few = lit≤ tt; each = tt; ascend = tt; apart = tt; few_services = lit≤ tt; once = (tt, tt) };
  network_descriptors = tt;
  stream_descriptors = tt;
  network_room = lit≤ tt;
  others_room = tt;
}
