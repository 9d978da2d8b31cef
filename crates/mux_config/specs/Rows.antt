-- Worked examples.
use Rattle.std.specs.Prelude.{◌≡◌, ◌≢◌, ◌==◌, ℕ, false, List, [], ◌∷◌, Option, Some, None, refl, codes}
use Rattle.std.proofs.Common.{lit≤, lit<, eq-eqb, sym, ◌∙◌}
use Rattle.std.proofs.lemmas.Bool.{false≢true}
use Rattle.std.proofs.Math.Nat.{not-le_of_lt}
use Rattle.guide_model.specs.declared.stream.Component.{Component}
use Rattle.mux_model.specs.declared.mux.MuxService.{MuxService}
use Rattle.mux_model.specs.declared.mux.Mux.{Mux}
use Rattle.mux_model.specs.Muxes.{mux_of}
use Rattle.mux_model.specs.Sound.{IsSound, HasSoundCable, HasSoundLanguage}

-- numbers that differ as they compute
differ : (m n : ℕ) → (m == n) ≡ false → m ≢ n
differ m n h e = false≢true (sym h ∙ eq-eqb m n e)

abbrev stream : ℕ → Option (List ℕ) → Component
stream pid language = record { stream_type = 3; pid = pid; language = language; descriptors = [] }

-- a service with this id, the PIDs of its PMT and of its clock reference, and its components
abbrev service : ℕ → ℕ → ℕ → List Component → MuxService
service id pmt pcr components = record {
  service = id;
  feed = 1;
  kind = 1;
  pmt_pid = pmt;
  pcr_pid = pcr;
  provider = codes "Acme";
  name = codes "One";
  components = components;
  descriptors = [];
  program_descriptors = [];
}

-- a multiplex with these services
abbrev mux_with : List MuxService → Mux
mux_with services =
    let none : Mux = mux_of 40 (codes "Demo") 1 1 (record { 0 = 3506716800 }) 200 services in
    record none { cable = Some (record { frequency = 3120000; modulation = 3; symbol_rate = 68750; fec_outer = 2; fec_inner = 15 }) }

abbrev sound_services : List MuxService
sound_services =
    service 101 256 257 (stream 257 None ∷ stream 258 (Some (codes "deu")) ∷ [])
    ∷ service 102 32 8191 (stream 258 (Some (codes "und")) ∷ [])
    ∷ []

-- two services may share a component
row_sound : IsSound (mux_with sound_services)
row_sound = record {
  network_name = (lit≤ tt, lit≤ tt);
  cable = record { frequency = lit≤ tt; symbol_rate = lit≤ tt; fec_outer = lit≤ tt; fec_inner = lit≤ tt };
  start = lit< tt;
  quota = (lit≤ tt, lit≤ tt);
  rate = tt;
  offsets = record { few = lit≤ tt; each = tt; once = tt };
  count = (lit≤ tt, lit≤ tt);
  services = (
    record {
      service = (lit≤ tt, lit≤ tt);
      feed = (lit≤ tt, lit≤ tt);
      pmt_pid = (lit≤ tt, lit≤ tt);
      pcr_pid = (lit≤ tt, lit≤ tt);
      provider = lit≤ tt;
      name = (lit≤ tt, lit≤ tt);
      count = lit≤ tt;
      components = (
        record { pid = (lit≤ tt, lit≤ tt); language = tt; descriptors = tt },
        (record { pid = (lit≤ tt, lit≤ tt); language = (refl, ((lit≤ tt, lit≤ tt), ((lit≤ tt, lit≤ tt), ((lit≤ tt, lit≤ tt), tt)))); descriptors = tt }, tt),
      );
      components_once = ((differ 257 258 refl, tt), (tt, tt));
      descriptors = tt;
      room = lit≤ tt;
      program_descriptors = tt;
      program_room = lit≤ tt;
    },
    (
      record {
        service = (lit≤ tt, lit≤ tt);
        feed = (lit≤ tt, lit≤ tt);
        pmt_pid = (lit≤ tt, lit≤ tt);
        pcr_pid = (lit≤ tt, lit≤ tt);
        provider = lit≤ tt;
        name = (lit≤ tt, lit≤ tt);
        count = lit≤ tt;
        components = (record { pid = (lit≤ tt, lit≤ tt); language = (refl, ((lit≤ tt, lit≤ tt), ((lit≤ tt, lit≤ tt), ((lit≤ tt, lit≤ tt), tt)))); descriptors = tt }, tt);
        components_once = (tt, tt);
        descriptors = tt;
        room = lit≤ tt;
        program_descriptors = tt;
        program_room = lit≤ tt;
      },
      tt,
    ),
  );
  ascend = ((lit< tt, tt), (tt, tt));
  pmts_once = ((differ 256 32 refl, tt), (tt, tt));
  apart = (
    (differ 256 257 refl, (differ 256 258 refl, (differ 256 258 refl, tt))),
    ((differ 32 257 refl, (differ 32 258 refl, (differ 32 258 refl, tt))), tt),
  );
  others = record { few = lit≤ tt; each = tt; ascend = tt; apart = tt; few_services = lit≤ tt; once = ((differ 101 102 refl, tt), (tt, tt)) };
  network_descriptors = tt;
  stream_descriptors = tt;
  network_room = lit≤ tt;
  others_room = tt;
}

-- services in another order, and one that stands twice
row_descending : IsSound (mux_with (service 102 256 257 [] ∷ service 101 32 257 [] ∷ [])) → ⊥
row_descending sound = not-le_of_lt (lit≤ tt) sound.ascend.0.0

row_twice : IsSound (mux_with (service 101 256 257 [] ∷ service 101 32 257 [] ∷ [])) → ⊥
row_twice sound = not-le_of_lt (lit≤ tt) sound.ascend.0.0

-- two PMTs on one PID, also where other services stand between
row_same_pmt : IsSound (mux_with (service 101 256 257 [] ∷ service 102 32 257 [] ∷ service 103 256 257 [] ∷ [])) → ⊥
row_same_pmt sound = sound.pmts_once.0.1.0 refl

-- a component on the PID of another service's PMT
row_pmt_component : IsSound (mux_with (service 101 256 257 [] ∷ service 102 32 257 (stream 256 None ∷ []) ∷ [])) → ⊥
row_pmt_component sound = sound.apart.0.0 refl

-- a component that stands twice in its service
row_component_twice : IsSound (mux_with (service 101 256 257 (stream 40 None ∷ stream 41 None ∷ stream 40 None ∷ []) ∷ [])) → ⊥
row_component_twice sound = sound.services.0.components_once.0.1.0 refl

-- no service
row_none : IsSound (mux_with []) → ⊥
row_none sound = not-le_of_lt (lit≤ tt) sound.count.0

-- a capital letter
row_capital : HasSoundLanguage (Some (codes "Deu")) → ⊥
row_capital sound = not-le_of_lt (lit≤ tt) sound.1.0.0

-- inner error protection of more than 4 bits
row_cable : HasSoundCable (Some (record { frequency = 3120000; modulation = 3; symbol_rate = 68750; fec_outer = 2; fec_inner = 16 })) → ⊥
row_cable sound = not-le_of_lt (lit≤ tt) sound.fec_inner
