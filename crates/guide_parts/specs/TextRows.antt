-- Worked guides of parts.
use Rattle.std.specs.Prelude.{◌≡◌, [], ◌∷◌, Some, None, codes, refl}
use Rattle.std.specs.Fmt.{digits}
use Rattle.guide_model.specs.declared.shown.Shown.TheVariants.{Text}
use Rattle.guide_screen.specs.declared.need.Need.TheVariants.{Pat, Nit, Sdt, Clock, Pmt}
use Rattle.guide_parts.specs.declared.part_screen.PartScreen.{PartScreen}
use Rattle.guide_parts.specs.PartTexts.{part_text}

abbrev nothing_heard : PartScreen
nothing_heard = record {
  clock = None;
  offsets = [];
  network = None;
  stream = None;
  original = None;
  cable = None;
  stream_descriptors = [];
  services = [];
  others = [];
}

-- nothing was heard
row_nothing : part_text (record { wanting = Pat ∷ Nit ∷ Sdt ∷ Clock ∷ []; shown = nothing_heard })
    ≡ codes "wanting\tpat\nwanting\tnit\nwanting\tsdt\nwanting\tclock\nend\n"
row_nothing = refl

-- the PAT was heard whole: stream 1 with a service on PID 256
row_pat : part_text (record {
  wanting = Nit ∷ Sdt ∷ Clock ∷ Pmt 256 101 ∷ [];
  shown = record {
    clock = None;
    offsets = [];
    network = None;
    stream = Some 1;
    original = None;
    cable = None;
    stream_descriptors = [];
    services = record {
      service = 101;
      kind = None;
      provider = Text [];
      name = Text [];
      descriptors = [];
      pmt_pid = Some 256;
      pcr_pid = None;
      program_descriptors = [];
      components = [];
      now = None;
      next = None;
      events = [];
    }
        ∷ [];
    others = [];
  };
})
    ≡ codes "wanting\tnit\nwanting\tsdt\nwanting\tclock\nwanting\tpmt\t256\t101\nstream\t1\t\nservice\t101\t\t\t\t256\t\nend\n"
unfolding digits
row_pat = refl
