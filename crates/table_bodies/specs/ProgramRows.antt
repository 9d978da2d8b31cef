-- Worked bodies of program tables.
use Rattle.std.specs.Prelude.{◌≡◌, [], ◌∷◌, Some, None, true, false, refl, codes}
use Rattle.std.specs.Str.{chars}
use Rattle.guide_model.specs.declared.descriptor.RawDesc.{RawDesc}
use Rattle.guide_model.specs.declared.stream.Component.{Component}
use Rattle.table_bodies.specs.declared.pmt.Pmt.{Pmt}
use Rattle.table_bodies.specs.Pat.{pat_body, pat_in, is_pat_body}
use Rattle.table_bodies.specs.Pmt.{pmt_body, component_of, pmt_in, is_pmt_body}

-- ---- the network's program 0 on PID 0x0010, and program 101 on PID 256

row_pat : pat_body (record { program = 0; pid = 16 } ∷ record { program = 101; pid = 256 } ∷ []) ≡ 0x00 ∷ 0x00 ∷ 0xE0 ∷ 0x10 ∷ 0x00 ∷ 0x65 ∷ 0xE1 ∷ 0x00 ∷ []
row_pat = refl

-- reserved bits may have any value
pat_read : pat_in (0x00 ∷ 0x65 ∷ 0x01 ∷ 0x00 ∷ []) ≡ Some (record { program = 101; pid = 256 } ∷ [])
pat_read = refl

pat_none : pat_in [] ≡ Some []
pat_none = refl

pat_cut : pat_in (0x00 ∷ 0x65 ∷ 0xE1 ∷ []) ≡ None
pat_cut = refl

-- ---- a program without components, its clock on PID 257, and one with two of them

row_pmt : pmt_body (record { pcr_pid = 257; descriptors = []; components = [] }) ≡ 0xE1 ∷ 0x01 ∷ 0xF0 ∷ 0x00 ∷ []
row_pmt = refl

abbrev video : Component
video = record { stream_type = 2; pid = 513; language = None; descriptors = [] }

abbrev audio : Component
audio = record { stream_type = 3; pid = 514; language = Some (codes "eng"); descriptors = [] }

row_components : pmt_body (record { pcr_pid = 257; descriptors = []; components = video ∷ audio ∷ [] })
    ≡ 0xE1 ∷ 0x01 ∷ 0xF0 ∷ 0x00 ∷ 0x02 ∷ 0xE2 ∷ 0x01 ∷ 0xF0 ∷ 0x00 ∷ 0x03 ∷ 0xE2 ∷ 0x02 ∷ 0xF0 ∷ 0x06 ∷ 0x0A ∷ 0x04 ∷ 0x65 ∷ 0x6E ∷ 0x67 ∷ 0x00 ∷ []
row_components = refl

-- ---- a program with a CA_descriptor, and components with further descriptors; the bytes are the specification's

abbrev ac3 : RawDesc
ac3 = record { tag = 0x6A; body = 0x80 ∷ 0x42 ∷ [] }

-- audio_type 3: visual impaired commentary
abbrev described : RawDesc
described = record { tag = 0x0A; body = 0x65 ∷ 0x6E ∷ 0x67 ∷ 0x03 ∷ [] }

abbrev subtitles : RawDesc
subtitles = record { tag = 0x59; body = 0x64 ∷ 0x65 ∷ 0x75 ∷ 0x10 ∷ 0x00 ∷ 0x01 ∷ 0x00 ∷ 0x01 ∷ [] }

abbrev teletext : RawDesc
teletext = record { tag = 0x56; body = 0x64 ∷ 0x65 ∷ 0x75 ∷ 0x09 ∷ 0x00 ∷ 0x64 ∷ 0x65 ∷ 0x75 ∷ 0x11 ∷ 0x50 ∷ [] }

abbrev described_program : Pmt
described_program = record {
  pcr_pid = 257;
  descriptors = record { tag = 0x09; body = 0x0B ∷ 0x00 ∷ 0xE5 ∷ 0xDC ∷ [] } ∷ [];
  components =
      record { stream_type = 27; pid = 257; language = None; descriptors = record { tag = 0x52; body = 0x01 ∷ [] } ∷ [] }
      ∷ record { stream_type = 6; pid = 258; language = Some (codes "deu"); descriptors = ac3 ∷ [] }
      ∷ record { stream_type = 6; pid = 259; language = None; descriptors = described ∷ [] }
      ∷ record { stream_type = 6; pid = 260; language = None; descriptors = subtitles ∷ [] }
      ∷ record { stream_type = 6; pid = 261; language = None; descriptors = teletext ∷ [] }
      ∷ [];
}

row_described : pmt_body described_program
    ≡ 0xE1 ∷ 0x01 ∷ 0xF0 ∷ 0x06 ∷ 0x09 ∷ 0x04 ∷ 0x0B ∷ 0x00 ∷ 0xE5 ∷ 0xDC
    ∷ 0x1B ∷ 0xE1 ∷ 0x01 ∷ 0xF0 ∷ 0x03 ∷ 0x52 ∷ 0x01 ∷ 0x01
    ∷ 0x06 ∷ 0xE1 ∷ 0x02 ∷ 0xF0 ∷ 0x0A ∷ 0x0A ∷ 0x04 ∷ 0x64 ∷ 0x65 ∷ 0x75 ∷ 0x00 ∷ 0x6A ∷ 0x02 ∷ 0x80 ∷ 0x42
    ∷ 0x06 ∷ 0xE1 ∷ 0x03 ∷ 0xF0 ∷ 0x06 ∷ 0x0A ∷ 0x04 ∷ 0x65 ∷ 0x6E ∷ 0x67 ∷ 0x03
    ∷ 0x06 ∷ 0xE1 ∷ 0x04 ∷ 0xF0 ∷ 0x0A ∷ 0x59 ∷ 0x08 ∷ 0x64 ∷ 0x65 ∷ 0x75 ∷ 0x10 ∷ 0x00 ∷ 0x01 ∷ 0x00 ∷ 0x01
    ∷ 0x06 ∷ 0xE1 ∷ 0x05 ∷ 0xF0 ∷ 0x0C ∷ 0x56 ∷ 0x0A ∷ 0x64 ∷ 0x65 ∷ 0x75 ∷ 0x09 ∷ 0x00 ∷ 0x64 ∷ 0x65 ∷ 0x75 ∷ 0x11 ∷ 0x50 ∷ []
row_described = refl

-- the first language of the first descriptor of languages that fits; one without an entry fits, and hides a second one
abbrev cut_language : RawDesc
cut_language = record { tag = 0x0A; body = 0x65 ∷ [] }

abbrev no_language : RawDesc
no_language = record { tag = 0x0A; body = [] }

abbrev english : RawDesc
english = record { tag = 0x0A; body = 0x65 ∷ 0x6E ∷ 0x67 ∷ 0x00 ∷ [] }

component_read : component_of (0x03 ∷ 0x02 ∷ 0x02 ∷ []) (cut_language ∷ english ∷ no_language ∷ [])
    ≡ record { stream_type = 3; pid = 514; language = Some (codes "eng"); descriptors = cut_language ∷ no_language ∷ [] }
unfolding chars
component_read = refl

component_hidden : component_of (0x03 ∷ 0xE2 ∷ 0x02 ∷ []) (no_language ∷ english ∷ []) ≡ record { stream_type = 3; pid = 514; language = None; descriptors = no_language ∷ english ∷ [] }
component_hidden = refl

-- a language shows neither an audio_type nor a second language
abbrev two_languages : RawDesc
two_languages = record { tag = 0x0A; body = 0x65 ∷ 0x6E ∷ 0x67 ∷ 0x00 ∷ 0x64 ∷ 0x65 ∷ 0x75 ∷ 0x00 ∷ [] }

component_described : component_of (0x03 ∷ 0xE2 ∷ 0x02 ∷ []) (described ∷ [])
    ≡ record { stream_type = 3; pid = 514; language = Some (codes "eng"); descriptors = described ∷ [] }
unfolding chars
component_described = refl

component_of_two : component_of (0x03 ∷ 0xE2 ∷ 0x02 ∷ []) (two_languages ∷ english ∷ [])
    ≡ record { stream_type = 3; pid = 514; language = Some (codes "eng"); descriptors = two_languages ∷ english ∷ [] }
unfolding chars
component_of_two = refl

-- ---- bytes that are a body, or none

looked_pat : is_pat_body (0x00 ∷ 0x65 ∷ 0x01 ∷ 0x00 ∷ []) ≡ true
looked_pat = refl

looked_cut_pat : is_pat_body (0x00 ∷ 0x65 ∷ 0xE1 ∷ []) ≡ false
looked_cut_pat = refl

looked_pmt : pmt_in (0xE1 ∷ 0x01 ∷ 0xF0 ∷ 0x00 ∷ 0x02 ∷ 0xE2 ∷ 0x01 ∷ 0xF0 ∷ 0x00 ∷ [])
    ≡ Some (record { pcr_pid = 257; descriptors = []; components = record { stream_type = 2; pid = 513; language = None; descriptors = [] } ∷ [] })
looked_pmt = refl

-- program_info_length runs past the end, and the last entry is cut
looked_past_pmt : is_pmt_body (0xE1 ∷ 0x01 ∷ 0xF0 ∷ 0x01 ∷ []) ≡ false
looked_past_pmt = refl

looked_cut_pmt : is_pmt_body (0xE1 ∷ 0x01 ∷ 0xF0 ∷ 0x00 ∷ 0x02 ∷ 0xE2 ∷ 0x01 ∷ 0xF0 ∷ []) ≡ false
looked_cut_pmt = refl
