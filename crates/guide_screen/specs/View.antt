-- What a receiver has of the sub-tables that it heard whole.
use Rattle.std.specs.Prelude.{ℕ, List, [], Option, Some, None, unwrap_or}
use Rattle.guide_model.specs.declared.offset.Offset.{Offset}
use Rattle.section_codec.specs.declared.table.Key.{Key}
use Rattle.section_codec.specs.Contents.{Content}

-- The content of each key that was completed; the key of the PAT and that of the NIT that was completed last, and for each
-- transport_stream_id that of its SDT; the keys of the SDTs of other streams, in their order; the last moment that was heard, in seconds
-- since Modified Julian Date 0, and the offsets that were heard last.
pub record View : Type 0 where
  pub content : Key → Option Content
  pub pat : Option Key
  pub nit : Option Key
  pub sdt : ℕ → Option Key
  pub others : List Key
  pub clock : Option ℕ
  pub offsets : List Offset

-- the sections of a content, where there is one
abbrev pub sections : Option Content → Content
sections c = unwrap_or c []

-- the sections of a key, where there is a key and it was completed
abbrev pub sections_at : (Key → Option Content) → Option Key → Content
sections_at content None = []
sections_at content (Some k) = sections (content k)

-- the SDT of the PAT's transport_stream_id
abbrev pub sdt_behind : View → Option Key → Option Key
sdt_behind V None = None
sdt_behind V (Some pat) = V.sdt pat.ext

abbrev pub sdt_of : View → Option Key
sdt_of V = sdt_behind V V.pat

-- ---- keys (EN 300 468, 5.1.3)

-- the PMT of a program on its PID
abbrev pub pmt_key : ℕ → ℕ → Key
pmt_key pid program = record { pid = pid; table = 0x02; ext = program; stream = 0; network = 0 }

-- a table of events of a service, of the stream and the network that this SDT names
abbrev pub eit_key : Key → ℕ → ℕ → Key
eit_key sdt table service = record { pid = 0x12; table = table; ext = service; stream = sdt.ext; network = sdt.network }

-- the sections of a table of events of a service
abbrev pub table_at : (Key → Option Content) → Key → ℕ → ℕ → Content
table_at content sdt service table = sections (content (eit_key sdt table service))
