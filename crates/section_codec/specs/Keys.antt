-- The keys of sub-tables, by the table of tables (EN 300 468, 5.1.1 and 5.1.3).
use Rattle.std.specs.Prelude.{ℕ, Bool, true, false, ◌==◌, ◌&&◌, if◌then◌else◌, nat_le, List, length, slice_index, Option, Some, None, option_and_then, option_map, unwrap_or}
use Rattle.si_base.specs.Fields.{two_at}
use Rattle.section_codec.specs.Tables.{naming_of}
use Rattle.section_codec.specs.declared.section.LongHeader.{LongHeader}
use Rattle.section_codec.specs.declared.table.Key.{Key}
use Rattle.section_codec.specs.declared.table.Naming.{Naming}
use Rattle.section_codec.specs.declared.table.Naming.TheVariants.{Extension, Network, Stream}

abbrev pub key_with : ℕ → LongHeader → ℕ → ℕ → Key
key_with pid h stream network = record { pid = pid; table = h.table; ext = h.ext; stream = stream; network = network }

-- the key, by what a body begins with: of an SDT original_network_id, of an EIT transport_stream_id and original_network_id
abbrev pub named_by : Naming → (ℕ → ℕ → Key) → List ℕ → Option Key
named_by Extension key body = Some (key 0 0)
named_by Network key body = if nat_le 2 (length body) then Some (key 0 (two_at 0 body)) else None
named_by Stream key body = if nat_le 4 (length body) then Some (key (two_at 0 body) (two_at 2 body)) else None

-- the key of a section on this PID
abbrev pub key_in : ℕ → LongHeader → List ℕ → Option Key
key_in pid h body = option_and_then (λ naming. named_by naming (key_with pid h) body) (naming_of pid h.table)

-- what does not name a sub-table is 0 in its key
abbrev pub is_named : Naming → Key → Bool
is_named Extension key = key.stream == 0 && key.network == 0
is_named Network key = key.stream == 0
is_named Stream key = true

-- a key that sub-tables on its PID can have
abbrev pub is_listed : Key → Bool
is_listed key = unwrap_or (option_map (λ naming. is_named naming key) (naming_of key.pid key.table)) false

-- segment_last_section_number and last_table_id of an EIT's body
abbrev pub eit_numbers_in : List ℕ → Option (ℕ × ℕ)
eit_numbers_in body = if nat_le 6 (length body) then Some (slice_index body 4, slice_index body 5) else None
