-- What a receiver has of the sub-tables that it heard, whole or not.
use Rattle.std.specs.Prelude.{ℕ, Bool, ◌&&◌, ◌||◌, ◌==◌, nat_le, List, find, Option, Some, None, option_map}
use Rattle.std.specs.Option.{option_or}
use Rattle.section_codec.specs.declared.table.Key.{Key}
use Rattle.section_codec.specs.Contents.{Content}
use Rattle.section_codec.specs.KeyOrder.{in_order}
use Rattle.sub_collect.specs.KeyCounts.{section_keys}
use Rattle.sub_collect.specs.Marks.{Taken, sections_taken}
use Rattle.sub_collect.specs.Parts.{part_of}
use Rattle.guide_screen.specs.View.{View, sdt_of}

-- What it has of those that it heard whole; of each key what is held of its content; and the keys that had a section, in their order.
pub record Parts : Type 0 where
  pub view : View
  pub part : Key → Content
  pub keys : List Key

-- the keys that had a section, in their order, each once
abbrev pub keys_over : List Taken → List Key
keys_over taken = in_order (section_keys (sections_taken taken))

-- what is held of these sections and marks, where this is what was heard whole
abbrev pub parts_over : View → List Taken → Parts
parts_over V taken = record { view = V; part = λ k. part_of k taken; keys = keys_over taken }

-- ---- the tables that come once

-- the least of these keys that has this table_id
abbrev pub least_of : ℕ → List Key → Option Key
least_of table keys = find (λ (k : Key). k.table == table) keys

-- the key that was completed last, or else the least that had a section
abbrev pub heard_key : Option Key → ℕ → List Key → Option Key
heard_key completed table keys = option_or completed (least_of table keys)

abbrev pub pat_heard : Parts → Option Key
pat_heard P = heard_key P.view.pat 0x00 P.keys

abbrev pub nit_heard : Parts → Option Key
nit_heard P = heard_key P.view.nit 0x40 P.keys

-- the SDT of the PAT's stream, or else the least, of whatever stream
abbrev pub sdt_heard : Parts → Option Key
sdt_heard P = heard_key (sdt_of P.view) 0x42 P.keys

-- ---- the own stream

-- the event information of this multiplex: present and following, and the schedule (EN 300 468, 5.2.4)
abbrev pub is_own_eit : ℕ → Bool
is_own_eit table = table == 0x4E || (nat_le 0x50 table && nat_le table 0x5F)

-- that of the PAT's stream, where there is a PAT
abbrev pub is_home_eit : Option Key → Key → Bool
is_home_eit None k = is_own_eit k.table
is_home_eit (Some pat) k = is_own_eit k.table && k.stream == pat.ext

-- the key that the SDT has of the stream and the network that an EIT names
abbrev pub sdt_beside : Key → Key
sdt_beside eit = record { pid = 0x0011; table = 0x42; ext = eit.stream; stream = 0; network = eit.network }

-- the key that names the own stream and its network: of the SDT, or else of the one beside the least EIT
abbrev pub home_by : Option Key → Option Key → List Key → Option Key
home_by sdt pat keys = option_or sdt (option_map sdt_beside (find (is_home_eit pat) keys))

abbrev pub home_of : Parts → Option Key
home_of P = home_by (sdt_heard P) (pat_heard P) P.keys

-- the own transport_stream_id, by that key, or else by the PAT
abbrev pub stream_by : Option Key → Option Key → Option ℕ
stream_by home pat = option_or (option_map (λ (k : Key). k.ext) home) (option_map (λ (k : Key). k.ext) pat)
