-- What the event information tables of a service have in common (EN 300 468, 5.2.4).
use Rattle.std.specs.Prelude.{ℕ, ◌+◌}
use Rattle.mux_model.specs.declared.mux.Mux.{Mux}
use Rattle.section_codec.specs.declared.table.Key.{Key}
use Rattle.table_bodies.specs.declared.eit.EitHead.{EitHead}

-- The stream that carries a service, as event information names it: transport_stream_id, original_network_id, the table_id of present
-- and following, and the table_id under which each table 0x50 to 0x5F of a schedule is sent.
pub record Bearer : Type 0 where
  pub stream : ℕ
  pub original : ℕ
  pub present : ℕ
  pub sent : ℕ → ℕ

-- the stream of this multiplex, and another one
abbrev pub own : Mux → Bearer
own mux = record { stream = mux.stream; original = mux.original; present = 0x4E; sent = λ table. table }

abbrev pub another : ℕ → ℕ → Bearer
another stream original = record { stream = stream; original = original; present = 0x4F; sent = λ table. table + 0x10 }

-- what names a table of a service: PID 0x0012, table_id, service_id, transport_stream_id and original_network_id
abbrev pub bearer_key : Bearer → ℕ → ℕ → Key
bearer_key b table service = record { pid = 0x0012; table = table; ext = service; stream = b.stream; network = b.original }

abbrev pub eit_key : Mux → ℕ → ℕ → Key
eit_key mux = bearer_key (own mux)

-- what a body begins with, by its segment_last_section_number and last_table_id
abbrev pub eit_head : Bearer → ℕ → ℕ → EitHead
eit_head b segment_last last_table = record { stream = b.stream; original = b.original; segment_last = segment_last; last_table = last_table }
