-- The program association table and the program map tables of a multiplex (ISO/IEC 13818-1, 2.4.4.3 and 2.4.4.8).
use Rattle.std.specs.Prelude.{List, ◌∷◌, map}
use Rattle.mux_model.specs.declared.mux.MuxService.{MuxService}
use Rattle.mux_model.specs.declared.mux.Mux.{Mux}
use Rattle.section_codec.specs.declared.table.Key.{Key}
use Rattle.section_codec.specs.declared.table.SubTable.{SubTable}
use Rattle.table_bodies.specs.declared.pat.PatEntry.{PatEntry}
use Rattle.table_bodies.specs.declared.pmt.Pmt.{Pmt}
use Rattle.table_bodies.specs.Pat.{pat_body}
use Rattle.table_bodies.specs.Pmt.{pmt_body}
use Rattle.publication.specs.Sections.{single_table}

-- ---- PAT

-- program 0 has the PID of the NIT (EN 300 468, 5.1.3)
abbrev pub network_entry : PatEntry
network_entry = record { program = 0; pid = 0x0010 }

-- a service is the program of its service_id, with the PID of its PMT
abbrev pub program_entry : MuxService → PatEntry
program_entry s = record { program = s.service; pid = s.pmt_pid }

-- program 0, and then the services
abbrev pub pat_of : Mux → List PatEntry
pat_of mux = network_entry ∷ map program_entry mux.services

-- what names the PAT: PID 0x0000, table_id 0x00 and transport_stream_id
abbrev pub pat_key : Mux → Key
pat_key mux = record { pid = 0x0000; table = 0x00; ext = mux.stream; stream = 0; network = 0 }

abbrev pub pat_table : Mux → SubTable
pat_table mux = single_table (pat_key mux) (pat_body (pat_of mux))

-- ---- PMTs

-- the clock reference of a service, the further descriptors of its program, and its components in their order
abbrev pub pmt_of : MuxService → Pmt
pmt_of s = record { pcr_pid = s.pcr_pid; descriptors = s.program_descriptors; components = s.components }

-- what names the PMT of a service: its PID, table_id 0x02 and program_number, which is its service_id
abbrev pub pmt_key : MuxService → Key
pmt_key s = record { pid = s.pmt_pid; table = 0x02; ext = s.service; stream = 0; network = 0 }

abbrev pub pmt_table : MuxService → SubTable
pmt_table s = single_table (pmt_key s) (pmt_body (pmt_of s))

-- of each service, in their order
abbrev pub pmt_tables : Mux → List SubTable
pmt_tables mux = map pmt_table mux.services
