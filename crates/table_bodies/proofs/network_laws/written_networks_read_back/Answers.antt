use Rattle.table_bodies.proofs.Networks.{nit-reads_back, written_nits}
use Rattle.table_bodies.proofs.Services.{sdt-reads_back, written_sdts}
use Rattle.table_bodies.proofs.network_laws.written_networks_read_back.Goals as goal

pub returns : goal.returns
returns c = record {
  nit = nit-reads_back c.written_descriptors_read_back.ensures.cable;
  nits = written_nits;
  sdt = sdt-reads_back c.written_descriptors_read_back.ensures.service;
  sdts = written_sdts;
}
