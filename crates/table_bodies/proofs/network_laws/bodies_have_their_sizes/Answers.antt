use Rattle.table_bodies.proofs.Networks.{nit-has_its_size}
use Rattle.table_bodies.proofs.Services.{service-has_its_size, sdt-has_its_size}
use Rattle.table_bodies.proofs.network_laws.bodies_have_their_sizes.Goals as goal

pub returns : goal.returns
returns c = record { nit = nit-has_its_size; service = service-has_its_size; sdt = sdt-has_its_size }
