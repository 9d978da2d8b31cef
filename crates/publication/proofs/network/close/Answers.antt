use Rattle.std.proofs.Common.{◌≤◌, length, sym, ap, subst, arith, sum_by}
use Rattle.std.specs.List.{All}
use Rattle.guide_model.specs.Decoding.{shown_bytes}
use Rattle.guide_model.specs.Descriptors.{FitsDescriptor}
use Rattle.table_bodies.specs.declared.nit.Nit.{Nit}
use Rattle.table_bodies.specs.Nit.{FitsStream, HasNetworkRoom, stream_size}
use Rattle.publication.proofs.NetworkFacts.{name_fits, network_bodies, network_fits}
use Rattle.publication.proofs.network.close.Goals as goal

pub write_nit-requires-clause-name : goal.write_nit-requires-clause-name
write_nit-requires-clause-name c =
    subst (λ (nit : Nit). length (shown_bytes nit.name) ≤ 255) (sym c.in_ok-nit.ensures) (name_fits c.args.mux.now c.args.streams c.requires.sound)

pub write_nit-requires-clause-bodies : goal.write_nit-requires-clause-bodies
write_nit-requires-clause-bodies c =
    subst (λ (nit : Nit). All FitsDescriptor nit.descriptors) (sym c.in_ok-nit.ensures) (network_bodies c.args.mux.now c.requires.sound)

pub write_nit-requires-clause-room : goal.write_nit-requires-clause-room
write_nit-requires-clause-room c =
    subst HasNetworkRoom (sym c.in_ok-nit.ensures) (network_fits c.args.mux.now c.args.streams c.requires.sound)

pub write_nit-requires-clause-streams : goal.write_nit-requires-clause-streams
write_nit-requires-clause-streams c =
    subst (λ (nit : Nit). All FitsStream nit.streams) (sym c.in_ok-nit.ensures) c.requires.fit

pub write_nit-requires-clause-within : goal.write_nit-requires-clause-within
write_nit-requires-clause-within c =
    omega (arith, ap (λ (nit : Nit). sum_by stream_size nit.streams) c.in_ok-nit.ensures, c.requires.within)
