use Rattle.std.proofs.Common.{◌≡◌, ◌∙◌, [], refl, ap}
use Rattle.std.specs.Option.{unwrap_or}
use Rattle.descriptors.specs.CableDelivery.{cable_in}
use Rattle.descriptors.specs.ServiceList.{service_list_in}
use Rattle.descriptors.specs.First.{without_first, always}
use Rattle.table_bodies.specs.Nit.{cable_of, services_of, further_of_stream}
use Rattle.table_bodies.proofs.FirstOnes.{first_elsewhere}
use Rattle.table_bodies.proofs.nit.stream_of.Goals as goal

pub returns : goal.returns
returns c =
    let ds = c.args.descs in
    let rest : c.take_first.new.descs.items ≡ without_first 0x44 cable_in always ds =
    c.in_ok-cable.ensures.rest ∙ ap (without_first 0x44 cable_in always) c.into_vec-further.ensures in
    let cable : c.in_ok-cable.cable ≡ cable_of ds = c.in_ok-cable.ensures.value ∙ ap cable_of c.into_vec-further.ensures in
    let services : c.in_ok-services.services ≡ services_of ds =
    c.in_ok-services.ensures.services ∙ ap services_of rest
    ∙ ap (λ read. unwrap_or read []) (first_elsewhere 0x41 0x44 service_list_in cable_in always refl ds) in
    let further : c.of.result ≡ further_of_stream ds =
    c.of.ensures ∙ c.in_ok-services.ensures.further ∙ ap (without_first 0x41 service_list_in always) rest in
    λ i. record { stream = c.args.stream; original = c.args.original; cable = cable i; services = services i; descriptors = further i }
