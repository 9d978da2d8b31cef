use Rattle.std.proofs.Common.{◌≡◌, List, Option, map, filter, option_map, ap, ap₂, sym, ◌∙◌}
use Rattle.std.specs.Prelude.{is_some}
use Rattle.section_codec.specs.declared.table.Key.{Key}
use Rattle.table_bodies.specs.declared.nit.NitStream.{NitStream}
use Rattle.guide_screen.specs.Reading.{streams_in}
use Rattle.guide_screen.specs.Screen.{other_stream}
use Rattle.guide_parts.specs.Parts.{heard_key, pat_heard, nit_heard, sdt_heard, home_by, home_of, stream_by}
use Rattle.guide_parts.specs.Heads.{AreHeads}
use Rattle.guide_parts.specs.PartScreen.{part_at, network_with, cable_of, stream_descriptors, is_foreign, moment_at}
use Rattle.guide_parts.proofs.Clocks.{clock_back}
use Rattle.guide_parts.proofs.heard.part_screen.Goals as goal

pub returns : goal.returns
returns c P view keeps keys offsets others =
    let told = c.heads_of-heads.ensures in
    let heads = c.heads_of-heads.result in
    let pat : heads.pat ≡ pat_heard P = told.pat ∙ ap₂ (λ (o : Option Key) (l : List Key). heard_key o 0x00 l) (sym view.pat) (sym keys) in
    let nit : heads.nit ≡ nit_heard P = told.nit ∙ ap₂ (λ (o : Option Key) (l : List Key). heard_key o 0x40 l) (sym view.nit) (sym keys) in
    let sdt : heads.sdt ≡ sdt_heard P = told.sdt ∙ ap₂ (λ (o : Option Key) (l : List Key). heard_key o 0x42 l) (sym view.sdt) (sym keys) in
    let home : heads.home ≡ home_of P = told.home ∙ (λ i. home_by (sdt i) (pat i) (sym keys i)) in
    let are : AreHeads P heads c.is_some.result = record { pat = pat; sdt = sdt; home = home; whole_is = c.is_some.ensures ∙ ap is_some (sym view.sdt) } in
    let streams : c.in_ok-streams.streams.items ≡ streams_in (part_at P.part (nit_heard P)) =
    c.in_ok-streams.ensures P.part keeps ∙ ap (λ (o : Option Key). streams_in (part_at P.part o)) nit in
    let network = c.in_ok-network.ensures P.part keeps ∙ ap (option_map (network_with P.part)) nit in
    let services = c.in_ok-services.ensures P keeps keys are in
    let foreign : List NitStream = streams_in (part_at P.part (nit_heard P)) in
    let beside =
    c.in_ok-others.ensures P.view.content view.keeps
    ∙ ap (λ (l : List NitStream). map (other_stream P.view.content l) (filter (is_foreign heads.home) c.args.others.now)) (c.deref.ensures.value ∙ streams)
    ∙ ap₂ (λ (o : Option Key) (l : List Key). map (other_stream P.view.content foreign) (filter (is_foreign o) l)) home (sym others) in
    let stream = c.stream_by.ensures ∙ ap₂ stream_by home pat in
    let original = c.network_of.ensures ∙ ap (option_map (λ (k : Key). k.network)) home in
    let cable = c.cable_of.ensures ∙ ap₂ cable_of home (c.deref-2.ensures.value ∙ streams) in
    let further = c.in_ok-stream_descriptors.ensures ∙ ap₂ stream_descriptors home (c.deref-3.ensures.value ∙ streams) in
    let clock = clock_back c.args.latest.now.clock ∙ ap (option_map moment_at) (sym view.clock) in
    let kept = c.in_ok-copied.ensures ∙ sym offsets in
    λ i. record {
      clock = clock i;
      offsets = kept i;
      network = network i;
      stream = stream i;
      original = original i;
      cable = cable i;
      stream_descriptors = further i;
      services = services i;
      others = beside i;
    }
