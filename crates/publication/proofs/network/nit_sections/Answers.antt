use Rattle.std.proofs.Common.{◌≡◌, ◌≤◌, ◌+◌, List, ◌∷◌, drop, get_or, length, map, sym, ap, ◌∙◌, subst, subst₂, arith}
use Rattle.std.proofs.lemmas.List.{drop_all}
use Rattle.std.proofs.lemmas.List.Elements.{All-from_recursion}
use Rattle.mux_model.specs.declared.mux.Other.{Other}
use Rattle.section_codec.specs.declared.table.NumberedBody.{NumberedBody}
use Rattle.table_bodies.specs.declared.nit.NitStream.{NitStream}
use Rattle.table_bodies.specs.Nit.{FitsStream, stream_size}
use Rattle.publication.specs.Network.{nit_sections, other_stream, streams_room}
use Rattle.publication.specs.Writing.{AreStreamsUnderWay, IsStreamRun}
use Rattle.publication.proofs.NetworkFacts.{IsReadyStream, other_fits, other_sized, others_ready}
use Rattle.publication.proofs.WritingFacts.{first_streams, own_run, streams_from}
use Rattle.publication.proofs.network.nit_sections.Goals as goal

pub loop-other-init : goal.loop-other-init
loop-other-init c =
    let mux = c.args.mux.now in
    record {
      under_way = subst₂ (λ (ss : List NumberedBody) (run : List NitStream). AreStreamsUnderWay mux (map other_stream mux.others) (nit_sections mux) ss run)
          (sym c.new-closed.ensures) (sym c.in_ok-run.ensures.streams) (first_streams mux);
      run = subst₂ (IsStreamRun (streams_room mux)) (sym c.in_ok-run.ensures.streams) (sym c.in_ok-run.ensures.size) (own_run mux c.requires);
      few = omega (arith, ap length c.new-closed.ensures);
    }

pub put_stream-requires-clause-fits : goal.put_stream-requires-clause-fits
put_stream-requires-clause-fits c =
    let mux = c.args.mux.now in
    let i = c.loop-other.other-index in
    let o = c.other-item.result in
    let is : o ≡ get_or mux.others i o = c.other-item.is ∙ ap (λ (os : List Other). get_or os i o) c.as_slice-other-items.ensures in
    subst FitsStream (sym c.in_ok-carried.ensures)
    (other_fits mux o (subst (IsReadyStream mux) (sym is)
    (All-from_recursion (IsReadyStream mux) mux.others (others_ready mux c.requires) i o (omega (arith, c.loop-other-test.true, ap length c.as_slice-other-items.ensures)))))

pub put_stream-requires-clause-size : goal.put_stream-requires-clause-size
put_stream-requires-clause-size c =
    let mux = c.args.mux.now in
    let i = c.loop-other.other-index in
    let o = c.other-item.result in
    let is : o ≡ get_or mux.others i o = c.other-item.is ∙ ap (λ (os : List Other). get_or os i o) c.as_slice-other-items.ensures in
    let ready : IsReadyStream mux o = subst (IsReadyStream mux) (sym is)
    (All-from_recursion (IsReadyStream mux) mux.others (others_ready mux c.requires) i o (omega (arith, c.loop-other-test.true, ap length c.as_slice-other-items.ensures))) in
    subst (λ (s : NitStream). stream_size s ≤ streams_room mux) (sym c.in_ok-carried.ensures) (other_sized mux o ready.room)

pub put_stream-requires-clause-few : goal.put_stream-requires-clause-few
put_stream-requires-clause-few c =
    omega (arith, c.loop-other.invariant.few, c.loop-other-test.true, c.requires.others.few, ap length c.as_slice-other-items.ensures)

pub loop-other-preserved : goal.loop-other-preserved
loop-other-preserved c =
    let mux = c.args.mux.now in
    let i = c.loop-other.other-index in
    let o = c.other-item.result in
    let left = map other_stream (drop (i + 1) mux.others) in
    let is : o ≡ get_or mux.others i o = c.other-item.is ∙ ap (λ (os : List Other). get_or os i o) c.as_slice-other-items.ensures in
    let here : map other_stream (drop i mux.others) ≡ c.in_ok-carried.carried ∷ left =
    streams_from mux.others i o (omega (arith, c.loop-other-test.true, ap length c.as_slice-other-items.ensures))
    ∙ ap (λ (x : NitStream). x ∷ left) (ap other_stream (sym is) ∙ sym c.in_ok-carried.ensures) in
    record {
      under_way = c.in_ok-put_stream.ensures.put left (nit_sections mux)
          (subst (λ (ss : List NitStream). AreStreamsUnderWay mux ss (nit_sections mux) c.loop-other.closed c.loop-other.run.streams) here c.loop-other.invariant.under_way);
      run = c.in_ok-put_stream.ensures.run;
      few = omega (arith, c.loop-other.invariant.few, c.in_ok-put_stream.ensures.few);
    }

pub returns : goal.returns
returns c =
    let mux = c.args.mux.now in
    c.in_ok-close.ensures
    ∙ subst (λ (ss : List NitStream). AreStreamsUnderWay mux ss (nit_sections mux) c.loop-other.closed c.loop-other.run.streams)
    (ap (map other_stream) (drop_all c.loop-other.other-index mux.others (omega (arith, c.loop-other-test.false, ap length c.as_slice-other-items.ensures))))
    c.loop-other.invariant.under_way
