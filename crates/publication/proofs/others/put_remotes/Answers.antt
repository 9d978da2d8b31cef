use Rattle.std.proofs.Common.{◌≡◌, ◌<◌, List, [], ◌∷◌, ◌++◌, Bor, get_or, length, sym, ap, ◌∙◌, subst, arith, append-nil}
use Rattle.std.specs.Prelude.{Option, Some, IfSome, unwrap_or, slice_get}
use Rattle.std.specs.Option.{option_copied}
use Rattle.std.proofs.lemmas.List.{length-map}
use Rattle.si_time.specs.declared.moment.Moment.{Moment}
use Rattle.guide_model.specs.declared.guide.ServiceGuide.{ServiceGuide}
use Rattle.mux_model.specs.declared.mux.RemoteService.{RemoteService}
use Rattle.guide_limits.specs.Events.{midnight}
use Rattle.guide_limits.specs.Limits.{IsServiceWithin}
use Rattle.publication.specs.Present.{present_of}
use Rattle.publication.specs.Schedule.{remote_tables}
use Rattle.publication.specs.EitLaws.{AreSmallEntries}
use Rattle.publication.proofs.EitListFacts.{all_next}
use Rattle.publication.specs.Parts.{no_part, part_of, remote_guide}
use Rattle.publication.specs.Tables.{bearer_of}
use Rattle.publication.proofs.ListFacts.{flat_behind, map_behind}
use Rattle.publication.proofs.PartFacts.{if_copied, if_found, never_missing_remote, remote_at}
use Rattle.publication.proofs.others.put_remotes.Goals as goal

pub loop-service-init : goal.loop-service-init
loop-service-init c = record {
  near = sym (append-nil c.args.near.now);
  far = sym (append-nil c.args.far.now);
  small = tt;
}

pub unreachable-requires : goal.unreachable-requires
unreachable-requires c =
    let other = c.args.other.now in
    let n = c.loop-service.service-index in
    let s = c.service-item.result in
    never_missing_remote c.args.guide.now.guide other c.requires.parts n s (omega (arith, c.loop-service-test.true, ap length c.as_slice-service-items.ensures))
    (c.service-item.is ∙ ap (λ (ss : List RemoteService). get_or ss n s) c.as_slice-service-items.ensures) (sym c.part_in.ensures ∙ ap option_copied c.in_default.is)

pub put_remote-requires : goal.put_remote-requires
put_remote-requires c =
    let id = c.service-item.result.service in
    subst (λ (o : Option (Bor ServiceGuide)). IfSome o (λ (part : Bor ServiceGuide). IsServiceWithin part.now)) c.in-Some.is
    (if_copied IsServiceWithin c.part_in.result _ c.part_in.ensures (if_found IsServiceWithin id c.args.guide.now.guide.services c.requires.within.services))

pub loop-service-preserved : goal.loop-service-preserved
loop-service-preserved c =
    let other = c.args.other.now in
    let guide = c.args.guide.now.guide in
    let ss = remote_guide guide other in
    let i = c.loop-service.service-index in
    let s = c.in-Some.part.now in
    let remote = c.service-item.result in
    let below = c.loop-service-test.true in
    let lt : i < length ss = omega (arith, length-map other.services (λ (t : RemoteService). part_of guide t.service), below, ap length c.as_slice-service-items.ensures) in
    let is : part_of guide remote.service ≡ s =
    ap (λ (o : Option ServiceGuide). unwrap_or o (no_part remote.service)) (sym c.part_in.ensures ∙ ap option_copied c.in-Some.is) in
    let at : slice_get ss i ≡ Some s = remote_at guide other i remote s (omega (arith, below, ap length c.as_slice-service-items.ensures))
    (c.service-item.is ∙ ap (λ (rs : List RemoteService). get_or rs i remote) c.as_slice-service-items.ensures) is in
    let now = c.moment.ensures in
    let put = c.in_ok-put_remote.ensures in
    record {
      near = map_behind (present_of (bearer_of other) guide.moment.0) ss i s lt at c.args.near.now c.loop-service.near c.put_remote.new.near c.loop-service.invariant.near
          (put.present ∙ ap (λ (m : Moment). c.loop-service.near ++ present_of (bearer_of other) m.0 s ∷ []) now);
      far = flat_behind (remote_tables (bearer_of other) (midnight guide.moment.0)) ss i s lt at c.args.far.now c.loop-service.far c.put_remote.new.far c.loop-service.invariant.far
          (put.far ∙ ap (λ (m : Moment). c.loop-service.far ++ remote_tables (bearer_of other) (midnight m.0) s) now);
      small = all_next ss i s lt at (λ (t : ServiceGuide). AreSmallEntries t.events) c.loop-service.invariant.small put.small;
    }
