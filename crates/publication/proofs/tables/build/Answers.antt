use Rattle.std.proofs.Common.{◌≡◌, ◌≤◌, ◌<◌, List, [], ◌∷◌, ◌++◌, Bor, get_or, length, sym, ap, ◌∙◌, subst, arith, append-nil}
use Rattle.std.specs.Prelude.{take, Option, Some, IfSome, unwrap_or, slice_get}
use Rattle.std.specs.Option.{option_copied}
use Rattle.std.proofs.lemmas.List.{take_all, length-map}
use Rattle.si_time.specs.declared.moment.Moment.{Moment}
use Rattle.guide_model.specs.declared.guide.ServiceGuide.{ServiceGuide}
use Rattle.mux_model.specs.declared.mux.MuxService.{MuxService}
use Rattle.guide_limits.specs.Events.{midnight}
use Rattle.guide_limits.specs.Limits.{IsServiceWithin}
use Rattle.section_codec.specs.declared.table.SubTable.{SubTable}
use Rattle.section_codec.specs.SubTables.{AreFit}
use Rattle.publication.specs.Present.{present_table}
use Rattle.publication.specs.Schedule.{near_tables, far_tables}
use Rattle.publication.specs.EitLaws.{AreSmallEntries}
use Rattle.publication.proofs.EitListFacts.{flat_next, all_next}
use Rattle.publication.specs.Parts.{no_part, part_of, own_guide}
use Rattle.publication.specs.Laws.{HaveSmallEntries, HasSmallSentEntries}
use Rattle.publication.specs.Tables.{mux_tables, tables_of}
use Rattle.publication.proofs.ListFacts.{flat_behind, map_behind}
use Rattle.publication.proofs.PartFacts.{if_copied, if_found, never_missing, own_at}
use Rattle.publication.proofs.TableFacts.{other_near, joined_are, built_are, built_so, built_fit}
use Rattle.publication.proofs.FitFacts.{sent_fit}
use Rattle.publication.proofs.tables.build.Goals as goal

-- before the first own service
near_first : {first list : List SubTable} → list ≡ first → list ≡ first ++ []
near_first {first} is = is ∙ sym (append-nil first)

pub loop-service-init : goal.loop-service-init
loop-service-init c = record {
  list = c.in_ok-list.ensures ∙ sym (append-nil (mux_tables c.args.mux.now c.args.guide.now.guide));
  near = near_first c.in_ok-others.ensures.near;
  far = c.new-far.ensures;
  small = tt;
}

pub unreachable-requires : goal.unreachable-requires
unreachable-requires c =
    let n = c.loop-service.service-index in
    let s = c.service-item.result in
    never_missing c.args.mux.now c.args.guide.now.guide c.requires.services n s (omega (arith, c.loop-service-test.true, ap length c.as_slice-service-items.ensures))
    (c.service-item.is ∙ ap (λ (ss : List MuxService). get_or ss n s) c.as_slice-service-items.ensures) (sym c.part_in.ensures ∙ ap option_copied c.in_default.is)

pub put_service-requires : goal.put_service-requires
put_service-requires c =
    let id = c.service-item.result.service in
    subst (λ (o : Option (Bor ServiceGuide)). IfSome o (λ (part : Bor ServiceGuide). IsServiceWithin part.now)) c.in-Some.is
    (if_copied IsServiceWithin c.part_in.result _ c.part_in.ensures (if_found IsServiceWithin id c.args.guide.now.guide.services c.requires.within.services))

pub loop-service-preserved : goal.loop-service-preserved
loop-service-preserved c =
    let mux = c.args.mux.now in
    let guide = c.args.guide.now.guide in
    let ss = own_guide mux guide in
    let i = c.loop-service.service-index in
    let s = c.in-Some.part.now in
    let lt : i < length ss = omega (arith, length-map mux.services (λ (t : MuxService). part_of guide t.service), c.loop-service-test.true, ap length c.as_slice-service-items.ensures) in
    let own = c.service-item.result in
    let is : part_of guide own.service ≡ s =
    ap (λ (o : Option ServiceGuide). unwrap_or o (no_part own.service)) (sym c.part_in.ensures ∙ ap option_copied c.in-Some.is) in
    let at : slice_get ss i ≡ Some s = own_at mux guide i own s (omega (arith, c.loop-service-test.true, ap length c.as_slice-service-items.ensures))
    (c.service-item.is ∙ ap (λ (os : List MuxService). get_or os i own) c.as_slice-service-items.ensures) is in
    let now = c.moment.ensures in
    let put = c.in_ok-put_service.ensures in
    record {
      list = map_behind (present_table mux guide.moment.0) ss i s lt at (mux_tables mux guide)
          c.loop-service.list c.put_service.new.list c.loop-service.invariant.list
          (put.present ∙ ap (λ (m : Moment). c.loop-service.list ++ present_table mux m.0 s ∷ []) now);
      near = flat_behind (near_tables mux (midnight guide.moment.0)) ss i s lt at (other_near mux guide) c.loop-service.near c.put_service.new.near c.loop-service.invariant.near
          (put.near ∙ ap (λ (m : Moment). c.loop-service.near ++ near_tables mux (midnight m.0) s) now);
      far = flat_next ss i s lt at (far_tables mux (midnight guide.moment.0)) c.loop-service.far c.put_service.new.far c.loop-service.invariant.far
          (put.far ∙ ap (λ (m : Moment). c.loop-service.far ++ far_tables mux (midnight m.0) s) now);
      small = all_next ss i s lt at (λ (t : ServiceGuide). AreSmallEntries t.events) c.loop-service.invariant.small put.small;
    }

pub returns-clause-tables : goal.returns-clause-tables
returns-clause-tables c =
    let mux = c.args.mux.now in
    let guide = c.args.guide.now.guide in
    let done = c.loop-service.invariant in
    built_are c.joined.result _ (tables_of mux guide) c.joined.ensures
    (joined_are mux guide c.loop-service.service-index c.loop-service.list c.loop-service.near c.loop-service.far _
    (omega (arith, length-map mux.services (λ (t : MuxService). part_of guide t.service), c.loop-service-test.false, ap length c.as_slice-service-items.ensures)) done.list done.near done.far c.in_ok-others.ensures.far)

pub returns-clause-small : goal.returns-clause-small
returns-clause-small c =
    let mux = c.args.mux.now in
    let guide = c.args.guide.now.guide in
    let n = c.loop-service.service-index in
    let own = own_guide mux guide in
    let all : take n own ≡ own = take_all n own (omega (arith, length-map mux.services (λ (t : MuxService). part_of guide t.service), c.loop-service-test.false, ap length c.as_slice-service-items.ensures)) in
    built_so c.joined.result _ (record { own = subst HaveSmallEntries all c.loop-service.invariant.small; remote = c.in_ok-others.ensures.small })

pub returns-clause-fit : goal.returns-clause-fit
returns-clause-fit c =
    let mux = c.args.mux.now in
    let guide = c.args.guide.now.guide in
    let n = c.loop-service.service-index in
    let own = own_guide mux guide in
    let done = c.loop-service.invariant in
    let last : length own ≤ n = omega (arith, length-map mux.services (λ (t : MuxService). part_of guide t.service), c.loop-service-test.false, ap length c.as_slice-service-items.ensures) in
    let are = joined_are mux guide n c.loop-service.list c.loop-service.near c.loop-service.far _ last done.list done.near done.far c.in_ok-others.ensures.far in
    let small : HasSmallSentEntries mux guide = record { own = subst HaveSmallEntries (take_all n own last) done.small; remote = c.in_ok-others.ensures.small } in
    built_fit c.joined.result _ c.joined.ensures (subst AreFit (sym are) (sent_fit mux guide c.requires.sound c.requires.within small))
