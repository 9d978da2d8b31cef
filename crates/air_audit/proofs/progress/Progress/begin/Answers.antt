use Rattle.std.proofs.Common.{◌≡◌, ◌<◌, ℕ, List, sym, ap, ◌∙◌, subst, length, map}
use Rattle.std.specs.List.{AllByRecursion}
use Rattle.section_codec.specs.declared.table.SubTable.{SubTable}
use Rattle.air_model.specs.Air.{Sent, at_places}
use Rattle.air_model.specs.Laying.{sent_at, order_under}
use Rattle.air_audit.specs.Fronts.{all_waiting}
use Rattle.air_audit.specs.Audits.{on_pid}
use Rattle.air_audit.proofs.progress.Progress.begin.Goals as goal

pub of-requires-clause-within : goal.of-requires-clause-within
of-requires-clause-within c =
    let order_is : c.in_ok-room.room.order.items ≡ order_under c.args.tables.now.list (record { quota = c.args.quota; offsets = c.args.offsets.now }) = c.in_ok-room.ensures.order ∙ ap (λ (l : List SubTable). order_under l (record { quota = c.args.quota; offsets = c.args.offsets.now })) c.as_slice-list.ensures in
    subst (AllByRecursion (λ (at : ℕ). at < length c.lay.new.self.placed.items)) (sym order_is) (c.in_ok-lay.ensures.within c.args.quota)

pub returns-clause-begun : goal.returns-clause-begun
returns-clause-begun c past stands pid =
    let order_is : c.in_ok-room.room.order.items ≡ order_under c.args.tables.now.list (record { quota = c.args.quota; offsets = c.args.offsets.now }) = c.in_ok-room.ensures.order ∙ ap (λ (l : List SubTable). order_under l (record { quota = c.args.quota; offsets = c.args.offsets.now })) c.as_slice-list.ensures in
    let bytes = c.lay.new.self.bytes.items in
    let each = c.lay.new.self.placed.items in
    c.of.ensures pid
    ∙ ap (λ (ss : List Sent). all_waiting (on_pid pid ss)) (ap (λ (o : List ℕ). map (sent_at bytes) (at_places each o)) order_is ∙ c.in_ok-lay.ensures.sections past c.args.quota stands)
