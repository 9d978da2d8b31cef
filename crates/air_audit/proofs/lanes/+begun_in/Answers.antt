use Rattle.std.proofs.Common.{◌≡◌, ◌<◌, ◌-◌, ◌∷◌, ℕ, length, get_or, sym, ap, ◌∙◌, arith}
use Rattle.std.proofs.lemmas.List.{get_or_default}
use Rattle.air_model.specs.declared.placed.Placed.{Placed}
use Rattle.air_audit.specs.Progress.{laid_at, waiting_from}
use Rattle.air_audit.proofs.Moving.{begun_fill, begun_wrong, begun_past, begun_section, section_at}
use Rattle.air_audit.proofs.Nexts.{waits_at, begun_within, still_waits, link_further}
use Rattle.air_audit.proofs.lanes.+begun_in.Goals as goal

pub returns-then-is_fill : goal.returns-then-is_fill
returns-then-is_fill t c =
    begun_fill c.args.bytes.now c.args.placed.now c.args.lane c.args.left.now c.requires.within (sym c.begins_with_fill.ensures ∙ c.if-begins_with_fill.true) (sym c.is_fill.ensures ∙ c.if-is_fill.true)

pub returns-else-is_fill : goal.returns-else-is_fill
returns-else-is_fill t c =
    begun_wrong c.args.bytes.now c.args.placed.now c.args.lane c.args.left.now (sym c.begins_with_fill.ensures ∙ c.if-begins_with_fill.true) (sym c.is_fill.ensures ∙ c.if-is_fill.false)

pub returns-then-none_waits : goal.returns-then-none_waits
returns-then-none_waits t c =
    begun_past c.args.bytes.now c.args.placed.now c.args.lane c.args.left.now (sym c.begins_with_fill.ensures ∙ c.if-begins_with_fill.false)
    (sym (c.none_waits.ensures.waits _ c.args.bytes.now c.requires.within) ∙ c.if-none_waits.true)

pub bounds-placed-lane : goal.bounds-placed-lane
bounds-placed-lane t c = still_waits c.args.lane.next _ c.none_waits.result c.requires.within.next c.none_waits.ensures.end c.if-none_waits.false

pub bounds-placed-lane-2 : goal.bounds-placed-lane-2
bounds-placed-lane-2 t c = still_waits c.args.lane.next _ c.none_waits.result c.requires.within.next c.none_waits.ensures.end c.if-none_waits.false

pub bounds-links-lane : goal.bounds-links-lane
bounds-links-lane t c =
    let lt = still_waits c.args.lane.next _ c.none_waits.result c.requires.within.next c.none_waits.ensures.end c.if-none_waits.false in
    omega (arith, lt, c.requires.linked.many)

pub begun_in-requires : goal.begun_in-requires
begun_in-requires t c =
    let l = c.args.lane in
    let bytes = c.args.bytes.now in
    let placed = c.args.placed.now in
    let lt = still_waits l.next _ c.none_waits.result c.requires.within.next c.none_waits.ensures.end c.if-none_waits.false in
    let p : Placed = get_or placed l.next (record { pid = 0; start = 0; len = 0 }) in
    let is : p ≡ get_or placed l.next p = get_or_default placed l.next (record { pid = 0; start = 0; len = 0 }) p lt in
    let link = get_or c.args.links.now l.next 0 in
    let linked = c.requires.linked.each l.next p lt is in
    let further = link_further placed p.pid l.next link lt linked in
    let falls : length placed - link < t = omega (arith, c.decreases, further.0, further.1, lt) in
    (falls, (c.requires.placed, (c.requires.linked, begun_within bytes placed l p c.min.result link c.requires.within (c.requires.placed l.next _ lt) (omega (arith, c.min.ensures)) lt is linked)))

pub returns : goal.returns
returns t c =
    let l = c.args.lane in
    let bytes = c.args.bytes.now in
    let placed = c.args.placed.now in
    let lt = still_waits l.next _ c.none_waits.result c.requires.within.next c.none_waits.ensures.end c.if-none_waits.false in
    let p : Placed = get_or placed l.next (record { pid = 0; start = 0; len = 0 }) in
    let is : p ≡ get_or placed l.next p = get_or_default placed l.next (record { pid = 0; start = 0; len = 0 }) p lt in
    let link = get_or c.args.links.now l.next 0 in
    let waits = waits_at _ bytes placed l p c.requires.within lt is in
    begun_section bytes placed l c.args.left.now p c.min.result link _ c.in_ok-behind.behind.now c.begun_in.result (sym c.begins_with_fill.ensures ∙ c.if-begins_with_fill.false)
    (waits ∙ ap (λ (k : ℕ). laid_at bytes p ∷ waiting_from l.pid bytes placed k) (sym (c.requires.linked.each l.next p lt is)))
    (section_at bytes p) c.in_ok-behind.ensures.0 c.in_ok-behind.ensures.1 c.min.ensures c.begun_in.ensures
