use Rattle.std.proofs.Common.{◌≡◌, ◌<◌, ◌≤◌, ℕ, List, sym, ap, ◌∙◌, subst, arith, length, get_or}
use Rattle.std.specs.Prelude.{not}
use Rattle.std.proofs.lemmas.Bool.{ltb-true, ltb-false}
use Rattle.air_audit.specs.declared.lanes.Lane.{Lane}
use Rattle.air_audit.specs.Fronts.{ToCome, to_come_on}
use Rattle.air_audit.specs.Checking.{is_nothing}
use Rattle.air_audit.specs.Progress.{is_busy, IsWithin}
use Rattle.air_audit.proofs.Ways.{lane_read, none_told, busy_is}
use Rattle.air_audit.proofs.progress.Progress.is_nothing_on.Goals as goal

pub returns-in-Some : goal.returns-in-Some
returns-in-Some c =
    let f = c.self.inside in
    let lanes = f.lanes.items in
    let l = c.in-Some.lane.now in
    let there : c.from.result < length c.deref.result.now = ltb-true c.from.result (length c.deref.result.now) (sym c.in-Some.ensures.lookup.0) in
    let lt : c.args.pid < length lanes = omega (arith, there, c.from.ensures, ap length c.deref.ensures.value) in
    let is : l ≡ get_or lanes c.args.pid l = c.in-Some.ensures.lookup.1 ∙ ap (λ (ls : List Lane). get_or ls c.from.result l) c.deref.ensures.value ∙ ap (λ (k : ℕ). get_or lanes k l) c.from.ensures in
    let within : IsWithin (length f.bytes.items) f.placed.items l = subst (IsWithin (length f.bytes.items) f.placed.items) (sym is) (c.self.invariant.each c.args.pid l lt) in
    let places : c.len.result ≡ length f.placed.items = omega (arith, c.len.ensures, f.placed.ok.0) in
    ap not (c.is_busy.ensures ∙ ap (λ (n : ℕ). is_busy n l) places) ∙ sym (busy_is f.bytes.items f.placed.items l within)
    ∙ sym (ap is_nothing (lane_read f.bytes.items f.placed.items lanes c.args.pid l c.args.self.now c.self.view_is lt is))

pub returns-in-None : goal.returns-in-None
returns-in-None c =
    let f = c.self.inside in
    let past : length c.deref.result.now ≤ c.from.result = ltb-false c.from.result (length c.deref.result.now) (sym c.in-None.ensures.lookup.0) in
    let le : length f.lanes.items ≤ c.args.pid = omega (arith, past, c.from.ensures, ap length c.deref.ensures.value) in
    sym (ap (λ (l : List ToCome). is_nothing (to_come_on l c.args.pid)) (sym c.self.view_is) ∙ ap is_nothing (none_told f.bytes.items f.placed.items f.lanes.items c.args.pid le))
