use Rattle.std.proofs.Common.{◌≡◌, ◌+◌, ◌<◌, ℕ, List, sym, ap, ap₂, ◌∙◌, subst, arith, length, get_or, set}
use Rattle.std.specs.Prelude.{Result, Ok, Err, None, cond}
use Rattle.air_model.specs.declared.placed.Placed.{Placed}
use Rattle.ts_packets.specs.Packets.{Piece}
use Rattle.air_model.specs.declared.rule.Rule.{Rule}
use Rattle.air_audit.specs.declared.lanes.Lane.{Lane}
use Rattle.air_audit.specs.Fronts.{to_come_on}
use Rattle.air_audit.specs.Telling.{told}
use Rattle.air_audit.specs.Progress.{to_come_of, all_shown, is_busy, IsMoved, HasMoved}
use Rattle.air_audit.proofs.Ways.{lane_there, lane_busy, busy_some, count_changed, lane_moved, lane_stays, moved_within, within_moved}
use Rattle.air_audit.proofs.progress.Progress.go_on.Goals as goal

-- a lane that moved, over the bytes and places themselves
moved_over : (bytes bytes_new : List ℕ) (placed placed_new : List Placed) (l : Lane) (piece : Piece) (r : Result Lane Rule) → bytes ≡ bytes_new → placed ≡ placed_new → IsMoved bytes placed l (told (to_come_of bytes placed l) piece) r
    → IsMoved bytes_new placed_new l (told (to_come_of bytes_new placed_new l) piece) r
moved_over bytes bytes_new placed placed_new l piece r e f h =
    subst (λ (p : List Placed). IsMoved bytes_new p l (told (to_come_of bytes_new p l) piece) r) f (subst (λ (b : List ℕ). IsMoved b placed l (told (to_come_of b placed l) piece) r) e h)

pub busy_behind-self-inside-requires : goal.busy_behind-self-inside-requires
busy_behind-self-inside-requires c =
    let f = c.self.inside in
    let lanes = f.lanes.items in
    let lt = lane_there f.bytes.items f.placed.items lanes c.args.pid c.args.self.now c.self.view_is c.requires.some in
    let old = c.index-lane.result.now in
    let is : old ≡ get_or lanes c.args.pid old = c.index-lane.ensures ∙ ap (λ (k : ℕ). get_or lanes k old) c.from-index.ensures in
    let busy = lane_busy f.bytes.items f.placed.items lanes c.args.pid old c.args.self.now c.self.view_is lt is c.self.invariant.each c.requires.some in
    subst (λ (n : ℕ). 0 < n) (sym c.self.invariant.count) (busy_some (length f.placed.items) lanes c.args.pid old lt is busy)

pub invariant_of-self : goal.invariant_of-self
invariant_of-self c =
    let f = c.self.inside in
    let bytes = f.bytes.items in
    let placed = f.placed.items in
    let lanes = f.lanes.items in
    let index = c.from-index.result in
    let lt = lane_there bytes placed lanes c.args.pid c.args.self.now c.self.view_is c.requires.some in
    let index_lt : index < length lanes = omega (arith, lt, c.from-index.ensures) in
    let old = c.index-lane.result.now in
    let new = c.in-Ok.lane in
    let is : old ≡ get_or lanes c.args.pid old = c.index-lane.ensures ∙ ap (λ (k : ℕ). get_or lanes k old) c.from-index.ensures in
    let busy = lane_busy bytes placed lanes c.args.pid old c.args.self.now c.self.view_is lt is c.self.invariant.each c.requires.some in
    let piece : Piece = record { start = c.args.start; payload = c.args.payload.now } in
    let moved = moved_over c.deref.result.now bytes c.deref-2.result.now placed old piece (Ok new) c.deref.ensures.value c.deref-2.ensures.value c.in-Ok.ensures in
    let within = moved_within bytes placed old new (told (to_come_of bytes placed old) piece) moved in
    let own : new.pid ≡ index = within.0 ∙ ap (λ (l : Lane). l.pid) c.index-lane.ensures ∙ c.self.invariant.own index old index_lt in
    let places : c.len-places.result ≡ length placed = omega (arith, c.len-places.ensures, f.placed.ok.0) in
    let still : c.is_busy.result ≡ is_busy (length placed) new = c.is_busy.ensures ∙ ap (λ (n : ℕ). is_busy n new) places in
    let after = c.busy_behind-self-inside.ensures ∙ ap₂ (λ (n : ℕ) (b : _). n + cond b 1 0) c.self.invariant.count still in
    within_moved bytes placed f.links.items lanes f.busy index new c.busy_behind-self-inside.result c.self.invariant index_lt own within.1
    (count_changed (length placed) lanes index old new index_lt c.index-lane.ensures busy c.busy_behind-self-inside.result after)

pub returns-in-Ok-clause-moved : goal.returns-in-Ok-clause-moved
returns-in-Ok-clause-moved c =
    let f = c.self.inside in
    let bytes = f.bytes.items in
    let placed = f.placed.items in
    let lanes = f.lanes.items in
    let lt = lane_there bytes placed lanes c.args.pid c.args.self.now c.self.view_is c.requires.some in
    let old = c.index-lane.result.now in
    let is : old ≡ get_or lanes c.args.pid old = c.index-lane.ensures ∙ ap (λ (k : ℕ). get_or lanes k old) c.from-index.ensures in
    let piece : Piece = record { start = c.args.start; payload = c.args.payload.now } in
    let moved = moved_over c.deref.result.now bytes c.deref-2.result.now placed old piece (Ok c.in-Ok.lane) c.deref.ensures.value c.deref-2.ensures.value c.in-Ok.ensures in
    subst (λ (k : ℕ). HasMoved (told (to_come_on c.args.self.now c.args.pid) piece) c.args.pid c.args.self.now (all_shown bytes placed (set lanes k c.in-Ok.lane)) None) (sym c.from-index.ensures)
    (lane_moved bytes placed lanes c.args.pid old c.in-Ok.lane piece c.args.self.now c.self.view_is lt is moved)

pub returns-in-Err-clause-moved : goal.returns-in-Err-clause-moved
returns-in-Err-clause-moved c =
    let f = c.self.inside in
    let bytes = f.bytes.items in
    let placed = f.placed.items in
    let lanes = f.lanes.items in
    let lt = lane_there bytes placed lanes c.args.pid c.args.self.now c.self.view_is c.requires.some in
    let old = c.index-lane.result.now in
    let is : old ≡ get_or lanes c.args.pid old = c.index-lane.ensures ∙ ap (λ (k : ℕ). get_or lanes k old) c.from-index.ensures in
    let piece : Piece = record { start = c.args.start; payload = c.args.payload.now } in
    let moved = moved_over c.deref.result.now bytes c.deref-2.result.now placed old piece (Err c.in-Err.rule) c.deref.ensures.value c.deref-2.ensures.value c.in-Err.ensures in
    lane_stays bytes placed lanes c.args.pid old c.in-Err.rule piece c.args.self.now c.self.view_is lt is moved
