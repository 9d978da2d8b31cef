use Rattle.std.proofs.Common.{◌≡◌, ℕ, ◌+◌, ◌-◌, ◌<◌, ◌++◌, get_or, drop, arith, sym, ap, ◌∙◌, subst}
use Rattle.eit_segments.specs.declared.event.EventAt.{EventAt}
use Rattle.eit_segments.specs.declared.piece.Piece.{Piece}
use Rattle.eit_segments.specs.Schedule.{section_runs, sections_from}
use Rattle.eit_segments.proofs.Cutting.{runs_left, left_some, left_fits, left_over, from_place, IsOf, joins, begins}
use Rattle.eit_segments.proofs.runs.put_segment.Goals as goal
use Rattle.eit_segments.proofs.runs.put_segment.Goals.{then-room-size+in_ok-push, else-room-size}

none : EventAt
none = record { start = record { 0 = 0 }; seconds = 0; size = 0 }

pub overflow_add-piece : goal.overflow_add-piece
unfolding none
overflow_add-piece c =
    let events = c.args.events.now in
    let i = c.loop-i.i in
    let rest = drop (i + 1) events in
    let size = (get_or events i none).size in
    let over = left_over c.loop-i.room i events none c.loop-i-test.true c.if-room-size.true in
    let some : 0 < runs_left (4078 - size) rest = left_some (4078 - size) rest in
    omega (arith, over, some, c.loop-i.invariant.few)

pub loop-i-preserved : goal.loop-i-preserved
unfolding none
loop-i-preserved c =
    let at = c.args.segment in
    let events = c.args.events.now in
    let i = c.loop-i.i in
    let p = c.loop-i.piece in
    let q = c.if-room-size.piece in
    let room = c.loop-i.room in
    let rest = drop (i + 1) events in
    let event = get_or events i none in
    let all = c.args.pieces.now ++ sections_from at.table at.last at.segment_last at.number c.args.from (section_runs events) in
    let here = from_place i events none c.loop-i-test.true in
    elim c.if-room-size.branch [
      | then-room-size+in_ok-push w ↦
          let over = left_over room i events none c.loop-i-test.true w.if-room-size.true in
          let next : q ≡ record { table = p.table; number = p.number + 1; last = p.last; segment_last = p.segment_last; from = p.to; to = p.to } = w.piece-is in
          let left : runs_left (c.if-room-size.room - event.size) rest ≡ runs_left (4078 - event.size) rest = ap (λ (n : ℕ). runs_left (n - event.size) rest) w.room-is in
          record {
            same = subst (IsOf at.table at.last at.segment_last) (sym next) c.loop-i.invariant.same;
            to = omega (arith, ap (λ (x : Piece). x.to) next, c.loop-i.invariant.to);
            few = omega (arith, ap (λ (x : Piece). x.number) next, over, left, c.loop-i.invariant.few);
            under_way = begins at.table at.last at.segment_last all c.loop-i.pieces c.if-room-size.pieces p q room c.if-room-size.room event (drop i events) rest c.loop-i.invariant.same c.loop-i.invariant.under_way here
                w.if-room-size.true (w.pieces-is ∙ w.in_ok-push.ensures.ok) next w.room-is;
          }
      | else-room-size w ↦
          let fits = left_fits room i events none c.loop-i-test.true w.if-room-size.false in
          let left : runs_left (c.if-room-size.room - event.size) rest ≡ runs_left (room - event.size) rest = ap (λ (n : ℕ). runs_left (n - event.size) rest) w.room-is in
          record {
            same = subst (IsOf at.table at.last at.segment_last) (sym w.piece-is) c.loop-i.invariant.same;
            to = omega (arith, ap (λ (x : Piece). x.to) w.piece-is, c.loop-i.invariant.to);
            few = omega (arith, ap (λ (x : Piece). x.number) w.piece-is, fits, left, c.loop-i.invariant.few);
            under_way = joins at.table at.last at.segment_last all c.loop-i.pieces c.if-room-size.pieces p q room c.if-room-size.room event (drop i events) rest c.loop-i.invariant.under_way here
                w.if-room-size.false w.pieces-is w.piece-is w.room-is;
          }
    ]
