use Rattle.std.proofs.Common.{◌≡◌, ℕ, ◌+◌, ◌-◌, get_or, drop, arith, ap}
use Rattle.eit_segments.specs.declared.event.EventAt.{EventAt}
use Rattle.eit_segments.proofs.Cutting.{runs_left, left_fits, left_over}
use Rattle.eit_segments.proofs.runs.count_runs.Goals as goal
use Rattle.eit_segments.proofs.runs.count_runs.Goals.{then-room-size, else-room-size}

none : EventAt
none = record { start = record { 0 = 0 }; seconds = 0; size = 0 }

pub loop-i-preserved : goal.loop-i-preserved
unfolding none
loop-i-preserved c =
    let events = c.args.events.now in
    let i = c.loop-i.i in
    let room = c.loop-i.room in
    let size = (get_or events i none).size in
    elim c.if-room-size.branch [
      | then-room-size w ↦
          let over = left_over room i events none c.loop-i-test.true w.if-room-size.true in
          let is_room : c.if-room-size.room - size ≡ 4078 - size = ap (λ (n : ℕ). n - size) w.room-is in
          let same : runs_left (c.if-room-size.room - size) (drop (i + 1) events) ≡ runs_left (4078 - size) (drop (i + 1) events) = ap (λ (n : ℕ). runs_left n (drop (i + 1) events)) is_room in
          record { sum = omega (arith, over, same, w.runs-is, c.loop-i.invariant.sum); few = omega (arith, w.runs-is, c.loop-i.invariant.few) }
      | else-room-size w ↦
          let fits = left_fits room i events none c.loop-i-test.true w.if-room-size.false in
          let same : runs_left (c.if-room-size.room - size) (drop (i + 1) events) ≡ runs_left (room - size) (drop (i + 1) events) = ap (λ (n : ℕ). runs_left (n - size) (drop (i + 1) events)) w.room-is in
          record { sum = omega (arith, fits, same, w.runs-is, c.loop-i.invariant.sum); few = omega (arith, w.runs-is, c.loop-i.invariant.few) }
    ]
