use Rattle.std.proofs.Common.{◌+◌, ◌*◌}
use Rattle.si_time.proofs.ReadFacts.{day_number-result}
use Rattle.si_time.proofs.readings.date_at_front.Goals as goal

pub returns : goal.returns
returns c =
    let text = c.args.text.now in
    rw (← c.number_at.ensures.value, ← c.number_at-2.ensures.value, ← c.number_at-3.ensures.value, ← c.number_at-4.ensures.value)
    (day_number-result (c.number_at.result * 100 + c.number_at-2.result) c.number_at-3.result c.number_at-4.result c.day_number.result c.day_number.ensures.number c.day_number.ensures.none)
