use Rattle.std.proofs.Common.{◌≡◌, arith}
use Rattle.std.specs.Prelude.{is_some}
use Rattle.std.proofs.lemmas.Grind.{common_steps}
use Rattle.si_time.specs.Readings.{moment_in}
use Rattle.script_notes.proofs.LineFacts.{same_some}
use Rattle.script_notes.proofs.why_fields.why_tick.Goals as goal

pub returns : goal.returns
returns c =
    let some : is_some c.read_moment.result ≡ is_some (moment_in c.as_bytes.result.now) = same_some c.read_moment.result (moment_in c.as_bytes.result.now) c.read_moment.ensures.value in
    grind (arith, common_steps)
