-- The made description and the lines of the control, which are the same for all numbers, computed.
use Rattle.std.specs.Prelude.{refl}
use Rattle.std.specs.Fmt.{digits}
use Rattle.si_time.specs.Readings.{readings_compute}
use Rattle.input_lines.specs.Fields.{fields_compute}
use Rattle.script_lines.specs.Controls.{control_of}
use Rattle.desk_hall.specs.Reads.{controls_ahead}
use Rattle.epg_soak.specs.Laws.{MadeDescriptionIsRead, MadeControlIsRead}

pub description_read : MadeDescriptionIsRead
unfolding digits readings_compute fields_compute
description_read = (refl, refl)

pub control_read : MadeControlIsRead
unfolding digits readings_compute fields_compute control_of controls_ahead
control_read = refl
