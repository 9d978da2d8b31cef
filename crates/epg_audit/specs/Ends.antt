-- What is reported of an audit.
use Rattle.std.specs.Prelude.{◌++◌, List, ℕ, [], Option, Some, None, codes, decimal, Ok, Err, Result}
use Rattle.epg_report.specs.declared.status.Status.{Status}
use Rattle.epg_report.specs.declared.status.Status.TheVariants.{Done}
use Rattle.epg_audit.specs.declared.cycles.AirCount.{AirCount}

-- the field of the null packets that were passed over, where they may stand
abbrev pub nulls_field : Option ℕ → List ℕ
nulls_field None = []
nulls_field (Some n) = codes "\t" ++ decimal n

-- the line of an air
abbrev pub air_line : AirCount → List ℕ
air_line count = codes "air\t" ++ decimal count.packets ++ codes "\t" ++ decimal count.swaps ++ nulls_field count.nulls ++ codes "\n"

-- the status that was met
abbrev pub met_by : Result AirCount Status → Status
met_by (Ok count) = Done
met_by (Err status) = status

-- the line of the air, where it is one
abbrev pub count_text : Result AirCount Status → List ℕ
count_text (Ok count) = air_line count
count_text (Err status) = []
