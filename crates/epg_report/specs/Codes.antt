-- The exit status of each status.
use Rattle.std.specs.Prelude.{ℕ}
use Rattle.epg_report.specs.declared.status.Status.{Status}
use Rattle.epg_report.specs.declared.status.Status.TheVariants.{Done, Usage, BadScript, Disagrees, BadMux, BadFeed, BadStream, TooLong, OpenFault, ReadFault, WriteFault, Memory, NoView, NotAir, Short, TooMany, BadCheckpoint}

abbrev pub code_of : Status → ℕ
code_of Done = 0
code_of Usage = 2
code_of (BadScript line) = 3
code_of (Disagrees line kept found) = 3
code_of (BadMux fault) = 4
code_of (BadFeed feed line) = 5
code_of (BadStream packet) = 6
code_of (TooLong origin) = 7
code_of (OpenFault feed) = 8
code_of (ReadFault origin) = 9
code_of (WriteFault outlet) = 10
code_of Memory = 12
code_of (TooMany packet) = 13
code_of (NoView service) = 14
code_of (NotAir packet rule) = 15
code_of (Short packet) = 16
code_of (BadCheckpoint line) = 17
