-- What a report says of how a run ended.
use Rattle.std.specs.Prelude.{ℕ, zero, suc, ◌++◌, Bool, true, false, List, [], codes, decimal, if◌then◌else◌}
use Rattle.mux_config.specs.declared.fault.Word.{Word}
use Rattle.mux_config.specs.declared.fault.Word.TheVariants.{Network, Stream, Service, End}
use Rattle.mux_config.specs.declared.fault.MuxFault.{MuxFault}
use Rattle.mux_config.specs.declared.fault.MuxFault.TheVariants.{Line, Range, Twice, Full, Missing}
use Rattle.journal_text.specs.Entries.{outcome_text}
use Rattle.journal_model.specs.Steps.{IsInWindow}
use Rattle.air_model.specs.declared.rule.Rule.{Rule}
use Rattle.air_model.specs.declared.rule.Rule.TheVariants.{Shape, Pid, Counter, Pointer, Bytes}
use Rattle.epg_report.specs.declared.status.Status.{Status}
use Rattle.epg_report.specs.declared.status.Status.TheVariants.{Done, Usage, BadScript, Disagrees, BadMux, BadFeed, BadStream, TooLong, OpenFault, ReadFault, WriteFault, Memory, NoView, NotAir, Short, TooMany, BadCheckpoint}
use Rattle.epg_report.specs.declared.status.Origin.{Origin}
use Rattle.epg_report.specs.declared.status.Origin.TheVariants.{Input, Feed, Recording}
use Rattle.epg_report.specs.declared.status.Outlet.TheVariants.{Air, Report}

-- the line of a fault
abbrev pub fault_line : List ℕ → List ℕ
fault_line text = codes "fault: " ++ text ++ codes "\n"

abbrev pub word_text : Word → List ℕ
word_text Network = codes "network"
word_text Stream = codes "stream"
word_text Service = codes "service"
word_text End = codes "end"

-- what the line of a fault of the description of the multiplex says
abbrev pub mux_fault_text : MuxFault → List ℕ
mux_fault_text (Line n) = codes "mux line " ++ decimal n ++ codes " unreadable"
mux_fault_text (Range n) = codes "mux line " ++ decimal n ++ codes " out of range"
mux_fault_text (Twice n earlier) = codes "mux line " ++ decimal n ++ codes " repeats line " ++ decimal earlier
mux_fault_text (Full n) = codes "mux line " ++ decimal n ++ codes " has no room"
mux_fault_text (Missing word) = codes "mux lacks " ++ word_text word

abbrev pub origin_text : Origin → List ℕ
origin_text Input = codes "input"
origin_text (Feed f) = codes "feed " ++ decimal f
origin_text Recording = codes "recording"

-- what is opened by its number: a recording or a checkpoint by 0, and a feed by its own
abbrev pub opened : ℕ → Origin
opened zero = Recording
opened (suc f) = Feed (suc f)

-- the word of a rule that a packet breaks
abbrev pub rule_text : Rule → List ℕ
rule_text Shape = codes "shape"
rule_text Pid = codes "pid"
rule_text Counter = codes "counter"
rule_text Pointer = codes "pointer"
rule_text Bytes = codes "bytes"

-- what the line of a status says
abbrev pub fault_text : Status → List ℕ
fault_text Done = []
fault_text Usage = codes "usage"
fault_text (BadScript n) = codes "input" ++ codes " line " ++ decimal n ++ codes " is no command"
fault_text (Disagrees n kept found) = codes "input line " ++ decimal n ++ codes " kept " ++ outcome_text kept ++ codes " found " ++ outcome_text found
fault_text (BadMux fault) = mux_fault_text fault
fault_text (BadFeed f n) = origin_text (Feed f) ++ codes " line " ++ decimal n ++ codes " is no command"
fault_text (BadStream n) = codes "packet " ++ decimal n
fault_text (TooLong origin) = origin_text origin ++ codes " too long"
fault_text (OpenFault f) = origin_text (opened f) ++ codes " not opened"
fault_text (ReadFault origin) = origin_text origin ++ codes " not read"
fault_text (WriteFault Air) = codes "air not written"
fault_text (WriteFault Report) = []
fault_text Memory = codes "memory"
fault_text (TooMany n) = codes "packet " ++ decimal n ++ codes " has a key too many"
fault_text (NoView service) = codes "no service " ++ decimal service
fault_text (NotAir n rule) = codes "packet " ++ decimal n ++ codes " breaks " ++ rule_text rule
fault_text (Short n) = codes "packet " ++ decimal n ++ codes " is missing"
fault_text (BadCheckpoint n) = codes "checkpoint line " ++ decimal n

-- Done has no line, nor has a report that could not be written
abbrev pub has_line : Status → Bool
has_line Done = false
has_line (WriteFault Report) = false
has_line status = true

-- the line that names the fault of a status, or nothing
abbrev pub fault_lines : Status → List ℕ
fault_lines status = if has_line status then fault_line (fault_text status) else []

-- the outcomes that the line of a status tells can be written
abbrev pub CanBeSaid : Status → Type 0
CanBeSaid (Disagrees n kept found) = IsInWindow kept × IsInWindow found
CanBeSaid status = Unit {0}
