-- What reading a description tells.
use Rattle.std.specs.Prelude.{◌≡◌, ℕ, Bool, true, false, List, Option, Some, None, Ok, Err, Result, IfSome}
use Rattle.si_causes.specs.Reading.{Reading}
use Rattle.input_lines.specs.Reads.{ReadOf}
use Rattle.input_lines.specs.declared.stop.EditStop.{EditStop}
use Rattle.input_lines.specs.declared.stop.EditStop.TheVariants as edit
use Rattle.mux_config.specs.declared.fault.Word.TheVariants.{End}
use Rattle.mux_config.specs.declared.fault.MuxFault.TheVariants.{Missing}
use Rattle.mux_model.specs.declared.mux.Mux.{Mux}
use Rattle.mux_config.specs.declared.stop.MuxStop.{MuxStop}
use Rattle.mux_config.specs.declared.stop.MuxStop.TheVariants.{Fault, Read, Memory}
use Rattle.mux_lines.specs.declared.record.Numbered.{Numbered}
use Rattle.mux_lines.specs.declared.record.RecordFound.{RecordFound}
use Rattle.mux_config.specs.Descriptions.{Description, and_found, description_ahead, fault_of, is_end}

-- what records come to, or want of memory
abbrev pub Makes : Description → Result Mux MuxStop → Type 0
Makes made (Ok mux) = made ≡ Ok mux
Makes made (Err (Fault fault)) = made ≡ Err fault
Makes made (Err (Read stop)) = ⊥
Makes made (Err Memory) = Unit {0}

-- what taking line n tells, of which this was found
abbrev pub TookLine : List Numbered → ℕ → RecordFound → List Numbered → Result Bool MuxStop → Type 0
TookLine before n found after (Ok true) = (fault_of before n found ≡ None) × (is_end found ≡ true) × (after ≡ before)
TookLine before n found after (Ok false) = (fault_of before n found ≡ None) × (is_end found ≡ false) × (after ≡ and_found before n found)
TookLine before n found after (Err (Fault f)) = fault_of before n found ≡ Some f
TookLine before n found after (Err (Read stop)) = ⊥
TookLine before n found after (Err Memory) = Unit {0}

-- the answer to what was read; where the line of the `end` is missing, that is the fault
abbrev pub answer_to : Result Description EditStop → Result Mux MuxStop
answer_to (Ok (Ok mux)) = Ok mux
answer_to (Ok (Err fault)) = Err (Fault fault)
answer_to (Err (edit.NoCommand n)) = Err (Fault (Missing End))
answer_to (Err (edit.Read stop)) = Err (Read stop)
answer_to (Err edit.Memory) = Err Memory

-- A call read the description ahead, and this is the answer to it. A reader that has stopped gives its stop.
pub record ReadMux {S : Type 0} (left : S → Option (List ℕ)) (faults : S → ℕ) (alike : S → S → Type 0) (old new : Reading S) (result : Result Mux MuxStop) : Type 0 where
  pub read : Result Description EditStop
  pub answer : result ≡ answer_to read
  pub reads : ReadOf left faults alike description_ahead old new read
  pub sticky : IfSome old.stop (λ stop. (result ≡ Err (Read stop)) × (new ≡ old))
