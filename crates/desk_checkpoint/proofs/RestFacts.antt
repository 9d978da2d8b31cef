-- What reading the rest of a checkpoint gives, by what its next part gives.
use Rattle.std.proofs.Common.{◌≡◌, ◌≤◌, ℕ, List, sym, subst}
use Rattle.std.specs.Prelude.{Option, Err, Result}
use Rattle.si_causes.proofs.CauseFacts.{Rose-from}
use Rattle.si_causes.specs.Reading.{Reading}
use Rattle.si_causes.specs.declared.stop.ReadStop.TheVariants.{Failed, TooLong as Overlong}
use Rattle.input_lines.specs.declared.stop.EditStop.{EditStop}
use Rattle.input_lines.specs.declared.stop.EditStop.TheVariants as edits
use Rattle.input_lines.specs.Ahead.{Ahead, Found, Stop, NoCommand, TooLong, ahead}
use Rattle.input_lines.specs.Reads.{Gives, Takes}
use Rattle.desk_checkpoint.specs.Checkpoints.{Checkpoint, steps_may_come}
use Rattle.desk_checkpoint.specs.Reads.{NumberedPart, first_part, read_on}
use Rattle.desk_checkpoint.specs.Starts.{GivesRest, HasRestCause}
use Rattle.desk_checkpoint.proofs.ReadFacts.{read_stopped}

-- no part came
pub rest_stop : {S : Type 0} (left : S → Option (List ℕ)) (now new : Reading S) (cp after : Checkpoint) (stop : EditStop) (rest : List ℕ)
    → Gives {T = NumberedPart} left (first_part (steps_may_come cp)) now new rest (Err stop) → GivesRest (read_on cp (ahead now rest)) after (Err stop)
rest_stop left now new cp after (edits.NoCommand n) rest g = read_stopped cp (ahead now rest) (NoCommand n) g
rest_stop left now new cp after (edits.Read Overlong) rest g = read_stopped cp (ahead now rest) TooLong g
rest_stop left now new cp after (edits.Read Failed) rest g = tt
rest_stop left now new cp after edits.Memory rest g = tt

-- what is read on from here is what was read on from before
pub rest_from : (found here : Result Checkpoint Stop) (after : Checkpoint) (r : Result (Unit {0}) EditStop) → found ≡ here → GivesRest here after r → GivesRest found after r
rest_from found here after r e gives = subst (λ (f : Result Checkpoint Stop). GivesRest f after r) (sym e) gives

-- a failed read has its cause
pub rest_cause : {S T : Type 0} (U : Type 0) (left : S → Option (List ℕ)) (faults : S → ℕ) (first : Ahead → Found T) (old now new : Reading S) (stop : EditStop)
    → faults old.source ≤ faults now.source → Takes {T = T} left faults first now new (Err stop) → HasRestCause {T = U} (faults old.source) (faults new.source) (Err stop)
rest_cause U left faults first old now new (edits.Read Failed) le t = Rose-from _ _ _ le t.cause
rest_cause U left faults first old now new (edits.Read Overlong) le t = tt
rest_cause U left faults first old now new (edits.NoCommand n) le t = tt
rest_cause U left faults first old now new edits.Memory le t = tt
