-- Why a script ends that passes over lines at fault.
use Rattle.std.specs.Prelude.{true, List}
use Rattle.input_lines.specs.Ahead.{Ahead}
use Rattle.mux_model.specs.declared.mux.Mux.{Mux}
use Rattle.journal_model.specs.declared.step.Entry.{Entry}
use Rattle.epg_play.specs.Script.{Ended, Stop, TooLong, Unread}
use Rattle.epg_follow.specs.Course.{followed}

-- the script ended, or no more of it could be read
abbrev pub IsNoFault : Stop → Type 0
IsNoFault Ended = Unit {0}
IsNoFault TooLong = Unit {0}
IsNoFault Unread = Unit {0}
IsNoFault stop = ⊥

-- With `--keep-going` no line at fault ends a script.
abbrev pub KeepingGoesOn : Type 0
KeepingGoesOn =
    (mux : Mux) (journal : List Entry) (lines : Ahead) → IsNoFault (followed true 0 mux journal lines).stop
