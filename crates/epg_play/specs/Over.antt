-- What a run leaves over the text of its input.
use Rattle.std.specs.Prelude.{◌≡◌, ℕ, List, ◌++◌, Option, Some, Ok, Err}
use Rattle.si_causes.specs.Text.{lines_left}
use Rattle.input_lines.specs.Ahead.{Ahead, Came, Found, Stopped, ahead_in}
use Rattle.mux_model.specs.declared.mux.Mux.{Mux}
use Rattle.mux_config.specs.Descriptions.{Description, description_ahead}
use Rattle.mux_config.specs.Texts.{described_taken}
use Rattle.epg_report.specs.declared.status.Status.{Status}
use Rattle.epg_report.specs.declared.status.Status.TheVariants.{BadMux, Memory, ReadFault}
use Rattle.epg_report.specs.declared.status.Origin.TheVariants.{Input}
use Rattle.epg_play.specs.Leaves.{script_status}
use Rattle.epg_play.specs.Script.{short_of}

-- What a run leaves, by the description of its multiplex: after a whole one what `Behind` says, and else nothing.
abbrev pub LeavesBy : (Status → Type 0) → (Mux → Ahead → Status → Type 0) → Found Description → Status → Type 0
LeavesBy Idle Behind (Came (Ok mux) lines) status = Behind mux lines status
LeavesBy Idle Behind (Came (Err fault) lines) status = (status ≡ BadMux fault) × Idle status
LeavesBy Idle Behind (Stopped stop) status = (status ≡ script_status (short_of stop)) × Idle status

-- A read failed: these bytes were taken from the input, and the others are left. The lines are those that were whole in the bytes taken.
pub record LeavesTaken (Idle : Status → Type 0) (Behind : Mux → Ahead → Status → Type 0) (text : List ℕ) (left : Option (List ℕ)) : Type 0 where
  pub taken : List ℕ
  pub rest : List ℕ
  pub text_is : text ≡ taken ++ rest
  pub left_is : left ≡ Some rest
  pub leaves : LeavesBy Idle Behind (described_taken taken) (ReadFault Input)

-- the description in a text of which so many bytes may be taken
abbrev pub described_within : ℕ → List ℕ → Found Description
described_within limit text = description_ahead (ahead_in 1 (lines_left limit text))

-- what a run leaves over such a text
abbrev pub LeavesOver : ℕ → (Status → Type 0) → (Mux → Ahead → Status → Type 0) → List ℕ → Option (List ℕ) → Status → Type 0
LeavesOver limit Idle Behind text left (ReadFault Input) = LeavesTaken Idle Behind text left
LeavesOver limit Idle Behind text left Memory = Unit {0}
LeavesOver limit Idle Behind text left status = LeavesBy Idle Behind (described_within limit text) status
