-- What the made texts are read as.
use Rattle.std.specs.Prelude.{◌≡◌, ◌≤◌, ℕ, [], ◌∷◌, ◌++◌, Ok, codes}
use Rattle.si_causes.specs.Text.{text_lines}
use Rattle.input_lines.specs.Ahead.{Ahead, Came, Ends, End, ahead_in}
use Rattle.mux_config.specs.Descriptions.{description_ahead}
use Rattle.script_lines.specs.Edits.{edits_of}
use Rattle.desk_hall.specs.Reads.{controls_ahead}
use Rattle.si_workload.specs.Texts.{mux_text, control_text, feed_text}
use Rattle.epg_soak.specs.WorkloadLoad.{soak_mux, soak_controls, soak_edits}

-- the lines of the control, with their numbers, behind those of the description
abbrev pub control_behind : Ahead
control_behind = record {
  rows =
      (13, codes "tick,1993-10-13T06:00:00Z") ∷ (14, codes "publish") ∷ (15, codes "tick,1993-10-13T12:00:00Z") ∷ (16, codes "publish")
      ∷ (17, codes "tick,1993-10-13T18:00:00Z") ∷ (18, codes "publish") ∷ [];
  tail = Ends 19;
}

-- The made description alone is whole; with the lines of the control behind it, it leaves those.
abbrev pub MadeDescriptionIsRead : Type 0
MadeDescriptionIsRead =
    (description_ahead (ahead_in 1 (text_lines mux_text)) ≡ Came (Ok soak_mux) (record { rows = []; tail = Ends 13 }))
    × (description_ahead (ahead_in 1 (text_lines (mux_text ++ control_text))) ≡ Came (Ok soak_mux) control_behind)

-- What is ahead behind the made description is what the control asks for, up to the end.
abbrev pub MadeControlIsRead : Type 0
MadeControlIsRead = controls_ahead control_behind ≡ (soak_controls, End)

-- The made text of feed 1 or 2 is its edits, up to the end, whatever the number.
abbrev pub MadeFeedsAreRead : Type 0
MadeFeedsAreRead = (number feed : ℕ) → 1 ≤ feed → feed ≤ 2 → edits_of (feed_text number feed) ≡ (soak_edits number feed, End)
