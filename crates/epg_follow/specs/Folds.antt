-- Folding by parts.
use Rattle.std.specs.Prelude.{◌≡◌, ℕ, List, [], ◌++◌}
use Rattle.air_model.specs.Air.{Aired, airings_of}
use Rattle.cycle_player.specs.Airs.{AreMadeAt}
use Rattle.epg_play.specs.Checkpointed.{IsCheckpoint}
use Rattle.journal_model.specs.declared.step.Entry.{Entry}
use Rattle.mux_model.specs.declared.mux.Mux.{Mux}

-- A journal and an air of it have one checkpoint.
abbrev pub CheckpointsAreOne : Type 0
CheckpointsAreOne =
    (mux : Mux) (journal : List Entry) (cycles : List Aired) (one other : List ℕ)
    → IsCheckpoint mux journal cycles one → IsCheckpoint mux journal cycles other → one ≡ other

-- So a fold on the checkpoint of a front of a journal has the checkpoint of a fold of the whole.
abbrev pub FoldsAgain : Type 0
FoldsAgain =
    (mux : Mux) (journal : List Entry) (earlier cycles all : List Aired) (parts whole : List ℕ)
    → AreMadeAt mux.rate [] earlier → AreMadeAt mux.rate earlier cycles → AreMadeAt mux.rate [] all
    → airings_of (earlier ++ cycles) ≡ airings_of all
    → IsCheckpoint mux journal (earlier ++ cycles) parts → IsCheckpoint mux journal all whole
    → parts ≡ whole
