-- What a run that follows a script leaves behind a journal and an air of it.
use Rattle.std.specs.Prelude.{◌≡◌, ◌⊎◌, ◌<◌, ℕ, Bool, List, [], ◌∷◌, ◌++◌, drop, length, take}
use Rattle.std.specs.Io.KnownBytes.{Appends}
use Rattle.si_causes.specs.Causes.{Rose}
use Rattle.input_lines.specs.Ahead.{Ahead}
use Rattle.air_model.specs.Air.{Aired, airings_of}
use Rattle.mux_model.specs.declared.mux.Mux.{Mux}
use Rattle.journal_model.specs.declared.step.Entry.{Entry}
use Rattle.desk_core.specs.Journal.{Legal}
use Rattle.cycle_player.specs.Tallies.{tally_of}
use Rattle.epg_report.specs.declared.status.Status.{Status}
use Rattle.epg_report.specs.declared.status.Status.TheVariants.{BadScript, Disagrees, Done, Memory, OpenFault, ReadFault, TooLong as PastLimit, WriteFault}
use Rattle.epg_report.specs.declared.status.Origin.TheVariants.{Input, Recording}
use Rattle.epg_report.specs.declared.status.Outlet.TheVariants.{Air, Report}
use Rattle.epg_report.specs.Rates.{rate_line}
use Rattle.epg_report.specs.Texts.{fault_lines}
use Rattle.epg_report.specs.Told.{ReportTaken}
use Rattle.epg_play.specs.Behind.{AirOn, CutAirOn}
use Rattle.epg_play.specs.Script.{Stop, Ended, NoCommand, Disagreed, TooLong, Unread}
use Rattle.script_notes.specs.Pieces.{Piece, entries_in, piece_text, pieces_text}
use Rattle.epg_follow.specs.Course.{Followed, followed}
use Rattle.epg_follow.specs.Items.{IsSwapEntry}

-- The report took a text, and after it how the run ends, or a proper front of that where the report failed.
abbrev pub EndsWith : ReportTaken → List ℕ → List ℕ → Type 0
EndsWith report text ending =
    Appends report.old report.new (text ++ ending)
    ⊎ (Rose report.faults_old report.faults_new × ((n : ℕ) × (n < length ending) × Appends report.old report.new (text ++ take n ending)))

-- The text with which a run ends: the comment on the line that ends the script, at a bit rate whether these cycles repeat in time what is
-- frequent, and the line of the fault.
abbrev pub ending_text : Mux → List Aired → List Piece → Status → List ℕ
ending_text mux cycles comment status =
    pieces_text comment ++ (rate_line mux.rate (tally_of mux.rate (airings_of cycles)) ++ fault_lines status)

-- the text that comes next in a report: that of the next piece, or at the end of the script that with which the run ends
abbrev pub next_text : List Piece → List ℕ → List ℕ
next_text [] ending = ending
next_text (piece ∷ pieces) ending = piece_text piece

module _ (mux : Mux) (journal : List Entry) (earlier : List Aired) (air report : ReportTaken) (script : Followed) where
  abbrev pub first_pieces : ℕ → List Piece
  first_pieces k = take k script.pieces

  -- the journal of the first k pieces
  abbrev pub more_of : ℕ → List Entry
  more_of k = entries_in (first_pieces k)

  -- all pieces were reported, and their cycles sent
  pub record FollowedAll (stop : Stop) (status : Status) : Type 0 where
    pub stopped : script.stop ≡ stop
    pub legal : Legal mux (journal ++ entries_in script.pieces)
    pub air_is : AirOn mux journal (entries_in script.pieces) earlier air
    pub report_is : EndsWith report (pieces_text script.pieces) (ending_text mux air_is.cycles script.comment status)

  -- The script ended, and the report took all of it.
  pub record FollowedWhole : Type 0 where
    pub stopped : script.stop ≡ Ended
    pub legal : Legal mux (journal ++ entries_in script.pieces)
    pub air_is : AirOn mux journal (entries_in script.pieces) earlier air
    pub report_is : Appends report.old report.new (pieces_text script.pieces ++ ending_text mux air_is.cycles script.comment Done)

  -- The air failed in the cycle of the last of the first k pieces, a swap.
  pub record FollowedToCut : Type 0 where
    pub k : ℕ
    pub legal : Legal mux (journal ++ more_of k)
    pub air_is : CutAirOn mux journal (more_of k) earlier air
    pub report_is : EndsWith report (pieces_text (first_pieces k)) (ending_text mux (air_is.whole ++ air_is.cut ∷ []) [] (WriteFault Air))

  -- The report failed after the first k pieces: of what comes next it took a proper front, and of that the air took nothing.
  pub record FollowedUnreported : Type 0 where
    pub k : ℕ
    pub legal : Legal mux (journal ++ more_of k)
    pub air_is : AirOn mux journal (more_of k) earlier air
    pub n : ℕ
    pub proper : n < length (next_text (drop k script.pieces) (ending_text mux air_is.cycles [] Done))
    pub report_is : Appends report.old report.new
        (pieces_text (first_pieces k) ++ take n (next_text (drop k script.pieces) (ending_text mux air_is.cycles [] Done)))

  -- the cycles of these pieces were sent, or all but that of the last, which is a swap
  abbrev pub SentBut : List Piece → Type 0
  SentBut pieces =
      AirOn mux journal (entries_in pieces) earlier air
      ⊎ ((front : List Piece) × (last : Piece) × (pieces ≡ front ++ last ∷ []) × IsSwapEntry last × AirOn mux journal (entries_in front) earlier air)

  -- Memory was wanting after the first k pieces: their cycles were sent, or all but that of the last, of which only a failed air has a
  -- front.
  pub record FollowedToMemory : Type 0 where
    pub k : ℕ
    pub air_is : SentBut (first_pieces k) ⊎ (Rose air.faults_old air.faults_new × CutAirOn mux journal (more_of k) earlier air)
    pub report_is : EndsWith report (pieces_text (first_pieces k)) (fault_lines Memory)

  -- what is left with each status
  abbrev pub FollowedTo : Status → Type 0
  FollowedTo Done = FollowedWhole
  FollowedTo (BadScript n) = FollowedAll (NoCommand n) (BadScript n)
  FollowedTo (Disagrees n kept found) = FollowedAll (Disagreed n kept found) (Disagrees n kept found)
  FollowedTo (PastLimit Input) = FollowedAll TooLong (PastLimit Input)
  FollowedTo (ReadFault Input) = FollowedAll Unread (ReadFault Input)
  FollowedTo (WriteFault Air) = FollowedToCut
  FollowedTo (WriteFault Report) = FollowedUnreported
  FollowedTo Memory = FollowedToMemory
  FollowedTo (OpenFault n) = Unit {0}
  FollowedTo (ReadFault Recording) = Unit {0}
  FollowedTo status = ⊥

-- What a run leaves with each status that follows the script of these lines, behind a journal and an air of it.
abbrev pub FollowsBehind : Bool → Mux → List Entry → List Aired → ReportTaken → ReportTaken → Ahead → Status → Type 0
FollowsBehind keep mux journal earlier air report lines status = FollowedTo mux journal earlier air report (followed keep 0 mux journal lines) status
