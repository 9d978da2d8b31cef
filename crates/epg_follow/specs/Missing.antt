-- What comes of an air over a kill, where few packets were lost.
use Rattle.std.specs.Prelude.{ℕ, ◌≤◌, Bool, true, false, List, ◌++◌, length, map}
use Rattle.air_model.specs.Air.{Aired, air}
use Rattle.loss_laws.specs.Thinned.{Fate, IsThinnedAir}
use Rattle.journal_model.specs.declared.step.Entry.{Entry}
use Rattle.journal_air.specs.JournalScreenShown.{IsAsRead}
use Rattle.loss_laws.specs.Heard.{IsStrictlyHeard}
use Rattle.mux_model.specs.declared.mux.Mux.{Mux}
use Rattle.ts_packets.specs.Bytes.{Packet}
use Rattle.ts_packets.specs.Counting.{of_pid}
use Rattle.script_notes.specs.Pieces.{Piece}
use Rattle.epg_follow.specs.Bridges.{IsBridged}
use Rattle.epg_follow.specs.Stands.{Stands, standing}

abbrev pub fate_of : Bool → Packet → Fate
fate_of came p = record { packet = p; came = came }

-- packets that came, others that were lost, and others that came
abbrev pub fates_over : List Packet → List Packet → List Packet → List Fate
fates_over before lost after =
    map (fate_of true) before ++ (map (fate_of false) lost ++ map (fate_of true) after)

-- Where a kill took at most 14 packets of each PID, what came is a thinned air.
abbrev pub BridgedAirIsThinned : Type 0
BridgedAirIsThinned =
    (mux : Mux) (before : List Entry) (earlier : List Aired) (pieces : List Piece)
    (taken report : List ℕ) (stands : Stands mux before earlier pieces taken report)
    (more : List Entry) (cycles : List Aired)
    (is : IsBridged mux before earlier pieces taken report stands more cycles)
    → ((pid : ℕ) → length (of_pid pid is.sent.lost) ≤ 14)
    → IsThinnedAir ((earlier ++ stands.cycles) ++ cycles)
    (fates_over (air earlier ++ is.sent.sent) is.sent.lost (air cycles))

-- So a strict receiver completes each content from one airing, and once a cycle came whole it is
-- shown the guide of its publication, also over the kill.
abbrev pub BridgedRunsAreHeard : Type 0
BridgedRunsAreHeard =
    (mux : Mux) (before : List Entry) (earlier : List Aired) (pieces : List Piece)
    (taken report : List ℕ) (stands : Stands mux before earlier pieces taken report)
    (more : List Entry) (cycles : List Aired)
    (is : IsBridged mux before earlier pieces taken report stands more cycles)
    → ((pid : ℕ) → length (of_pid pid is.sent.lost) ≤ 14)
    → IsAsRead mux ((before ++ standing stands) ++ more)
    → IsStrictlyHeard mux ((before ++ standing stands) ++ more)
    ((earlier ++ stands.cycles) ++ cycles)
    (fates_over (air earlier ++ is.sent.sent) is.sent.lost (air cycles))
