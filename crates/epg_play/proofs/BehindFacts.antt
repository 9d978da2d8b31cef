-- What a run leaves behind a journal and its air, from the course that was played and how its report ended.
use Rattle.std.proofs.Common.{◌≡◌, ℕ, Bool, true, false, List, [], ◌∷◌, ◌++◌, take, refl, sym, ap, ◌∙◌, subst, append-nil, inl, inr}
use Rattle.std.specs.Prelude.{Option, Some, None, Ok, Err, Result, not}
use Rattle.std.specs.Io.KnownBytes.{Appends}
use Rattle.si_causes.specs.Causes.{AppendsFront}
use Rattle.si_causes.specs.declared.stop.ReadStop.TheVariants.{Failed}
use Rattle.input_lines.specs.Ahead.{Ahead}
use Rattle.version_book.specs.Airings.{AiredTables}
use Rattle.air_model.specs.Air.{Aired, airings_of}
use Rattle.mux_model.specs.declared.mux.Mux.{Mux}
use Rattle.journal_model.specs.declared.step.Entry.{Entry}
use Rattle.journal_model.specs.Steps.{Command}
use Rattle.desk_core.specs.Journal.{journal_after}
use Rattle.desk_core.specs.Desks.{DeskState}
use Rattle.journal_text.specs.Entries.{journal_text}
use Rattle.cycle_player.specs.Sending.{Sending}
use Rattle.cycle_player.specs.Tallies.{tally_of}
use Rattle.cycle_player.proofs.Airs.{airings_are as cycle_airings}
use Rattle.journal_air.specs.Air.{airings}
use Rattle.journal_air.proofs.Heard.{airs_heard}
use Rattle.desk_checkpoint.specs.declared.start.Start.{Start}
use Rattle.desk_checkpoint.specs.Text.{start_text}
use Rattle.journal_air.specs.OnAir.{HasAired, HasAiredFront}
use Rattle.journal_air.specs.Tallied.{HasTallied}
use Rattle.epg_report.specs.declared.status.Status.{Status}
use Rattle.epg_report.specs.declared.status.Status.TheVariants.{Done, ReadFault, WriteFault}
use Rattle.epg_report.specs.declared.status.Origin.TheVariants.{Input}
use Rattle.epg_report.specs.declared.status.Outlet.TheVariants.{Air}
use Rattle.epg_report.specs.Ends.{ReportEnds, or_report}
use Rattle.epg_report.specs.Rates.{rate_line}
use Rattle.epg_report.specs.Texts.{fault_lines}
use Rattle.epg_report.specs.Told.{ReportTaken, Reported}
use Rattle.epg_play.specs.declared.stop.PlayStop.{PlayStop}
use Rattle.epg_play.specs.declared.stop.PlayStop.TheVariants.{NoMux as Undescribed, Read, Air as OnAir, Memory as NoMemory}
use Rattle.epg_play.specs.Leaves.{met_by, script_status, status_for}
use Rattle.epg_play.specs.Played.{AiredTo, DeskDid, TalliedTo, course, desk_after}
use Rattle.epg_play.specs.Script.{Stop}
use Rattle.epg_play.proofs.TypedFacts.{AreTypedCommands, first-typed, played_typed}
use Rattle.epg_play.specs.declared.played.Course.{Course}
use Rattle.epg_play.specs.declared.played.Played.{Played}
use Rattle.epg_play.specs.Checkpointed.{HasRun, IsCheckpoint}
use Rattle.journal_model.specs.Raising.{all_raised}
use Rattle.epg_play.specs.Items.{IsAt}
use Rattle.epg_play.specs.Courses.{CourseBehind, EndsAs, Finished, HandedBy, IsCourseText, made_text}
use Rattle.epg_play.specs.Behind.{CutOn, IsReport, LeavesBehind, StoppedOn, WentOn, before_fault, new_text, played_behind}
use Rattle.epg_play.proofs.CourseFacts.{ended_is}
use Rattle.epg_play.proofs.SentBehind.{whole_sent_behind}
use Rattle.epg_play.proofs.GoingOn.{IsBase, air_on, course_same, cut_on, desk_with, is_air_on, legal_on, made_on, made_same, read_on, run_on, text_on, within_on}

-- ---- reports

-- the report of a fault is the text and the line of the fault, whether or not it was taken whole
pub reported_fault : (met : Status) (text : List ℕ) (report : ReportTaken) (status : Status) → or_report met ≡ met → ReportEnds met text report status → (status ≡ met) × Reported report (text ++ fault_lines met)
reported_fault met text report status own (inl (took, is)) = (is, inl took)
reported_fault met text report status own (inr (rose, front, is)) = (is ∙ own, inr (rose, front))

-- of a course that a fault ended
abbrev ended_text : Bool → Course → List ℕ
ended_text false behind = made_text behind
ended_text true behind = []

no_text : (fold : Bool) (behind : Course) (stop : PlayStop) (text : List ℕ) → IsCourseText fold behind (status_for stop) text → text ≡ ended_text fold behind
no_text false behind stop text is = is
no_text true behind (Read Failed) text is = is
no_text true behind other text is = is

own_status : (stop : PlayStop) → or_report (status_for stop) ≡ status_for stop
own_status (Read Failed) = refl
own_status other = refl

module _ (fold : Bool) (mux : Mux) (shift : ℕ) (journal short : List Entry) (earlier : List Aired) (base : IsBase mux shift journal short) (run : HasRun mux journal earlier)
    (took report : ReportTaken) (lines : Ahead) (behind : Course) (end : DeskState) where
  abbrev rest : List Command × Stop
  rest = played_behind mux journal lines

  abbrev more : List Command → List Entry
  more commands = journal_after mux journal commands

  -- what is known of a course from a desk with the short journal
  pub record IsOn : Type 0 where
    pub at : IsAt (desk_with mux short) end behind.desk
    pub shift_is : behind.desk.shift ≡ shift
    pub keeps : behind.desk.keeps ≡ not fold

  made_are : IsOn → fold ≡ false → (commands : List Command) → end ≡ desk_after (desk_with mux short) commands → behind.desk.made.items ≡ more commands
  made_are on e commands did =
      on.at.made (on.keeps ∙ ap not e)
      ∙ ap (λ (n : ℕ). all_raised n on.at.more) on.shift_is
      ∙ made_same mux shift journal short base end commands on.at.more did on.at.entries

  -- the line on the bit rate, of cycles with the airings of the desk
  rates_are : (desk : DeskState) (player : Sending) (commands : List Command) (cycles : List Aired)
      → desk ≡ desk_after (desk_with mux short) commands → HasTallied desk player
      → airings_of cycles ≡ airings desk.mux desk.entries
      → rate_line desk.mux.rate player.tally
      ≡ rate_line mux.rate (tally_of mux.rate (airings_of cycles))
  rates_are desk player commands cycles did told own =
      let line = λ (r : Option ℕ) (l : List AiredTables). rate_line r (tally_of r l) in
      ap (rate_line desk.mux.rate) told ∙ ap (line desk.mux.rate) (sym own)
      ∙ ap (λ (d : DeskState). line d.mux.rate (airings_of cycles)) did

  -- what is said of a course with such cycles
  said_of : IsOn → fold ≡ false → (commands : List Command) (cycles : List Aired)
      → end ≡ desk_after (desk_with mux short) commands
      → HasTallied end behind.player
      → airings_of cycles ≡ airings end.mux end.entries
      → made_text behind ≡ new_text mux (more commands) cycles
  said_of on e commands cycles did told own =
      let line = rate_line behind.desk.desk.mux.rate behind.player.tally in
      ap (λ (es : List Entry). journal_text es ++ line) (made_are on e commands did)
      ∙ ap (λ (l : List ℕ). journal_text (more commands) ++ l)
      (ap (λ (m : Mux). rate_line m.rate behind.player.tally) on.at.stands.mux
      ∙ rates_are end behind.player commands cycles did told own)

  before_is : IsOn → (f : Bool) → fold ≡ f → (commands : List Command) (cycles : List Aired)
      → end ≡ desk_after (desk_with mux short) commands
      → HasTallied end behind.player
      → airings_of cycles ≡ airings end.mux end.entries
      → ended_text f behind ≡ before_fault f mux (more commands) cycles
  before_is on false e commands cycles did told own = said_of on e commands cycles did told own
  before_is on true e commands cycles did told own = refl

  typed_all : AreTypedCommands rest.0
  typed_all = played_typed mux journal lines

  airings_are : airings_of earlier ≡ airings mux journal
  airings_are = cycle_airings mux.rate (airings mux journal) earlier run.is_air

  went_on : IsOn → (Done ≡ script_status rest.1) × (end ≡ desk_after (desk_with mux short) rest.0) → HasAired earlier end behind.player took.old took.new
      → HasTallied end behind.player → (text : List ℕ) → IsCourseText fold behind Done text → HandedBy fold Done (Some behind) → WentOn fold mux journal earlier took report rest text
  went_on on (ended, did) (cycles, sent, bytes) told text text_is handed =
      let whole = journal ++ journal_after mux journal rest.0 in
      let read = read_on mux shift journal short base earlier rest.0 run typed_all in
      let legal = legal_on mux shift journal short base rest.0 in
      let is = is_air_on mux shift journal short base earlier cycles end behind.player rest.0 airings_are did sent in
      let made = made_on mux shift journal short base earlier cycles end behind.player rest.0 did sent in
      record {
        ended = ended_is rest.1 ended;
        legal = legal;
        air_is = record {
          cycles = cycles;
          is_air = is;
          made = made;
          bytes = bytes;
          heard = airs_heard mux whole (earlier ++ cycles) read legal is;
          sent = whole_sent_behind mux whole earlier read legal cycles is made;
        };
        text_is = by fold refl text_is handed;
        goes_on = λ few clock. run_on mux shift journal short base earlier cycles rest.0 run typed_all (within_on mux shift journal short base end rest.0 did on.at.stands.journal.steps) is few clock;
      }
    where
      by : (f : Bool) → fold ≡ f → IsCourseText f behind Done text → HandedBy f Done (Some behind) → IsReport f mux journal (more rest.0) earlier cycles text
      by false e is h = is ∙ said_of on e rest.0 cycles did told sent.airings_are
      by true e is h =
          subst (IsCheckpoint mux (journal ++ more rest.0) (earlier ++ cycles)) (sym (is end on.at.stands))
          (subst (λ (n : ℕ). IsCheckpoint mux (journal ++ more rest.0) (earlier ++ cycles) (start_text n end behind.player)) (sym on.shift_is)
          (text_on mux shift journal short base end behind.player rest.0 (earlier ++ cycles) did sent.player_of.rate sent.at_end h))

  stopped : IsOn → (status : Status) → (status ≡ script_status rest.1) × (end ≡ desk_after (desk_with mux short) rest.0) → HasAired earlier end behind.player took.old took.new
      → HasTallied end behind.player → Reported report (ended_text fold behind ++ fault_lines status) → StoppedOn fold mux journal earlier took report rest status
  stopped on status (is, did) aired told reported =
      let air = air_on mux shift journal short base earlier end behind.player took rest.0 airings_are did aired (read_on mux shift journal short base earlier rest.0 run typed_all) in
      record {
        stopped = is;
        legal = legal_on mux shift journal short base rest.0;
        air_is = air.0;
        report_is = subst (λ (t : List ℕ). Reported report (t ++ fault_lines status)) (before_is on fold refl rest.0 air.0.cycles did told air.1) reported;
      }

  cut : IsOn → (k : ℕ) → end ≡ desk_after (desk_with mux short) (take k rest.0) → HasAiredFront earlier end took.old took.new
      → HasTallied end behind.player → Reported report (ended_text fold behind ++ fault_lines (WriteFault Air)) → CutOn fold mux journal earlier took report rest
  cut on k did aired told reported =
      let air = cut_on mux shift journal short base earlier end took (take k rest.0) airings_are did aired
      (read_on mux shift journal short base earlier (take k rest.0) run (first-typed k rest.0 typed_all)) in
      record {
        k = k;
        legal = legal_on mux shift journal short base (take k rest.0);
        air_is = air.0;
        report_is = subst (λ (t : List ℕ). Reported report (t ++ fault_lines (WriteFault Air)))
            (before_is on fold refl (take k rest.0) (air.0.whole ++ air.0.cut ∷ []) did told air.1) reported;
      }

  by_stop : IsOn → (stop : PlayStop) → DeskDid rest (desk_with mux short) end (Err stop) → AiredTo {T = Unit {0}} earlier end behind.player took.old took.new (Err stop)
      → TalliedTo {T = Unit {0}} end behind.player (Err stop)
      → Reported report (ended_text fold behind ++ fault_lines (status_for stop)) → LeavesBehind fold mux journal earlier took report lines (status_for stop)
  by_stop on (Undescribed fault) did aired told reported = absurd did
  by_stop on OnAir did aired told reported = cut on did.0 did.1 aired told reported
  by_stop on NoMemory did aired told reported = tt
  by_stop on (Read Failed) did aired told reported = stopped on (ReadFault Input) did aired told reported
  by_stop on stop did aired told reported = stopped on (status_for stop) did aired told reported

  -- how it ends, where the report took the text of the course
  ends : IsOn → (stop : Result (Unit {0}) PlayStop) (status : Status) → DeskDid rest (desk_with mux short) end stop → AiredTo earlier end behind.player took.old took.new stop
      → TalliedTo end behind.player stop → (text : List ℕ) → IsCourseText fold behind (met_by stop) text → ReportEnds (met_by stop) text report status → HandedBy fold (met_by stop) (Some behind)
      → LeavesBehind fold mux journal earlier took report lines status
  ends on (Ok u) status did aired told text is (inl (appended, ended)) handed =
      subst (LeavesBehind fold mux journal earlier took report lines) (sym ended)
      (text, went_on on did aired told text is handed, subst (Appends report.old report.new) (append-nil text) appended)
  ends on (Ok u) status did aired told text is (inr (rose, front, ended)) handed =
      subst (LeavesBehind fold mux journal earlier took report lines) (sym ended)
      (text, went_on on did aired told text is handed, subst (AppendsFront report.old report.new) (append-nil text) front)
  ends on (Err stop) status did aired told text is reported handed =
      let fault = reported_fault (status_for stop) text report status (own_status stop) reported in
      subst (LeavesBehind fold mux journal earlier took report lines) (sym fault.0)
      (by_stop on stop did aired told (subst (λ (t : List ℕ). Reported report (t ++ fault_lines (status_for stop))) (no_text fold behind stop text is) fault.1))

-- ---- a course

-- the course that a run played is the one that it reports
own_end : (fold : Bool) (course : Option Course) (behind : Course) (met met2 : Status) (report : ReportTaken) (status : Status) → course ≡ Some behind → met ≡ met2
    → EndsAs fold course met report status → EndsAs fold (Some behind) met2 report status
own_end fold course behind met met2 report status is e ends =
    subst (λ (m : Status). EndsAs fold (Some behind) m report status) e (subst (λ (c : Option Course). EndsAs fold c met report status) is ends)

-- A course from a start whose desk goes on as a journal, and whose player has handed out its air.
pub leaves_behind : (fold : Bool) (mux : Mux) (shift : ℕ) (journal short : List Entry) (earlier : List Aired) → IsBase mux shift journal short → HasRun mux journal earlier
    → (took report : ReportTaken) (lines : Ahead) (Begins : Start → Type 0) (played : Played) (c : CourseBehind fold Begins took.old took.new played lines)
    → c.start.desk ≡ desk_with mux short → c.start.shift ≡ shift → HasAired earlier c.start.desk c.start.player took.old took.old
    → HasTallied c.start.desk c.start.player → (status : Status) → Finished fold played report status → LeavesBehind fold mux journal earlier took report lines status
leaves_behind fold mux shift journal short earlier base run took report lines Begins played c desk_is shift_is aired told status (inl memory) =
    subst (LeavesBehind fold mux journal earlier took report lines) (sym memory) tt
leaves_behind fold mux shift journal short earlier base run took report lines Begins played c desk_is shift_is aired told status (inr e) =
    let on = c.on in
    let now = on.left.now in
    let at_desk = subst (λ (d : DeskState). DeskDid (course c.start.shift d.mux d.entries None lines) d now on.stop) desk_is c.did in
    let at_shift = subst (λ (n : ℕ). DeskDid (course n mux short None lines) (desk_with mux short) now on.stop) shift_is at_desk in
    let did = subst (λ (r : List Command × Stop). DeskDid r (desk_with mux short) now on.stop) (course_same mux shift journal short base lines) at_shift in
    let own = own_end fold played.course on.course played.met (met_by on.stop) report status on.is on.met e in
    ends fold mux shift journal short earlier base run took report lines on.course now
    (record { at = subst (λ (d : DeskState). IsAt d now on.course.desk) desk_is on.left.at; shift_is = on.shift ∙ shift_is; keeps = on.keeps })
    on.stop status did (on.left.aired earlier took.old aired) (on.left.tallied aired.1.player_of told) own.text own.text_is own.reported own.handed
