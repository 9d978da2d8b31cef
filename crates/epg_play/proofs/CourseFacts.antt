-- The items of a script, one after another, and what is played of them.
use Rattle.std.proofs.Common.{◌≡◌, ℕ, Bool, true, false, List, [], ◌∷◌, ◌++◌, length, take, refl, sym, ap, ◌∙◌, subst, append-nil, append_assoc}
use Rattle.std.specs.Prelude.{Option, Some, None, Ok, Err, is_some}
use Rattle.std.proofs.Math.Seq.{take-append_seam}
use Rattle.si_causes.specs.Reading.{Reading, text_left}
use Rattle.si_causes.specs.declared.stop.ReadStop.TheVariants.{Failed, TooLong as Overlong}
use Rattle.input_lines.proofs.Steps.{handed_none, handed_more, whole_more}
use Rattle.mux_model.specs.declared.mux.Mux.{Mux}
use Rattle.input_lines.specs.declared.stop.EditStop.{EditStop}
use Rattle.input_lines.specs.declared.stop.EditStop.TheVariants as edits
use Rattle.input_lines.specs.Ahead.{Ahead, Came, Stopped, ahead}
use Rattle.input_lines.specs.Ahead as reading
use Rattle.input_lines.specs.Reads.{Passes, Leaves, Gives, GivesNext, Takes, Faulted, ahead_with}
use Rattle.journal_model.specs.declared.step.Step.{Step}
use Rattle.journal_model.specs.declared.step.Outcome.{Outcome}
use Rattle.journal_model.specs.declared.step.Entry.{Entry}
use Rattle.desk_core.specs.Journal.{journal_after, entry_after, outcome_of}
use Rattle.journal_model.specs.Steps.{Command}
use Rattle.desk_core.specs.declared.lean.LeanDesk.{LeanDesk}
use Rattle.desk_core.specs.Desks.{DeskState}
use Rattle.desk_core.specs.Lean.{StandsFor, with_entry}
use Rattle.desk_core.proofs.JournalFacts.{journal_more}
use Rattle.script_lines.specs.declared.script.ScriptItem.{ScriptItem}
use Rattle.script_lines.specs.declared.script.ScriptItem.TheVariants.{Step as step, Kept}
use Rattle.script_lines.specs.Script.{asked_by, first_script_item, items_ahead, kept_first}
use Rattle.script_lines.proofs.ItemsAhead.{items_step, items_kept, items_stop}
use Rattle.journal_air.specs.OnAir.{and_step}
use Rattle.epg_play.specs.declared.desk.ScriptDesk.{ScriptDesk}
use Rattle.epg_play.specs.declared.stop.PlayStop.{PlayStop}
use Rattle.journal_air.specs.declared.send.SendStop.{SendStop}
use Rattle.journal_air.specs.declared.send.SendStop.TheVariants as send
use Rattle.epg_play.specs.declared.stop.PlayStop.TheVariants.{Disagrees}
use Rattle.epg_report.specs.declared.status.Status.TheVariants.{Done}
use Rattle.epg_play.specs.Leaves.{script_status}
use Rattle.epg_play.specs.Script.{Stop, Ended, NoCommand, Disagreed, TooLong, Unread, commands_of, difference, first_difference, first_of, stop_of, up_to}
use Rattle.epg_play.specs.Played.{IsDifference, PlayedWhole, RestDid, RestTaken, course_of, desk_after, late_difference, played_raised, read_stop, send_stop, unless_late}
use Rattle.journal_model.specs.Raising.{all_raised, raised}
use Rattle.epg_play.specs.Items.{AreDone, IsAt, Stands, Stops, Went, course_at}

-- a script with the status Done is whole
pub ended_is : (stop : Stop) → Done ≡ script_status stop → stop ≡ Ended
ended_is Ended e = refl
ended_is other e = cc e

-- commands and a stop
abbrev pub Rest : Type 0
Rest = List Command × Stop

abbrev pub and_command : Command → Rest → Rest
and_command command rest = (command ∷ rest.0, rest.1)

module _ (shift : ℕ) where
  -- ---- items

  up_first : (here : Option Stop) (later : Option (ℕ × Stop)) (command : Command) (commands : List Command) (stop : Stop)
      → up_to (first_of here later) (command ∷ commands) stop ≡ and_command command (unless_late here (up_to later commands stop))
  up_first (Some here) later command commands stop = refl
  up_first None None command commands stop = refl
  up_first None (Some later) command commands stop = refl

  none_late : (made : Option Outcome) (rest : Rest) → unless_late (late_difference made None) rest ≡ rest
  none_late None rest = refl
  none_late (Some found) rest = refl

  -- a step in front of other items
  course_step : (mux : Mux) (before : List Entry) (made : Option Outcome) (who : ℕ) (s : Step) (items : List ScriptItem × reading.Stop)
      → course_of shift mux before made (step who s ∷ items.0, items.1)
      ≡ and_command (who, s) (course_of shift mux (before ++ entry_after mux before (who, s) ∷ []) (Some (raised shift (outcome_of mux before s))) items)
  course_step mux before made who s items =
      let front = before ++ entry_after mux before (who, s) ∷ [] in
      let commands = commands_of (asked_by items.0) in
      none_late made _
      ∙ up_first (difference (kept_first items.0) (raised shift (outcome_of mux before s))) (first_difference (asked_by items.0) (all_raised shift (journal_after mux front commands))) (who, s) commands (stop_of items.1)

  pub step_ahead : (desk : DeskState) (made : Option Outcome) (lines behind : Ahead) (who : ℕ) (s : Step) → first_script_item (is_some made) lines ≡ Came (step who s) behind
      → course_at shift desk made lines ≡ and_command (who, s) (course_at shift (and_step desk who s) (Some (raised shift (outcome_of desk.mux desk.entries s))) behind)
  step_ahead desk made lines behind who s e =
      ap (course_of shift desk.mux desk.entries made) (items_step (is_some made) lines behind who s e)
      ∙ course_step desk.mux desk.entries made who s (items_ahead true behind)

  pub agreed_ahead : (desk : DeskState) (made : Option Outcome) (lines behind : Ahead) (n : ℕ) (kept : Outcome) → first_script_item (is_some made) lines ≡ Came (Kept n kept) behind
      → late_difference made (Some (n, kept)) ≡ None → course_at shift desk made lines ≡ course_at shift desk None behind
  agreed_ahead desk made lines behind n kept e agree =
      ap (course_of shift desk.mux desk.entries made) (items_kept (is_some made) lines behind n kept e)
      ∙ ap (λ (o : Option Stop). unless_late o (played_raised shift desk.mux desk.entries (asked_by (items_ahead false behind).0) (stop_of (items_ahead false behind).1))) agree

  pub differs_ahead : (desk : DeskState) (made : Option Outcome) (lines behind : Ahead) (n : ℕ) (kept : Outcome) (stop : Stop) → first_script_item (is_some made) lines ≡ Came (Kept n kept) behind
      → late_difference made (Some (n, kept)) ≡ Some stop → course_at shift desk made lines ≡ ([], stop)
  differs_ahead desk made lines behind n kept stop e differ =
      ap (course_of shift desk.mux desk.entries made) (items_kept (is_some made) lines behind n kept e)
      ∙ ap (λ (o : Option Stop). unless_late o (played_raised shift desk.mux desk.entries (asked_by (items_ahead false behind).0) (stop_of (items_ahead false behind).1))) differ

  pub stop_ahead : (desk : DeskState) (made : Option Outcome) (lines : Ahead) (stop : reading.Stop) → first_script_item (is_some made) lines ≡ Stopped stop → course_at shift desk made lines ≡ ([], stop_of stop)
  stop_ahead desk made lines stop e = ap (course_of shift desk.mux desk.entries made) (items_stop (is_some made) lines stop e) ∙ none_late made _

  -- ---- commands that were done

  pub desk_none : (desk : DeskState) → desk ≡ desk_after desk []
  desk_none desk = ap (λ (l : List Entry). let d : DeskState = record { mux = desk.mux; entries = l } in d) (sym (append-nil desk.entries))

  pub desk_more : (desk : DeskState) (commands : List Command) (who : ℕ) (s : Step) → and_step (desk_after desk commands) who s ≡ desk_after desk (commands ++ (who, s) ∷ [])
  desk_more desk commands who s =
      ap (λ (l : List Entry). let d : DeskState = record { mux = desk.mux; entries = l } in d) (append_assoc desk.entries (journal_after desk.mux desk.entries commands) _ ∙ ap (λ l. desk.entries ++ l) (sym (journal_more desk.mux desk.entries commands ((who, s) ∷ []))))

  done_more : (old desk new : DeskState) (made after : Option Outcome) (lines now behind : Ahead) (done : List Command) (command : Command) → AreDone shift old desk made lines now done
      → course_at shift desk made now ≡ and_command command (course_at shift new after behind) → AreDone shift old new after lines behind (done ++ command ∷ [])
  done_more old desk new made after lines now behind done command d e =
      d ∙ ap (λ (p : Rest). let q : Rest = (done ++ p.0, p.1) in q) e
      ∙ ap (λ (l : List Command). let q : Rest = (l, (course_at shift new after behind).1) in q) (sym (append_assoc done (command ∷ []) (course_at shift new after behind).0))

  done_same : (old desk : DeskState) (made after : Option Outcome) (lines now behind : Ahead) (done : List Command) → AreDone shift old desk made lines now done
      → course_at shift desk made now ≡ course_at shift desk after behind → AreDone shift old desk after lines behind done
  done_same old desk made after lines now behind done d e = d ∙ ap (λ (p : Rest). let q : Rest = (done ++ p.0, p.1) in q) e

  done_last : (old desk : DeskState) (made : Option Outcome) (lines now : Ahead) (done : List Command) (stop : Stop) → AreDone shift old desk made lines now done
      → course_at shift desk made now ≡ ([], stop) → course_at shift old None lines ≡ (done, stop)
  done_last old desk made lines now done stop d e =
      d ∙ ap (λ (p : Rest). let q : Rest = (done ++ p.0, p.1) in q) e ∙ ap (λ (l : List Command). let q : Rest = (l, stop) in q) (append-nil done)

  -- ---- a reader that goes on

  abbrev Known : Type 0
  Known = Option (List ℕ)

  pub went_none : {S : Type 0} (left : S → Known) (reader : Reading S) (desk : DeskState) → Went shift left reader reader desk desk None
  went_none left reader desk = record {
    done = [];
    did = desk_none desk;
    told = λ text told. (text, told, refl);
    lines = [];
    handed = handed_none left reader;
    reads = λ more tail. refl;
  }

  -- an item was read
  pub record ItemRead {S : Type 0} (left : S → Known) (now new : Reading S) (after : Bool) (item : ScriptItem) : Type 0 where
    pub gives : (text : List ℕ) → text_left left now ≡ Some text → Leaves left (first_script_item after) (Came item) now new text
    pub takes : Passes left (first_script_item after) (Came item) now new

  pub item_read : {S : Type 0} (left : S → Known) (now new : Reading S) (after : Bool) (made : Option Outcome) (item : ScriptItem) → after ≡ is_some made
      → ((text : List ℕ) → text_left left now ≡ Some text → Leaves left (first_script_item after) (Came item) now new text) → Passes left (first_script_item after) (Came item) now new → ItemRead left now new (is_some made) item
  item_read left now new after made item e gives takes = subst (λ (b : Bool). ItemRead left now new b item) e (record { gives = gives; takes = takes })

  -- what is played of what is ahead, before an item and behind it
  went_item : {S : Type 0} (left : S → Known) (old now new : Reading S) (before desk next : DeskState) (made after : Option Outcome) (item : ScriptItem) (done : List Command)
      → (w : Went shift left old now before desk made) → ItemRead left now new (is_some made) item → next ≡ desk_after before done
      → ((lines behind : Ahead) → first_script_item (is_some made) lines ≡ Came item behind → (a : Ahead) → AreDone shift before desk made a lines w.done → AreDone shift before next after a behind done)
      → Went shift left old new before next after
  went_item left old now new before desk next made after item done w r did step_on = record {
    done = done;
    did = did;
    told = λ text told.
        let t = w.told text told in
        let g = r.gives t.0 t.1 in
        (g.rest, g.told, step_on (ahead now t.0) (ahead new g.rest) g.reads (ahead old text) t.2);
    lines = w.lines ++ r.takes.looked.lines;
    handed = handed_more left old now new w.lines r.takes.looked.lines w.handed r.takes.looked.handed;
    reads = λ more tail.
        subst (λ (l : List (List ℕ)). AreDone shift before next after (ahead_with old l tail) (ahead_with new more tail) done) (sym (append_assoc w.lines r.takes.looked.lines more))
        (step_on (ahead_with now (r.takes.looked.lines ++ more) tail) (ahead_with new more tail) (r.takes.reads more tail) (ahead_with old (w.lines ++ (r.takes.looked.lines ++ more)) tail) (w.reads (r.takes.looked.lines ++ more) tail));
  }

  -- a step was read and done
  pub went_step : {S : Type 0} (left : S → Known) (old now new : Reading S) (before desk next : DeskState) (made after : Option Outcome) (who : ℕ) (s : Step)
      → Went shift left old now before desk made → ItemRead left now new (is_some made) (step who s) → next ≡ and_step desk who s → after ≡ Some (raised shift (outcome_of desk.mux desk.entries s))
      → Went shift left old new before next after
  went_step left old now new before desk next made after who s w r did outcome =
      went_item left old now new before desk next made after (step who s) (w.done ++ (who, s) ∷ []) w r
      (did ∙ ap (λ (d : DeskState). and_step d who s) w.did ∙ desk_more before w.done who s)
      (λ lines behind e a d. done_more before desk next made after a lines behind w.done (who, s) d
      (step_ahead desk made lines behind who s e ∙ ap (λ (o : Option Outcome). and_command (who, s) (course_at shift (and_step desk who s) o behind)) (sym outcome)
      ∙ ap (λ (x : DeskState). and_command (who, s) (course_at shift x after behind)) (sym did)))

  -- an outcome line that agrees was read
  pub went_kept : {S : Type 0} (left : S → Known) (old now new : Reading S) (before desk : DeskState) (made : Option Outcome) (n : ℕ) (kept : Outcome)
      → Went shift left old now before desk made → ItemRead left now new (is_some made) (Kept n kept) → late_difference made (Some (n, kept)) ≡ None
      → Went shift left old new before desk None
  went_kept left old now new before desk made n kept w r agree =
      went_item left old now new before desk desk made None (Kept n kept) w.done w r w.did
      (λ lines behind e a d. done_same before desk made None a lines behind w.done d (agreed_ahead desk made lines behind n kept e agree))

  -- ---- why it does not go on

  -- what is ahead stops
  told_stop : {S : Type 0} (left : S → Known) (old now : Reading S) (before desk : DeskState) (made : Option Outcome) (stop : Stop) → (w : Went shift left old now before desk made)
      → ((rest : List ℕ) → text_left left now ≡ Some rest → course_at shift desk made (ahead now rest) ≡ ([], stop))
      → (text : List ℕ) → text_left left old ≡ Some text → course_at shift before None (ahead old text) ≡ (w.done, stop)
  told_stop left old now before desk made stop w stops text told =
      let t = w.told text told in
      done_last before desk made (ahead old text) (ahead now t.0) w.done stop t.2 (stops t.0 t.1)

  -- the status and the desk
  stopped_did : (all : Rest) (done : List Command) (stop : Stop) (before desk : DeskState) → all ≡ (done, stop) → desk ≡ desk_after before done → (script_status stop ≡ script_status all.1) × (desk ≡ desk_after before all.0)
  stopped_did all done stop before desk e d = (ap (λ (p : Rest). script_status p.1) (sym e), d ∙ ap (desk_after before) (sym (ap (λ (p : Rest). p.0) e)))

  pub ended : {S : Type 0} (left : S → Known) (old now new : Reading S) (before desk : DeskState) (after : Bool) (made : Option Outcome) → after ≡ is_some made → Went shift left old now before desk made
      → ((text : List ℕ) → text_left left now ≡ Some text → GivesNext left (first_script_item after) now new text (Ok None)) → (text : List ℕ) → text_left left old ≡ Some text
      → RestDid (course_at shift before None (ahead old text)) before desk (Ok tt)
  ended left old now new before desk after made e w gives text told =
      stopped_did _ w.done Ended before desk
      (told_stop left old now before desk made Ended w (λ rest is. stop_ahead desk made (ahead now rest) reading.End (ap (λ b. first_script_item b (ahead now rest)) (sym e) ∙ (gives rest is).0)) text told) w.did

  pub read_stopped : {S : Type 0} (left : S → Known) (old now new : Reading S) (before desk : DeskState) (after : Bool) (made : Option Outcome) (stop : EditStop) → after ≡ is_some made → Went shift left old now before desk made
      → ((text : List ℕ) → text_left left now ≡ Some text → Gives {T = ScriptItem} left (first_script_item after) now new text (Err stop)) → (text : List ℕ) → text_left left old ≡ Some text
      → RestDid (course_at shift before None (ahead old text)) before desk (Err (read_stop stop))
  read_stopped left old now new before desk after made (edits.NoCommand n) e w gives text told =
      stopped_did _ w.done (NoCommand n) before desk
      (told_stop left old now before desk made (NoCommand n) w (λ rest is. stop_ahead desk made (ahead now rest) (reading.NoCommand n) (ap (λ b. first_script_item b (ahead now rest)) (sym e) ∙ gives rest is)) text told) w.did
  read_stopped left old now new before desk after made (edits.Read Overlong) e w gives text told =
      stopped_did _ w.done TooLong before desk
      (told_stop left old now before desk made TooLong w (λ rest is. stop_ahead desk made (ahead now rest) reading.TooLong (ap (λ b. first_script_item b (ahead now rest)) (sym e) ∙ gives rest is)) text told) w.did
  read_stopped left old now new before desk after made other e w gives text told = tt

  differed : {S : Type 0} (left : S → Known) (old now new : Reading S) (before desk : DeskState) (made : Option Outcome) (n m : ℕ) (kept asked found : Outcome) → Went shift left old now before desk made
      → ItemRead left now new (is_some made) (Kept n kept) → late_difference made (Some (n, kept)) ≡ Some (Disagreed m asked found) → (text : List ℕ) → text_left left old ≡ Some text
      → RestDid (course_at shift before None (ahead old text)) before desk (Err (Disagrees m asked found))
  differed left old now new before desk made n m kept asked found w r differ text told =
      stopped_did _ w.done (Disagreed m asked found) before desk
      (told_stop left old now before desk made (Disagreed m asked found) w
      (λ rest is. let g = r.gives rest is in differs_ahead desk made (ahead now rest) (ahead new g.rest) n kept (Disagreed m asked found) g.reads differ) text told) w.did

  pub differed_at : {S : Type 0} (left : S → Known) (old now new : Reading S) (before desk : DeskState) (made : Option Outcome) (n : ℕ) (kept : Outcome) (stop : PlayStop) → Went shift left old now before desk made
      → ItemRead left now new (is_some made) (Kept n kept) → IsDifference (late_difference made (Some (n, kept))) (Some stop) → Stops shift left old new before desk (Err stop)
  differed_at left old now new before desk made n kept (Disagrees m asked found) w r differ = (λ text told. differed left old now new before desk made n m kept asked found w r differ text told, tt)
  differed_at left old now new before desk made n kept other w r differ = absurd differ

  -- a step was done, and its cycle failed
  front_of : (all x : Rest) (done : List Command) → all ≡ (done ++ x.0, x.1) → take (length done) all.0 ≡ done
  front_of all x done e = ap (λ (p : Rest). take (length done) p.0) e ∙ take-append_seam done x.0

  pub cut_at : {S : Type 0} (left : S → Known) (old now : Reading S) (before desk : DeskState) (made : Option Outcome) → Went shift left old now before desk made
      → (text : List ℕ) → text_left left old ≡ Some text → (k : ℕ) × (desk ≡ desk_after before (take k (course_at shift before None (ahead old text)).0))
  cut_at left old now before desk made w text told =
      let t = w.told text told in
      (length w.done, w.did ∙ ap (desk_after before) (sym (front_of (course_at shift before None (ahead old text)) (course_at shift desk made (ahead now t.0)) w.done t.2)))

  -- the cycle of a swap was not sent whole
  pub cut_stop : {S : Type 0} (left : S → Known) (old now : Reading S) (before desk : DeskState) (made : Option Outcome) (stop : SendStop) → Went shift left old now before desk made
      → Stops shift left old now before desk (Err (send_stop stop))
  cut_stop left old now before desk made send.Air w = (λ text told. cut_at left old now before desk made w text told, tt)
  cut_stop left old now before desk made send.Memory w = (λ text told. tt, tt)

  -- ---- a read that failed

  failed_at : {S : Type 0} (left : S → Known) (faults : S → ℕ) (old now new : Reading S) (before desk : DeskState) (made : Option Outcome) → Went shift left old now before desk made
      → Faulted left faults (first_script_item (is_some made)) now new → PlayedWhole shift left old new before desk
  failed_at left faults old now new before desk made w f =
      let lines = w.lines ++ f.lines in
      let all = done_last before desk made (ahead_with old lines reading.Breaks) (ahead_with now f.lines reading.Breaks) w.done Unread (w.reads f.lines reading.Breaks)
      (stop_ahead desk made (ahead_with now f.lines reading.Breaks) reading.Unread f.reads) in
      record {
        lines = lines;
        whole = whole_more left old now new w.lines f.lines w.handed f.unended f.whole;
        unended = w.handed.since f.unended;
        did = stopped_did (course_at shift before None (ahead_with old lines reading.Breaks)) w.done Unread before desk all w.did;
      }

  pub taken : {S : Type 0} (left : S → Known) (faults : S → ℕ) (old now new : Reading S) (before desk : DeskState) (after : Bool) (made : Option Outcome) (stop : EditStop) → after ≡ is_some made → Went shift left old now before desk made
      → Takes {T = ScriptItem} left faults (first_script_item after) now new (Err stop) → RestTaken shift left old new before desk (Err (read_stop stop))
  taken left faults old now new before desk after made (edits.Read Failed) e w f = failed_at left faults old now new before desk made w (subst (λ (b : Bool). Faulted left faults (first_script_item b) now new) e f)
  taken left faults old now new before desk after made other e w f = tt

-- ---- a step at the desk of a script

-- the outcome of a step is that of the desk's journal
pub outcome_at : (state : DeskState) (desk : LeanDesk) (s : Step) (outcome : Outcome) → Stands state desk → outcome ≡ outcome_of desk.mux state.entries s → outcome ≡ outcome_of state.mux state.entries s
outcome_at state desk s outcome stands is = is ∙ ap (λ (m : Mux). outcome_of m state.entries s) stands.mux

pub stepped : (state : DeskState) (old new : LeanDesk) (who : ℕ) (s : Step) (outcome : Outcome) → Stands state old → new.mux ≡ old.mux → outcome ≡ outcome_of state.mux state.entries s
    → StandsFor (with_entry state.entries who s outcome) new → Stands (and_step state who s) new
stepped state old new who s outcome stands mux is journal = record {
  mux = mux ∙ stands.mux;
  journal = subst (λ (o : Outcome). StandsFor (with_entry state.entries who s o) new) is journal;
}

-- a step was read and done
pub entered : {S : Type 0} (left : S → Option (List ℕ)) (first old new : Reading S) (before state : DeskState) (desk next : ScriptDesk) (who : ℕ) (s : Step)
    → next.shift ≡ desk.shift → Went desk.shift left first old before state desk.last → ItemRead desk.shift left old new (is_some desk.last) (step who s)
    → next.last ≡ Some (raised next.shift (outcome_of state.mux state.entries s)) → Went next.shift left first new before (and_step state who s) next.last
entered left first old new before state desk next who s shift went read last =
    subst (λ (n : ℕ). Went n left first new before (and_step state who s) next.last) (sym shift)
    (went_step desk.shift left first old new before state (and_step state who s) desk.last next.last who s went read refl (last ∙ ap (λ (n : ℕ). Some (raised n (outcome_of state.mux state.entries s))) shift))

-- an outcome that agrees leaves the desk as it was, but for the outcome that may be kept
pub agreed_at : (before state : DeskState) (desk : ScriptDesk) → IsAt before state desk → IsAt before state (record desk { last = None })
agreed_at before state desk at = record { more = at.more; entries = at.entries; stands = at.stands; made = at.made }
