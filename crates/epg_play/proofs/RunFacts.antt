-- What the script of a text is, and what was played of it.
use Rattle.std.proofs.Common.{◌≡◌, ℕ, ◌+◌, List, [], ◌∷◌, ◌++◌, length, refl, sym, ap, ◌∙◌, subst, inl, inr, ◌⊎◌, zero-add}
use Rattle.std.specs.Prelude.{Option, Some, None, Ok, Err, Result, false}
use Rattle.std.specs.Io.KnownBytes.{Consumes}
use Rattle.si_causes.specs.Reading.{Reading, fresh as unread}
use Rattle.si_causes.proofs.TextFacts.{fresh_text}
use Rattle.si_causes.specs.declared.stop.ReadStop.TheVariants.{Failed, TooLong as Overlong}
use Rattle.si_causes.specs.Text.{lines_left}
use Rattle.input_lines.specs.Going.{WereWhole}
use Rattle.input_lines.proofs.Steps.{whole_more}
use Rattle.mux_config.specs.declared.fault.Word.TheVariants.{End}
use Rattle.mux_config.specs.declared.fault.MuxFault.{MuxFault}
use Rattle.mux_config.specs.declared.fault.MuxFault.TheVariants.{Missing}
use Rattle.mux_model.specs.declared.mux.Mux.{Mux}
use Rattle.mux_config.specs.declared.stop.MuxStop.{MuxStop}
use Rattle.mux_config.specs.declared.stop.MuxStop.TheVariants as mux
use Rattle.mux_config.specs.Reads.{ReadMux}
use Rattle.input_lines.specs.Ahead.{Ahead, Breaks, Tail, ahead, tail_of, Came, Found, Stopped}
use Rattle.input_lines.specs.Reads.{ahead_with, Leaves as LeavesAhead, Passes}
use Rattle.mux_config.specs.Descriptions.{Description, description_ahead, fault_in}
use Rattle.mux_config.proofs.Reading.{fault_read, read_stopped}
use Rattle.input_lines.specs.Ahead as lines
use Rattle.journal_model.specs.declared.step.Entry.{Entry}
use Rattle.desk_core.specs.Journal.{journal_after}
use Rattle.journal_model.specs.Steps.{Command}
use Rattle.desk_core.specs.Desks.{DeskState, fresh}
use Rattle.epg_play.specs.declared.stop.PlayStop.{PlayStop}
use Rattle.epg_play.specs.declared.stop.PlayStop.TheVariants.{NoMux as Undescribed, Read, Air as OnAir, Memory as NoMemory}
use Rattle.epg_report.specs.declared.status.Status.{Status}
use Rattle.epg_report.specs.declared.status.Status.TheVariants.{Done, Memory, ReadFault}
use Rattle.epg_report.specs.declared.status.Origin.TheVariants.{Input}
use Rattle.epg_play.specs.Script.{Script, Stop, commands_of, first_difference, played_items, stop_of, up_to, Ended, NoMux, TooLong, Unread, no_mux, script_in, script_taken, script_with, script_within, with_commands}
use Rattle.journal_model.specs.declared.step.Outcome.{Outcome}
use Rattle.journal_model.specs.declared.step.Outcome.TheVariants.{Edited, Ticked, Late, Published, Swapped}
use Rattle.journal_model.specs.Raising.{all_raised, raised}
use Rattle.script_lines.specs.Script.{asked_by, items_ahead}
use Rattle.epg_play.specs.Items.{Stops, Went, course_at}
use Rattle.epg_play.specs.Played.{DeskDid, RestDid, course, desk_after}
use Rattle.epg_play.specs.Leaves.{IsAired, IsSent, Completes, met_by, script_status, whole_journal}
use Rattle.epg_report.specs.Told.{ReportTaken}
use Rattle.epg_play.proofs.CourseFacts.{Rest}
use Rattle.epg_play.proofs.SentFacts.{whole_sent}

-- ---- a script's own course, whose publications have the numbers of its journal

pub raised_none : (outcome : Outcome) → raised 0 outcome ≡ outcome
raised_none (Edited reply) = refl
raised_none Ticked = refl
raised_none (Late at) = refl
raised_none (Published n) = ap Published (zero-add n)
raised_none (Swapped n at) = ap (λ (k : ℕ). Swapped k at) (zero-add n)

pub none_raised : (entries : List Entry) → all_raised 0 entries ≡ entries
none_raised [] = refl
none_raised (e ∷ es) =
    ap (λ (o : Outcome). let x : Entry = record { who = e.who; step = e.step; outcome = o } in x ∷ all_raised 0 es) (raised_none e.outcome)
    ∙ ap (λ (l : List Entry). e ∷ l) (none_raised es)

abbrev pub plain : Mux → Ahead → Rest
plain mux lines = played_items mux [] (items_ahead false lines)

pub plain_course : (mux : Mux) (lines : Ahead) → course 0 mux [] None lines ≡ plain mux lines
plain_course mux lines =
    let asked = asked_by (items_ahead false lines).0 in
    ap (λ (l : List Entry). up_to (first_difference asked l) (commands_of asked) (stop_of (items_ahead false lines).1)) (none_raised (journal_after mux [] (commands_of asked)))

plain_rest : (mux : Mux) (lines : Ahead) (desk : DeskState) (r : Result (Unit {0}) PlayStop) → RestDid (course 0 mux [] None lines) (fresh mux) desk r → RestDid (plain mux lines) (fresh mux) desk r
plain_rest mux lines desk r did = subst (λ (c : Rest). RestDid c (fresh mux) desk r) (plain_course mux lines) did

plain_did : (mux : Mux) (lines : Ahead) (desk : DeskState) (r : Result (Unit {0}) PlayStop) → DeskDid (course 0 mux [] None lines) (fresh mux) desk r → DeskDid (plain mux lines) (fresh mux) desk r
plain_did mux lines desk r did = subst (λ (c : Rest). DeskDid c (fresh mux) desk r) (plain_course mux lines) did

-- ---- the script of a text, by what reading its description told

abbrev Known : Type 0
Known = Option (List ℕ)

faulty_script : (found : Found Description) (fault : MuxFault) → fault_in found ≡ Some fault → script_with found ≡ no_mux (NoMux fault)
faulty_script (Came (Err here) behind) fault e = (let same : here ≡ fault = cc e in ap (λ f. no_mux (NoMux f)) same)
faulty_script (Stopped (lines.NoCommand n)) fault e = (let same : Missing End ≡ fault = cc e in ap (λ f. no_mux (NoMux f)) same)
faulty_script other fault e = cc e

-- of known bytes some were taken, and the others are left
pub bytes_left : (left : Known) (text taken : List ℕ) → Consumes (Some text) left taken → (behind : List ℕ) × (text ≡ taken ++ behind) × (left ≡ Some behind)
bytes_left None text taken h = absurd h
bytes_left (Some behind) text taken h = (behind, h, refl)

-- ---- the run is over

-- what was sent of the script of a text
abbrev pub tail_in : ℕ → List ℕ → Tail
tail_in limit text = tail_of (1 + length (lines_left limit text).0) (lines_left limit text).1

pub text_sent : (limit : ℕ) (text : List ℕ) (air : ReportTaken) → IsAired (script_within limit text).mux (whole_journal (script_within limit text)) air → IsSent (script_within limit text).mux (whole_journal (script_within limit text)) air
text_sent limit text air is = whole_sent (lines_left limit text).0 (tail_in limit text) air is

-- a script that is whole is played to its end where nothing fails
pub whole : (stop : Stop) (status : Status) → stop ≡ Ended → Completes stop status → (status ≡ Done) ⊎ (status ≡ Memory)
whole stop Done e h = inl refl
whole stop Memory e h = inr refl
whole stop (ReadFault Input) e h = absurd h
whole stop other e h = cc (h ∙ ap script_status e)

-- ---- for other commands over the same script

-- A script leads to this status, and its commands were done at a desk of its multiplex.
pub record IsPlayed (script : Script) (status : Status) (mux : Mux) (desk : DeskState) : Type 0 where
  pub stopped : status ≡ script_status script.stop
  pub described : script.mux ≡ Some mux
  pub did : desk ≡ desk_after (fresh mux) script.commands

rest_is : (script : Script) (status : Status) (mux : Mux) (rest : Rest) (desk : DeskState) → script ≡ with_commands mux rest → (status ≡ script_status rest.1) × (desk ≡ desk_after (fresh mux) rest.0) → IsPlayed script status mux desk
rest_is script status mux rest desk e did = subst (λ (s : Script). IsPlayed s status mux desk) (sym e) (record { stopped = did.0; described = refl; did = did.1 })

-- and the same of the bytes that were taken, where a read failed
pub record IsPlayedTaken (text : List ℕ) (left : Known) (mux : Mux) (desk : DeskState) : Type 0 where
  pub taken : List ℕ
  pub behind : List ℕ
  pub text_is : text ≡ taken ++ behind
  pub left_is : left ≡ Some behind
  pub played : IsPlayed (script_taken taken) (ReadFault Input) mux desk

-- what the script of a text is, by why the rest behind its description was not done on
abbrev pub PlayedBy : List ℕ → Known → Mux → DeskState → Result (Unit {0}) PlayStop → Type 0
PlayedBy text left mux desk (Err (Read Failed)) = IsPlayedTaken text left mux desk
PlayedBy text left mux desk (Err OnAir) = Unit {0}
PlayedBy text left mux desk (Err NoMemory) = Unit {0}
PlayedBy text left mux desk result = IsPlayed (script_in text) (met_by result) mux desk

taken_by : (text taken : List ℕ) (old left : Known) (mux : Mux) (desk : DeskState) → old ≡ Some text → Consumes old left taken → IsPlayed (script_taken taken) (ReadFault Input) mux desk → IsPlayedTaken text left mux desk
taken_by text taken old left mux desk told gave played =
    let b = bytes_left left text taken (subst (λ (o : Known). Consumes o left taken) told gave) in
    record { taken = taken; behind = b.0; text_is = b.1; left_is = b.2; played = played }

pub rest_played : {S : Type 0} (left : S → Known) (source : S) (mid new : Reading S) (text : List ℕ) (mux : Mux) (desk : DeskState) (r : Result (Unit {0}) PlayStop) → left source ≡ Some text
    → LeavesAhead left description_ahead (Came (Ok mux)) (unread source) mid text → Passes left description_ahead (Came (Ok mux)) (unread source) mid → Stops 0 left mid new (fresh mux) desk r
    → PlayedBy text (left new.source) mux desk r
rest_played left source mid new text mux desk (Err (Undescribed fault)) told d came stops = absurd (stops.0 d.rest d.told)
rest_played left source mid new text mux desk (Err (Read Failed)) told d came stops =
    let p = stops.1 in
    let both : WereWhole left (unread source) new (came.looked.lines ++ p.lines) = whole_more left (unread source) mid new came.looked.lines p.lines came.looked.handed p.unended p.whole in
    let script : script_taken both.more ≡ with_commands mux (plain mux (ahead_with mid p.lines Breaks)) =
    ap (λ l. script_with (description_ahead (ahead_with (unread source) l Breaks))) both.whole ∙ ap script_with (came.reads p.lines Breaks) in
    taken_by text both.more (left source) (left new.source) mux desk told both.gave (rest_is (script_taken both.more) (ReadFault Input) mux (plain mux (ahead_with mid p.lines Breaks)) desk script (plain_did mux (ahead_with mid p.lines Breaks) desk (Err (Read Failed)) p.did))
rest_played left source mid new text mux desk (Err OnAir) told d came stops = tt
rest_played left source mid new text mux desk (Err NoMemory) told d came stops = tt
rest_played left source mid new text mux desk r told d came stops =
    rest_is (script_in text) (met_by r) mux (plain mux (ahead mid d.rest)) desk (ap script_with d.reads) (plain_rest mux (ahead mid d.rest) desk r (stops.0 d.rest d.told))

-- Some of its commands were done, the first.
pub record IsPlayedTo (script : Script) (mux : Mux) (desk : DeskState) : Type 0 where
  pub described : script.mux ≡ Some mux
  pub done : List Command
  pub others : List Command
  pub commands_are : script.commands ≡ done ++ others
  pub did : desk ≡ desk_after (fresh mux) done

pub went_played : {S : Type 0} (left : S → Known) (source : S) (mid new : Reading S) (text : List ℕ) (mux : Mux) (desk : DeskState) (made : Option Outcome)
    → LeavesAhead left description_ahead (Came (Ok mux)) (unread source) mid text → Went 0 left mid new (fresh mux) desk made → IsPlayedTo (script_in text) mux desk
went_played left source mid new text mux desk made d went =
    let rest = plain mux (ahead mid d.rest) in
    let t = went.told d.rest d.told in
    let script : script_in text ≡ with_commands mux rest = ap script_with d.reads in
    subst (λ (s : Script). IsPlayedTo s mux desk) (sym script) (record {
      described = refl;
      done = went.done;
      others = (course_at 0 desk made (ahead new t.0)).0;
      commands_are = ap (λ (p : Rest). p.0) (sym (plain_course mux (ahead mid d.rest)) ∙ t.2);
      did = went.did;
    })

-- the script of a text whose description was not read
pub record IsUndescribedTaken (text : List ℕ) (left : Known) : Type 0 where
  pub taken : List ℕ
  pub behind : List ℕ
  pub text_is : text ≡ taken ++ behind
  pub left_is : left ≡ Some behind
  pub script : script_taken taken ≡ no_mux Unread

abbrev pub IsUndescribed : List ℕ → Known → MuxStop → Type 0
IsUndescribed text left (mux.Fault fault) = script_in text ≡ no_mux (NoMux fault)
IsUndescribed text left (mux.Read Overlong) = script_in text ≡ no_mux TooLong
IsUndescribed text left (mux.Read Failed) = IsUndescribedTaken text left
IsUndescribed text left mux.Memory = Unit {0}

undescribed_by : (text taken : List ℕ) (old left : Known) → old ≡ Some text → Consumes old left taken → script_taken taken ≡ no_mux Unread → IsUndescribedTaken text left
undescribed_by text taken old left told gave script =
    let b = bytes_left left text taken (subst (λ (o : Known). Consumes o left taken) told gave) in
    record { taken = taken; behind = b.0; text_is = b.1; left_is = b.2; script = script }

pub undescribed : {S : Type 0} (left : S → Known) (faults : S → ℕ) (alike : S → S → Type 0) (old new : Reading S) (source : S) (text : List ℕ) (stop : MuxStop) → old ≡ unread source → left source ≡ Some text
    → ReadMux left faults alike old new (Err stop) → IsUndescribed text (left new.source) stop
undescribed left faults alike old new source text (mux.Fault fault) e told read =
    let here = subst (λ r. ReadMux left faults alike r new (Err (mux.Fault fault))) e read in
    faulty_script _ fault (fault_read left faults alike (unread source) new fault text refl (fresh_text left source ∙ told) here)
undescribed left faults alike old new source text (mux.Read Overlong) e told read =
    let here = read_stopped left faults alike (unread source) new Overlong (subst (λ r. ReadMux left faults alike r new (Err (mux.Read Overlong))) e read) in
    ap script_with (here.gives refl text (fresh_text left source ∙ told))
undescribed left faults alike old new source text (mux.Read Failed) e told read =
    let fault = (read_stopped left faults alike (unread source) new Failed (subst (λ r. ReadMux left faults alike r new (Err (mux.Read Failed))) e read)).takes refl in
    undescribed_by text fault.whole.more (left source) (left new.source) told fault.whole.gave
    (ap (λ l. script_with (description_ahead (ahead_with (unread source) l Breaks))) fault.whole.whole ∙ ap script_with fault.reads)
undescribed left faults alike old new source text mux.Memory e told read = tt
