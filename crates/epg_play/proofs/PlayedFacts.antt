-- What was played over the text of an input, from what reading it and playing it told.
use Rattle.std.proofs.Common.{◌≡◌, ◌-◌, ℕ, Bool, List, ◌++◌, refl, sym, ap, ◌∙◌, subst, arith}
use Rattle.std.specs.Prelude.{Option, Some, None, Ok, Err, Result}
use Rattle.std.specs.Io.KnownBytes.{Consumes}
use Rattle.si_causes.specs.Reading.{Reading, fresh_to}
use Rattle.si_causes.proofs.TextFacts.{fresh_text_to}
use Rattle.si_causes.specs.Text.{lines_left}
use Rattle.si_causes.specs.declared.stop.ReadStop.TheVariants.{Failed, TooLong as Overlong}
use Rattle.input_lines.specs.Ahead.{Ahead, Breaks, Came, Found, Stopped, ahead, ahead_in}
use Rattle.input_lines.specs.Ahead as lines
use Rattle.input_lines.specs.Going.{WereWhole}
use Rattle.input_lines.specs.Reads.{Leaves as LeavesAhead, Passes, ahead_with}
use Rattle.input_lines.proofs.Steps.{whole_more}
use Rattle.mux_model.specs.declared.mux.Mux.{Mux}
use Rattle.mux_config.specs.declared.fault.Word.TheVariants.{End}
use Rattle.mux_config.specs.declared.fault.MuxFault.{MuxFault}
use Rattle.mux_config.specs.declared.fault.MuxFault.TheVariants.{Missing}
use Rattle.mux_config.specs.declared.stop.MuxStop.{MuxStop}
use Rattle.mux_config.specs.declared.stop.MuxStop.TheVariants as mux
use Rattle.mux_config.specs.Descriptions.{Description, description_ahead, fault_in}
use Rattle.mux_config.specs.Reads.{ReadMux}
use Rattle.mux_config.specs.Texts.{described_taken}
use Rattle.mux_config.proofs.Reading.{fault_read, mux_read, read_stopped}
use Rattle.journal_model.specs.Steps.{Command}
use Rattle.desk_checkpoint.specs.declared.start.Start.{Start}
use Rattle.epg_report.specs.declared.status.Status.{Status}
use Rattle.epg_report.specs.declared.status.Status.TheVariants.{BadMux, Memory, ReadFault}
use Rattle.epg_report.specs.declared.status.Origin.TheVariants.{Input}
use Rattle.epg_play.specs.declared.stop.PlayStop.{PlayStop}
use Rattle.epg_play.specs.declared.stop.PlayStop.TheVariants.{Read, Memory as NoMemory}
use Rattle.epg_play.specs.Leaves.{met_by, mux_stop, status_for}
use Rattle.epg_play.specs.Played.{DeskDid, RestDid, RestTaken, course}
use Rattle.epg_play.specs.Script.{Stop}
use Rattle.epg_play.proofs.RunFacts.{bytes_left}
use Rattle.epg_play.specs.declared.played.Played.{Played}
use Rattle.epg_play.specs.Beginning.{IsNotBegun}
use Rattle.epg_play.specs.Courses.{CourseBehind, HasPlayedOn, IsPlayed}
use Rattle.epg_play.specs.Over.{LeavesBy, LeavesOver, described_within}

-- ---- a reader that has read nothing of a text of which so many bytes may be taken

none_passed : (limit : ℕ) → limit - 0 ≡ limit
none_passed limit = omega arith

-- the description of the text is what is ahead of it
pub described_first : {S : Type 0} (limit : ℕ) (source : S) (text : List ℕ) → described_within limit text ≡ description_ahead (ahead (fresh_to limit source) text)
described_first limit source text = sym (ap (λ (n : ℕ). description_ahead (ahead_in 1 (lines_left n text))) (none_passed limit))

-- ---- where a multiplex is described

-- by a reader that had read nothing of this text
pub first_within : {S : Type 0} (limit : ℕ) (left : S → Option (List ℕ)) (faults : S → ℕ) (alike : S → S → Type 0) (old new : Reading S) (source : S) (text : List ℕ) (mux : Mux)
    → old ≡ fresh_to limit source → left source ≡ Some text → ReadMux left faults alike old new (Ok mux)
    → LeavesAhead left description_ahead (Came (Ok mux)) (fresh_to limit source) new text × Passes left description_ahead (Came (Ok mux)) (fresh_to limit source) new
first_within limit left faults alike old new source text mux e told read =
    let reads = mux_read left faults alike (fresh_to limit source) new mux (subst (λ r. ReadMux left faults alike r new (Ok mux)) e read) in
    (reads.gives refl text (fresh_text_to left limit source ∙ told), reads.takes refl)

module _ {S : Type 0} (limit : ℕ) (left : S → Option (List ℕ)) (source : S) (mid new : Reading S) (text : List ℕ) (mux : Mux) (told : left source ≡ Some text)
    (d : LeavesAhead left description_ahead (Came (Ok mux)) (fresh_to limit source) mid text) (came : Passes left description_ahead (Came (Ok mux)) (fresh_to limit source) mid)
    (fold : Bool) (start : Start) (Begins : Start → Type 0) (begins : Begins start) (before now : Option (List ℕ)) (played : Played) (p : HasPlayedOn fold left mid new start before now played)
    (Idle : Status → Type 0) (B : Mux → Ahead → Status → Type 0) (wrap : (ls : Ahead) → CourseBehind fold Begins before now played ls → B mux ls played.met) where
  abbrev on : IsPlayed fold start before now played
  on = p.on

  abbrev rest_of : Ahead → List Command × Stop
  rest_of ls = course start.shift start.desk.mux start.desk.entries None ls

  abbrev Did : Ahead → Result (Unit {0}) PlayStop → Type 0
  Did ls r = DeskDid (rest_of ls) start.desk on.left.now r

  course_by : (ls : Ahead) (r : Result (Unit {0}) PlayStop) → on.stop ≡ r → Did ls r → CourseBehind fold Begins before now played ls
  course_by ls r e did = record { start = start; begins = begins; on = on; did = subst (Did ls) (sym e) did }

  met_as : (r : Result (Unit {0}) PlayStop) → on.stop ≡ r → played.met ≡ met_by r
  met_as r e = on.met ∙ ap met_by e

  whole : (r : Result (Unit {0}) PlayStop) → on.stop ≡ r → Did (ahead mid d.rest) r → LeavesBy Idle B (described_within limit text) (met_by r)
  whole r e did =
      subst (λ (found : Found Description). LeavesBy Idle B found (met_by r)) (sym (described_first limit source text ∙ d.reads))
      (subst (B mux (ahead mid d.rest)) (met_as r e) (wrap (ahead mid d.rest) (course_by (ahead mid d.rest) r e did)))

  did_by : (r : Result (Unit {0}) PlayStop) → on.stop ≡ r → RestDid (rest_of (ahead mid d.rest)) start.desk on.left.now r
  did_by r e = subst (RestDid (rest_of (ahead mid d.rest)) start.desk on.left.now) e (p.stops.0 d.rest d.told)

  taken_by : (r : Result (Unit {0}) PlayStop) → on.stop ≡ r → RestTaken start.shift left mid new start.desk on.left.now r
  taken_by r e = subst (RestTaken start.shift left mid new start.desk on.left.now) e p.stops.1

  by : (r : Result (Unit {0}) PlayStop) → on.stop ≡ r → LeavesOver limit Idle B text (left new.source) (met_by r)
  by (Err (Read Failed)) e =
      let t = taken_by (Err (Read Failed)) e in
      let both : WereWhole left (fresh_to limit source) new (came.looked.lines ++ t.lines) = whole_more left (fresh_to limit source) mid new came.looked.lines t.lines came.looked.handed t.unended t.whole in
      let lines_are = ahead_with mid t.lines Breaks in
      let is : described_taken both.more ≡ Came (Ok mux) lines_are = ap (λ l. description_ahead (ahead_with (fresh_to limit source) l Breaks)) both.whole ∙ came.reads t.lines Breaks in
      let b = bytes_left (left new.source) text both.more (subst (λ (o : Option (List ℕ)). Consumes o (left new.source) both.more) told both.gave) in
      record {
        taken = both.more;
        rest = b.0;
        text_is = b.1;
        left_is = b.2;
        leaves = subst (λ (found : Found Description). LeavesBy Idle B found (ReadFault Input)) (sym is)
            (subst (B mux lines_are) (met_as (Err (Read Failed)) e) (wrap lines_are (course_by lines_are (Err (Read Failed)) e t.did)));
      }
  by (Err NoMemory) e = tt
  by r e = whole r e (did_by r e)

  pub played_over : LeavesOver limit Idle B text (left new.source) played.met
  played_over = subst (LeavesOver limit Idle B text (left new.source)) (sym on.met) (by on.stop refl)

-- nothing was played, since nothing was begun
pub refused_over : {S : Type 0} (limit : ℕ) (left : S → Option (List ℕ)) (source : S) (mid : Reading S) (text : List ℕ) (after : Option (List ℕ)) (mux : Mux)
    (d : LeavesAhead left description_ahead (Came (Ok mux)) (fresh_to limit source) mid text) (Idle : Status → Type 0) (B : Mux → Ahead → Status → Type 0) (met : Status)
    → IsNotBegun met → B mux (ahead mid d.rest) met → LeavesOver limit Idle B text after met
refused_over limit left source mid text after mux d Idle B (ReadFault Input) known b = absurd known
refused_over limit left source mid text after mux d Idle B Memory known b = tt
refused_over limit left source mid text after mux d Idle B other known b = subst (λ (found : Found Description). LeavesBy Idle B found other) (sym (described_first limit source text ∙ d.reads)) b

-- ---- where none is

fault_over : (Idle : Status → Type 0) (B : Mux → Ahead → Status → Type 0) (found : Found Description) (fault : MuxFault) → fault_in found ≡ Some fault → Idle (BadMux fault) → LeavesBy Idle B found (BadMux fault)
fault_over Idle B (Came (Err here) ls) fault e idle = (let same : here ≡ fault = cc e in (ap BadMux (sym same), idle))
fault_over Idle B (Stopped (lines.NoCommand n)) fault e idle = (let same : Missing End ≡ fault = cc e in (ap BadMux (sym same), idle))
fault_over Idle B other fault e idle = cc e

pub undescribed_over : {S : Type 0} (limit : ℕ) (left : S → Option (List ℕ)) (faults : S → ℕ) (alike : S → S → Type 0) (old new : Reading S) (source : S) (text : List ℕ) (stop : MuxStop) (Idle : Status → Type 0) (B : Mux → Ahead → Status → Type 0)
    → old ≡ fresh_to limit source → left source ≡ Some text → ReadMux left faults alike old new (Err stop) → Idle (status_for (mux_stop stop)) → LeavesOver limit Idle B text (left new.source) (status_for (mux_stop stop))
undescribed_over limit left faults alike old new source text (mux.Fault fault) Idle B e told read idle =
    let here = subst (λ r. ReadMux left faults alike r new (Err (mux.Fault fault))) e read in
    fault_over Idle B (described_within limit text) fault (ap fault_in (described_first limit source text) ∙ fault_read left faults alike (fresh_to limit source) new fault text refl (fresh_text_to left limit source ∙ told) here) idle
undescribed_over limit left faults alike old new source text (mux.Read Overlong) Idle B e told read idle =
    let here = read_stopped left faults alike (fresh_to limit source) new Overlong (subst (λ r. ReadMux left faults alike r new (Err (mux.Read Overlong))) e read) in
    subst (λ (found : Found Description). LeavesBy Idle B found (status_for (mux_stop (mux.Read Overlong)))) (sym (described_first limit source text ∙ here.gives refl text (fresh_text_to left limit source ∙ told))) (refl, idle)
undescribed_over limit left faults alike old new source text (mux.Read Failed) Idle B e told read idle =
    let fault = (read_stopped left faults alike (fresh_to limit source) new Failed (subst (λ r. ReadMux left faults alike r new (Err (mux.Read Failed))) e read)).takes refl in
    let is : described_taken fault.whole.more ≡ Stopped lines.Unread = ap (λ l. description_ahead (ahead_with (fresh_to limit source) l Breaks)) fault.whole.whole ∙ fault.reads in
    let b = bytes_left (left new.source) text fault.whole.more (subst (λ (o : Option (List ℕ)). Consumes o (left new.source) fault.whole.more) told fault.whole.gave) in
    record {
      taken = fault.whole.more;
      rest = b.0;
      text_is = b.1;
      left_is = b.2;
      leaves = subst (λ (found : Found Description). LeavesBy Idle B found (ReadFault Input)) (sym is) (refl, idle);
    }
undescribed_over limit left faults alike old new source text mux.Memory Idle B e told read idle = tt
