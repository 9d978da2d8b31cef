-- What following the next line did, from what was read and what was done of it.
use Rattle.std.proofs.Common.{◌≡◌, ◌≤◌, ℕ, Bool, List, sym, subst, inr}
use Rattle.std.specs.Prelude.{Option, is_some, Ok, Err, Result}
use Rattle.si_causes.specs.Reading.{Reading}
use Rattle.input_lines.specs.declared.stop.EditStop.{EditStop}
use Rattle.journal_model.specs.declared.step.Entry.{Entry}
use Rattle.desk_core.specs.Lean.{IsLean, StandsFor}
use Rattle.epg_report.specs.Told.{ReportTaken}
use Rattle.script_lines.specs.declared.script.ScriptItem.TheVariants.{Step as step, Kept, End}
use Rattle.script_notes.specs.declared.noting.Noting.{Noting}
use Rattle.script_notes.specs.declared.noting.Noting.TheVariants.{Bad, Item}
use Rattle.script_notes.specs.declared.noting.Held.{Held}
use Rattle.script_notes.specs.Held.{NotingOf}
use Rattle.epg_follow.specs.declared.follower.Follower.{Follower}
use Rattle.epg_follow.specs.declared.stop.FollowStop.{FollowStop}
use Rattle.epg_follow.specs.declared.stop.FollowStop.TheVariants.{NoCommand, Disagrees, Read, Air, Report, Memory}
use Rattle.epg_follow.specs.Items.{HaveCauses, ItemDid, LineDid, NotingCame, as_item}

-- a line, and not the end
abbrev pub IsLine : Noting → Type 0
IsLine (Item End) = ⊥
IsLine noting = Unit {0}

-- the same, whatever was held
pub held_did : (keep : Bool) (journal : List Entry) (old new : Follower) (held : Held) (noting : Noting) (air report : ReportTaken) (r : Result (Unit {0}) FollowStop)
    → LineDid keep journal (record old { held = held }) new noting air report r → LineDid keep journal old new noting air report r
held_did keep journal old new held noting air report (Ok u) d =
    record { goes_on = d.goes_on; stands = d.stands; made = d.made; reported = d.reported; carries = record { aired = d.carries.aired; tallied = d.carries.tallied } }
held_did keep journal old new held noting air report (Err (NoCommand n why)) d = record { is = d.is; player = d.player; unreported = d.unreported; silent = d.silent }
held_did keep journal old new held noting air report (Err (Disagrees n kept found)) d = record { is = d.is; player = d.player; unreported = d.unreported; silent = d.silent }
held_did keep journal old new held noting air report (Err (Read stop)) d = absurd d
held_did keep journal old new held noting air report (Err Air) d =
    record { piece = d.piece; adds_it = d.adds_it; is_swap = d.is_swap; reported = d.reported; cause = d.cause; carries = record { aired = d.carries.aired; tallied = d.carries.tallied } }
held_did keep journal old new held noting air report (Err Report) d = record { piece = d.piece; adds_it = d.adds_it; front = d.front; cause = d.cause; silent = d.silent }
held_did keep journal old new held noting air report (Err Memory) d = record { reported = d.reported; silent = d.silent }

module _ {S : Type 0} (keep : Bool) (left : S → Option (List ℕ)) (faults : S → ℕ) (alike : S → S → Type 0) (lines_old lines_new : Reading S) (old new : Follower) (held : Held)
    (air report : ReportTaken) where
  abbrev reads_of : Bool → Result Noting EditStop → Type 0
  reads_of after r = NotingOf left faults alike after old.held held lines_old lines_new r

  came : (noting : Noting) → IsLine noting → reads_of (is_some old.made) (Ok noting) → NotingCame left (is_some old.made) old.held held lines_old lines_new noting
  came (Item (step who s)) is reads = record { gives = reads.gives; takes = reads.takes }
  came (Item (Kept n kept)) is reads = record { gives = reads.gives; takes = reads.takes }
  came (Item End) is reads = absurd is
  came (Bad n why) is reads = record { gives = reads.gives; takes = reads.takes }

  -- ---- a line that came

  module _ (noting : Noting) (is : IsLine noting) (after : Bool) (after_is : after ≡ is_some old.made) (result : Result Noting EditStop) (result_is : result ≡ Ok noting) (reads_any : reads_of after result)
      (r : Result (Unit {0}) FollowStop) (held_same : new.held ≡ held)
      (did : (journal : List Entry) → StandsFor journal old.desk → LineDid keep journal (record old { held = held }) new noting air report r) where
    reads : reads_of (is_some old.made) (Ok noting)
    reads = subst (λ (b : Bool). reads_of b (Ok noting)) after_is (subst (reads_of after) result_is reads_any)

    came_new : NotingCame left (is_some old.made) old.held new.held lines_old lines_new noting
    came_new = subst (λ (h : Held). NotingCame left (is_some old.made) old.held h lines_old lines_new noting) (sym held_same) (came noting is reads)

    pub item_did : (journal : List Entry) → StandsFor journal old.desk → ItemDid keep left faults lines_old lines_new journal old new air report (as_item r)
    item_did journal stands = by r (held_did keep journal old new held noting air report r (did journal stands))
      where
        by : (q : Result (Unit {0}) FollowStop) → LineDid keep journal old new noting air report q → ItemDid keep left faults lines_old lines_new journal old new air report (as_item q)
        by (Ok u) d = (noting, came_new, d)
        by (Err (NoCommand n why)) d = (noting, came_new, d)
        by (Err (Disagrees n kept found)) d = (noting, came_new, d)
        by (Err (Read stop)) d = absurd d
        by (Err Air) d = (noting, came_new, d)
        by (Err Report) d = (noting, came_new, d)
        by (Err Memory) d = inr (noting, came_new, d)

    pub causes_on : IsLean old.desk → air.faults_old ≤ air.faults_new → report.faults_old ≤ report.faults_new
        → HaveCauses (faults lines_old.source) (faults lines_new.source) air report (as_item r)
    causes_on (journal, stands) air_later report_later = by r (did journal stands)
      where
        by : (q : Result (Unit {0}) FollowStop) → LineDid keep journal (record old { held = held }) new noting air report q
            → HaveCauses (faults lines_old.source) (faults lines_new.source) air report (as_item q)
        by (Ok u) d = record { read_later = reads.later; air_later = air_later; report_later = report_later; read = λ e. cc e; air_cause = λ e. cc e; report_cause = λ e. cc e }
        by (Err (NoCommand n why)) d = record { read_later = reads.later; air_later = air_later; report_later = report_later; read = λ e. cc e; air_cause = λ e. cc e; report_cause = λ e. cc e }
        by (Err (Disagrees n kept found)) d = record { read_later = reads.later; air_later = air_later; report_later = report_later; read = λ e. cc e; air_cause = λ e. cc e; report_cause = λ e. cc e }
        by (Err (Read stop)) d = absurd d
        by (Err Air) d = record { read_later = reads.later; air_later = air_later; report_later = report_later; read = λ e. cc e; air_cause = λ e. d.cause; report_cause = λ e. cc e }
        by (Err Report) d = record { read_later = reads.later; air_later = air_later; report_later = report_later; read = λ e. cc e; air_cause = λ e. cc e; report_cause = λ e. d.cause }
        by (Err Memory) d = record { read_later = reads.later; air_later = air_later; report_later = report_later; read = λ e. cc e; air_cause = λ e. cc e; report_cause = λ e. cc e }
