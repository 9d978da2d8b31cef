-- A script that is played at a desk which keeps no journal: how far it has come, what the player has counted, and why it stops.
use Rattle.std.proofs.Common.{◌≡◌, ◌≤◌, ℕ, Bool, true, false, List, [], ◌++◌, append-nil, sym, ap, ◌∙◌, subst, inl, inr, ◌⊎◌}
use Rattle.std.specs.Prelude.{Option, None, Ok, Err, OnOk, Result}
use Rattle.std.specs.declared.alloc.AllocError.{AllocError}
use Rattle.std.proofs.lemmas.List.{append_cancel_left}
use Rattle.si_causes.specs.Reading.{Reading}
use Rattle.si_causes.proofs.CauseFacts.{Rose-from}
use Rattle.air_model.specs.Air.{Aired}
use Rattle.cycle_player.specs.Sending.{AtEnd, Sending}
use Rattle.mux_model.specs.declared.mux.Mux.{Mux}
use Rattle.journal_model.specs.declared.step.Entry.{Entry}
use Rattle.desk_core.specs.declared.lean.LeanDesk.{LeanDesk}
use Rattle.desk_core.specs.Desks.{DeskState}
use Rattle.desk_core.specs.Journal.{Legal}
use Rattle.desk_core.specs.Lean.{IsLean, StandsFor, stood_for}
use Rattle.desk_checkpoint.specs.Text.{start_text}
use Rattle.epg_report.specs.declared.status.Status.TheVariants.{Done}
use Rattle.journal_air.specs.OnAir.{AreAlike, HasAired, IsPlayerOf, SentCycle, airing_on, AiredTo as OnAirTo, HasAirCause as HasSendCause}
use Rattle.journal_air.specs.Tallied.{CountedCycle, HasTallied, TalliedTo as CountedTo}
use Rattle.journal_air.specs.declared.send.SendStop.{SendStop}
use Rattle.journal_air.specs.declared.send.SendStop.TheVariants as send
use Rattle.journal_air.proofs.SwapFacts.{after_other_aired, after_swap_aired, player_kept}
use Rattle.journal_air.proofs.Tallied.{other_tallied, swap_tallied}
use Rattle.epg_play.specs.declared.desk.ScriptDesk.{ScriptDesk}
use Rattle.epg_play.specs.declared.item.ItemDone.TheVariants as item
use Rattle.epg_play.specs.declared.played.Course.{Course}
use Rattle.epg_play.specs.declared.stop.PlayStop.{PlayStop}
use Rattle.epg_play.specs.declared.stop.PlayStop.TheVariants.{Air, Memory}
use Rattle.epg_play.specs.Courses.{Appended, IsCourseText, PlaysRest}
use Rattle.epg_play.specs.Items.{IsAt, ItemDid, ItemLeft, Stands, Stays, StepAt, Went}
use Rattle.epg_play.specs.Played.{AiredTo, HasAirCause, HasReadCause, IsItemStop, IsStopBehind, TalliedTo, send_stop}
use Rattle.epg_play.proofs.CourseFacts.{cut_stop, went_none}

-- ---- a stop, and the status that it leads to

pub sent_behind : (stop : SendStop) → IsStopBehind (send_stop stop)
sent_behind send.Air = tt
sent_behind send.Memory = tt

pub sent_no_read : (before now : ℕ) (stop : SendStop) → HasReadCause {T = Unit {0}} before now (Err (send_stop stop))
sent_no_read before now send.Air = tt
sent_no_read before now send.Memory = tt

pub sent_caused : (before mid now : ℕ) (stop : SendStop) → before ≤ mid → HasSendCause mid now (Err stop) → HasAirCause {T = Unit {0}} before now (Err (send_stop stop))
sent_caused before mid now send.Air le cause = Rose-from before mid now le cause
sent_caused before mid now send.Memory le cause = tt

-- ---- what is on air, and what the player has counted

-- an item that stops leaves it
stopped_aired : (earlier : List Aired) (desk : DeskState) (player : Sending) (before now : Option (List ℕ)) (stop : PlayStop) → IsItemStop stop → HasAired earlier desk player before now
    → AiredTo {T = Unit {0}} earlier desk player before now (Err stop)
stopped_aired earlier desk player before now Air is has = absurd is
stopped_aired earlier desk player before now Memory is has = tt
stopped_aired earlier desk player before now other is has = has

cut_aired : (earlier : List Aired) (desk : DeskState) (player : Sending) (before now : Option (List ℕ)) (stop : SendStop) → OnAirTo earlier desk player before now (Err stop)
    → AiredTo {T = Unit {0}} earlier desk player before now (Err (send_stop stop))
cut_aired earlier desk player before now send.Air has = has
cut_aired earlier desk player before now send.Memory has = tt

-- a player of the desk's multiplex, whose tally is that of the desk's journal
abbrev pub HasKept : DeskState → Sending → Type 0
HasKept desk player = IsPlayerOf desk.mux player × HasTallied desk player

other_kept : (old desk : DeskState) (player : Sending)
    → StepAt false old desk ⊎ (desk ≡ old) → Legal old.mux old.entries
    → HasKept old player → HasKept desk player
other_kept old desk player (inl step) legal kept = (
  subst (λ (m : Mux). IsPlayerOf m player) (sym (ap (λ (d : DeskState). d.mux) step.did)) kept.0,
  other_tallied old desk step.who step.step player step.did legal step.is kept.1,
)
other_kept old desk player (inr same) legal kept =
    subst (λ (d : DeskState). HasKept d player) (sym same) kept

cut_tallied : (desk : DeskState) (player : Sending) (stop : SendStop)
    → CountedTo desk player (Err stop) → TalliedTo {T = Unit {0}} desk player (Err (send_stop stop))
cut_tallied desk player send.Air has = has
cut_tallied desk player send.Memory has = tt

stopped_tallied : (desk : DeskState) (player : Sending) (stop : PlayStop) → HasTallied desk player → TalliedTo {T = Unit {0}} desk player (Err stop)
stopped_tallied desk player Memory has = tt
stopped_tallied desk player other has = has

-- ---- a desk without its journal, as the desk that it stands for

pub stood_is : (state : DeskState) (desk : LeanDesk) → Stands state desk → stood_for state.entries desk ≡ state
stood_is state desk stands = ap (λ (m : Mux). let d : DeskState = record { mux = m; entries = state.entries } in d) stands.mux

legal_at : (state : DeskState) (desk : LeanDesk) → Stands state desk → Legal state.mux state.entries
legal_at state desk stands = subst (λ (m : Mux). Legal m state.entries) stands.mux stands.journal.legal

pub stays_on : (a b c : ScriptDesk) → Stays a b → Stays b c → Stays a c
stays_on a b c one other = record { ready = other.ready; shift = other.shift ∙ one.shift; keeps = other.keeps ∙ one.keeps }

abbrev pub course_with : ScriptDesk → Sending → Course
course_with desk player = record { desk = desk; player = player }

-- what sending the cycle of what is on air at such a desk gives
pub record Sends (desk : LeanDesk) (old new : Sending) (mid now : Option (List ℕ)) (r : Result (Unit {0}) SendStop) : Type 0 where
  pub sent : (journal : List Entry) (xs : List Aired) → StandsFor journal desk → AtEnd xs old → SentCycle xs (airing_on (stood_for journal desk) old.form) new mid now r
  pub counted : (journal : List Entry) → StandsFor journal desk → CountedCycle (airing_on (stood_for journal desk) old.form) old new r
  pub alike : AreAlike old new

module _ {S : Type 0} (left : S → Option (List ℕ)) (first : Reading S) (before : DeskState) (start : Sending) (air_before : Option (List ℕ)) where
  -- so far a script has come
  pub record Gone (lines : Reading S) (course : Course) (air : Option (List ℕ)) : Type 0 where
    pub now : DeskState
    pub at : IsAt before now course.desk
    pub went : Went course.desk.shift left first lines before now course.desk.last
    pub aired : (earlier : List Aired) (w : Option (List ℕ)) → HasAired earlier before start w air_before → HasAired earlier now course.player w air
    pub kept : HasKept before start → HasKept now course.player

  module _ (old new : Reading S) (desk next : ScriptDesk) (player : Sending) (air : Option (List ℕ)) (g : Gone old (course_with desk player) air) where
    legal : Legal g.now.mux g.now.entries
    legal = legal_at g.now desk.desk g.at.stands

    -- a step was done that is no swap, or an outcome agreed
    pub gone_other : ItemLeft left first new before g.now next (Ok item.Other) → Gone new (course_with next player) air
    gone_other i = record {
      now = i.now;
      at = i.at;
      went = i.goes_on;
      aired = λ earlier w has. other i.did earlier w (g.aired earlier w has);
      kept = λ kept. other_kept g.now i.now player i.did legal (g.kept kept);
    }
      where
        other : ItemDid g.now i.now (Ok item.Other) → (earlier : List Aired) (w : Option (List ℕ)) → HasAired earlier g.now player w air → HasAired earlier i.now player w air
        other (inl step) earlier w has = after_other_aired earlier g.now i.now step.who step.step player w air step.did legal step.is has
        other (inr same) earlier w has = subst (λ (d : DeskState). HasAired earlier d player w air) (sym same) has

    module _ (i : ItemLeft left first new before g.now next (Ok item.Swap)) (after : Sending) (now : Option (List ℕ)) where
      sends_at : (r : Result (Unit {0}) SendStop) → Sends next.desk player after air now r → (xs : List Aired) → AtEnd xs player → SentCycle xs (airing_on i.now player.form) after air now r
      sends_at r sends xs at_end =
          subst (λ (d : DeskState). SentCycle xs (airing_on d player.form) after air now r) (stood_is i.now next.desk i.at.stands)
          (sends.sent i.now.entries xs i.at.stands.journal at_end)

      swap_aired : (r : Result (Unit {0}) SendStop) → Sends next.desk player after air now r → (earlier : List Aired) (w : Option (List ℕ)) → HasAired earlier g.now player w air → OnAirTo earlier i.now after w now r
      swap_aired r sends earlier w has =
          after_swap_aired earlier g.now i.now i.did.who i.did.step player after w air now r i.did.did legal i.did.is sends.alike has (sends_at r sends)

      counted_at : (r : Result (Unit {0}) SendStop) → Sends next.desk player after air now r → CountedCycle (airing_on i.now player.form) player after r
      counted_at r sends =
          subst (λ (d : DeskState). CountedCycle (airing_on d player.form) player after r) (stood_is i.now next.desk i.at.stands)
          (sends.counted i.now.entries i.at.stands.journal)

      -- the cycle of a swap was sent whole
      pub gone_swap : Sends next.desk player after air now (Ok tt) → Gone new (course_with next after) now
      gone_swap sends = record {
        now = i.now;
        at = i.at;
        went = i.goes_on;
        aired = λ earlier w has. swap_aired (Ok tt) sends earlier w (g.aired earlier w has);
        kept = λ kept.
            let old_kept = g.kept kept in (
              subst (λ (m : Mux). IsPlayerOf m after) (sym (ap (λ (d : DeskState). d.mux) i.did.did)) (player_kept g.now.mux player after sends.alike old_kept.0),
              swap_tallied g.now i.now i.did.who i.did.step player after (Ok tt) i.did.did legal i.did.is old_kept.0 old_kept.1 (counted_at (Ok tt) sends),
            );
      }

      -- or it was not
      pub rest_cut : (stop : SendStop) → Sends next.desk player after air now (Err stop) → PlaysRest left first new before start air_before now (course_with next after) (Err (send_stop stop))
      rest_cut stop sends = (
        record {
          now = i.now;
          at = i.at;
          aired = λ earlier w has. cut_aired earlier i.now after w now stop (swap_aired (Err stop) sends earlier w (g.aired earlier w has));
          tallied = λ is has.
              let kept = g.kept (is, has) in
              cut_tallied i.now after stop (swap_tallied g.now i.now i.did.who i.did.step player after (Err stop) i.did.did legal i.did.is kept.0 kept.1 (counted_at (Err stop) sends));
        },
        cut_stop next.shift left first new before i.now next.last stop i.goes_on,
      )

    -- the script is at its end
    pub rest_ended : ItemLeft left first new before g.now next (Ok item.End) → PlaysRest left first new before start air_before air (course_with next player) (Ok tt)
    rest_ended i = (
      record {
        now = i.now;
        at = i.at;
        aired = λ earlier w has. subst (λ (d : DeskState). HasAired earlier d player w air) (sym i.did) (g.aired earlier w has);
        tallied = λ is has. (subst (λ (d : DeskState). HasKept d player) (sym i.did) (g.kept (is, has))).1;
      },
      i.goes_on,
    )

    -- or it stops
    pub rest_stopped : (stop : PlayStop) → IsItemStop stop → ItemLeft left first new before g.now next (Err stop) → PlaysRest left first new before start air_before air (course_with next player) (Err stop)
    rest_stopped stop is i = (
      record {
        now = i.now;
        at = i.at;
        aired = λ earlier w has. stopped_aired earlier i.now player w air stop is (subst (λ (d : DeskState). HasAired earlier d player w air) (sym i.did) (g.aired earlier w has));
        tallied = λ of has. stopped_tallied i.now player stop (subst (λ (d : DeskState). HasKept d player) (sym i.did) (g.kept (of, has))).1;
      },
      i.goes_on,
    )

-- a desk that was opened stands where its journal does
pub begun_at : (state : DeskState) (lean : LeanDesk) (shift : ℕ) (keeps : Bool) (desk : ScriptDesk) → desk ≡ record { desk = lean; shift = shift; last = desk.last; keeps = keeps; made = desk.made }
    → desk.made.items ≡ [] → lean.mux ≡ state.mux → StandsFor state.entries lean → IsAt state state desk
begun_at state lean shift keeps desk is made mux stands = record {
  more = [];
  entries = sym (append-nil state.entries);
  stands = subst (Stands state) (sym (ap (λ (d : ScriptDesk). d.desk) is)) (record { mux = mux; journal = stands });
  made = λ keep. made;
}

-- it has not begun
pub gone_none : {S : Type 0} (left : S → Option (List ℕ)) (lines : Reading S) (before : DeskState) (course : Course) (air : Option (List ℕ))
    → IsAt before before course.desk → course.desk.last ≡ None → Gone left lines before course.player air lines course air
gone_none left lines before course air at first = record {
  now = before;
  at = at;
  went = subst (Went course.desk.shift left lines lines before before) (sym first) (went_none course.desk.shift left lines before);
  aired = λ earlier w has. has;
  kept = λ kept. kept;
}

-- ---- what the report has of a course

-- the checkpoint of a desk without its journal is that of each desk for which it stands
pub checkpoint_put : (r : Result (Unit {0}) AllocError) (old new : List ℕ) (course : Course) → IsLean course.desk.desk
    → ((journal : List Entry) → StandsFor journal course.desk.desk → OnOk r (new ≡ old ++ start_text course.desk.shift (stood_for journal course.desk.desk) course.player))
    → OnOk r (Appended (IsCourseText true course Done) old new)
checkpoint_put (Ok u) old new course (journal, stands) wrote = (
  start_text course.desk.shift (stood_for journal course.desk.desk) course.player,
  λ state at. append_cancel_left old _ _ (sym (wrote journal stands) ∙ wrote state.entries at.journal)
      ∙ ap (λ (d : DeskState). start_text course.desk.shift d course.player) (stood_is state course.desk.desk at),
  wrote journal stands,
)
checkpoint_put (Err e) old new course lean wrote = tt
