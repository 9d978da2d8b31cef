-- Each caller's commands in the journal of a run.
use Rattle.std.proofs.Common.{◌≡◌, ℕ, zero, suc, ◌+◌, ◌≤◌, ◌<◌, true, arith, length, List, [], ◌∷◌, ◌++◌, map, take, refl, sym, ap, ◌∙◌, subst, append-nil}
use Rattle.std.specs.Prelude.{Option, Some, None, Ok, Err, Result}
use Rattle.std.specs.List.{AllByRecursion}
use Rattle.std.proofs.lemmas.List.{map-append}
use Rattle.std.proofs.lemmas.Slice.Zip.{AllZip-long}
use Rattle.si_causes.specs.Reading.{Reading}
use Rattle.si_causes.specs.declared.stop.ReadStop.TheVariants.{Failed, TooLong as Overlong}
use Rattle.mux_model.specs.declared.mux.Mux.{Mux}
use Rattle.input_lines.specs.declared.stop.EditStop.{EditStop}
use Rattle.input_lines.specs.declared.stop.EditStop.TheVariants.{NoCommand as Refused, Read, Memory}
use Rattle.input_lines.specs.Ahead.{Ahead, Stop, ahead}
use Rattle.script_lines.specs.Edits.{edits_ahead}
use Rattle.journal_model.specs.declared.step.Step.{Step}
use Rattle.journal_model.specs.declared.step.Entry.{Entry}
use Rattle.journal_model.specs.Steps.{Command, command_of}
use Rattle.cycle_player.specs.Sending.{Sending}
use Rattle.journal_air.specs.declared.send.SendStop.{SendStop}
use Rattle.journal_air.specs.declared.send.SendStop.TheVariants.{Air}
use Rattle.journal_air.specs.declared.send.SendStop.TheVariants as wanting
use mathlib.Core.List.{IsPrefix}
use Rattle.si_time.specs.declared.moment.Moment.{Moment}
use Rattle.cycle_player.specs.Making.{tick_then}
use Rattle.journal_air.specs.Air.{airings, airings_by}
use Rattle.headend_jobs.specs.Playing.{AreTicks, HasPlayedTo, IsNextTick, SwapsPlayed, TurnsMade}
use Rattle.headend_jobs.specs.Ticking.{tick_by, tick_of, ticks_for, ticks_of, turns_by}
use Rattle.headend_jobs.proofs.Cutting.{feeds_len}
use Rattle.headend_jobs.proofs.Ending.{airs_are}
use Rattle.headend_jobs.proofs.Running.{feeds_back, swaps_did}
use Rattle.headend_jobs.proofs.Ticking.{own_tick, own_ticks, ticks_len}
use Rattle.turn_lock.specs.declared.known.Caller.{Caller}
use Rattle.turn_lock.specs.Knowledge.{NotLowest, TableId}
use Rattle.headend_jobs.specs.declared.jobs.FeedJob.{FeedJob}
use Rattle.desk_hall.specs.Turn.{View, Did}
use Rattle.desk_hall.specs.Reads.{DidEach, ReaderDid, Stream, ToldDid, TakenDid, commands_by, edit_step, control_step, controls_ahead}
use Rattle.headend_jobs.specs.Crews.{AreBack}
use Rattle.headend_jobs.specs.Jobs.{FeedDid, FeedsDid, Streams, callers_of, new_feeds, new_pass}
use Rattle.headend_jobs.specs.Live.{LiveDid}
use Rattle.headend_jobs.specs.Callers.{CommandsAre, CallerRead, FeedsRead, PlayerSwapped, HaveTheirCommands}
use Rattle.headend_jobs.proofs.WholeJournal.{of}

module _ {T : Type 0} (P Q : List T → Type 0) (f : (values : List T) → P values → Q values) where
  told_map : (all : List T × Stop) (stop : Option EditStop) → ToldDid P all stop → ToldDid Q all stop
  told_map all None d = (d.0, f all.0 d.1)
  told_map all (Some (Refused n)) d = (d.0, f all.0 d.1)
  told_map all (Some (Read Overlong)) d = (d.0, f all.0 d.1)
  told_map all (Some (Read Failed)) d = (d.0, f (take d.0 all.0) d.1)
  told_map all (Some Memory) d = (d.0, f (take d.0 all.0) d.1)

  taken_map : {S : Type 0} (left : S → Option (List ℕ)) (all : Ahead → List T × Stop) (old new : Reading S) (stop : Option EditStop) → TakenDid P left all old new stop → TakenDid Q left all old new stop
  taken_map left all old new None d = tt
  taken_map left all old new (Some (Refused n)) d = tt
  taken_map left all old new (Some (Read Overlong)) d = tt
  taken_map left all old new (Some (Read Failed)) d = record { lines = d.lines; whole = d.whole; unended = d.unended; stop = d.stop; commands = f _ d.commands }
  taken_map left all old new (Some Memory) d = tt

-- a caller that had made nothing
commands_of : {T : Type 0} (step : T → Step) (journal : List Entry) (who : ℕ) (final : List Entry) (v w : View) → v.own.low ≡ who → v.own.made ≡ [] → of who journal ≡ w.own.made ++ final
    → (values : List T) → DidEach step v w values → CommandsAre journal who (commands_by who step values ++ map command_of final)
commands_of step journal who final v w low empty is values d =
    ap (map command_of) (is ∙ ap (λ (l : List Entry). l ++ final) (ap (λ (z : View). z.own.made) d.gained ∙ ap (λ (l : List Entry). l ++ d.added) empty))
    ∙ map-append command_of d.added final
    ∙ ap (λ (l : List Command). l ++ map command_of final) (d.commands_are ∙ ap (λ (n : ℕ). commands_by n step values) low)

caller_read : {T S : Type 0} (step : T → Step) (all : Ahead → List T × Stop) (st : Stream S) (journal : List Entry) (who : ℕ) (final : List Entry)
    (v w : View) (old new : Reading S) (stop : Option EditStop) → v.own.low ≡ who → v.own.made ≡ [] → of who journal ≡ w.own.made ++ final
    → ReaderDid step all st v w old new stop → CallerRead step all st.left journal who (map command_of final) old new stop
caller_read {T = T} step all st journal who final v w old new stop low empty is d =
    let f : (values : List T) → DidEach step v w values → CommandsAre journal who (commands_by who step values ++ map command_of final) = commands_of step journal who final v w low empty is in
    record {
      did = (d.did.0, f d.did.0 d.did.1);
      told = λ o text told. told_map (DidEach step v w) (λ values. CommandsAre journal who (commands_by who step values ++ map command_of final)) f (all (ahead old text)) stop (d.told o text told);
      taken = λ o. taken_map (DidEach step v w) (λ values. CommandsAre journal who (commands_by who step values ++ map command_of final)) f st.left all old new stop (d.taken o);
    }

-- a pass that had made nothing
did_commands : (journal : List Entry) (commands : List Command) (v w : View) → v.own.made ≡ [] → of w.own.low journal ≡ w.own.made → Did commands v w → CommandsAre journal v.own.low commands
did_commands journal commands v w empty is d =
    ap (λ (k : ℕ). map command_of (of k journal)) (sym (ap (λ (z : View). z.own.low) d.gained))
    ∙ ap (map command_of) (is ∙ ap (λ (z : View). z.own.made) d.gained ∙ ap (λ (l : List Entry). l ++ d.added) empty)
    ∙ d.commands_are

-- under a number that it has
did_commands_by : (journal : List Entry) (who : ℕ) (commands : List Command) (v w : View) → v.own.low ≡ who → v.own.made ≡ [] → of w.own.low journal ≡ w.own.made → Did commands v w → CommandsAre journal who commands
did_commands_by journal who commands v w low empty is d = subst (λ (i : ℕ). CommandsAre journal i commands) low (did_commands journal commands v w empty is d)

-- what is taken of a tick that is known where any of it is taken
taken_tick : (more who : ℕ) (tick other : Option Moment) → (0 < more → tick ≡ other) → take more (tick_by who tick) ≡ take more (tick_by who other)
taken_tick zero who tick other same = refl
taken_tick (suc more) who tick other same = ap (λ (o : Option Moment). take (suc more) (tick_by who o)) (same (omega arith))

-- the player, which had played nothing
module _ (mux : Mux) (journal final : List Entry) (v w : View) (old new : Sending) (mid now : Option (List ℕ)) (low : v.own.low ≡ 1) (empty : v.own.made ≡ []) (is : of w.own.low journal ≡ w.own.made)
    (played : HasPlayedTo mux v.seen [] old mid mid) (are : airings mux journal ≡ airings_by mux journal (w.own.made ++ final)) (began : IsPrefix w.seen journal) where
  -- its ticks are those of the journal
  ticks_told : (commands : List Command) (d : Did commands v w) (ticks : List (Option Moment)) → AreTicks true mux v w.seen d.added old mid ticks → ticks ≡ ticks_of mux journal (length ticks)
  ticks_told commands d ticks told =
      let made : w.own.made ≡ d.added = ap (λ (z : View). z.own.made) d.gained ∙ ap (λ (l : List Entry). l ++ d.added) empty in
      own_ticks mux journal w.own.made final are ticks (told [] mid played journal began ∙ ap (λ (l : List Entry). ticks_for mux.rate [] (airings_by mux journal l)) (sym made))

  tick_told : (commands : List Command) (d : Did commands v w) (ticks : List (Option Moment)) (tick : Option Moment) → AreTicks true mux v w.seen d.added old mid ticks → IsNextTick true mux v w.seen d.added old mid tick
      → tick ≡ tick_of mux journal (length ticks)
  tick_told commands d ticks tick told next =
      let made : w.own.made ≡ d.added = ap (λ (z : View). z.own.made) d.gained ∙ ap (λ (l : List Entry). l ++ d.added) empty in
      let count : length (airings_by mux journal w.own.made) ≡ length ticks =
      ap (λ (l : List Entry). length (airings_by mux journal l)) made ∙ sym (ticks_len mux.rate [] (airings_by mux journal d.added)) ∙ ap length (sym (told [] mid played journal began)) in
      next [] mid played journal began ∙ ap (λ (l : List Entry). tick_then mux.rate (airings_by mux journal l)) (sym made) ∙ own_tick mux journal w.own.made final are (length ticks) count

  turns_made : (n : ℕ) (t : TurnsMade true mux n v w old mid) → CommandsAre journal 1 (turns_by 1 (ticks_of mux journal n))
  turns_made n t =
      subst (λ (k : ℕ). CommandsAre journal 1 (turns_by 1 (ticks_of mux journal k))) t.count
      (subst (λ (ticks : List (Option Moment)). CommandsAre journal 1 (turns_by 1 ticks)) (ticks_told (turns_by v.own.low t.ticks) t.did t.ticks t.ticks_are)
      (subst (λ (i : ℕ). CommandsAre journal i (turns_by i t.ticks)) low (did_commands journal (turns_by v.own.low t.ticks) v w empty is t.did)))

  player_swapped : (n : ℕ) (end : Result (Unit {0}) SendStop) → SwapsPlayed true mux n v w old new mid now end → PlayerSwapped mux journal n end
  player_swapped n (Ok u) (t, goes) = turns_made n t
  player_swapped n (Err Air) (k, less, (t, goes)) = (k, less, turns_made (suc k) t)
  player_swapped n (Err wanting.Memory) (t, goes) =
      let commands : List Command = turns_by v.own.low t.ticks ++ take t.more (tick_by v.own.low t.tick) in
      let k : ℕ = length t.ticks in (
        k,
        t.more,
        t.count,
        did_commands_by journal 1 commands v w low empty is t.did
            ∙ ap (λ (i : ℕ). turns_by i t.ticks ++ take t.more (tick_by i t.tick)) low
            ∙ ap (λ (ticks : List (Option Moment)). turns_by 1 ticks ++ take t.more (tick_by 1 t.tick)) (ticks_told commands t.did t.ticks t.ticks_are)
            ∙ ap (λ (l : List Command). turns_by 1 (ticks_of mux journal k) ++ l)
            (taken_tick t.more 1 t.tick (tick_of mux journal k) (λ some. tick_told commands t.did t.ticks t.tick t.ticks_are (t.tick_is some))),
      )

-- the player's pass keeps its number
swaps_low : (mux : Mux) (n : ℕ) (v w : View) (old new : Sending) (mid now : Option (List ℕ)) (end : Result (Unit {0}) SendStop) → SwapsPlayed true mux n v w old new mid now end → w.own.low ≡ v.own.low
swaps_low mux n v w old new mid now end played = ap (λ (z : View). z.own.low) (swaps_did true mux n v w old new mid now end played).1.gained

feeds_read : {F : Type 0} (st : Stream F) (t : TableId) (mux : Mux) (journal : List Entry) (n : ℕ) (rs : List (Reading F)) (jobs : List (FeedJob F)) → FeedsDid st (new_feeds t mux n rs) jobs
    → AllByRecursion (λ (c : Caller Entry). of c.low journal ≡ c.made) (callers_of jobs) → FeedsRead st.left journal n rs jobs
feeds_read st t mux journal n [] [] did each = tt
feeds_read st t mux journal n [] (job ∷ jobs) did each = absurd did
feeds_read st t mux journal n (r ∷ rs) [] did each = absurd did
feeds_read st t mux journal n (r ∷ rs) (job ∷ jobs) (did, more) (one, each) = (
  did.feed,
  caller_read (edit_step n) edits_ahead st journal (n + 1) [] (new_pass t mux (n + 1)) job.pass r job.lines job.stop refl refl
      (ap (λ (k : ℕ). of k journal) (sym (ap (λ (z : View). z.own.low) did.read.did.1.gained)) ∙ one ∙ sym (append-nil job.pass.own.made)) did.read,
  feeds_read st t mux journal (n + 1) rs jobs more each,
)

-- numbers above those of the feeds are nobody's
feeds_below : {F : Type 0} (t : TableId) (n : ℕ) (jobs : List (FeedJob F)) → AreBack t n jobs → (k : ℕ) → n + 1 + length jobs ≤ k → NotLowest (callers_of jobs) k
feeds_below t n [] back k le = tt
feeds_below t n (job ∷ jobs) (one, more) k le = (λ e. absurd (let low = one.lone.low in omega (arith, e, low, le)), feeds_below t (n + 1) jobs more k (omega (arith, le)))

pub callers_have : {F S : Type 0} (st : Streams F S) (turns : TableId) (mux : Mux) (cycles : ℕ) (readers : List (Reading F)) (reader : Reading S) (playing : Sending) (before now : Option (List ℕ)) (journal : List Entry) (sent : Result (Unit {0}) SendStop)
    → (d : LiveDid st turns mux cycles readers reader playing before now journal sent)
    → HasPlayedTo mux [] [] playing before before → HaveTheirCommands st mux journal cycles readers reader d.feeds d.control d.player.end d.final
callers_have st turns mux cycles readers reader playing before now journal sent d played =
    let low = ap (λ (z : View). z.own.low) d.control_did.did.1.gained in
    let player_low = swaps_low mux cycles (new_pass turns mux 1) d.player.pass playing d.played before d.mid d.player.end d.player_did in
    let back = feeds_back st.feeds turns mux 1 readers d.feeds d.feeds_did in
    let len = AllZip-long (FeedDid st.feeds) (new_feeds turns mux 1 readers) d.feeds d.feeds_did ∙ feeds_len turns mux 1 readers in
    record {
      feeds_read = feeds_read st.feeds turns mux journal 1 readers d.feeds d.feeds_did d.journal_did.each.1;
      control_read = caller_read control_step controls_ahead st.control journal 0 d.final (new_pass turns mux 0) d.control.pass reader d.control.lines d.control.stop refl refl
          (ap (λ (k : ℕ). of k journal) (sym low) ∙ d.journal_did.mine) d.control_did;
      player_swapped = player_swapped mux journal d.final (new_pass turns mux 1) d.player.pass playing d.played before d.mid refl refl d.journal_did.each.0 played (airs_are d.journal_did) d.began cycles d.player.end d.player_did;
      others = λ k le. d.journal_did.others k (λ e. absurd (omega (arith, e, low, le)), (λ e. absurd (omega (arith, e, player_low, le)), feeds_below turns 1 d.feeds back k (omega (arith, le, len))));
    }
