-- The edits and the ticks of a run's journal were read from lines.
use Rattle.std.proofs.Common.{◌≡◌, ◌⊎◌, inl, inr, ℕ, suc, ◌+◌, ◌<◌, ◌≤◌, Bool, true, false, List, [], ◌∷◌, ◌++◌, length, map, take, sym, subst, arith}
use Rattle.std.specs.Prelude.{zero, Option, Some, None, Ok, Err, Result}
use Rattle.std.specs.List.{AllByRecursion}
use Rattle.std.proofs.lemmas.List.Elements.{All-from_recursion, All-take, recursion_from_All}
use Rattle.si_lists.proofs.Lists.{all_append, all_map, all_two}
use Rattle.si_lists.proofs.Parts.{lt_or}
use Rattle.si_causes.specs.Opening.{Files}
use Rattle.si_causes.specs.declared.stop.ReadStop.TheVariants.{Failed, TooLong as Overlong}
use Rattle.mux_model.specs.declared.mux.Mux.{Mux}
use Rattle.si_time.specs.declared.moment.Moment.{Moment}
use Rattle.mux_model.specs.Sound.{IsSound}
use Rattle.journal_model.specs.declared.edit.Edit.{Edit}
use Rattle.journal_model.specs.declared.edit.Edit.TheVariants.{Put, Withdraw, Clear, Name, Day}
use Rattle.input_lines.specs.declared.stop.EditStop.{EditStop}
use Rattle.input_lines.specs.declared.stop.EditStop.TheVariants.{NoCommand as Refused, Read, Memory}
use Rattle.input_lines.specs.Ahead.{Ahead, Stop}
use Rattle.script_lines.specs.Edits.{edits_ahead}
use Rattle.script_lines.specs.Script.{IsShapedStep}
use Rattle.journal_model.specs.Edits.{IsDayWithin, IsShaped, IsTypedEdit}
use Rattle.script_lines.proofs.EditTypes.{ahead_typed}
use Rattle.journal_model.specs.declared.control.Control.{Control}
use Rattle.journal_model.specs.declared.control.Control.TheVariants.{Tick as tick, Publish as publish}
use Rattle.journal_model.specs.declared.step.Step.{Step}
use Rattle.journal_model.specs.declared.step.Step.TheVariants.{Publish, Swap}
use Rattle.journal_model.specs.declared.step.Entry.{Entry}
use Rattle.journal_model.specs.Steps.{AreInWindow, Command, IsControlWithin, IsEntryInWindow, IsStepInWindow, IsStepWithin, IsTypedStep, command_of}
use Rattle.desk_core.proofs.WindowFacts.{legal_window}
use Rattle.turn_lock.specs.Journal.{entries_of}
use Rattle.desk_hall.specs.Turn.{caller_of}
use Rattle.desk_hall.specs.Reads.{commands_by, control_step, controls_ahead, edit_step}
use Rattle.journal_air.specs.declared.send.SendStop.{SendStop}
use Rattle.journal_air.specs.declared.send.SendStop.TheVariants as send
use Rattle.headend_jobs.specs.Callers.{CommandsAre, PlayerSwapped}
use Rattle.journal_air.specs.Laws.{HasTypedEdits}
use Rattle.journal_text.specs.Back.{IsOfLines, IsWritten}
use Rattle.headend_jobs.specs.Live.{LastMade}
use Rattle.headend_jobs.specs.Stops.{feeds_stop, halts}
use Rattle.headend_jobs.specs.Ticking.{tick_by, tick_of, ticks_of, turns_by}
use Rattle.headend_jobs.specs.Whole.{final_commands}
use Rattle.headend_jobs.proofs.TypedJournals.{IsReadStep, journal_typed, journal_window}
use Rattle.headend_jobs.proofs.WholeJournal.{of_all}
use Rattle.mux_config.specs.Texts.{ahead_of}
use Rattle.epg_report.specs.declared.status.Status.{Status}
use Rattle.epg_live.specs.declared.reporting.Observed.{Observed}
use Rattle.epg_live.specs.Runs.{CallerDid, FeedsDid, IsJournal, JobsRan, LiveCall}
use Rattle.epg_live.proofs.ControlFacts.{controls_within}
use Rattle.epg_live.proofs.ShapeFacts.{ahead_shaped}
use Rattle.cycle_player.specs.Making.{IsToldTick}
use Rattle.headend_jobs.proofs.Ticking.{tick_has, tick_is_within, ticks_within, turns_have}

first_of : {X : Type 0} (P : X → Type 0) (k : ℕ) (xs : List X) → AllByRecursion P xs → AllByRecursion P (take k xs)
first_of P k xs all = recursion_from_All P (take k xs) (All-take P k xs (All-from_recursion P xs all))

-- an edit as lines give it
abbrev IsReadEdit : Edit → Type 0
IsReadEdit e = IsTypedEdit e × IsShaped e

-- ---- what the steps of a run have, where those of its callers have it

-- What each step of control lines has, each of an edit of a feed of such a number, a publish and a swap.
record HasSteps (P : Step → Type 0) (IsFed : ℕ → Type 0) : Type 0 where
  control : (c : Control) → IsControlWithin c → P (control_step c)
  fed : (feed : ℕ) (e : Edit) → IsFed feed → IsReadEdit e → P (edit_step feed e)
  published : P Publish
  swapped : P Swap

module _ (P : Step → Type 0) (IsFed : ℕ → Type 0) (has : HasSteps P IsFed) where
  abbrev HaveIt : List Command → Type 0
  HaveIt commands = AllByRecursion (λ (c : Command). P c.1) commands

  -- a caller whose commands are such
  abbrev CallerHas : List Entry → ℕ → Type 0
  CallerHas journal k = AllByRecursion (λ (e : Entry). P e.step) (entries_of caller_of k journal)

  commands_have : (entries : List Entry) → HaveIt (map command_of entries) → AllByRecursion (λ (e : Entry). P e.step) entries
  commands_have [] all = tt
  commands_have (e ∷ es) all = (all.0, commands_have es all.1)

  caller_has : (journal : List Entry) (who : ℕ) (commands : List Command) → CommandsAre journal who commands → HaveIt commands → CallerHas journal who
  caller_has journal who commands are all = commands_have (entries_of caller_of who journal) (subst HaveIt (sym are) all)

  -- ---- what each caller is asked

  controls_have : (controls : List Control) → AllByRecursion IsControlWithin controls → HaveIt (commands_by 0 control_step controls)
  controls_have [] all = tt
  controls_have (c ∷ controls) all = (has.control c all.0, controls_have controls all.1)

  edits_have : (who feed : ℕ) → IsFed feed → (edits : List Edit) → AllByRecursion IsReadEdit edits → HaveIt (commands_by who (edit_step feed) edits)
  edits_have who feed is [] all = tt
  edits_have who feed is (e ∷ edits) all = (has.fed feed e is all.0, edits_have who feed is edits all.1)

  both_have : (xs ys : List Command) → HaveIt xs → HaveIt ys → HaveIt (xs ++ ys)
  both_have xs ys = all_append (λ (c : Command). P c.1) xs ys

  front_has : (k : ℕ) (xs : List Command) → HaveIt xs → HaveIt (take k xs)
  front_has k xs = first_of (λ (c : Command). P c.1) k xs

  tick_have : (who : ℕ) (told : Option Moment) → IsToldTick told → HaveIt (tick_by who told)
  tick_have who = tick_has (λ (c : Command). P c.1) who (λ at is. has.control (tick at) is) has.swapped

  published_has : HaveIt (final_commands 0)
  published_has = (has.published, (has.swapped, (has.swapped, tt)))

  final_have : (stopped : Bool) (t : Option Moment) (final : List Entry) (sent : Result (Unit {0}) SendStop) → IsToldTick t → LastMade stopped t 0 final sent → HaveIt (map command_of final)
  final_have true t final sent is last = subst (λ (es : List Entry). HaveIt (map command_of es)) (sym last) tt
  final_have false t final (Ok u) is last = subst HaveIt (sym last) (both_have (tick_by 0 t) (final_commands 0) (tick_have 0 t is) published_has)
  final_have false t final (Err send.Air) is (k, less, last) =
      let front = front_has (suc (suc k)) (final_commands 0) published_has in
      subst HaveIt (sym last) (both_have (tick_by 0 t) (take (suc (suc k)) (final_commands 0)) (tick_have 0 t is) front)
  final_have false t final (Err send.Memory) is (k, last) =
      let all = both_have (tick_by 0 t) (final_commands 0) (tick_have 0 t is) published_has in
      subst HaveIt (sym last) (front_has k (tick_by 0 t ++ final_commands 0) all)

  -- ---- what each caller did

  module _ {T : Type 0} (Q : T → Type 0) (journal : List Entry) (who : ℕ) (step : T → Step) (then : List Command)
      (each : (values : List T) → AllByRecursion Q values → HaveIt (commands_by who step values)) (last : HaveIt then) where
    of_values : (values : List T) → AllByRecursion Q values → CommandsAre journal who (commands_by who step values ++ then) → CallerHas journal who
    of_values values all are =
        caller_has journal who (commands_by who step values ++ then) are
        (all_append (λ (c : Command). P c.1) (commands_by who step values) then (each values all) last)

    reader_has : (all : List T × Stop) (stop : Option EditStop) → AllByRecursion Q all.0 → CallerDid journal who step all then stop → CallerHas journal who
    reader_has all None every did = of_values all.0 every did.1
    reader_has all (Some (Refused n)) every did = of_values all.0 every did.1
    reader_has all (Some (Read Overlong)) every did = of_values all.0 every did.1
    reader_has all (Some (Read Failed)) every (k, did) = of_values (take k all.0) (first_of Q k all.0 every) did
    reader_has all (Some Memory) every (k, did) = of_values (take k all.0) (first_of Q k all.0 every) did

  swaps_have : (mux : Mux) (journal : List Entry) (n : ℕ) → HaveIt (turns_by 1 (ticks_of mux journal n))
  swaps_have mux journal n =
      turns_have (λ (c : Command). P c.1) 1 (λ at is. has.control (tick at) is) has.swapped (ticks_of mux journal n) (ticks_within mux journal n)

  player_has : (mux : Mux) (journal : List Entry) (n : ℕ) (player : Result (Unit {0}) SendStop) → PlayerSwapped mux journal n player → CallerHas journal 1
  player_has mux journal n (Ok u) did = caller_has journal 1 (turns_by 1 (ticks_of mux journal n)) did (swaps_have mux journal n)
  player_has mux journal n (Err send.Air) (k, lt, did) = caller_has journal 1 (turns_by 1 (ticks_of mux journal (suc k))) did (swaps_have mux journal (suc k))
  player_has mux journal n (Err send.Memory) (k, more, le, did) =
      let last = tick_by 1 (tick_of mux journal k) in
      caller_has journal 1 (turns_by 1 (ticks_of mux journal k) ++ take more last) did
      (both_have (turns_by 1 (ticks_of mux journal k)) (take more last) (swaps_have mux journal k)
      (front_has more last (tick_have 1 (tick_of mux journal k) (tick_is_within mux journal k))))

  read_edits : (lines : Ahead) → AllByRecursion IsReadEdit (edits_ahead lines).0
  read_edits lines = all_two IsTypedEdit IsShaped IsReadEdit (λ e typed shaped. (typed, shaped)) (edits_ahead lines).0 (ahead_typed lines).1 (ahead_shaped lines)

  feed_has : (files : Files) (journal : List Entry) (f : ℕ) (paths : List (List ℕ)) (stops : List (Option EditStop)) → FeedsDid files journal f paths stops
      → ((g : ℕ) → f ≤ g → g < f + length paths → IsFed g) → (k : ℕ) → f < k → k ≤ f + length paths → CallerHas journal k
  feed_has files journal f [] [] did fed k lt le = absurd (let z : Prim.⊥ = omega (arith, lt, le) in z)
  feed_has files journal f [] (stop ∷ stops) did fed k lt le = absurd did
  feed_has files journal f (path ∷ paths) [] did fed k lt le = absurd did
  feed_has files journal f (path ∷ paths) (stop ∷ stops) did fed k lt le =
      go (lt_or (f + 1) k) (λ more. feed_has files journal (f + 1) paths stops did.1 (λ g from to. fed g (omega (arith, from)) (omega (arith, to))) k more (omega (arith, le)))
    where
      own : CallerHas journal (f + 1)
      own =
          let text = did.0.0 in
          reader_has IsReadEdit journal (f + 1) (edit_step f) [] (edits_have (f + 1) f (fed f (omega arith) (omega arith))) tt (edits_ahead (ahead_of text)) stop (read_edits (ahead_of text)) did.0.2

      go : (f + 1 < k) ⊎ (k ≤ f + 1) → (f + 1 < k → CallerHas journal k) → CallerHas journal k
      go (inl more) rest = rest more
      go (inr same) rest = subst (CallerHas journal) (let e : f + 1 ≡ k = omega (arith, lt, same) in e) own

  -- ---- the journal

  module _ (call : LiveCall) (mux : Mux) (behind : Ahead) (journal : List Entry) (observed : Observed) (status : Status) (ran : JobsRan call mux behind journal observed status)
      (fed : (g : ℕ) → g ≤ length call.paths → IsFed g) where
    abbrev is : IsJournal call mux behind journal ran.player ran.control_stop ran.feed_stops ran.final
    is = ran.journal_is

    other_has : (k : ℕ) → 1 < k → (1 + length call.paths < k) ⊎ (k ≤ 1 + length call.paths) → CallerHas journal k
    other_has k lt (inl far) = subst (AllByRecursion (λ (e : Entry). P e.step)) (sym (is.others k (omega (arith, far)))) tt
    other_has k lt (inr near) = feed_has call.files journal 1 call.paths ran.feed_stops is.feeds_did (λ g from to. fed g (omega (arith, to))) k lt near

    each_has : (k : ℕ) → CallerHas journal k
    each_has zero =
        let told = tick_of mux journal call.plan.cycles in
        reader_has IsControlWithin journal 0 control_step (map command_of ran.final) controls_have
        (final_have (halts ran.player ran.control_stop (feeds_stop None 1 ran.feed_stops)) told ran.final ran.sent (tick_is_within mux journal call.plan.cycles) ran.last)
        (controls_ahead behind) ran.control_stop (controls_within behind) is.control_did
    each_has (suc zero) = player_has mux journal call.plan.cycles ran.player is.player_did
    each_has (suc (suc k)) = other_has (suc (suc k)) (omega arith) (lt_or (1 + length call.paths) (suc (suc k)))

-- ---- steps that were read

control_read : (c : Control) → IsControlWithin c → IsReadStep (control_step c)
control_read (tick at) within = within
control_read publish within = tt

read_steps : HasSteps IsReadStep (λ feed. Unit {0})
read_steps = record { control = control_read; fed = λ feed e any read. read.0; published = tt; swapped = tt }

-- a step as the lines of a feed give it
record IsLineStep (s : Step) : Type 0 where
  shaped : IsShapedStep s
  within : IsStepWithin s
  typed : IsTypedStep s

control_line : (c : Control) → IsControlWithin c → IsLineStep (control_step c)
control_line (tick at) within = record { shaped = tt; within = within; typed = tt }
control_line publish within = record { shaped = tt; within = tt; typed = tt }

day_within : (e : Edit) → IsShaped e → IsDayWithin e
day_within (Put service item) shaped = tt
day_within (Withdraw service event) shaped = tt
day_within (Clear service) shaped = tt
day_within (Name service provider name) shaped = tt
day_within (Day service day items) shaped = shaped.count

line_steps : HasSteps IsLineStep (λ feed. feed ≤ 255)
line_steps = record {
  control = control_line;
  fed = λ feed e few read. record { shaped = read.1; within = day_within e read.1; typed = (few, read.0) };
  published = record { shaped = tt; within = tt; typed = tt };
  swapped = record { shaped = tt; within = tt; typed = tt };
}

-- ---- what is known of the entries

module _ (call : LiveCall) (mux : Mux) (behind : Ahead) (journal : List Entry) (observed : Observed) (status : Status) (ran : JobsRan call mux behind journal observed status) where
  pub run_typed : HasTypedEdits journal × AllByRecursion (λ (e : Entry). IsStepInWindow e.step) journal
  run_typed =
      let each = each_has IsReadStep (λ feed. Unit {0}) read_steps call mux behind journal observed status ran (λ g le. tt) in
      (journal_typed journal each, journal_window journal each)

  run_lines : length call.paths ≤ 255 → AllByRecursion (λ (e : Entry). IsLineStep e.step) journal
  run_lines few =
      of_all (λ k e. IsLineStep e.step) journal
      (each_has IsLineStep (λ feed. feed ≤ 255) line_steps call mux behind journal observed status ran (λ g le. omega (arith, few, le)))

  -- the journal was read from lines, where it was written
  pub run_of_lines : IsSound mux → length call.paths ≤ 255 → AllByRecursion IsWritten journal → AllByRecursion IsOfLines journal
  run_of_lines sound few written =
      let lines = run_lines few in
      let window : AreInWindow journal =
      legal_window mux journal sound (all_map (λ (e : Entry). IsLineStep e.step) (λ (e : Entry). IsStepWithin e.step) (λ e line. line.within) journal lines) ran.journal_is.legal in
      all_two (λ (e : Entry). IsLineStep e.step × IsWritten e) IsEntryInWindow IsOfLines
      (λ e one window. record {
        who = one.1.0;
        shaped = one.0.shaped;
        within = one.0.within;
        typed = one.0.typed;
        outcome = record { ids = one.1.1.0; numbers = one.1.1.1; window = window.outcome };
      }) journal
      (all_two (λ (e : Entry). IsLineStep e.step) IsWritten (λ (e : Entry). IsLineStep e.step × IsWritten e) (λ e line written. (line, written)) journal lines written) window
