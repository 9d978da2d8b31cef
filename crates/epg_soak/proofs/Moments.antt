-- The moment behind a run of the made load: one of its first day.
use Rattle.std.proofs.Common.{◌≡◌, ◌≤◌, ◌<◌, ◌/◌, ℕ, true, List, [], ◌∷◌, map, refl, sym, subst, arith, inl, inr, lit≤}
use Rattle.std.specs.Prelude.{Option, Some, None, nat_lt, ◌==◌, replicate}
use Rattle.std.specs.List.{AllByRecursion, filter_map, cons_option}
use Rattle.std.proofs.lemmas.Bool.{cases_Bool}
use Rattle.si_lists.proofs.Filters.{passed}
use Rattle.si_time.specs.declared.moment.Moment.{Moment}
use Rattle.guide_limits.specs.Events.{midnight}
use Rattle.journal_model.specs.declared.edit.Edit.{Edit}
use Rattle.journal_model.specs.declared.step.Step.{Step}
use Rattle.journal_model.specs.declared.step.Step.TheVariants.{Edit as edit, Tick, Publish, Swap}
use Rattle.journal_model.specs.declared.step.Outcome.{Outcome}
use Rattle.journal_model.specs.declared.step.Outcome.TheVariants.{Edited, Ticked, Late, Published, Swapped}
use Rattle.journal_model.specs.declared.step.Entry.{Entry}
use Rattle.journal_model.specs.Steps.{Command, command_of}
use Rattle.desk_core.specs.Journal.{later_of, ticked_by, latest_of_all, moment_of}
use Rattle.turn_lock.specs.Journal.{entries_of}
use Rattle.desk_hall.specs.Turn.{caller_of}
use Rattle.desk_hall.specs.Reads.{commands_by, edit_step}
use Rattle.si_workload.specs.Texts.{moment_at}
use Rattle.epg_soak.specs.WorkloadLoad.{soak_mux, soak_edits}
use Rattle.epg_soak.specs.Callers.{commands_of, IsSoakRun}
use Rattle.epg_soak.proofs.Callers.{below_four, low_callers}

-- ---- moments of the first day

abbrev pub IsOfFirstDay : Moment → Type 0
IsOfFirstDay at = (moment_at 0 ≤ at.0) × (at.0 < moment_at 96)

pub first_midnight : (at : ℕ) → moment_at 0 ≤ at → at < moment_at 96 → midnight at ≡ moment_at 0
first_midnight at low high = let day : at / 86400 ≡ 49273 = omega (arith, low, high) in omega (arith, day)

later_within : (a b : Moment) → IsOfFirstDay a → IsOfFirstDay b → IsOfFirstDay (later_of a b)
later_within a b h k = elim (cases_Bool (nat_lt b.0 a.0)) [
  | inl e ↦ rw e h
  | inr e ↦ rw e k
]

latest_within : (first : Moment) (moments : List Moment) → IsOfFirstDay first → AllByRecursion IsOfFirstDay moments → IsOfFirstDay (latest_of_all first moments)
latest_within first [] h all = h
latest_within first (m ∷ ms) h all = latest_within (later_of first m) ms (later_within first m h all.0) all.1

-- ---- ticks of the first day

-- a tick at a moment of the first day, or no tick
abbrev pub TicksWithin : Step → Type 0
TicksWithin (edit feed e) = Unit {0}
TicksWithin (Tick at) = IsOfFirstDay at
TicksWithin Publish = Unit {0}
TicksWithin Swap = Unit {0}

abbrev TicksIn : Option Moment → Type 0
TicksIn None = Unit {0}
TicksIn (Some at) = IsOfFirstDay at

ticked_within : (step : Step) (outcome : Outcome) → TicksWithin step → TicksIn (ticked_by step outcome)
ticked_within (edit feed e) outcome h = tt
ticked_within (Tick at) (Edited reply) h = tt
ticked_within (Tick at) Ticked h = h
ticked_within (Tick at) (Late now) h = tt
ticked_within (Tick at) (Published n) h = tt
ticked_within (Tick at) (Swapped n now) h = tt
ticked_within Publish outcome h = tt
ticked_within Swap outcome h = tt

tick_more : (o : Option Moment) (moments : List Moment) → TicksIn o → AllByRecursion IsOfFirstDay moments → AllByRecursion IsOfFirstDay (cons_option o moments)
tick_more None moments t all = all
tick_more (Some at) moments t all = (t, all)

ticks_within : (journal : List Entry) → AllByRecursion (λ (entry : Entry). TicksWithin entry.step) journal
    → AllByRecursion IsOfFirstDay (filter_map (λ (entry : Entry). ticked_by entry.step entry.outcome) journal)
ticks_within [] h = tt
ticks_within (entry ∷ journal) h =
    tick_more (ticked_by entry.step entry.outcome) (filter_map (λ (x : Entry). ticked_by x.step x.outcome) journal) (ticked_within entry.step entry.outcome h.0) (ticks_within journal h.1)

-- ---- the steps of four callers

module _ (P : Step → Type 0) where
  steps_of : (entries : List Entry) → AllByRecursion (λ (c : Command). P c.1) (map command_of entries) → AllByRecursion (λ (entry : Entry). P entry.step) entries
  steps_of [] h = tt
  steps_of (entry ∷ entries) h = (h.0, steps_of entries h.1)

  abbrev OfCaller : ℕ → Entry → Type 0
  OfCaller who entry = (entry.who == who) ≡ true → P entry.step

  steps_by : (who : ℕ) (journal : List Entry) (commands : List Command) → commands_of who journal ≡ commands → AllByRecursion (λ (c : Command). P c.1) commands → AllByRecursion (OfCaller who) journal
  steps_by who journal commands are all =
      passed (λ (entry : Entry). P entry.step) (λ (entry : Entry). entry.who == who) journal
      (steps_of (entries_of caller_of who journal) (subst (λ (l : List Command). AllByRecursion (λ (c : Command). P c.1) l) (sym are) all))

  four_steps : (entry : Entry) → entry.who ≤ 3 → OfCaller 0 entry → OfCaller 1 entry → OfCaller 2 entry → OfCaller 3 entry → P entry.step
  four_steps entry low a b c d =
      below_four entry.who low (λ (k : ℕ). ((k == 0) ≡ true → P entry.step) → ((k == 1) ≡ true → P entry.step) → ((k == 2) ≡ true → P entry.step) → ((k == 3) ≡ true → P entry.step) → P entry.step)
      (λ a b c d. a refl) (λ a b c d. b refl) (λ a b c d. c refl) (λ a b c d. d refl) a b c d

  -- what holds of each command of the four callers holds of each step
  all_steps : (journal : List Entry) → AllByRecursion (λ (entry : Entry). entry.who ≤ 3) journal → AllByRecursion (OfCaller 0) journal → AllByRecursion (OfCaller 1) journal
      → AllByRecursion (OfCaller 2) journal → AllByRecursion (OfCaller 3) journal → AllByRecursion (λ (entry : Entry). P entry.step) journal
  all_steps [] low a b c d = tt
  all_steps (entry ∷ journal) low a b c d = (four_steps entry low.0 a.0 b.0 c.0 d.0, all_steps journal low.1 a.1 b.1 c.1 d.1)

edits_within : (who feed : ℕ) (edits : List Edit) → AllByRecursion (λ (c : Command). TicksWithin c.1) (commands_by who (edit_step feed) edits)
edits_within who feed [] = tt
edits_within who feed (e ∷ edits) = (tt, edits_within who feed edits)

pub moment_within : (number : ℕ) (journal : List Entry) → IsSoakRun number journal → IsOfFirstDay (moment_of soak_mux journal)
moment_within number journal run =
    let a = steps_by TicksWithin 0 journal _ run.control ((lit≤ tt, lit≤ tt), (tt, ((lit≤ tt, lit≤ tt), (tt, ((lit≤ tt, lit≤ tt), (tt, (tt, (tt, (tt, tt))))))))) in
    let b = steps_by TicksWithin 1 journal (replicate 3 (1, Swap)) run.player (tt, (tt, (tt, tt))) in
    let c = steps_by TicksWithin 2 journal (commands_by 2 (edit_step 1) (soak_edits number 1)) run.first (edits_within 2 1 (soak_edits number 1)) in
    let d = steps_by TicksWithin 3 journal (commands_by 3 (edit_step 2) (soak_edits number 2)) run.second (edits_within 3 2 (soak_edits number 2)) in
    latest_within soak_mux.start _ (lit≤ tt, lit≤ tt) (ticks_within journal (all_steps TicksWithin journal (low_callers journal run.others) a b c d))
