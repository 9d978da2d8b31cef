-- The day of each swap has 16 bits.
use Rattle.std.proofs.Common.{ℕ, ◌<◌, ◌*◌, List, [], ◌∷◌, ◌++◌, Option, sym, subst, inl, inr}
use Rattle.std.specs.Prelude.{nat_lt}
use Rattle.std.specs.List.{AllByRecursion, filter_map, cons_option}
use Rattle.std.proofs.lemmas.Bool.{cases_Bool}
use Rattle.si_lists.proofs.Lists.{all_map, all_push}
use Rattle.si_time.specs.declared.moment.Moment.{Moment}
use Rattle.mux_model.specs.declared.mux.Mux.{Mux}
use Rattle.mux_model.specs.Sound.{IsSound}
use Rattle.guide_limits.specs.Standing.{last_or}
use Rattle.journal_model.specs.declared.step.Step.{Step}
use Rattle.journal_model.specs.declared.step.Step.TheVariants.{Edit as edit, Tick, Publish, Swap}
use Rattle.journal_model.specs.declared.step.Outcome.{Outcome}
use Rattle.journal_model.specs.declared.step.Outcome.TheVariants.{Ticked}
use Rattle.journal_model.specs.declared.step.Entry.{Entry}
use Rattle.journal_model.specs.Steps.{IsStepWithin, IsStepInWindow}
use Rattle.desk_core.specs.Journal.{Legal, LegalAfter, later_of, latest_of_all, ticked_by, moment_of, outcome_of}
use Rattle.desk_core.specs.Publications.{aired_by, swaps}
use Rattle.desk_core.specs.declared.airing.Airing.{Airing}
use Rattle.desk_core.specs.declared.desk_state.Derived.{Derived}
use Rattle.desk_core.specs.Holding.{IsDerived}
use Rattle.desk_core.proofs.DerivedFacts.{not_aired}

abbrev pub InRange : Moment → Type 0
InRange at = at.0 < 65536 * 86400

-- what a desk may be asked can be written
written_step : (step : Step) → IsStepWithin step → IsStepInWindow step
written_step (edit feed e) h = tt
written_step (Tick at) h = h
written_step Publish h = tt
written_step Swap h = tt

pub written_steps : (entries : List Entry) → AllByRecursion (λ (entry : Entry). IsStepWithin entry.step) entries → AllByRecursion (λ (entry : Entry). IsStepInWindow entry.step) entries
written_steps entries within = all_map (λ (entry : Entry). IsStepWithin entry.step) (λ (entry : Entry). IsStepInWindow entry.step) (λ entry. written_step entry.step) entries within

later_range : (a b : Moment) → InRange a → InRange b → InRange (later_of a b)
later_range a b h k = elim (cases_Bool (nat_lt b.0 a.0)) [
  | inl first ↦ rw first h
  | inr second ↦ rw second k
]

latest_range : (first : Moment) (ms : List Moment) → InRange first → AllByRecursion InRange ms → InRange (latest_of_all first ms)
latest_range first [] h k = h
latest_range first (m ∷ ms) h k = latest_range (later_of first m) ms (later_range first m h k.0) k.1

tick_range : (step : Step) (outcome : Outcome) (rest : List Moment) → IsStepInWindow step → AllByRecursion InRange rest → AllByRecursion InRange (cons_option (ticked_by step outcome) rest)
tick_range (Tick at) Ticked rest h k = (h, k)
tick_range step outcome rest h k = k

ticks_range : (entries : List Entry) → AllByRecursion (λ (entry : Entry). IsStepInWindow entry.step) entries → AllByRecursion InRange (filter_map (λ (entry : Entry). ticked_by entry.step entry.outcome) entries)
ticks_range [] h = tt
ticks_range (x ∷ xs) h = tick_range x.step x.outcome _ h.0 (ticks_range xs h.1)

pub moment_range : (mux : Mux) (entries : List Entry) → IsSound mux → AllByRecursion (λ (entry : Entry). IsStepInWindow entry.step) entries → InRange (moment_of mux entries)
moment_range mux entries sound within = latest_range mux.start _ sound.start (ticks_range entries within)

-- what was aired by one outcome, and what was by the others
aired_range : (mux : Mux) (before : List Entry) (step : Step) (rest : List (ℕ × Moment)) → InRange (moment_of mux before) → AllByRecursion (λ (aired : ℕ × Moment). InRange aired.1) rest
    → AllByRecursion (λ (aired : ℕ × Moment). InRange aired.1) (cons_option (aired_by (outcome_of mux before step)) rest)
aired_range mux before (edit feed e) rest h k = k
aired_range mux before (Tick at) rest h k = subst (λ (o : Option (ℕ × Moment)). AllByRecursion (λ (aired : ℕ × Moment). InRange aired.1) (cons_option o rest)) (sym (not_aired (moment_of mux before) at)) k
aired_range mux before Publish rest h k = k
aired_range mux before Swap rest h k = (h, k)

all_aired : (mux : Mux) (before entries : List Entry) → IsSound mux → AllByRecursion (λ (entry : Entry). IsStepInWindow entry.step) before → AllByRecursion (λ (entry : Entry). IsStepInWindow entry.step) entries
    → LegalAfter mux before entries → AllByRecursion (λ (aired : ℕ × Moment). InRange aired.1) (filter_map (λ (entry : Entry). aired_by entry.outcome) entries)
all_aired mux before [] sound old within legal = tt
all_aired mux before (e ∷ es) sound old within legal =
    let rest = all_aired mux (before ++ e ∷ []) es sound (all_push (λ (entry : Entry). IsStepInWindow entry.step) before e old within.0) within.1 legal.1 in
    subst (λ (o : Outcome). AllByRecursion (λ (aired : ℕ × Moment). InRange aired.1) (cons_option (aired_by o) (filter_map (λ (entry : Entry). aired_by entry.outcome) es))) (sym legal.0)
    (aired_range mux before e.step _ (moment_range mux before sound old) rest)

pub swaps_range : (mux : Mux) (journal : List Entry) → IsSound mux → AllByRecursion (λ (entry : Entry). IsStepInWindow entry.step) journal → Legal mux journal
    → AllByRecursion (λ (aired : ℕ × Moment). InRange aired.1) (swaps journal)
swaps_range mux journal sound window legal = all_aired mux [] journal sound tt window legal

last_range : (first : ℕ × Moment) (rest : List (ℕ × Moment)) → InRange first.1 → AllByRecursion (λ (aired : ℕ × Moment). InRange aired.1) rest → InRange (last_or first rest).1
last_range first [] h k = h
last_range first (x ∷ xs) h k = last_range x xs k.0 k.1

-- the days of what a desk keeps have 16 bits
pub held_moment : (mux : Mux) (entries : List Entry) (held : Derived) → IsDerived mux entries held → held.moment.0 < 65536 * 86400
held_moment mux entries held h = subst InRange (sym h.moment) (moment_range mux entries h.sound (written_steps entries h.steps))

pub held_on_air : (mux : Mux) (entries : List Entry) (held : Derived) → IsDerived mux entries held → held.on_air.moment.0 < 65536 * 86400
held_on_air mux entries held h =
    subst (λ (on : Airing). on.moment.0 < 65536 * 86400) (sym h.on_air) (last_range (0, mux.start) _ h.sound.start (swaps_range mux entries h.sound (written_steps entries h.steps) h.legal))
