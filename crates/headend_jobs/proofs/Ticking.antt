-- Ticks and the swaps after them: their commands, their entries, and what the clock of a journal tells.
use Rattle.std.proofs.Common.{◌≡◌, ◌⊎◌, inl, inr, ℕ, suc, ◌+◌, List, [], ◌∷◌, ◌++◌, length, map, take, refl, sym, ap, ◌∙◌, subst, arith, append-nil, append_assoc, length-append}
use Rattle.std.specs.Prelude.{Option, Some, None}
use Rattle.std.specs.List.{AllByRecursion}
use Rattle.std.proofs.lemmas.List.{map-append}
use Rattle.std.proofs.Math.Seq.{take-append_seam}
use mathlib.Core.List.{IsPrefix}
use Rattle.si_time.specs.declared.moment.Moment.{Moment}
use Rattle.section_codec.specs.Contents.{numbers_from}
use Rattle.mux_model.specs.declared.mux.Mux.{Mux}
use Rattle.version_book.specs.Airings.{AiredTables}
use Rattle.cycle_player.specs.Making.{IsToldTick, tick_before, tick_then}
use Rattle.cycle_player.proofs.Making.{then_within}
use Rattle.journal_model.specs.declared.step.Step.TheVariants.{Swap, Tick}
use Rattle.journal_model.specs.declared.step.Outcome.{Outcome}
use Rattle.journal_model.specs.declared.step.Entry.{Entry}
use Rattle.journal_model.specs.Steps.{Command, command_of}
use Rattle.desk_core.specs.Journal.{moment_of}
use Rattle.desk_core.specs.Publications.{aired_by, swaps}
use Rattle.desk_core.proofs.DerivedFacts.{not_aired}
use Rattle.journal_air.specs.Air.{airing_at, airings, airings_by}
use Rattle.turn_lock.proofs.Lists.{prefix_self, prefix_trans}
use Rattle.desk_hall.specs.Turn.{View, entry_of, with_entries, Made, Knows, Did}
use Rattle.desk_hall.proofs.Passes.{made_began, more_more}
use Rattle.journal_air.proofs.SwapFacts.{airings-append}
use Rattle.headend_jobs.specs.Playing.{swaps_by}
use Rattle.headend_jobs.specs.Ticking.{Ticked, tick_by, tick_of, ticks_for, ticks_of, turns_by}
use Rattle.headend_jobs.proofs.WholeJournal.{swaps_none}

-- ---- commands

pub turns_push : (who : ℕ) (ticks : List (Option Moment)) (tick : Option Moment)
    → (turns_by who ticks ++ tick_by who tick) ++ (who, Swap) ∷ [] ≡ turns_by who (ticks ++ tick ∷ [])
turns_push who [] tick = refl
turns_push who (t ∷ ticks) tick =
    ap (λ (l : List Command). l ++ (who, Swap) ∷ []) (append_assoc (tick_by who t) ((who, Swap) ∷ turns_by who ticks) (tick_by who tick))
    ∙ append_assoc (tick_by who t) ((who, Swap) ∷ (turns_by who ticks ++ tick_by who tick)) ((who, Swap) ∷ [])
    ∙ ap (λ (l : List Command). tick_by who t ++ (who, Swap) ∷ l) (turns_push who ticks tick)

-- swaps that have no ticks
pub turns_plain : (who : ℕ) (ticks : List (Option Moment)) → AllByRecursion (λ (tick : Option Moment). tick ≡ None) ticks → turns_by who ticks ≡ swaps_by who (length ticks)
turns_plain who [] none = refl
turns_plain who (t ∷ ticks) none =
    ap (λ (o : Option Moment). tick_by who o ++ (who, Swap) ∷ turns_by who ticks) none.0 ∙ ap (λ (l : List Command). (who, Swap) ∷ l) (turns_plain who ticks none.1)

pub none_push : (ticks : List (Option Moment)) (tick : Option Moment) → AllByRecursion (λ (t : Option Moment). t ≡ None) ticks → tick ≡ None → AllByRecursion (λ (t : Option Moment). t ≡ None) (ticks ++ tick ∷ [])
none_push [] tick all is = (is, tt)
none_push (t ∷ ticks) tick all is = (all.0, none_push ticks tick all.1 is)

pub take_tick : (who : ℕ) (tick : Option Moment) → take 1 (tick_by who tick) ≡ tick_by who tick
take_tick who None = refl
take_tick who (Some at) = refl

-- ---- what the clock of airings tells

pub ticks_push : (rate : Option ℕ) (past more : List AiredTables) (a : AiredTables)
    → ticks_for rate past (more ++ a ∷ []) ≡ ticks_for rate past more ++ tick_then rate (past ++ more) ∷ []
ticks_push rate past [] a = ap (λ (l : List AiredTables). tick_then rate l ∷ []) (sym (append-nil past))
ticks_push rate past (b ∷ more) a =
    ap (λ (l : List (Option Moment)). tick_then rate past ∷ l)
    (ticks_push rate (past ++ b ∷ []) more a ∙ ap (λ (l : List AiredTables). ticks_for rate (past ++ b ∷ []) more ++ tick_then rate l ∷ []) (append_assoc past (b ∷ []) more))

pub ticks_len : (rate : Option ℕ) (past more : List AiredTables) → length (ticks_for rate past more) ≡ length more
ticks_len rate past [] = refl
ticks_len rate past (a ∷ more) = ap suc (ticks_len rate (past ++ a ∷ []) more)

-- they are those of the first of longer airings
ticks_firsts : (rate : Option ℕ) (past more rest : List AiredTables)
    → ticks_for rate past more ≡ map (tick_before rate (past ++ (more ++ rest))) (numbers_from (length past) (length more))
ticks_firsts rate past [] rest = refl
ticks_firsts rate past (a ∷ more) rest =
    let all : (past ++ a ∷ []) ++ (more ++ rest) ≡ past ++ (a ∷ more ++ rest) = append_assoc past (a ∷ []) (more ++ rest) in
    let count : length (past ++ a ∷ []) ≡ 1 + length past = let n = length-append past (a ∷ []) in omega (arith, n) in
    ap (λ (l : List AiredTables). tick_then rate l ∷ ticks_for rate (past ++ a ∷ []) more) (sym (take-append_seam past (a ∷ more ++ rest)))
    ∙ ap (λ (l : List (Option Moment)). tick_before rate (past ++ (a ∷ more ++ rest)) (length past) ∷ l)
    (ticks_firsts rate (past ++ a ∷ []) more rest
    ∙ ap (λ (l : List AiredTables). map (tick_before rate l) (numbers_from (length (past ++ a ∷ [])) (length more))) all
    ∙ ap (λ (n : ℕ). map (tick_before rate (past ++ (a ∷ more ++ rest))) (numbers_from n (length more))) count)

-- Of a journal whose first airings are those of these entries.
module _ (mux : Mux) (journal made final : List Entry) (are : airings mux journal ≡ airings_by mux journal (made ++ final)) where
  parts : airings_by mux journal made ++ airings_by mux journal final ≡ airings mux journal
  parts = sym (airings-append mux journal made final) ∙ sym are

  pub own_ticks : (ticks : List (Option Moment)) → ticks ≡ ticks_for mux.rate [] (airings_by mux journal made) → ticks ≡ ticks_of mux journal (length ticks)
  own_ticks ticks is =
      is ∙ ticks_firsts mux.rate [] (airings_by mux journal made) (airings_by mux journal final)
      ∙ ap (λ (l : List AiredTables). map (tick_before mux.rate l) (numbers_from 0 (length (airings_by mux journal made)))) parts
      ∙ ap (ticks_of mux journal) (sym (ticks_len mux.rate [] (airings_by mux journal made)) ∙ ap length (sym is))

  pub own_tick : (n : ℕ) → length (airings_by mux journal made) ≡ n → tick_then mux.rate (airings_by mux journal made) ≡ tick_of mux journal n
  own_tick n len =
      ap (tick_then mux.rate) (sym (take-append_seam (airings_by mux journal made) (airings_by mux journal final)) ∙ ap (take (length (airings_by mux journal made))) parts)
      ∙ ap (tick_of mux journal) len

-- 16 bits of days say them
told_ticks : (mux : Mux) (journal : List Entry) (ns : List ℕ) → AllByRecursion IsToldTick (map (tick_of mux journal) ns)
told_ticks mux journal [] = tt
told_ticks mux journal (n ∷ ns) = (then_within mux.rate (take n (airings mux journal)), told_ticks mux journal ns)

pub ticks_within : (mux : Mux) (journal : List Entry) (n : ℕ) → AllByRecursion IsToldTick (ticks_of mux journal n)
ticks_within mux journal n = told_ticks mux journal (numbers_from 0 n)

pub tick_is_within : (mux : Mux) (journal : List Entry) (n : ℕ) → IsToldTick (tick_of mux journal n)
tick_is_within mux journal n = then_within mux.rate (take n (airings mux journal))

-- what holds of all commands of ticks and swaps
module _ (P : Command → Type 0) (who : ℕ) (ticked : (at : Moment) → IsToldTick (Some at) → P (who, Tick at)) (swapped : P (who, Swap)) where
  pub tick_has : (tick : Option Moment) → IsToldTick tick → AllByRecursion P (tick_by who tick)
  tick_has None within = tt
  tick_has (Some at) within = (ticked at within, tt)

  swap_has : (tick : Option Moment) (rest : List Command) → IsToldTick tick → AllByRecursion P rest → AllByRecursion P (tick_by who tick ++ (who, Swap) ∷ rest)
  swap_has None rest within all = (swapped, all)
  swap_has (Some at) rest within all = (ticked at within, (swapped, all))

  pub turns_have : (ticks : List (Option Moment)) → AllByRecursion IsToldTick ticks → AllByRecursion P (turns_by who ticks)
  turns_have [] within = tt
  turns_have (t ∷ ticks) within = swap_has t (turns_by who ticks) within.0 (turns_have ticks within.1)

-- ---- the turn of a tick

abbrev pub tick_entries : (tick : Option Moment) (v b : View) → Ticked tick v b → List Entry
tick_entries None v b t = []
tick_entries (Some at) v b t = entry_of v.own.low (Tick at) t.0 ∷ []

pub tick_commands : (tick : Option Moment) (v b : View) (t : Ticked tick v b) → map command_of (tick_entries tick v b t) ≡ tick_by v.own.low tick
tick_commands None v b t = refl
tick_commands (Some at) v b t = refl

pub tick_began : (tick : Option Moment) (v b : View) → Ticked tick v b → IsPrefix v.seen b.seen
tick_began None v b t = subst (IsPrefix v.seen) (ap (λ (z : View). z.seen) (sym t)) (prefix_self v.seen)
tick_began (Some at) v b t = made_began (Tick at) t.0 v b t.1

pub tick_low : (tick : Option Moment) (v b : View) → Ticked tick v b → b.own.low ≡ v.own.low
tick_low None v b t = ap (λ (z : View). z.own.low) t
tick_low (Some at) v b t = ap (λ (z : View). z.own.low) (t.1).gained

-- it puts nothing on air
pub tick_aired : (at : Moment) (outcome : Outcome) (v b : View) → Made (Tick at) outcome v b → swaps (entry_of v.own.low (Tick at) outcome ∷ []) ≡ []
tick_aired at outcome v b m = swaps_none (entry_of v.own.low (Tick at) outcome) (ap aired_by m.outcome_is ∙ not_aired (moment_of m.mux m.before) at)

pub tick_airs : (mux : Mux) (journal : List Entry) (tick : Option Moment) (v b : View) (t : Ticked tick v b) → airings_by mux journal (tick_entries tick v b t) ≡ []
tick_airs mux journal None v b t = refl
tick_airs mux journal (Some at) v b t = ap (map (airing_at mux journal)) (tick_aired at t.0 v b t.1)

-- ---- turns, and more turns

pub turned_then : (v m w : View) → (m ≡ v) ⊎ Knows m → (w ≡ m) ⊎ Knows w → (w ≡ v) ⊎ Knows w
turned_then v m w first (inr knows) = inr knows
turned_then v m w (inl same) (inl still) = inl (still ∙ same)
turned_then v m w (inr knows) (inl still) = inr (subst Knows (sym still) knows)

abbrev pub did_join : (first then : List Command) (v m w : View) → Did first v m → Did then m w → Did (first ++ then) v w
did_join first then v m w d e = record {
  added = d.added ++ e.added;
  commands_are = map-append command_of d.added e.added ∙ ap (λ (l : List Command). l ++ map command_of e.added) d.commands_are ∙ ap (λ (l : List Command). first ++ l) e.commands_are;
  gained = e.gained ∙ ap (λ (z : View). with_entries z w.seen e.added) d.gained ∙ more_more v m.seen w.seen d.added e.added;
  began = prefix_trans v.seen m.seen w.seen d.began e.began;
  turned = turned_then v m w d.turned e.turned;
}
