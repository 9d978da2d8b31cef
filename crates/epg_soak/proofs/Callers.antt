-- The journal of a whole run of the load, by the commands of its callers.
use Rattle.std.proofs.Common.{◌≡◌, ◌≤◌, ◌<◌, ◌+◌, ◌⊎◌, ℕ, zero, suc, Bool, true, false, List, [], ◌∷◌, ◌++◌, length, map, refl, sym, ap, subst, ◌∙◌, arith, inl, inr, append-nil, lit≤}
use Rattle.std.specs.Prelude.{Option, None, replicate, ◌==◌, if◌then◌else◌}
use Rattle.std.specs.List.{AllByRecursion, filter, filter_map, cons_option}
use Rattle.std.proofs.lemmas.Bool.{cases_Bool}
use Rattle.std.proofs.lemmas.List.{length-map}
use Rattle.si_lists.proofs.Lists.{all_map, all_two}
use Rattle.si_lists.proofs.Parts.{lt_or}
use Rattle.si_lists.proofs.Filters.{passed, skipped}
use Rattle.journal_model.specs.declared.edit.Edit.{Edit}
use Rattle.journal_model.specs.declared.step.Step.{Step}
use Rattle.journal_model.specs.declared.step.Step.TheVariants.{Publish, Swap}
use Rattle.journal_model.specs.declared.step.Entry.{Entry}
use Rattle.journal_model.specs.Steps.{Command, command_of}
use Rattle.turn_lock.specs.Journal.{entries_of}
use Rattle.desk_hall.specs.Turn.{caller_of}
use Rattle.desk_hall.specs.Reads.{commands_by, control_step, edit_step}
use Rattle.epg_soak.specs.WorkloadLoad.{soak_controls, soak_edits}
use Rattle.epg_soak.specs.Journals.{edit_of, edits_by, IsOfFeeds, IsSoakJournal}
use Rattle.epg_soak.specs.Callers.{commands_of, IsSoakRun, SoakRunsAreCounted}
use Rattle.epg_soak.proofs.MadeEdits.{count_edits}
use Rattle.epg_soak.proofs.WorkloadEvents.{same_number}
use Rattle.epg_soak.proofs.Counts.{made_counted}

-- ---- lists

kept_one : {X : Type 0} (p : X → Bool) (x : X) (xs : List X) → length (filter p (x ∷ xs)) ≡ (if p x then 1 else 0) + length (filter p xs)
kept_one p x xs = elim (cases_Bool (p x)) [
  | inl e ↦ rw e (omega arith)
  | inr e ↦ rw e (omega arith)
]

pub below_four : (n : ℕ) → n ≤ 3 → (P : ℕ → Type 0) → P 0 → P 1 → P 2 → P 3 → P n
below_four zero le P a b c d = a
below_four (suc zero) le P a b c d = b
below_four (suc (suc zero)) le P a b c d = c
below_four (suc (suc (suc zero))) le P a b c d = d
below_four (suc (suc (suc (suc n)))) le P a b c d = absurd (omega (arith, le))

-- ---- who asks for what

-- what a step of this caller is: an edit only of the caller's feed
abbrev Fits : ℕ → Step → Type 0
Fits who step = IsOfFeeds step × ((who == 2) ≡ false → edit_of 1 step ≡ None) × ((who == 3) ≡ false → edit_of 2 step ≡ None)

abbrev FitsCommand : ℕ → Command → Type 0
FitsCommand who command = Fits who command.1

fit_entries : (who : ℕ) (entries : List Entry) → AllByRecursion (FitsCommand who) (map command_of entries) → AllByRecursion (λ (e : Entry). FitsCommand who (command_of e)) entries
fit_entries who [] h = tt
fit_entries who (e ∷ entries) h = (h.0, fit_entries who entries h.1)

abbrev FitsBy : ℕ → Entry → Type 0
FitsBy who entry = (entry.who == who) ≡ true → Fits who entry.step

by_caller : (who : ℕ) (journal : List Entry) (commands : List Command) → commands_of who journal ≡ commands → AllByRecursion (FitsCommand who) commands → AllByRecursion (FitsBy who) journal
by_caller who journal commands are fit =
    passed (λ (entry : Entry). Fits who entry.step) (λ (entry : Entry). entry.who == who) journal
    (fit_entries who (entries_of caller_of who journal) (subst (λ (l : List Command). AllByRecursion (FitsCommand who) l) (sym are) fit))

first_fits : (edits : List Edit) → AllByRecursion (FitsCommand 2) (commands_by 2 (edit_step 1) edits)
first_fits [] = tt
first_fits (e ∷ edits) = (((lit≤ tt, lit≤ tt), λ h. absurd cc, λ h. refl), first_fits edits)

second_fits : (edits : List Edit) → AllByRecursion (FitsCommand 3) (commands_by 3 (edit_step 2) edits)
second_fits [] = tt
second_fits (e ∷ edits) = (((lit≤ tt, lit≤ tt), λ h. refl, λ h. absurd cc), second_fits edits)

abbrev IsNone : ℕ → List Entry → Type 0
IsNone k journal = entries_of caller_of k journal ≡ []

none_later : (k : ℕ) (entry : Entry) (journal : List Entry) → IsNone k (entry ∷ journal) → IsNone k journal
none_later k entry journal none = elim (cases_Bool (entry.who == k)) [
  | inl e ↦ absurd (let h = rw e at none in cc)
  | inr e ↦ rw e at none
]

pub low_callers : (journal : List Entry) → ((k : ℕ) → 4 ≤ k → IsNone k journal) → AllByRecursion (λ (entry : Entry). entry.who ≤ 3) journal
low_callers [] none = tt
low_callers (entry ∷ journal) none = (low_or (lt_or entry.who 4), low_callers journal (λ k le. none_later k entry journal (none k le)))
  where
    low_or : (entry.who < 4) ⊎ (4 ≤ entry.who) → entry.who ≤ 3
    low_or (inl lt) = omega (arith, lt)
    low_or (inr le) = absurd (let h = none entry.who le in let self = same_number entry.who entry.who refl in let k = rw self at h in cc)

abbrev FourFit : Entry → Type 0
FourFit entry = (entry.who ≤ 3) × FitsBy 0 entry × FitsBy 1 entry × FitsBy 2 entry × FitsBy 3 entry

fits_own : (entry : Entry) → FourFit entry → Fits entry.who entry.step
fits_own entry h =
    let s = entry.step in
    below_four entry.who h.0 (λ (k : ℕ). ((k == 0) ≡ true → Fits 0 s) → ((k == 1) ≡ true → Fits 1 s) → ((k == 2) ≡ true → Fits 2 s) → ((k == 3) ≡ true → Fits 3 s) → Fits k s)
    (λ a b c d. a refl) (λ a b c d. b refl) (λ a b c d. c refl) (λ a b c d. d refl) h.1 h.2 h.3 h.4

abbrev FitsOwn : Entry → Type 0
FitsOwn entry = Fits entry.who entry.step

control_fits : AllByRecursion (FitsCommand 0) (commands_by 0 control_step soak_controls ++ (0, Publish) ∷ (0, Swap) ∷ (0, Swap) ∷ [])
control_fits = (
  (tt, λ h. refl, λ h. refl),
  (
    (tt, λ h. refl, λ h. refl),
    (
      (tt, λ h. refl, λ h. refl),
      (
        (tt, λ h. refl, λ h. refl),
        (
          (tt, λ h. refl, λ h. refl),
          ((tt, λ h. refl, λ h. refl), ((tt, λ h. refl, λ h. refl), ((tt, λ h. refl, λ h. refl), ((tt, λ h. refl, λ h. refl), tt)))),
        ),
      ),
    ),
  ),
)

player_fits : AllByRecursion (FitsCommand 1) (replicate 3 (1, Swap))
player_fits = ((tt, λ h. refl, λ h. refl), ((tt, λ h. refl, λ h. refl), ((tt, λ h. refl, λ h. refl), tt)))

-- ---- a feed's edits, and how many entries there are

through : {X Y Z : Type 0} (f : Y → Option Z) (g : X → Y) (xs : List X) → filter_map (λ (x : X). f (g x)) xs ≡ filter_map f (map g xs)
through f g [] = refl
through {Z = Z} f g (x ∷ xs) = ap (λ (l : List Z). cons_option (f (g x)) l) (through f g xs)

first_given : (edits : List Edit) → filter_map (λ (c : Command). edit_of 1 c.1) (commands_by 2 (edit_step 1) edits) ≡ edits
first_given [] = refl
first_given (e ∷ edits) = ap (λ (l : List Edit). e ∷ l) (first_given edits)

second_given : (edits : List Edit) → filter_map (λ (c : Command). edit_of 2 c.1) (commands_by 3 (edit_step 2) edits) ≡ edits
second_given [] = refl
second_given (e ∷ edits) = ap (λ (l : List Edit). e ∷ l) (second_given edits)

caller_count : (who : ℕ) (journal : List Entry) (commands : List Command) → commands_of who journal ≡ commands → length (entries_of caller_of who journal) ≡ length commands
caller_count who journal commands are = sym (length-map (entries_of caller_of who journal) command_of) ∙ ap (λ (l : List Command). length l) are

four_count : (journal : List Entry) → AllByRecursion (λ (entry : Entry). entry.who ≤ 3) journal
    → length journal ≡ length (entries_of caller_of 0 journal) + length (entries_of caller_of 1 journal) + length (entries_of caller_of 2 journal) + length (entries_of caller_of 3 journal)
four_count [] h = omega arith
four_count (entry ∷ journal) h =
    let more = four_count journal h.1 in
    let a = kept_one (λ (x : Entry). x.who == 0) entry journal in
    let b = kept_one (λ (x : Entry). x.who == 1) entry journal in
    let c = kept_one (λ (x : Entry). x.who == 2) entry journal in
    let d = kept_one (λ (x : Entry). x.who == 3) entry journal in
    let one = below_four entry.who h.0 (λ (k : ℕ). (if k == 0 then 1 else 0) + (if k == 1 then 1 else 0) + (if k == 2 then 1 else 0) + (if k == 3 then 1 else 0) ≡ 1) refl refl refl refl in
    omega (arith, more, a, b, c, d, one)

module _ (number : ℕ) (journal : List Entry) (run : IsSoakRun number journal) where
  callers : AllByRecursion (λ (entry : Entry). entry.who ≤ 3) journal
  callers = low_callers journal run.others

  entries_fit : AllByRecursion FitsOwn journal
  entries_fit =
      let a : AllByRecursion (FitsBy 0) journal = by_caller 0 journal (commands_by 0 control_step soak_controls ++ (0, Publish) ∷ (0, Swap) ∷ (0, Swap) ∷ []) run.control control_fits in
      let b : AllByRecursion (FitsBy 1) journal = by_caller 1 journal (replicate 3 (1, Swap)) run.player player_fits in
      let c : AllByRecursion (FitsBy 2) journal = by_caller 2 journal (commands_by 2 (edit_step 1) (soak_edits number 1)) run.first (first_fits (soak_edits number 1)) in
      let d : AllByRecursion (FitsBy 3) journal = by_caller 3 journal (commands_by 3 (edit_step 2) (soak_edits number 2)) run.second (second_fits (soak_edits number 2)) in
      let ab = all_two (FitsBy 0) (FitsBy 1) (λ (entry : Entry). FitsBy 0 entry × FitsBy 1 entry) (λ entry x y. (x, y)) journal a b in
      let cd = all_two (FitsBy 2) (FitsBy 3) (λ (entry : Entry). FitsBy 2 entry × FitsBy 3 entry) (λ entry x y. (x, y)) journal c d in
      let abcd = all_two (λ (entry : Entry). FitsBy 0 entry × FitsBy 1 entry) (λ (entry : Entry). FitsBy 2 entry × FitsBy 3 entry)
      (λ (entry : Entry). (entry.who ≤ 3) → FourFit entry) (λ entry x y low. (low, x.0, x.1, y.0, y.1)) journal ab cd in
      all_two (λ (entry : Entry). (entry.who ≤ 3) → FourFit entry) (λ (entry : Entry). entry.who ≤ 3) FitsOwn (λ entry f low. fits_own entry (f low)) journal abcd callers

  -- a feed's edits are those of its caller
  edits_are : (feed who : ℕ) → AllByRecursion (λ (entry : Entry). (entry.who == who) ≡ false → edit_of feed entry.step ≡ None) journal
      → (commands : List Command) → commands_of who journal ≡ commands → edits_by feed journal ≡ filter_map (λ (c : Command). edit_of feed c.1) commands
  edits_are feed who silent commands are =
      skipped (λ (entry : Entry). edit_of feed entry.step) (λ (entry : Entry). entry.who == who) journal silent
      ∙ through (λ (c : Command). edit_of feed c.1) command_of (entries_of caller_of who journal)
      ∙ ap (λ (l : List Command). filter_map (λ (c : Command). edit_of feed c.1) l) are

  pub first_edits : edits_by 1 journal ≡ soak_edits number 1
  first_edits =
      edits_are 1 2 (all_map FitsOwn (λ (entry : Entry). (entry.who == 2) ≡ false → edit_of 1 entry.step ≡ None) (λ entry h. h.1) journal entries_fit)
      (commands_by 2 (edit_step 1) (soak_edits number 1)) run.first
      ∙ first_given (soak_edits number 1)

  pub second_edits : edits_by 2 journal ≡ soak_edits number 2
  second_edits =
      edits_are 2 3 (all_map FitsOwn (λ (entry : Entry). (entry.who == 3) ≡ false → edit_of 2 entry.step ≡ None) (λ entry h. h.2) journal entries_fit)
      (commands_by 3 (edit_step 2) (soak_edits number 2)) run.second
      ∙ second_given (soak_edits number 2)

  pub is_journal : IsSoakJournal number journal
  is_journal = record {
    legal = run.legal;
    feeds = all_map FitsOwn (λ (entry : Entry). IsOfFeeds entry.step) (λ entry h. h.0) journal entries_fit;
    first = ([], sym first_edits ∙ sym (append-nil (edits_by 1 journal)));
    second = ([], sym second_edits ∙ sym (append-nil (edits_by 2 journal)));
  }

  size : length journal ≡ 132
  size =
      let all = four_count journal callers in
      let a = caller_count 0 journal _ run.control in
      let b = caller_count 1 journal _ run.player in
      let c = caller_count 2 journal _ run.first in
      let d = caller_count 3 journal _ run.second in
      let e = length-map (soak_edits number 1) (λ (v : Edit). let x : Command = (2, edit_step 1 v) in x) in
      let f = length-map (soak_edits number 2) (λ (v : Edit). let x : Command = (3, edit_step 2 v) in x) in
      omega (arith, all, a, b, c, d, e, f, count_edits number 1, count_edits number 2)

pub runs_counted : SoakRunsAreCounted
runs_counted number journal run = (size number journal run, is_journal number journal run, made_counted number journal (is_journal number journal run) (first_edits number journal run) (second_edits number journal run))
