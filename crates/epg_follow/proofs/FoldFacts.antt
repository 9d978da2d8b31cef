-- A journal and an air of it have one checkpoint.
use Rattle.std.proofs.Common.{◌≡◌, ◌⊎◌, ℕ, suc, ◌+◌, ◌<◌, List, [], ◌∷◌, ◌++◌, Bool, false, Option, Some, None, map, refl, sym, ap, ap₂, ◌∙◌, subst, inl, inr, arith, eq-eqb, ne_eqb}
use Rattle.std.specs.Prelude.{◌==◌, if◌then◌else◌, slice_index}
use Rattle.std.specs.List.{AllByRecursion}
use Rattle.std.specs.List.Sorted.{IsStrictlyIncreasing}
use Rattle.std.proofs.lemmas.Bool.{cases_Bool, cases_order, eqb-true}
use Rattle.std.proofs.lemmas.List.Elements.{recursion_from_All}
use Rattle.si_lists.proofs.Lists.{all_map}
use Rattle.ts_packets.specs.PidCounters.{IsPidCounter, counter_in}
use Rattle.ts_packets.specs.declared.pid_counter.PidCounter.{PidCounter}
use Rattle.version_book.specs.Book.{GivenVersions, given_entries}
use Rattle.version_book.specs.declared.key_version.KeyVersion.{KeyVersion}
use Rattle.version_book.proofs.KeptEntries.{kept_once}
use Rattle.air_model.specs.Air.{Aired, airings_of}
use Rattle.desk_checkpoint.specs.Steps.{checkpoint_steps}
use Rattle.cycle_player.proofs.Airs.{made_join}
use Rattle.desk_checkpoint.specs.HandedOver.{AreHandedOver}
use Rattle.desk_checkpoint.specs.Text.{checkpoint_text}
use Rattle.desk_core.specs.Journal.{publishes}
use Rattle.epg_play.specs.Checkpointed.{IsCheckpoint}
use Rattle.journal_model.specs.Steps.{Command}
use Rattle.cycle_player.specs.Clock.{reads}
use Rattle.cycle_player.specs.declared.clock.Clock.{Clock}
use Rattle.cycle_timing.specs.Clock.{Clock as Reading}
use Rattle.epg_follow.specs.Folds.{CheckpointsAreOne, FoldsAgain}
use Rattle.epg_follow.proofs.MadeFacts.{made_is_one}

-- ---- counters in ascending order of their PIDs

abbrev AreAbove : ℕ → List PidCounter → Type 0
AreAbove pid cs = AllByRecursion (λ (c : PidCounter). pid < c.pid) cs

Rise : List PidCounter → Type 0
Rise [] = Unit {0}
Rise (c ∷ cs) = AreAbove c.pid cs × Rise cs

increasing_tail : (x : ℕ) (xs : List ℕ) → IsStrictlyIncreasing (x ∷ xs) → IsStrictlyIncreasing xs
increasing_tail x xs h k lt =
    let next : suc k + 1 ≡ suc (k + 1) = omega arith in
    subst (λ (j : ℕ). slice_index xs k < slice_index (x ∷ xs) j) next (h (suc k) (omega (arith, lt)))

above_more : (a b : ℕ) (cs : List PidCounter) → a < b → AreAbove b cs → AreAbove a cs
above_more a b cs lt h = all_map (λ (c : PidCounter). b < c.pid) (λ (c : PidCounter). a < c.pid) (λ c k. omega (arith, lt, k)) cs h

rise : (cs : List PidCounter) → IsStrictlyIncreasing (map (λ (c : PidCounter). c.pid) cs) → Rise cs
unfolding Rise
rise [] h = tt
rise (c ∷ []) h = (tt, tt)
rise (c ∷ (d ∷ ds)) h =
    let rest = rise (d ∷ ds) (increasing_tail c.pid (map (λ (e : PidCounter). e.pid) (d ∷ ds)) h) in
    let first : c.pid < d.pid = h 0 (omega arith) in
    ((first, above_more c.pid d.pid ds first rest.0), rest)

gone : (pid : ℕ) (cs : List PidCounter) → AreAbove pid cs → counter_in pid cs ≡ None
gone pid [] h = refl
gone pid (c ∷ cs) h =
    let other : (c.pid == pid) ≡ false = ne_eqb c.pid pid (λ e. absurd (omega (arith, h.0, e))) in
    rw other (gone pid cs h.1)

first_in : (c : PidCounter) (cs : List PidCounter) → counter_in c.pid (c ∷ cs) ≡ Some c.next
first_in c cs = ap (λ (b : Bool). if b then Some c.next else counter_in c.pid cs) (eq-eqb c.pid c.pid refl)

some_none : {A : Type 0} {x : A} → Some x ≡ None → ⊥
some_none e = cc

-- these have the same counter for each PID
abbrev CountAlike : List PidCounter → List PidCounter → Type 0
CountAlike xs ys = (pid : ℕ) → pid < 8192 → counter_in pid xs ≡ counter_in pid ys

-- the first PID of the one is not below that of the other
not_below : (x y : PidCounter) (xs ys : List PidCounter) → AreAbove y.pid ys → x.pid < 8192 → CountAlike (x ∷ xs) (y ∷ ys) → x.pid < y.pid → ⊥
not_below x y xs ys above fits same lt =
    some_none (sym (first_in x xs) ∙ same x.pid fits ∙ gone x.pid (y ∷ ys) (lt, above_more x.pid y.pid ys lt above))

others_alike : (x y : PidCounter) (xs ys : List PidCounter) → x ≡ y → AreAbove x.pid xs → AreAbove y.pid ys → CountAlike (x ∷ xs) (y ∷ ys) → CountAlike xs ys
others_alike x y xs ys one a b same pid lt = elim (cases_Bool (x.pid == pid)) [
  | inl e ↦
      let is : x.pid ≡ pid = eqb-true x.pid pid e in
      let too : y.pid ≡ pid = ap (λ (c : PidCounter). c.pid) (sym one) ∙ is in
      gone pid xs (subst (λ (n : ℕ). AreAbove n xs) is a) ∙ sym (gone pid ys (subst (λ (n : ℕ). AreAbove n ys) too b))
  | inr e ↦
      let other : (y.pid == pid) ≡ false = ap (λ (c : PidCounter). c.pid == pid) (sym one) ∙ e in
      sym (ap (λ (t : Bool). if t then Some x.next else counter_in pid xs) e) ∙ same pid lt
      ∙ ap (λ (t : Bool). if t then Some y.next else counter_in pid ys) other
]

same_counters : (xs ys : List PidCounter) → Rise xs → Rise ys → AllByRecursion IsPidCounter xs → AllByRecursion IsPidCounter ys → CountAlike xs ys → xs ≡ ys
unfolding Rise
same_counters [] [] p q f g same = refl
same_counters [] (y ∷ ys) p q f g same = absurd (some_none (sym (first_in y ys) ∙ sym (same y.pid g.0.0)))
same_counters (x ∷ xs) [] p q f g same = absurd (some_none (sym (first_in x xs) ∙ same x.pid f.0.0))
same_counters (x ∷ xs) (y ∷ ys) p q f g same =
    go (cases_order x.pid y.pid) (λ alike. same_counters xs ys p.1 q.1 f.1 g.1 alike)
  where
    go : (x.pid ≡ y.pid) ⊎ ((x.pid < y.pid) ⊎ (y.pid < x.pid)) → (CountAlike xs ys → xs ≡ ys) → x ∷ xs ≡ y ∷ ys
    go (inr (inl less)) rest = absurd (not_below x y xs ys q.0 f.0.0 same less)
    go (inr (inr more)) rest = absurd (not_below y x ys xs p.0 g.0.0 (λ pid lt. sym (same pid lt)) more)
    go (inl pid) rest =
        let found : Some x.next ≡ Some y.next = sym (first_in x xs) ∙ same x.pid f.0.0 ∙ ap (λ (n : ℕ). counter_in n (y ∷ ys)) pid ∙ first_in y ys in
        let next : x.next ≡ y.next = cc found in
        let one : x ≡ y = ap₂ (λ (n m : ℕ). let c : PidCounter = record { pid = n; next = m } in c) pid next in
        ap₂ (λ (c : PidCounter) (cs : List PidCounter). c ∷ cs) one (rest (others_alike x y xs ys one p.0 q.0 same))

-- ---- texts

module _ (count : ℕ) (steps : List Command) (xs : List Aired) (keys others : List KeyVersion) (pids counters : List PidCounter) (clock other : Clock) where
  abbrev text_at : Option ℕ → Reading → GivenVersions → List PidCounter → List ℕ
  text_at rate c entries ps = checkpoint_text count rate c steps entries ps

  same_parts : (rate : Option ℕ) → reads clock ≡ reads other → given_entries keys ≡ given_entries others → pids ≡ counters
      → text_at rate (reads clock) (given_entries keys) pids ≡ text_at rate (reads other) (given_entries others) counters
  same_parts rate c k p =
      ap (λ (d : Reading). text_at rate d (given_entries keys) pids) c
      ∙ ap₂ (λ (entries : GivenVersions) (ps : List PidCounter). text_at rate (reads other) entries ps) k p

  same_text : (rate : Option ℕ) → AreHandedOver rate xs keys pids clock → AreHandedOver rate xs others counters other
      → text_at rate (reads clock) (given_entries keys) pids ≡ text_at rate (reads other) (given_entries others) counters
  same_text None a b =
      let k = kept_once (airings_of xs) (given_entries keys) (given_entries others) a.ordered b.ordered a.kept.versions b.kept.versions in
      let p = same_counters pids counters (rise pids a.ascend) (rise counters b.ascend) (recursion_from_All IsPidCounter pids a.fit) (recursion_from_All IsPidCounter counters b.fit)
      (λ pid lt. a.kept.counters pid lt ∙ sym (b.kept.counters pid lt)) in
      ap₂ (λ (entries : GivenVersions) (ps : List PidCounter). text_at None (reads other) entries ps) k p
  same_text (Some rate) a b =
      let k = kept_once (airings_of xs) (given_entries keys) (given_entries others) a.ordered b.ordered a.kept.versions b.kept.versions in
      let p = same_counters pids counters (rise pids a.ascend) (rise counters b.ascend) (recursion_from_All IsPidCounter pids a.fit) (recursion_from_All IsPidCounter counters b.fit)
      (λ pid lt. a.kept.counters pid lt ∙ sym (b.kept.counters pid lt)) in
      same_parts (Some rate) (a.kept.clock_is ∙ sym b.kept.clock_is) k p

pub checkpoints_are_one : CheckpointsAreOne
checkpoints_are_one mux journal cycles one other a b =
    a.text_is
    ∙ same_text (publishes journal) (checkpoint_steps mux journal) cycles a.keys b.keys a.pids b.pids a.clock b.clock mux.rate a.kept b.kept
    ∙ sym b.text_is

pub folds_again : FoldsAgain
folds_again mux journal earlier cycles all parts whole first next made same a b =
    let one : earlier ++ cycles ≡ all = made_is_one mux.rate [] (earlier ++ cycles) all (made_join mux.rate [] earlier cycles first next) made same in
    checkpoints_are_one mux journal all parts whole (subst (λ (xs : List Aired). IsCheckpoint mux journal xs parts) one a) b
