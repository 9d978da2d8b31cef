-- Tallies, cycle by cycle.
use Rattle.std.proofs.Common.{◌≡◌, ℕ, ◌+◌, ◌≤◌, List, [], ◌∷◌, ◌++◌, append-nil, append_assoc, Bool, true, false, Option, Some, None, refl, sym, ap, ◌∙◌, subst, arith}
use Rattle.std.specs.Prelude.{if◌then◌else◌}
use Rattle.version_book.specs.Airings.{AiredTables}
use Rattle.cycle_timing.specs.Again.{IsRight, leads_in}
use Rattle.cycle_player.specs.Tally.{Tallied, is_right, larger, no_cycles, with_cycle, with_cycles}
use Rattle.cycle_player.proofs.TimedTallies.{Within, within_itself, within_larger, within_through, right_if, right_only_if, right_within, least_is_right}
use Rattle.cycle_player.specs.Tallies.{tallied_at, tally_of, TalliesTellWhetherKept, LeastRatesDo}

-- ---- one cycle more

cycles_push : (rate : ℕ) (past airings : List AiredTables) (a : AiredTables) (t : Tallied)
    → with_cycles rate past (airings ++ a ∷ []) t ≡ with_cycle rate (leads_in rate (past ++ airings) a) (with_cycles rate past airings t)
cycles_push rate past [] a t = ap (λ (l : List AiredTables). with_cycle rate (leads_in rate l a) t) (sym (append-nil past))
cycles_push rate past (b ∷ airings) a t =
    cycles_push rate (past ++ b ∷ []) airings a (with_cycle rate (leads_in rate past b) t)
    ∙ ap (λ (l : List AiredTables). with_cycle rate (leads_in rate l a) (with_cycles rate (past ++ b ∷ []) airings (with_cycle rate (leads_in rate past b) t))) (append_assoc past (b ∷ []) airings)

pub tally_push : (rate : Option ℕ) (airings : List AiredTables) (a : AiredTables) → tally_of rate (airings ++ a ∷ []) ≡ tallied_at rate airings a (tally_of rate airings)
tally_push None airings a = refl
tally_push (Some rate) airings a = cycles_push rate [] airings a no_cycles

-- ---- what holds of each of them

-- of each of these airings, after others
OfEachAfter : List AiredTables → List AiredTables → (List AiredTables → AiredTables → Type 0) → Type 0
OfEachAfter past airings P = (before after : List AiredTables) (a : AiredTables) → airings ≡ before ++ a ∷ after → P (past ++ before) a

module _ (P : List AiredTables → AiredTables → Type 0) where
  first_of : (past : List AiredTables) (b : AiredTables) (airings : List AiredTables) → OfEachAfter past (b ∷ airings) P → P past b
  unfolding OfEachAfter
  first_of past b airings all = subst (λ (l : List AiredTables). P l b) (append-nil past) (all [] airings b refl)

  rest_of : (past : List AiredTables) (b : AiredTables) (airings : List AiredTables) → OfEachAfter past (b ∷ airings) P → OfEachAfter (past ++ b ∷ []) airings P
  unfolding OfEachAfter
  rest_of past b airings all before after a e = subst (λ (l : List AiredTables). P l a) (sym (append_assoc past (b ∷ []) before)) (all (b ∷ before) after a (ap (λ (l : List AiredTables). b ∷ l) e))

  none_of : (past : List AiredTables) → OfEachAfter past [] P
  unfolding OfEachAfter
  none_of past [] after a e = absurd cc
  none_of past (b ∷ before) after a e = absurd cc

  both_of : (past : List AiredTables) (b : AiredTables) (airings : List AiredTables) → P past b → OfEachAfter (past ++ b ∷ []) airings P → OfEachAfter past (b ∷ airings) P
  unfolding OfEachAfter
  both_of past b airings here rest [] after a e =
      let is : b ≡ a = cc in
      subst (λ (c : AiredTables). P (past ++ []) c) is (subst (λ (l : List AiredTables). P l b) (sym (append-nil past)) here)
  both_of past b airings here rest (c ∷ before) after a e =
      let is : b ≡ c = cc in
      let more : airings ≡ before ++ a ∷ after = cc in
      subst (λ (d : AiredTables). P (past ++ d ∷ before) a) is (subst (λ (l : List AiredTables). P l a) (append_assoc past (b ∷ []) before) (rest before after a more))

-- ---- none is short

short_grows : (rate : ℕ) (past airings : List AiredTables) (t : Tallied) → t.short ≤ (with_cycles rate past airings t).short
short_grows rate past [] t = omega arith
short_grows rate past (a ∷ airings) t = let h = short_grows rate (past ++ a ∷ []) airings (with_cycle rate (leads_in rate past a) t) in omega arith

one_short : (b : Bool) (n : ℕ) → n + (if b then 0 else 1) ≡ 0 → b ≡ true
one_short true n e = refl
one_short false n e = absurd (omega arith)

all_right : (rate : ℕ) (past airings : List AiredTables) (t : Tallied) → (with_cycles rate past airings t).short ≡ 0 → OfEachAfter past airings (IsRight rate)
all_right rate past [] t none = none_of (IsRight rate) past
all_right rate past (a ∷ airings) t none =
    let l = leads_in rate past a in
    let grows = short_grows rate (past ++ a ∷ []) airings (with_cycle rate l t) in
    both_of (IsRight rate) past a airings (right_only_if rate l (one_short (is_right rate l) t.short (omega arith))) (all_right rate (past ++ a ∷ []) airings (with_cycle rate l t) none)

none_short : (rate : ℕ) (past airings : List AiredTables) (t : Tallied) → t.short ≡ 0 → OfEachAfter past airings (IsRight rate) → (with_cycles rate past airings t).short ≡ 0
none_short rate past [] t none all = none
none_short rate past (a ∷ airings) t none all =
    let l = leads_in rate past a in
    let right : is_right rate l ≡ true = right_if rate l (first_of (IsRight rate) past a airings all) in
    let still : t.short + (if is_right rate l then 0 else 1) ≡ 0 = ap (λ (b : Bool). t.short + (if b then 0 else 1)) right ∙ omega arith in
    none_short rate (past ++ a ∷ []) airings (with_cycle rate l t) still (rest_of (IsRight rate) past a airings all)

pub tallies_tell_whether_kept : TalliesTellWhetherKept
unfolding OfEachAfter
tallies_tell_whether_kept rate airings = ((λ none. all_right rate [] airings no_cycles none), (λ all. none_short rate [] airings no_cycles refl all))

-- ---- the least rate

most_grows : (rate : ℕ) (past airings : List AiredTables) (t : Tallied) → Within t.most (with_cycles rate past airings t).most
most_grows rate past [] t = within_itself t.most
most_grows rate past (a ∷ airings) t =
    let l = leads_in rate past a in
    within_through t.most (larger t.most l) (with_cycles rate past (a ∷ airings) t).most (within_larger t.most l).0 (most_grows rate (past ++ a ∷ []) airings (with_cycle rate l t))

all_within : (rate : ℕ) (past airings : List AiredTables) (t : Tallied) → OfEachAfter past airings (λ before a. Within (leads_in rate before a) (with_cycles rate past airings t).most)
all_within rate past [] t = none_of (λ before a. Within (leads_in rate before a) t.most) past
all_within rate past (a ∷ airings) t =
    let l = leads_in rate past a in
    let most = (with_cycles rate past (a ∷ airings) t).most in
    both_of (λ before b. Within (leads_in rate before b) most) past a airings
    (within_through l (larger t.most l) most (within_larger t.most l).1 (most_grows rate (past ++ a ∷ []) airings (with_cycle rate l t)))
    (all_within rate (past ++ a ∷ []) airings (with_cycle rate l t))

pub least_rates_do : LeastRatesDo
unfolding OfEachAfter
least_rates_do rate least airings e before after a are =
    let most = (tally_of (Some rate) airings).most in
    right_within least (leads_in rate before a) most (all_within rate [] airings no_cycles before after a are) (least_is_right most least e)
