-- Shows one after the other, and those of a day.
use Rattle.std.proofs.Common.{◌≡◌, ℕ, zero, suc, ◌+◌, ◌-◌, ◌*◌, ◌/◌, ◌<◌, ◌≤◌, ◌==◌, Bool, true, false, cond, List, [], ◌∷◌, ◌++◌, length, refl, sym, ap, ap₂, ◌∙◌, subst, arith, append-nil, append_assoc}
use Rattle.std.specs.Prelude.{nat_lt, flat_map, Result, Ok, Err, OnOk, is_ok, if◌then◌else◌}
use Rattle.std.specs.List.{AllByRecursion, filter, range_with_len}
use Rattle.std.proofs.lemmas.Bool.Decides.{nat_tests}
use Rattle.std.proofs.lemmas.List.{length-append}
use Rattle.std.proofs.lemmas.List.Concat.{flat_map-append}
use Rattle.std.proofs.lemmas.List.Elements.{filter-append}
use Rattle.si_lists.proofs.Lists.{all_push, all_map, range_more}
use Rattle.si_workload.specs.declared.shows.Show.{Show}
use Rattle.si_workload.specs.declared.shows.NextShow.{NextShow}
use Rattle.si_workload.specs.Shows.{show_at, shows_ahead, shows_from, shows_on, state_behind}
use Rattle.si_workload.specs.Texts.{day_line, day_text, item_line}
use Rattle.si_workload.specs.Going.{IsAt, PassesDay, StartsWithin, Takes}

abbrev shows_next : ℕ → ℕ → ℕ → NextShow
shows_next id start state = record { id = id; start = start; state = state }

-- the one behind the next show
abbrev pub behind : NextShow → NextShow
behind n = record { id = n.id + 1; start = n.start + (show_at n.id n.start n.state).quarters; state = state_behind (state_behind n.state) }

-- the next show, and those behind it
pub ahead_next : (n : NextShow) → n.start < 1344 → n.id ≤ n.start + 1 → shows_ahead n ≡ show_at n.id n.start n.state ∷ shows_ahead (behind n)
unfolding shows_from
ahead_next n lt few =
    let more : 1345 - n.id ≡ suc (1345 - (n.id + 1)) = omega (arith, lt, few) in
    let yes : nat_lt n.start 1344 ≡ true = grind (arith, nat_tests, lt) in
    ap (λ (m : ℕ). shows_from m n.id n.start n.state) more ∙ rw yes refl

-- ---- when they start

pub from_start : (from most id start state : ℕ) → from ≤ start → AllByRecursion (λ (s : Show). from ≤ s.start) (shows_from most id start state)
unfolding shows_from
from_start from zero id start state le = tt
from_start from (suc most) id start state le =
    go (nat_lt start 1344) (from_start from most (id + 1) (start + (show_at id start state).quarters) (state_behind (state_behind state)) (omega (arith, le)))
  where
    go : (b : Bool) → AllByRecursion (λ (s : Show). from ≤ s.start)
        (shows_from most (id + 1) (start + (show_at id start state).quarters) (state_behind (state_behind state)))
        → AllByRecursion (λ (s : Show). from ≤ s.start)
        (cond b (show_at id start state ∷ shows_from most (id + 1) (start + (show_at id start state).quarters) (state_behind (state_behind state))) [])
    go true more = (le, more)
    go false more = tt

-- ---- those of a day

-- a show of another day is left out
other_day : (day : ℕ) (shows : List Show) → AllByRecursion (λ (s : Show). (s.start / 96 == day) ≡ false) shows → shows_on day shows ≡ []
other_day day [] h = refl
other_day day (s ∷ shows) h = rw h.0 (other_day day shows h.1)

this_day : (day : ℕ) (shows : List Show) → AllByRecursion (λ (s : Show). (s.start / 96 == day) ≡ true) shows → shows_on day shows ≡ shows
this_day day [] h = refl
this_day day (s ∷ shows) h = rw h.0 (ap (λ (l : List Show). s ∷ l) (this_day day shows h.1))

on_append : (day : ℕ) (xs ys : List Show) → shows_on day (xs ++ ys) ≡ shows_on day xs ++ shows_on day ys
on_append day xs ys = filter-append (λ (s : Show). s.start / 96 == day) xs ys

is_day : (day start : ℕ) → 96 * day ≤ start → start < 96 * (day + 1) → (start / 96 == day) ≡ true
is_day day start le lt = let e : start / 96 ≡ day = omega (arith, le, lt) in rw e (grind (arith, nat_tests))

no_later : (day other start : ℕ) → day < other → start < 96 * (day + 1) → (start / 96 == other) ≡ false
no_later day other start more lt = let e : start / 96 < other = omega (arith, more, lt) in grind (arith, nat_tests, e)

no_earlier : (day start : ℕ) → 96 * (day + 1) ≤ start → (start / 96 == day) ≡ false
no_earlier day start le = let e : day < start / 96 = omega (arith, le) in grind (arith, nat_tests, e)

-- ---- texts one behind the other

-- these texts were appended, one behind the other
abbrev pub Steps : List ℕ → List (List ℕ) → List ℕ → Type 0
Steps before [] after = after ≡ before
Steps before (t ∷ ts) after = (mid : List ℕ) × (mid ≡ before ++ t) × Steps mid ts after

abbrev pub texts_behind : List ℕ → List (List ℕ) → List ℕ
texts_behind front [] = front
texts_behind front (t ∷ ts) = texts_behind (front ++ t) ts

pub steps : (before front : List ℕ) (ts : List (List ℕ)) (mid after : List ℕ) → mid ≡ before ++ front → Steps mid ts after → after ≡ before ++ texts_behind front ts
steps before front [] mid after is e = e ∙ is
steps before front (t ∷ ts) mid after is (next, e, more) =
    steps before (front ++ t) ts next after (e ∙ ap (λ (l : List ℕ). l ++ t) is ∙ append_assoc before front t) more

-- what a call appends where it is well
pub appended : {T E : Type 0} (r : Result T E) (new all old : List ℕ) → new ≡ (if is_ok r then all else old) → OnOk r (new ≡ all)
appended (Ok x) new all old e = e
appended (Err x) new all old e = tt

-- ---- taking shows

pub takes_none : (end : ℕ) (n : NextShow) (before : List ℕ) → n.start ≤ 1351 → n.id ≤ n.start + 1 → Takes end n n before before 0
takes_none end n before bound few = record {
  shows = [];
  are = refl;
  within = tt;
  lines = sym (append-nil before);
  counts = refl;
  bound = bound;
  few = few;
}

pub takes_more : (end : ℕ) (old mid : NextShow) (before lines : List ℕ) (count : ℕ) → Takes end old mid before lines count → old.start ≤ mid.start → mid.start < end → end ≤ 1344
    → 1 ≤ (show_at mid.id mid.start mid.state).quarters → (show_at mid.id mid.start mid.state).quarters ≤ 8
    → Takes end old (behind mid) before (lines ++ item_line (show_at mid.id mid.start mid.state)) (count + 1)
takes_more end old mid before lines count t later lt most some eight =
    let show = show_at mid.id mid.start mid.state in record {
      shows = t.shows ++ show ∷ [];
      are = t.are ∙ ap (λ (l : List Show). t.shows ++ l) (ahead_next mid (omega (arith, lt, most)) t.few) ∙ sym (append_assoc t.shows (show ∷ []) (shows_ahead (behind mid)));
      within = all_push (StartsWithin old.start end) t.shows show t.within (later, lt);
      lines = ap (λ (l : List ℕ). l ++ item_line show) t.lines ∙ append_assoc before (flat_map item_line t.shows) (item_line show)
          ∙ ap (λ (l : List ℕ). before ++ l) (ap (λ (l : List ℕ). flat_map item_line t.shows ++ l) (sym (append-nil (item_line show))) ∙ sym (flat_map-append item_line t.shows (show ∷ [])));
      counts = ap (λ (n : ℕ). n + 1) t.counts ∙ sym (length-append t.shows (show ∷ []));
      bound = omega (arith, lt, most, eight);
      few = omega (arith, t.few, some);
    }

-- the same, with what the call that takes a show says
pub takes_one : (end : ℕ) (old mid new : NextShow) (before lines all : List ℕ) (count : ℕ) (show : Show) → Takes end old mid before lines count → old.start ≤ mid.start → mid.start < end → end ≤ 1344
    → show ≡ show_at mid.id mid.start mid.state → 1 ≤ show.quarters → show.quarters ≤ 8
    → new.id ≡ mid.id + 1 → new.start ≡ mid.start + show.quarters → new.state ≡ state_behind (state_behind mid.state)
    → all ≡ lines ++ item_line show → Takes end old new before all (count + 1)
takes_one end old mid new before lines all count show t later lt most is some eight id start state added =
    let first = show_at mid.id mid.start mid.state in
    let one : 1 ≤ first.quarters = subst (λ (s : Show). 1 ≤ s.quarters) is some in
    let few : first.quarters ≤ 8 = subst (λ (s : Show). s.quarters ≤ 8) is eight in
    let there : new.start ≡ mid.start + first.quarters = start ∙ ap (λ (s : Show). mid.start + s.quarters) is in
    let same : behind mid ≡ new =
    ap₂ (λ (a b : ℕ). shows_next a b (state_behind (state_behind mid.state))) (sym id) (sym there) ∙ ap (λ (x : ℕ). shows_next new.id new.start x) (sym state) in
    let text : lines ++ item_line first ≡ all = ap (λ (s : Show). lines ++ item_line s) (sym is) ∙ sym added in
    subst (λ (l : List ℕ). Takes end old new before l (count + 1)) text
    (subst (λ (n : NextShow). Takes end old n before (lines ++ item_line first) (count + 1)) same (takes_more end old mid before lines count t later lt most one few))

-- ---- passing a day

pub passes : (day : ℕ) (old new : NextShow) (before after : List ℕ) (count : ℕ) → IsAt day old → Takes (96 * (day + 1)) old new before after count → 96 * (day + 1) ≤ new.start
    → PassesDay day old new
passes day old new before after count at t le = record {
  at = record { start = le; bound = t.bound; few = t.few };
  later = λ other more.
      ap (shows_on other) t.are ∙ on_append other t.shows (shows_ahead new)
      ∙ ap (λ (l : List Show). l ++ shows_on other (shows_ahead new))
      (other_day other t.shows (all_map (StartsWithin old.start (96 * (day + 1))) (λ (s : Show). (s.start / 96 == other) ≡ false)
      (λ (s : Show) (w : StartsWithin old.start (96 * (day + 1)) s). no_later day other s.start more w.1) t.shows t.within));
}

-- the shows that were taken are those of the day
pub taken_are : (day : ℕ) (old new : NextShow) (before after : List ℕ) (count : ℕ) → IsAt day old → (t : Takes (96 * (day + 1)) old new before after count)
    → 96 * (day + 1) ≤ new.start → shows_on day (shows_ahead old) ≡ t.shows
taken_are day old new before after count at t le =
    ap (shows_on day) t.are ∙ on_append day t.shows (shows_ahead new)
    ∙ ap₂ (λ (a b : List Show). a ++ b)
    (this_day day t.shows (all_map (StartsWithin old.start (96 * (day + 1))) (λ (s : Show). (s.start / 96 == day) ≡ true)
    (λ (s : Show) (w : StartsWithin old.start (96 * (day + 1)) s). is_day day s.start (let le : 96 * day ≤ s.start = omega (arith, at.start, w.0) in le) w.1) t.shows t.within))
    (other_day day (shows_ahead new) (all_map (λ (s : Show). 96 * (day + 1) ≤ s.start) (λ (s : Show). (s.start / 96 == day) ≡ false)
    (λ (s : Show) (w : 96 * (day + 1) ≤ s.start). no_earlier day s.start w) (shows_ahead new)
    (from_start (96 * (day + 1)) (1345 - new.id) new.id new.start new.state le)))
    ∙ append-nil t.shows

pub day_put : (service day : ℕ) (old new : NextShow) (none before line items after : List ℕ) (count : ℕ) → IsAt day old → Takes (96 * (day + 1)) old new none items count
    → 96 * (day + 1) ≤ new.start → none ≡ [] → line ≡ before ++ day_line service day count → after ≡ line ++ items → after ≡ before ++ day_text service (shows_ahead old) day
day_put service day old new none before line items after count at t le empty is all =
    let taken : t.shows ≡ shows_on day (shows_ahead old) = sym (taken_are day old new none items count at t le) in
    all ∙ ap (λ (l : List ℕ). l ++ items) is ∙ append_assoc before (day_line service day count) items
    ∙ ap (λ (l : List ℕ). before ++ l)
    (ap₂ (λ (a b : List ℕ). a ++ b) (ap (day_line service day) (t.counts ∙ ap length taken))
    (t.lines ∙ ap (λ (l : List ℕ). l ++ flat_map item_line t.shows) empty ∙ ap (flat_map item_line) taken))

-- one day more
pub day_more : (service day : ℕ) (all : List Show) (n : NextShow) (before front out after : List ℕ) → shows_on day all ≡ shows_on day (shows_ahead n)
    → out ≡ before ++ (front ++ flat_map (day_text service all) (range_with_len 0 day)) → after ≡ out ++ day_text service (shows_ahead n) day
    → after ≡ before ++ (front ++ flat_map (day_text service all) (range_with_len 0 (day + 1)))
day_more service day all n before front out after same so_far more =
    let days = flat_map (day_text service all) (range_with_len 0 day) in
    let it : day_text service (shows_ahead n) day ≡ day_text service all day =
    ap (λ (l : List Show). day_line service day (length l) ++ flat_map item_line l) (sym same) in
    more ∙ ap₂ (λ (a b : List ℕ). a ++ b) so_far it ∙ append_assoc before (front ++ days) (day_text service all day)
    ∙ ap (λ (l : List ℕ). before ++ l) (append_assoc front days (day_text service all day)
    ∙ ap (λ (l : List ℕ). front ++ l) (sym (range_more (day_text service all) 0 day day (omega arith))))
