-- Counters that are kept, and counters that go on from them.
use Rattle.std.proofs.Common.{◌≡◌, ℕ, zero, suc, ◌+◌, ◌<◌, ◌≤◌, inl, inr, List, [], ◌∷◌, ◌++◌, Option, Some, None, length, replicate, set, take, drop, get_or, append-nil, refl, sym, ap, ◌∙◌, subst, arith, map, get_or-set_same, get_or-set_other, eq-eqb, ne_eqb}
use Rattle.std.specs.Prelude.{◌==◌, if◌then◌else◌}
use Rattle.std.specs.List.{AllByRecursion, All}
use Rattle.std.specs.List.Sorted.{IsStrictlySortedBy, IsStrictlyIncreasing}
use Rattle.std.specs.Option.{IfSome, option_or}
use Rattle.std.specs.Ordering.{nat_cmp}
use Rattle.std.specs.Cmp.{nat_cmp_is}
use Rattle.std.specs.declared.cmp.Ordering.TheVariants.{Less}
use Rattle.std.proofs.Math.Seq.{take-suc}
use Rattle.std.proofs.lemmas.Bool.{cond-true, cond-false}
use Rattle.std.proofs.lemmas.Bool.Decides.{eqb_tells}
use Rattle.std.proofs.lemmas.List.{length-set, drop_all}
use Rattle.std.proofs.lemmas.List.Elements.{All-from_recursion, recursion_from_All, All-get_or, All-set, All-replicate}
use Rattle.std.proofs.lemmas.List.FromFn.{fill_by_all}
use Rattle.std.proofs.lemmas.Map.Keys.{IsStrictlyIncreasing-from_sorted}
use Rattle.ts_packets.specs.declared.pid_counter.PidCounter.{PidCounter}
use Rattle.ts_packets.specs.Counting.{count_on, next_after, StandFor, AreNext}
use Rattle.ts_packets.specs.PidCounters.{IsPidCounter, AreCountersOf, ArePidCountersOf, counter_in, kept_from, counters_of}

abbrev IsSmall : Option ℕ → Type 0
IsSmall next = IfSome next (λ n. n < 16)

-- ---- counters that go on

-- before the first packet
pub AreNext-none : AreNext (replicate 8192 None)
AreNext-none = record { size = refl; small = All-replicate IsSmall 8192 None tt }

-- the counter of a PID with one more named behind the others
counter_in-push : (pid : ℕ) (kept : List PidCounter) (c : PidCounter) → counter_in pid (kept ++ c ∷ []) ≡ option_or (counter_in pid kept) (if c.pid == pid then Some c.next else None)
counter_in-push pid [] c = refl
counter_in-push pid (k ∷ kept) c = elim (eqb_tells k.pid pid) [
  | inl same ↦ rw same.0 refl
  | inr apart ↦ rw apart.0 (counter_in-push pid kept c)
]

or_none : (o : Option ℕ) → o ≡ option_or o None
or_none None = refl
or_none (Some n) = refl

-- one more of those that are kept is written
pub named_more : (next : List (Option ℕ)) (kept : List PidCounter) (at : ℕ) (c : PidCounter) → at < length kept → c ≡ get_or kept at c → length next ≡ 8192 → c.pid < 8192
    → ((pid : ℕ) → pid < 8192 → get_or next pid None ≡ counter_in pid (take at kept))
    → (pid : ℕ) → pid < 8192 → get_or (set next c.pid (option_or (get_or next c.pid None) (Some c.next))) pid None ≡ counter_in pid (take (at + 1) kept)
named_more next kept at c lt is size fits before pid within =
    let new = option_or (get_or next c.pid None) (Some c.next) in
    let front : take (at + 1) kept ≡ take at kept ++ c ∷ [] =
    ap (λ (n : ℕ). take n kept) (let e : at + 1 ≡ suc at = omega arith in e) ∙ take-suc kept at c lt ∙ ap (λ (x : PidCounter). take at kept ++ x ∷ []) (sym is) in
    let behind : counter_in pid (take (at + 1) kept) ≡ option_or (counter_in pid (take at kept)) (if c.pid == pid then Some c.next else None) =
    ap (counter_in pid) front ∙ counter_in-push pid (take at kept) c in
    elim (eqb_tells c.pid pid) [
      | inl same ↦
          ap (λ (k : ℕ). get_or (set next c.pid new) k None) (sym same.1) ∙ get_or-set_same next c.pid new None (omega (arith, size, fits))
          ∙ ap (λ (o : Option ℕ). option_or o (Some c.next)) (before c.pid fits ∙ ap (λ (k : ℕ). counter_in k (take at kept)) same.1)
          ∙ sym (behind ∙ ap (option_or (counter_in pid (take at kept))) (cond-true (c.pid == pid) (Some c.next) None same.0))
      | inr apart ↦
          get_or-set_other next c.pid pid new None (λ f. apart.1 (sym f)) ∙ before pid within ∙ or_none (counter_in pid (take at kept))
          ∙ sym (behind ∙ ap (option_or (counter_in pid (take at kept))) (cond-false (c.pid == pid) (Some c.next) None apart.0))
    ]

or_small : (o : Option ℕ) (n : ℕ) → IsSmall o → n < 16 → IsSmall (option_or o (Some n))
or_small None n old new = new
or_small (Some k) n old new = old

-- and the counters stay within four bits
pub AreNext-more : (next : List (Option ℕ)) (pid n : ℕ) → AreNext next → pid < 8192 → n < 16 → AreNext (set next pid (option_or (get_or next pid None) (Some n)))
AreNext-more next pid n old fits small = record {
  size = length-set next pid (option_or (get_or next pid None) (Some n)) ∙ old.size;
  small = All-set IsSmall next pid (option_or (get_or next pid None) (Some n))
      (or_small (get_or next pid None) n (All-get_or IsSmall next pid None (omega (arith, old.size, fits)) old.small) small) old.small;
}

-- ---- counters that are kept

-- no counter is kept for a PID in front of the first
none_before : (cs : List (Option ℕ)) (from pid : ℕ) → pid < from → counter_in pid (kept_from from cs) ≡ None
none_before [] from pid lt = refl
none_before (None ∷ cs) from pid lt = none_before cs (1 + from) pid (omega arith)
none_before (Some next ∷ cs) from pid lt =
    cond-false (from == pid) (Some next) (counter_in pid (kept_from (1 + from) cs)) (ne_eqb from pid (λ e. (let l : pid < from = lt in omega arith))) ∙ none_before cs (1 + from) pid (omega arith)

-- the counter of a PID is the one that is kept
kept_counter : (cs : List (Option ℕ)) (from pid : ℕ) → counter_in (from + pid) (kept_from from cs) ≡ get_or cs pid None
kept_counter [] from pid = refl
kept_counter (None ∷ cs) from zero = none_before cs (1 + from) (from + 0) (omega arith)
kept_counter (Some next ∷ cs) from zero = cond-true (from == from + 0) (Some next) (counter_in (from + 0) (kept_from (1 + from) cs)) (eq-eqb from (from + 0) (omega arith))
kept_counter (None ∷ cs) from (suc pid) = later cs from pid (kept_counter cs (1 + from) pid)
  where
    later : (cs : List (Option ℕ)) (from pid : ℕ) → counter_in (1 + from + pid) (kept_from (1 + from) cs) ≡ get_or cs pid None → counter_in (from + suc pid) (kept_from (1 + from) cs) ≡ get_or cs pid None
    later cs from pid h = subst (λ (k : ℕ). counter_in k (kept_from (1 + from) cs) ≡ get_or cs pid None) (let e : 1 + from + pid ≡ from + suc pid = omega arith in e) h
kept_counter (Some next ∷ cs) from (suc pid) =
    cond-false (from == from + suc pid) (Some next) (counter_in (from + suc pid) (kept_from (1 + from) cs)) (ne_eqb from (from + suc pid) (λ e. (let l : from < from + suc pid = omega arith in omega arith)))
    ∙ subst (λ (k : ℕ). counter_in k (kept_from (1 + from) cs) ≡ get_or cs pid None) (let e : 1 + from + pid ≡ from + suc pid = omega arith in e) (kept_counter cs (1 + from) pid)

pub kept_are : (past : List (List ℕ)) (counters : List (Option ℕ)) → StandFor past counters → AreCountersOf past (kept_from 0 counters)
kept_are past counters s pid lt =
    subst (λ (k : ℕ). counter_in k (kept_from 0 counters) ≡ get_or counters pid None) (let e : 0 + pid ≡ pid = omega arith in e) (kept_counter counters 0 pid) ∙ s.next pid lt

-- they are all counters of the packets
pub kept_all : (past : List (List ℕ)) (counters : List (Option ℕ)) → length counters ≡ 8192 → StandFor past counters → kept_from 0 counters ≡ counters_of past
kept_all past counters size s = ap (kept_from 0) (fill_by_all (λ (pid : ℕ). next_after (count_on pid past)) counters 8192 None size (λ k lt. s.next k lt))

-- what is kept ascends
abbrev pids : List PidCounter → List ℕ
pids kept = map (λ (c : PidCounter). c.pid) kept

all_above : (cs : List (Option ℕ)) (from pid : ℕ) → pid < from → AllByRecursion (λ (q : ℕ). nat_cmp pid q ≡ Less) (pids (kept_from from cs))
all_above [] from pid lt = tt
all_above (None ∷ cs) from pid lt = all_above cs (1 + from) pid (omega arith)
all_above (Some next ∷ cs) from pid lt = (sym (nat_cmp_is pid from Less lt), all_above cs (1 + from) pid (omega arith))

sorted : (cs : List (Option ℕ)) (from : ℕ) → IsStrictlySortedBy nat_cmp (pids (kept_from from cs))
unfolding IsStrictlySortedBy
sorted [] from = tt
sorted (None ∷ cs) from = sorted cs (1 + from)
sorted (Some next ∷ cs) from = (all_above cs (1 + from) from (omega arith), sorted cs (1 + from))

-- what is kept can be handed in
kept_fit : (cs : List (Option ℕ)) (from : ℕ) → from + length cs ≤ 8192 → AllByRecursion IsSmall cs → AllByRecursion IsPidCounter (kept_from from cs)
kept_fit [] from size small = tt
kept_fit (None ∷ cs) from size small = kept_fit cs (1 + from) (omega arith) small.1
kept_fit (Some next ∷ cs) from size small = ((omega arith, small.0), kept_fit cs (1 + from) (omega arith) small.1)

-- at the end all are kept
pub kept_at_end : (kept : List PidCounter) (next now : List (Option ℕ)) (pid : ℕ) → next ≡ now → AreNext next → 8192 ≤ pid → kept ++ kept_from pid (drop pid next) ≡ kept_from 0 now → ArePidCountersOf now kept
kept_at_end kept next now pid same fit end is =
    let all : kept ≡ kept_from 0 now = sym (ap (λ (l : List (Option ℕ)). kept ++ kept_from pid l) (drop_all pid next (omega (arith, fit.size, end))) ∙ append-nil kept) ∙ is in
    let own : AreNext now = subst AreNext same fit in
    record {
      all = all;
      ascend = subst (λ (l : List PidCounter). IsStrictlyIncreasing (pids l)) (sym all) (IsStrictlyIncreasing-from_sorted (pids (kept_from 0 now)) (sorted now 0));
      fit = subst (All IsPidCounter) (sym all)
          (All-from_recursion IsPidCounter (kept_from 0 now) (kept_fit now 0 (omega (arith, own.size)) (recursion_from_All IsSmall now own.small)));
    }
