-- The least rate at which a span is right.
use Rattle.std.proofs.Common.{◌≡◌, ℕ, zero, suc, ◌+◌, ◌-◌, ◌*◌, ◌/◌, ◌<◌, ◌≤◌, ◌⊎◌, inl, inr, List, [], ◌∷◌, Bool, true, false, cond, Some, None, refl, sym, ap, ◌∙◌, arith}
use Rattle.std.specs.Prelude.{◌↔◌, IsTrue, max, if◌then◌else◌}
use Rattle.std.specs.List.{find}
use Rattle.std.proofs.lemmas.Bool.{and_parts, and_from, leb-true, le-leb}
use Rattle.std.proofs.Math.Nat.{mul-le-mul_left, mul-le-mul_right, div-zero}
use Rattle.section_codec.specs.Contents.{numbers_from}
use Rattle.air_timing.specs.declared.span.Leads.{Leads}
use Rattle.air_timing.specs.Rate.{gap_at, half_second, first_again, all_again, least_span, span_within, span_at, IsRightSpan}
use Rattle.air_timing.proofs.Spans.{spans_are_largest}
use Rattle.cycle_player.specs.Tally.{is_right, larger, least_rate}

-- ---- the test

pub right_if : (rate : ℕ) (l : Leads) → IsRightSpan rate l (span_at rate l) → is_right rate l ≡ true
right_if rate l is =
    and_from _ _
    (and_from _ _ (le-leb (first_again l (span_at rate l) (gap_at rate)) (half_second rate) is.half) (le-leb (all_again l (span_at rate l) (gap_at rate)) (4 * half_second rate) is.two))
    (le-leb (least_span l (gap_at rate)) (span_at rate l) is.room)

pub right_only_if : (rate : ℕ) (l : Leads) → is_right rate l ≡ true → IsRightSpan rate l (span_at rate l)
right_only_if rate l e =
    let a = and_parts _ _ e in
    let b = and_parts _ _ a.0 in
    record {
      half = leb-true (first_again l (span_at rate l) (gap_at rate)) (half_second rate) b.0;
      two = leb-true (all_again l (span_at rate l) (gap_at rate)) (4 * half_second rate) b.1;
      room = leb-true (least_span l (gap_at rate)) (span_at rate l) a.1;
    }

not_both : (b : Bool) → b ≡ true → b ≡ false → Prim.⊥
not_both true e f = absurd cc
not_both false e f = absurd cc

-- what says so is it
pub is_test : (b : Bool) (rate : ℕ) (l : Leads) → IsTrue b ↔ IsRightSpan rate l (span_at rate l) → b ≡ is_right rate l
is_test b rate l h = go b (is_right rate l) refl h
  where
    go : (b c : Bool) → is_right rate l ≡ c → IsTrue b ↔ IsRightSpan rate l (span_at rate l) → b ≡ c
    go true true e h = refl
    go false false e h = refl
    go true false e h = sym (right_if rate l (h.0 refl)) ∙ e
    go false true e h = absurd (not_both false (h.1 (right_only_if rate l e)) refl)

-- ---- the least rate with as many packets in half a second

-- a larger gap asks for more
gap_less : (l : Leads) (span small large : ℕ) → small ≤ large → (first_again l span small ≤ first_again l span large) × (all_again l span small ≤ all_again l span large)
gap_less l span small large h =
    let a = mul-le-mul_left l.often (let e : span + small ≤ span + large = omega arith in e) in
    let b = mul-le-mul_left l.round (let e : span + small ≤ span + large = omega arith in e) in
    (omega arith, omega arith)

pub right_before : (l : Leads) → 0 < l.often → 0 < l.round → (r s : ℕ) → r ≤ s → half_second r ≡ half_second s → is_right s l ≡ true → is_right r l ≡ true
right_before l often round r s h same e =
    let is = right_only_if s l e in
    let less : gap_at r ≤ gap_at s = omega arith in
    let more = gap_less l (span_at s l) (gap_at r) (gap_at s) less in
    let at_r : IsRightSpan r l (span_at s l) = (
    let a = is.half in
    let b = is.two in
    let c = is.room in
    record { half = omega arith; two = omega arith; room = omega arith }) in
    right_if r l ((spans_are_largest r l often round).right (span_at s l) at_r)

-- where it is not right there, it is at none of the others
pub none_with : (l : Leads) → 0 < l.often → 0 < l.round → (half : ℕ) → is_right (max (half * 3008) 100000) l ≡ false → (s : ℕ) → 100000 ≤ s → s / 3008 ≡ half → is_right s l ≡ false
none_with l often round half wrong s most is = go (is_right s l) refl
  where
    go : (b : Bool) → is_right s l ≡ b → is_right s l ≡ false
    go false e = e
    go true e =
        let r = max (half * 3008) 100000 in
        let less : r ≤ s = omega arith in
        let same : half_second r ≡ half_second s = omega arith in
        absurd (not_both (is_right r l) (right_before l often round r s less same e) wrong)

pub none_next : (l : Leads) → 0 < l.often → 0 < l.round → (half : ℕ) → is_right (max (half * 3008) 100000) l ≡ false → ((s : ℕ) → 100000 ≤ s → s / 3008 < half → is_right s l ≡ false)
    → (s : ℕ) → 100000 ≤ s → s / 3008 < half + 1 → is_right s l ≡ false
none_next l often round half wrong none s most less = go (either (s / 3008) half less)
  where
    either : (n m : ℕ) → n < m + 1 → (n < m) ⊎ (n ≡ m)
    either n m h = grind arith

    go : (s / 3008 < half) ⊎ (s / 3008 ≡ half) → is_right s l ≡ false
    go (inl h) = none s most h
    go (inr h) = none_with l often round half wrong s most h

-- ---- the first of numbers

find_none : (p : ℕ → Bool) (a k : ℕ) → ((s : ℕ) → a ≤ s → s < a + k → p s ≡ false) → find p (numbers_from a k) ≡ None
find_none p a zero h = refl
find_none p a (suc k) h =
    ap (λ (b : Bool). if b then Some a else find p (numbers_from (1 + a) k)) (h a (omega arith) (omega arith))
    ∙ find_none p (1 + a) k (λ s l m. h s (omega arith) (omega arith))

equal_or_less : (n m : ℕ) → n ≤ m → (n ≡ m) ⊎ (n < m)
equal_or_less n m h = grind arith

find_at : (p : ℕ → Bool) (a k r : ℕ) → a ≤ r → r < a + k → p r ≡ true → ((s : ℕ) → a ≤ s → s < r → p s ≡ false) → find p (numbers_from a k) ≡ Some r
find_at p a zero r l m holds h = absurd (omega arith)
find_at p a (suc k) r l m holds h = go (equal_or_less a r l) (λ lt. find_at p (1 + a) k r (omega arith) (omega arith) holds (λ s l m. h s (omega arith) m))
  where
    go : (a ≡ r) ⊎ (a < r) → (a < r → find p (numbers_from (1 + a) k) ≡ Some r) → find p (numbers_from a (suc k)) ≡ Some r
    go (inl e) later =
        ap (λ (b : Bool). if b then Some a else find p (numbers_from (1 + a) k)) (ap p e ∙ holds) ∙ ap (λ (n : ℕ). Some n) e
    go (inr lt) later =
        ap (λ (b : Bool). if b then Some a else find p (numbers_from (1 + a) k)) (h a (omega arith) lt) ∙ later lt

pub least_none : (l : Leads) → ((s : ℕ) → 100000 ≤ s → s / 3008 < 33245 → is_right s l ≡ false) → least_rate l ≡ None
unfolding least_rate
least_none l h = find_none (λ (rate : ℕ). is_right rate l) 100000 99900001 (λ s least most. h s least (omega arith))

pub least_some : (l : Leads) (half : ℕ) → half < 33245 → 33 ≤ half → is_right (max (half * 3008) 100000) l ≡ true → ((s : ℕ) → 100000 ≤ s → s / 3008 < half → is_right s l ≡ false)
    → least_rate l ≡ Some (max (half * 3008) 100000)
unfolding least_rate
least_some l half most least holds h =
    find_at (λ (rate : ℕ). is_right rate l) 100000 99900001 (max (half * 3008) 100000) (omega arith) (omega arith) holds (λ s from to. h s from (omega arith))

-- ---- other leads

-- these are no larger than those
pub record Within (a b : Leads) : Type 0 where
  pub first : a.first ≤ b.first
  pub most : a.most ≤ b.most
  pub often : a.often ≤ b.often
  pub round : a.round ≤ b.round

-- a span that is right for larger leads
smaller_leads : (rate : ℕ) (a b : Leads) (span : ℕ) → Within a b → IsRightSpan rate b span → IsRightSpan rate a span
smaller_leads rate a b span w is =
    let n = mul-le-mul_right (span + gap_at rate) w.often in
    let m = mul-le-mul_right (span + gap_at rate) w.round in
    let first = w.first in
    let most = w.most in
    let half = is.half in
    let two = is.two in
    let room = is.room in
    record { half = omega arith; two = omega arith; room = omega arith }

-- where a span is right, so is the one that is taken
pub right_where_any : (rate : ℕ) (l : Leads) (span : ℕ) → IsRightSpan rate l span → IsRightSpan rate l (span_at rate l)
right_where_any rate l span is = go l.often l.round refl refl
  where
    -- no larger span than this one
    least : span_at rate l ≤ span → IsRightSpan rate l (span_at rate l)
    least h =
        let n = mul-le-mul_left l.often (let e : span_at rate l + gap_at rate ≤ span + gap_at rate = omega arith in e) in
        let m = mul-le-mul_left l.round (let e : span_at rate l + gap_at rate ≤ span + gap_at rate = omega arith in e) in
        let half = is.half in
        let two = is.two in
        record { half = omega arith; two = omega arith; room = omega arith }

    none_within : (packets ahead gap times : ℕ) → times ≡ 0 → span_within packets ahead times gap ≡ 0
    none_within packets ahead gap times e = ap (λ (n : ℕ). (packets - ahead) / n - gap) e ∙ ap (λ (n : ℕ). n - gap) (div-zero (packets - ahead)) ∙ omega arith

    go : (often round : ℕ) → l.often ≡ often → l.round ≡ round → IsRightSpan rate l (span_at rate l)
    go zero round e f =
        let none = none_within (half_second rate) (1 + gap_at rate + l.first) (gap_at rate) l.often e in
        let room = is.room in
        least (omega arith)
    go (suc often) zero e f =
        let none = none_within (4 * half_second rate) (1 + gap_at rate + l.most) (gap_at rate) l.round f in
        let room = is.room in
        least (omega arith)
    go (suc often) (suc round) e f = (spans_are_largest rate l (omega arith) (omega arith)).right span is

pub right_within : (rate : ℕ) (a b : Leads) → Within a b → is_right rate b ≡ true → IsRightSpan rate a (span_at rate a)
right_within rate a b w e = right_where_any rate a (span_at rate b) (smaller_leads rate a b (span_at rate b) w (right_only_if rate b e))

-- what was found does
found : (p : ℕ → Bool) (xs : List ℕ) (r : ℕ) → find p xs ≡ Some r → p r ≡ true
found p [] r e = absurd (none_found r e)
  where
    none_found : (r : ℕ) → find p [] ≡ Some r → Prim.⊥
    none_found r e = absurd cc
found p (x ∷ xs) r e = go (p x) refl e (found p xs r)
  where
    same : Some x ≡ Some r → x ≡ r
    same e = cc

    go : (b : Bool) → p x ≡ b → cond b (Some x) (find p xs) ≡ Some r → (find p xs ≡ Some r → p r ≡ true) → p r ≡ true
    go true h e rest = ap p (sym (same e)) ∙ h
    go false h e rest = rest e

pub least_is_right : (l : Leads) (r : ℕ) → least_rate l ≡ Some r → is_right r l ≡ true
unfolding least_rate
least_is_right l r e = found (λ (rate : ℕ). is_right rate l) (numbers_from 100000 99900001) r e

-- ---- larger leads

pub within_itself : (a : Leads) → Within a a
within_itself a = record { first = omega arith; most = omega arith; often = omega arith; round = omega arith }

pub within_through : (a b c : Leads) → Within a b → Within b c → Within a c
within_through a b c ab bc =
    record {
      first = omega (arith, ab.first, bc.first);
      most = omega (arith, ab.most, bc.most);
      often = omega (arith, ab.often, bc.often);
      round = omega (arith, ab.round, bc.round);
    }

pub within_larger : (a b : Leads) → Within a (larger a b) × Within b (larger a b)
within_larger a b = (
  record { first = omega arith; most = omega arith; often = omega arith; round = omega arith },
  record { first = omega arith; most = omega arith; often = omega arith; round = omega arith },
)
