-- The largest span.
use Rattle.std.proofs.Common.{◌≡◌, ℕ, ◌+◌, ◌-◌, ◌*◌, ◌/◌, ◌<◌, ◌≤◌, ◌⊎◌, inl, inr, sym, ap₂, ◌∙◌, subst, arith}
use Rattle.std.specs.Prelude.{◌↔◌, IsTrue, max, nat_le}
use Rattle.std.proofs.lemmas.Bool.{leb-true, le-leb}
use Rattle.std.proofs.lemmas.Nat.{le-div}
use Rattle.std.proofs.Math.Nat.{mul-div-le, mul-le-mul_left, le-mul_of_pos_right}
use Rattle.air_timing.specs.declared.span.Leads.{Leads}
use Rattle.air_timing.specs.Rate.{gap_at, half_second, least_span, span_within, largest_span, span_at, IsRightSpan, SpansAreLargest}

-- a span for which the packets are enough is no larger,
within_most : (packets ahead times gap span : ℕ) → 0 < times → times * (span + gap) + ahead ≤ packets → span ≤ span_within packets ahead times gap
within_most packets ahead times gap span some h =
    let e : (span + gap) * times ≡ times * (span + gap) = omega arith in
    let d = le-div (span + gap) (packets - ahead) times some (omega arith) in
    omega arith

-- and for one that is no larger they are enough
within_enough : (packets ahead times gap span : ℕ) → 0 < times → 0 < span → span ≤ span_within packets ahead times gap → times * (span + gap) + ahead ≤ packets
within_enough packets ahead times gap span once some h =
    let d = mul-div-le (packets - ahead) times in
    let more : span + gap ≤ (packets - ahead) / times = omega arith in
    go ((packets - ahead) / times) more d
  where
    go : (q : ℕ) → span + gap ≤ q → times * q ≤ packets - ahead → times * (span + gap) + ahead ≤ packets
    go q more d =
        let m = mul-le-mul_left times more in
        let n = le-mul_of_pos_right q once in
        let e : q * times ≡ times * q = omega arith in
        omega arith

pub is_right : (rate : ℕ) (l : Leads) → 0 < l.often → 0 < l.round → least_span l (gap_at rate) ≤ largest_span rate l → IsRightSpan rate l (span_at rate l)
is_right rate l often round h =
    let s = span_at rate l in
    let e : s ≡ largest_span rate l = omega arith in
    let a = within_enough (half_second rate) (1 + gap_at rate + l.first) l.often (gap_at rate) s often (omega arith) (omega arith) in
    let b = within_enough (4 * half_second rate) (1 + gap_at rate + l.most) l.round (gap_at rate) s round (omega arith) (omega arith) in
    record { half = omega arith; two = omega arith; room = omega arith }

right_most : (rate : ℕ) (l : Leads) (span : ℕ) → 0 < l.often → 0 < l.round → IsRightSpan rate l span → span ≤ largest_span rate l
right_most rate l span often round is =
    let ih = is.half in
    let it = is.two in
    let a = within_most (half_second rate) (1 + gap_at rate + l.first) l.often (gap_at rate) span often (omega arith) in
    let b = within_most (4 * half_second rate) (1 + gap_at rate + l.most) l.round (gap_at rate) span round (omega arith) in
    omega arith

pub has_room : (rate : ℕ) (l : Leads) (span : ℕ) → 0 < l.often → 0 < l.round → IsRightSpan rate l span → least_span l (gap_at rate) ≤ largest_span rate l
has_room rate l span often round is = let m = right_most rate l span often round is in let r = is.room in omega arith

pub spans_are_largest : SpansAreLargest
spans_are_largest rate l often round = record {
  right = λ span is. is_right rate l often round (has_room rate l span often round is);
  largest = λ span is. (let m = right_most rate l span often round is in omega arith);
  least = λ wrong. cases wrong (either (largest_span rate l) (least_span l (gap_at rate)));
}
  where
    either : (n m : ℕ) → (m ≤ n) ⊎ (n < m)
    either n m = grind arith

    cases : (IsRightSpan rate l (span_at rate l) → Prim.⊥) → (least_span l (gap_at rate) ≤ largest_span rate l) ⊎ (largest_span rate l < least_span l (gap_at rate)) → span_at rate l ≡ least_span l (gap_at rate)
    cases wrong (inl h) = absurd (wrong (is_right rate l often round h))
    cases wrong (inr h) = omega arith

-- the test of a span
pub tests_right : (rate : ℕ) (l : Leads) (least largest packets : ℕ) → 0 < l.often → 0 < l.round → least ≡ least_span l (gap_at rate) → largest ≡ largest_span rate l → packets ≡ max largest least
    → IsTrue (nat_le least largest) ↔ IsRightSpan rate l packets
tests_right rate l least largest packets often round e f g =
    let is : packets ≡ span_at rate l = g ∙ ap₂ (λ (a b : ℕ). max a b) f e in (
      (λ t. subst (λ (n : ℕ). IsRightSpan rate l n) (sym is) (is_right rate l often round (let h = leb-true least largest t in omega arith))),
      (λ r. le-leb least largest (let h = has_room rate l packets often round r in omega arith)),
    )
