-- Rates, and spans that are right at them.
use Rattle.std.proofs.Common.{◌≡◌, ℕ, zero, suc, ◌+◌, ◌*◌, ◌≤◌, List, ◌∷◌, ◌++◌, ap, ◌∙◌, arith, length}
use Rattle.ts_packets.specs.Packets.{packets_of}
use Rattle.air_model.proofs.Lists.{packets-append}
use Rattle.air_timing.specs.Pacing.{Timed}
use Rattle.air_timing.specs.Frames.{packets}
use Rattle.air_timing.specs.Rate.{gap_at, RatesLast, SpansAreRight}
use Rattle.air_timing.proofs.Frames.{leads_repeat}

pub rates_last : RatesLast
rates_last rate = record { gap = omega arith; half = omega arith }

-- fewer times no more
times_most : (n m k : ℕ) → n ≤ m → n * k ≤ m * k
times_most zero m k h = omega arith
times_most (suc n) zero k h = absurd (omega arith)
times_most (suc n) (suc m) k h = let r = times_most n m k (omega arith) in omega arith

-- the front of a lead has no more packets than all of it
front_most : (t : Timed) (lead front back : List ℕ) → lead ≡ front ++ back → (most : ℕ) → packets t lead ≤ most → packets t front ≤ most
front_most t lead front back e most h =
    let sum = ap (packets t) e ∙ packets-append (λ i. packets_of (t.len i)) front back in
    omega arith

pub spans_are_right : SpansAreRight
spans_are_right f rate l j p body has near gap is between a b front front_b x again =
    let r = leads_repeat f l.most j p body has near between a b front front_b x again in
    let ih = is.half in
    let two = is.two in
    let few = has.few b.number in
    let less : packets f.timed front_b ≤ l.most = front_most f.timed (f.lead b.number) front_b (x ∷ again.rest_b) again.at_b l.most few in
    record {
      half = λ close short. (
          let n = times_most (1 + length between) l.often (f.span + f.timed.gap) close in
          let e : l.often * (f.span + f.timed.gap) ≡ l.often * (f.span + gap_at rate) = ap (λ (g : ℕ). l.often * (f.span + g)) gap in
          omega arith);
      two = λ close. (
          let n = times_most (1 + length between) l.round (f.span + f.timed.gap) close in
          let e : l.round * (f.span + f.timed.gap) ≡ l.round * (f.span + gap_at rate) = ap (λ (g : ℕ). l.round * (f.span + g)) gap in
          omega arith);
    }
