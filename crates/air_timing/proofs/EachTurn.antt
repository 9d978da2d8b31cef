-- Each section of a Fast sub-table has a turn in a round.
use Rattle.std.proofs.Common.{◌≡◌, ℕ, ◌+◌, ◌-◌, ◌*◌, ◌/◌, ◌%◌, ◌<◌, ◌≤◌, Bool, true, false, refl, ap, ◌∙◌, arith}
use Rattle.std.specs.Prelude.{◌==◌, if◌then◌else◌, max, nat_lt, None, Some}
use Rattle.std.proofs.lemmas.Bool.{ltb-false, eq-eqb}
use Rattle.std.proofs.lemmas.Nat.{div-mul-add, mod-mul-add, mod_below}
use Rattle.std.proofs.Math.Nat.{mod-eq_of_lt, lt-div-mul-add, mul-le-mul_right}
use Rattle.air_timing.specs.Turns.{often_of, round_of, HasTurn, EachHasTurn}

-- a round has n leads or more
round_least : (n : ℕ) → n ≤ round_of n
round_least n =
    let some : 0 < often_of n = omega arith in
    let l : n + often_of n - 1 < (n + often_of n - 1) / often_of n * often_of n + often_of n = lt-div-mul-add some in
    omega arith

-- so four turns or more for those with four sections or fewer, or n
turns_least : (n k : ℕ) → k < n → k < 4 → (k + 1) * often_of n ≤ n
turns_least n k l few = go (n / 4) refl
  where
    go : (d : ℕ) → n / 4 ≡ d → (k + 1) * max 1 d ≤ n
    go d e =
        let f : (k + 1) * max 1 d ≤ 4 * max 1 d = mul-le-mul_right (max 1 d) (let h : k + 1 ≤ 4 = omega arith in h) in
        grind arith

pub each_has_turn : EachHasTurn
each_has_turn n q m k most l = go (nat_lt 4 m) refl
  where
    go : (b : Bool) → nat_lt 4 m ≡ b → HasTurn n q m k
    go true e = record {
      lead = k;
      in_round = (let r = round_least n in omega arith);
      turn = ap (λ (b : Bool). if b then Some (k % m) else if k % often_of n == q % often_of n then Some (k / often_of n % m) else None) e ∙ ap Some (mod-eq_of_lt l);
    }
    go false e =
        let few = ltb-false 4 m e in
        let some : 0 < often_of n = omega arith in
        let below = mod_below q (often_of n) some in
        let t = turns_least n k (omega arith) (omega arith) in
        let r = round_least n in
        let i : ℕ = k * often_of n + q % often_of n in
        let same : (i % often_of n == q % often_of n) ≡ true = eq-eqb (i % often_of n) (q % often_of n) (mod-mul-add k (often_of n) (q % often_of n) below) in
        let at : i / often_of n % m ≡ k = ap (λ (d : ℕ). d % m) (div-mul-add k (often_of n) (q % often_of n) below) ∙ mod-eq_of_lt l in
        record {
          lead = i;
          in_round = (let s : (k + 1) * often_of n ≡ k * often_of n + often_of n = omega arith in omega arith);
          turn = ap (λ (b : Bool). if b then Some (i % m) else if i % often_of n == q % often_of n then Some (i / often_of n % m) else None) e
              ∙ ap (λ (b : Bool). if b then Some (i / often_of n % m) else None) same ∙ ap Some at;
        }
