-- Truth values.
use Rattle.std.proofs.Common.{◌≡◌, ◌≤◌, ◌&&◌, ℕ, Bool, true, false, Some, None, refl, ap, arith}
use Rattle.std.specs.Prelude.{if◌then◌else◌, cond}
use Prim.{⊥}

pub first_true : (a b : Bool) → (a && b) ≡ true → a ≡ true
first_true true b e = refl
first_true false b e = cc

pub second_true : (a b : Bool) → (a && b) ≡ true → b ≡ true
second_true true b e = e
second_true false b e = cc

pub and_true : (a b : Bool) → a ≡ true → (a && b) ≡ b
and_true a b e = ap (λ (x : Bool). x && b) e

pub and_false : (a b : Bool) → a ≡ false → (a && b) ≡ false
and_false true b e = cc
and_false false b e = refl

pub not_both : (b : Bool) → b ≡ true → b ≡ false → ⊥
not_both b e f = cc

pub none_not : (b : Bool) (x : ℕ) → cond b (Some x) None ≡ None → b ≡ false
none_not true x e = cc
none_not false x e = refl

-- a test counts for one at most
pub one_at_most : (b : Bool) → (if b then 0 else 1) ≤ 1
one_at_most true = omega arith
one_at_most false = omega arith
