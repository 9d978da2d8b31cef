-- What holds of the values ahead: that with each fewer lines are left, how they go on, and what each of them has.
use Rattle.std.proofs.Common.{◌≡◌, ◌≤◌, ◌-◌, ℕ, zero, suc, List, [], ◌∷◌, length, refl, ap, sym, arith}
use Rattle.std.specs.Prelude.{Option, Some, None, IfSome}
use Rattle.std.specs.List.{AllByRecursion}
use Rattle.input_lines.specs.Ahead.{Ahead, Row, Tail, Found, Came, Stopped, Stop, IfCame, and_then, first_row, row_of, stop_at, on_line, and_all, values_upto, values_ahead}

-- ---- lines that are left

-- so many lines are left at most
abbrev pub Within : {T : Type 0} → ℕ → Found T → Type 0
Within k (Came value behind) = length behind.rows ≤ k
Within k (Stopped stop) = Unit {0}

pub then_within : {T U : Type 0} (j k : ℕ) (r : Found T) (f : T → Ahead → Found U) → Within j r → ((value : T) (behind : Ahead) → length behind.rows ≤ j → Within k (f value behind)) → Within k (and_then r f)
then_within j k (Came value behind) f h g = g value behind h
then_within j k (Stopped stop) f h g = tt

pub row_within : (stop : Tail → Stop) (rows : List Row) (tail : Tail) → Within (length rows - 1) (row_of stop rows tail)
row_within stop [] tail = tt
row_within stop (row ∷ rows) tail = omega arith

pub line_within : {T : Type 0} (k n : ℕ) (found : Option T) (behind : Ahead) → length behind.rows ≤ k → Within k (on_line n found behind)
line_within k n None behind h = tt
line_within k n (Some value) behind h = h

-- ---- what a value has

pub then_came : {T U : Type 0} (P : T → Type 0) (Q : U → Type 0) (found : Found T) (f : T → Ahead → Found U) → IfCame P found → ((value : T) (behind : Ahead) → P value → IfCame Q (f value behind)) → IfCame Q (and_then found f)
then_came P Q (Came value behind) f h g = g value behind h
then_came P Q (Stopped stop) f h g = tt

pub any_came : {T : Type 0} (found : Found T) → IfCame (λ (value : T). Unit {0}) found
any_came (Came value behind) = tt
any_came (Stopped stop) = tt

pub line_came : {T : Type 0} (P : T → Type 0) (n : ℕ) (found : Option T) (behind : Ahead) → IfSome found P → IfCame P (on_line n found behind)
line_came P n None behind h = tt
line_came P n (Some value) behind h = h

pub begun_came : {T : Type 0} (P : T → Type 0) (stop : Tail → Stop) (body : Row → Ahead → Found T) → ((row : Row) (behind : Ahead) → IfCame P (body row behind)) → (lines : Ahead) → IfCame P (and_then (first_row stop lines) body)
begun_came P stop body h lines = then_came (λ (row : Row). Unit {0}) P (first_row stop lines) body (any_came (first_row stop lines)) (λ row behind any. h row behind)

-- ---- one value after another, each begun by a line

module _ {T Q : Type 0} (body : Q → Row → Ahead → Found T) (after : T → Q) where
  abbrev pub first : Q → Ahead → Found T
  first q lines = and_then (first_row stop_at lines) (body q)

  upto_came : (P : T → Type 0) → ((q : Q) (row : Row) (behind : Ahead) → IfCame P (body q row behind)) → (n : ℕ) (q : Q) (lines : Ahead) → AllByRecursion P (values_upto first after n q lines).0
  upto_came P h zero q lines = tt
  upto_came P h (suc n) q lines = go (λ next behind. upto_came P h n next behind) (first q lines) (begun_came P stop_at (body q) (h q) lines)
    where
      go : ((next : Q) (behind : Ahead) → AllByRecursion P (values_upto first after n next behind).0) → (found : Found T) → IfCame P found
          → AllByRecursion P (and_all found (λ value behind. values_upto first after n (after value) behind)).0
      go others (Came value behind) has = (has, others (after value) behind)
      go others (Stopped stop) has = tt

  -- each has what each that is begun by a line has
  pub values_came : (P : T → Type 0) → ((q : Q) (row : Row) (behind : Ahead) → IfCame P (body q row behind)) → (q : Q) (lines : Ahead) → AllByRecursion P (values_ahead first after q lines).0
  values_came P h q lines = upto_came P h (length lines.rows) q lines

  module _ (within : (q : Q) (k : ℕ) (row : Row) (behind : Ahead) → length behind.rows ≤ k → Within k (body q row behind)) where
    first_within : (q : Q) (lines : Ahead) → Within (length lines.rows - 1) (first q lines)
    first_within q lines =
        then_within (length lines.rows - 1) (length lines.rows - 1) (first_row stop_at lines) (body q) (row_within stop_at lines.rows lines.tail) (λ row behind le. within q (length lines.rows - 1) row behind le)

    same_others : (k : ℕ) (r : Found T) (f g : T → Ahead → List T × Stop) → Within k r → ((value : T) (behind : Ahead) → length behind.rows ≤ k → f value behind ≡ g value behind) → and_all r f ≡ and_all r g
    same_others k (Came value behind) f g h same = ap (λ (others : List T × Stop). let p : List T × Stop = (value ∷ others.0, others.1) in p) (same value behind h)
    same_others k (Stopped stop) f g h same = refl

    -- where no line is ahead, no value is
    none_ahead : (q : Q) (rows : List Row) (tail : Tail) (f : T → Ahead → List T × Stop) → length rows ≤ 0 → and_all (first q (record { rows = rows; tail = tail })) f ≡ ([], stop_at tail)
    none_ahead q [] tail f h = refl
    none_ahead q (row ∷ rows) tail f h = absurd (omega arith)

    -- it is the same for each number that is large enough
    enough : (n m : ℕ) (q : Q) (lines : Ahead) → length lines.rows ≤ n → length lines.rows ≤ m → values_upto first after n q lines ≡ values_upto first after m q lines
    enough zero zero q lines h k = refl
    enough zero (suc m) q lines h k = sym (none_ahead q lines.rows lines.tail (λ value behind. values_upto first after m (after value) behind) h)
    enough (suc n) zero q lines h k = none_ahead q lines.rows lines.tail (λ value behind. values_upto first after n (after value) behind) k
    enough (suc n) (suc m) q lines h k =
        same_others (length lines.rows - 1) (first q lines) (λ value behind. values_upto first after n (after value) behind) (λ value behind. values_upto first after m (after value) behind) (first_within q lines)
        (λ value behind le. enough n m (after value) behind (omega arith) (omega arith))

    go_on : (n : ℕ) (q : Q) (lines : Ahead) → length lines.rows ≤ n → values_upto first after n q lines ≡ and_all (first q lines) (λ value behind. values_ahead first after (after value) behind)
    go_on zero q lines h = sym (none_ahead q lines.rows lines.tail (λ value behind. values_ahead first after (after value) behind) h)
    go_on (suc n) q lines h =
        same_others (length lines.rows - 1) (first q lines) (λ value behind. values_upto first after n (after value) behind) (λ value behind. values_ahead first after (after value) behind) (first_within q lines)
        (λ value behind le. enough n (length behind.rows) (after value) behind (omega arith) (omega arith))

    -- they are the first and those of what is ahead behind it
    pub values_go_on : (q : Q) (lines : Ahead) → values_ahead first after q lines ≡ and_all (first q lines) (λ value behind. values_ahead first after (after value) behind)
    values_go_on q lines = go_on (length lines.rows) q lines (omega arith)
