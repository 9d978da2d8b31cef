use Rattle.std.proofs.Common.{◌≡◌, ◌+◌, ◌-◌, ◌<◌, ◌≤◌, suc, ℕ, Bool, true, false, List, length, drop, subst, sym, ap, ◌∙◌, inl, inr, arith}
use Rattle.std.specs.Prelude.{None, is_some}
use Rattle.std.proofs.lemmas.Bool.Decides.{leb_tells, nat_tests}
use Rattle.packet_finder.specs.Pieces.{row_length}
use Rattle.packet_finder.proofs.RowFacts.{no_length}
use Rattle.packet_finder.proofs.rows.places_before_row.Goals as goal
use Rattle.packet_finder.proofs.rows.places_before_row.Goals.{then-ended, else-ended}

one_more : (bytes : List ℕ) (n : ℕ) → ((i : ℕ) → i < n → row_length (drop i bytes) ≡ None) → row_length (drop n bytes) ≡ None → (i : ℕ) → i < n + 1 → row_length (drop i bytes) ≡ None
one_more bytes n before here i lt = elim (leb_tells (suc i) n) [
  | inl less ↦ before i less.1
  | inr at ↦ (let same : i ≡ n = omega (arith, at.1, lt) in subst (λ k. row_length (drop k bytes) ≡ None) (sym same) here)
]

ended_not : (b : Bool) → b ≡ true → b ≡ false → ⊥
ended_not b e f = cc

enough_for : (bytes : List ℕ) (n : ℕ) → ((i : ℕ) → i < n → 409 ≤ length bytes - i) → 409 ≤ length bytes - n → (i : ℕ) → i < n + 1 → 409 ≤ length bytes - i
enough_for bytes n before here i lt = elim (leb_tells (suc i) n) [
  | inl less ↦ before i less.1
  | inr at ↦ omega (arith, at.1, lt, here)
]

pub loop-place-preserved : goal.loop-place-preserved
loop-place-preserved c = record {
  within = omega (arith, c.loop-place-test.true);
  none = one_more c.args.bytes.now c.loop-place.place c.loop-place.invariant.none (no_length (row_length (drop c.loop-place.place c.args.bytes.now)) (ap (λ rest. is_some (row_length rest)) (sym c.split_at.ensures.back) ∙ ap is_some (sym c.row_from.ensures.value) ∙ sym c.is_some.ensures ∙ c.if-is_some.false));
  judged = λ going. enough_for c.args.bytes.now c.loop-place.place (c.loop-place.invariant.judged going) (elim c.if-ended.branch [
    | then-ended w ↦ absurd (ended_not c.args.ended w.if-ended.true going)
    | else-ended w ↦ (let here = sym w.value-is ∙ c.if-bytes-place-ge-ROW.true in grind (arith, nat_tests, here))
  ]);
}
