-- The exchange that adds a post keeps the rule of the history.
use Rattle.std.proofs.Common.{◌≡◌, ℕ, suc, ◌+◌, ◌<◌, ◌==◌, Bool, true, false, List, [], ◌∷◌, ◌++◌, length, refl, ap, sym, subst, ◌∙◌, arith, inl, length-append, None, IsTrue}
use Rattle.std.proofs.lemmas.List.{append-nil}
use Rattle.std.proofs.lemmas.Bool.Decides.{nat_tests}
use mathlib.Core.List.{IsPrefix}
use prog.Atomic.{either}
use Rattle.logbook.specs.Pages.{Cell, cell, keeps, no_nib, step, Moves, Goes}
use Rattle.guide_board.specs.declared.post.Post.{Post}
use Rattle.guide_board.specs.History.{IsKept, Adds}
use Rattle.guide_board.proofs.Posts.{all_seen}

abbrev pub shown : List Post → List Post
shown log = []

abbrev pub moved : List Post → List Post → ℕ → Type 0
moved xs ys n = Unit {0}

adds_goes : (log v : List Post) (e : Post) (old n : ℕ) → length v ≡ suc old → length log ≡ suc n → IsPrefix v log → (b : Bool) → (n == old) ≡ b
    → Goes IsKept shown moved 0 (v, (no_nib, None)) (λ n. either (n == old) (old + 1) n) (Adds (step 0 old (old + 1) e) (v, (no_nib, None))) ((n, true) ∷ []) log
adds_goes log v e old n len size pre true is =
    let here : n ≡ old = grind (arith, nat_tests) in
    let whole : v ≡ log = all_seen v log pre (omega arith) in (
      keeps,
      e ∷ [],
      None,
      tt,
      record { later = old + 1; words = ap (λ (k : ℕ). (k, true) ∷ []) (rw is refl); size = omega (arith, length-append log (e ∷ [])) },
      inl (refl, refl),
      λ _. ap (λ w. w ++ e ∷ []) (sym whole),
    )
adds_goes log v e old n len size pre false is = (
  keeps,
  [],
  None,
  tt,
  record { later = n; words = ap (λ (k : ℕ). (k, true) ∷ []) (rw is refl); size = ap length (append-nil log) ∙ size },
  inl (refl, refl),
  λ (t : IsTrue (n == old)). absurd (cc (is, t)),
)

-- whatever the history is, the exchange adds the post to all that was seen, or finds that the history is longer
pub adds_moves : (v : List Post) (e : Post) (old : ℕ) → length v ≡ suc old
    → Moves IsKept shown moved 0 (v, (no_nib, None)) (λ n. either (n == old) (old + 1) n) (Adds (step 0 old (old + 1) e) (v, (no_nib, None)))
adds_moves v e old len cs log kept pre away =
    let P : List Cell → Type 0 = λ c. (0 < length c) × ((cell c 0).1 ≡ true) × Goes IsKept shown moved 0 (v, (no_nib, None)) (λ n. either (n == old) (old + 1) n) (Adds (step 0 old (old + 1) e) (v, (no_nib, None))) c log in
    subst P (sym kept.words) (omega arith, refl, adds_goes log v e old kept.later len kept.size pre (kept.later == old) refl)
