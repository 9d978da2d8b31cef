use Rattle.std.proofs.Common.{◌≡◌, ℕ, zero, suc, ◌<◌, List, [], ◌∷◌, length, set, insert, remove, refl, sym, ◌∙◌, ap, arith}
use Rattle.feed_book.proofs.index.put_at.Goals as goal

set-insert : {X : Type 0} (xs : List X) (i : ℕ) (x : X) → i < length xs → set xs i x ≡ insert (remove xs i) i x
set-insert [] i x l = absurd (omega arith)
set-insert (y ∷ xs) zero x l = refl
set-insert (y ∷ xs) (suc i) x l = ap (λ ys. y ∷ ys) (set-insert xs i x (omega arith))

pub returns-then-place-clause-items : goal.returns-then-place-clause-items
returns-then-place-clause-items g c = set-insert c.args.list.now.items c.args.place.to c.args.item (omega arith) ∙ ap (λ n. insert (remove c.args.list.now.items n) c.args.place.to c.args.item) (sym c.if-place.true)
