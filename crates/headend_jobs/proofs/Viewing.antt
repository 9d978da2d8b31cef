-- The answers to a viewer, one more at a time.
use Rattle.std.proofs.Common.{◌≡◌, ℕ, zero, suc, ◌<◌, ◌≤◌, List, [], ◌∷◌, ◌++◌, length, Some, slice_get, refl, ap, sym, subst, arith, length-append, Ok}
use mathlib.Core.List.{IsPrefix}
use Rattle.guide_board.specs.declared.post.Post.{Post}
use Rattle.guide_board.specs.declared.lines.NowNext.{NowNext}
use Rattle.guide_board.specs.Posts.{AnswersNewest, says}
use Rattle.headend_jobs.specs.Views.{AreSaid, AreSaidFrom, IsSaidAt}

-- what stands in a beginning stands in the whole, at the same place
prefix_get : {X : Type 0} (xs ys : List X) (k : ℕ) (x : X) → IsPrefix xs ys → slice_get xs k ≡ Some x → slice_get ys k ≡ Some x
prefix_get [] ys k x p h = absurd cc
prefix_get (y ∷ xs) [] k x p h = absurd (cc (p.1))
prefix_get (y ∷ xs) (z ∷ ys) zero x p h = cc (p.1, h)
prefix_get (y ∷ xs) (z ∷ ys) (suc k) x p h = prefix_get xs ys k x (p.0, cc (p.1)) h

get_within : {X : Type 0} (xs : List X) (k : ℕ) (x : X) → slice_get xs k ≡ Some x → k < length xs
get_within [] k x h = absurd cc
get_within (y ∷ xs) zero x h = omega arith
get_within (y ∷ xs) (suc k) x h = let l = get_within xs k x h in omega arith

get_end : {X : Type 0} (xs : List X) (x : X) → slice_get (xs ++ x ∷ []) (length xs) ≡ Some x
get_end [] x = refl
get_end (y ∷ xs) x = get_end xs x

-- the posts may grow
pub said_longer : (service from : ℕ) (posts more : List Post) (answers : List NowNext) → IsPrefix posts more → AreSaidFrom posts service from answers → AreSaidFrom more service from answers
said_longer service from posts more [] pre said = tt
said_longer service from posts more (first ∷ others) pre (k, le, (p, at, says), rest) = (k, le, (p, prefix_get posts more k p pre at, says), said_longer service k posts more others pre rest)

said_end : (service from m : ℕ) (posts : List Post) (answers : List NowNext) (answer : NowNext) → length posts ≡ suc m → from ≤ m → AreSaidFrom posts service from answers → IsSaidAt posts service m answer
    → AreSaidFrom posts service from (answers ++ answer ∷ [])
said_end service from m posts [] answer size le said is = (m, le, is, tt)
said_end service from m posts (first ∷ others) answer size le (k, low, (p, at, says), rest) is =
    let within = get_within posts k p at in
    let below : k ≤ m = omega (arith, within, size) in
    (k, low, (p, at, says), said_end service k m posts others answer size below rest is)

-- one more, of the newest post
pub said_more : (service : ℕ) (posts more : List Post) (answers : List NowNext) (answer : NowNext) → IsPrefix posts more → AnswersNewest more service (Ok answer) → AreSaid posts service answers
    → AreSaid more service (answers ++ answer ∷ [])
said_more service posts more answers answer pre (p, (front, ends), is) said =
    let at : slice_get more (length front) ≡ Some p = subst (λ (l : List Post). slice_get l (length front) ≡ Some p) (sym ends) (get_end front p) in
    let size : length more ≡ suc (length front) = omega (arith, ap length ends, length-append front (p ∷ [])) in
    said_end service 0 (length front) more answers answer size (omega arith) (said_longer service 0 posts more answers pre said) (p, at, is)
