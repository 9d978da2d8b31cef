-- Posts that begin others.
use Rattle.std.proofs.Common.{◌≡◌, ◌≤◌, ◌⊎◌, inl, inr, ℕ, suc, List, [], ◌∷◌, ◌++◌, length, refl, ap, sym, subst, ◌∙◌, arith, length-append, append-nil}
use mathlib.Core.List.{IsPrefix}
use Rattle.si_lists.proofs.Lists.{two_fronts}
use Rattle.guide_board.specs.declared.post.Post.{Post}
use Rattle.guide_board.specs.Posts.{OneBegins, services_in}

-- posts that are no more than those that they begin
none_more : (posts more : List Post) → length (posts ++ more) ≤ length posts → more ≡ []
none_more posts [] fewer = refl
none_more posts (p ∷ more) fewer = absurd (omega (arith, length-append posts (p ∷ more), fewer))

pub all_seen : (seen posts : List Post) → IsPrefix seen posts → length posts ≤ length seen → seen ≡ posts
all_seen seen posts begins fewer =
    let none : begins.0 ≡ [] = none_more seen begins.0 (subst (λ (ps : List Post). length ps ≤ length seen) (sym begins.1) fewer) in
    sym (append-nil seen) ∙ (sym (ap (λ (more : List Post). seen ++ more) none) ∙ begins.1)

-- of two beginnings of the same posts the shorter begins the longer
pub fewer_begin : (few many posts : List Post) → IsPrefix few posts → IsPrefix many posts → length few ≤ length many → IsPrefix few many
fewer_begin few many posts one other fewer = go (two_fronts few one.0 many other.0 (one.1 ∙ sym other.1))
  where
    go : ((e : List Post) × (few ≡ many ++ e) × (other.0 ≡ e ++ one.0)) ⊎ ((e : List Post) × (many ≡ few ++ e) × (one.0 ≡ e ++ other.0)) → IsPrefix few many
    go (inr (e, is, rest)) = (e, sym is)
    go (inl (e, is, rest)) =
        let none : e ≡ [] = none_more many e (subst (λ (ps : List Post). length ps ≤ length many) is fewer) in
        ([], append-nil few ∙ (is ∙ (ap (λ (more : List Post). many ++ more) none ∙ append-nil many)))

-- of two beginnings of the same posts one begins the other
pub one_begins : (some others posts : List Post) → IsPrefix some posts → IsPrefix others posts → OneBegins some others
one_begins some others posts one other = go (two_fronts some one.0 others other.0 (one.1 ∙ sym other.1))
  where
    go : ((e : List Post) × (some ≡ others ++ e) × (other.0 ≡ e ++ one.0)) ⊎ ((e : List Post) × (others ≡ some ++ e) × (one.0 ≡ e ++ other.0)) → OneBegins some others
    go (inl (e, is, rest)) = inr (e, sym is)
    go (inr (e, is, rest)) = inl (e, sym is)

-- more posts leave the opening one
services_stay : (posts more : List Post) (n : ℕ) → length posts ≡ suc n → services_in (posts ++ more) ≡ services_in posts
services_stay [] more n size = absurd (omega arith)
services_stay (opening ∷ posts) more n size = refl

pub services_prefix : (posts all : List Post) (n : ℕ) → length posts ≡ suc n → IsPrefix posts all → services_in all ≡ services_in posts
services_prefix posts all n size begins = sym (ap services_in begins.1) ∙ services_stay posts begins.0 n size
