-- The needed numbers that a run knows ascend.
use Rattle.std.proofs.Common.{◌≡◌, ℕ, zero, suc, ◌+◌, ◌-◌, ◌*◌, ◌/◌, ◌<◌, ◌≤◌, List, [], ◌∷◌, ◌++◌, Bool, true, false, ◌==◌, Option, Some, None, refl, sym, ap, ◌∙◌, arith, eqb-true}
use Rattle.std.specs.Prelude.{if◌then◌else◌, filter, option_map, unwrap_or}
use Rattle.std.specs.List.{AllByRecursion, flat_map}
use Rattle.si_lists.proofs.Lists.{all_append, all_map, each_unit}
use Rattle.section_codec.specs.Tables.{is_eit}
use Rattle.section_codec.specs.Contents.{numbers_from}
use Rattle.section_codec.specs.Keys.{eit_numbers_in}
use Rattle.section_codec.specs.Segments.{segment_of, last_beside, segment_last_in, numbers_in_segment}
use Rattle.sub_collect.specs.Runs.{Counted, latest_section, segment_last_of, last_told_by, is_in_segment, last_told}
use Rattle.sub_collect.specs.Parts.{known_in, known_at}
use Rattle.sub_collect.proofs.Whole.{latest-of}
use Rattle.sub_collect.proofs.OneContent.{passes}

abbrev pub AllAbove : ℕ → List ℕ → Type 0
AllAbove n ms = AllByRecursion (λ (m : ℕ). n < m) ms

abbrev AllFrom : ℕ → List ℕ → Type 0
AllFrom n ms = AllByRecursion (λ (m : ℕ). n ≤ m) ms

abbrev AllBelow : ℕ → List ℕ → Type 0
AllBelow n ms = AllByRecursion (λ (m : ℕ). m < n) ms

-- each of these numbers is above all before it
abbrev pub GoUp : List ℕ → Type 0
GoUp [] = Unit {0}
GoUp (n ∷ ns) = AllAbove n ns × GoUp ns

-- ---- numbers one after the other

from-least : (least n k : ℕ) → least ≤ n → AllFrom least (numbers_from n k)
from-least least n zero le = tt
from-least least n (suc k) le = (le, from-least least (1 + n) k (let z : least ≤ 1 + n = omega (arith, le) in z))

from-above : (m n k : ℕ) → m < n → AllAbove m (numbers_from n k)
from-above m n zero lt = tt
from-above m n (suc k) lt = (lt, from-above m (1 + n) k (let z : m < 1 + n = omega (arith, lt) in z))

from-below : (most n k : ℕ) → n + k ≤ most → AllBelow most (numbers_from n k)
from-below most n zero le = tt
from-below most n (suc k) le = (
  (let z : n < most = omega (arith, le) in z),
  from-below most (1 + n) k (let z : 1 + n + k ≤ most = omega (arith, le) in z),
)

from-up : (n k : ℕ) → GoUp (numbers_from n k)
from-up n zero = tt
from-up n (suc k) = (from-above n (1 + n) k (let z : n < 1 + n = omega arith in z), from-up (1 + n) k)

-- numbers below a bound, and then others from it on
up-append : (bound : ℕ) (xs ys : List ℕ) → GoUp xs → AllBelow bound xs → GoUp ys → AllFrom bound ys → GoUp (xs ++ ys)
up-append bound [] ys up below more from = more
up-append bound (x ∷ xs) ys up below more from = (
  all_append (λ (m : ℕ). x < m) xs ys up.0
      (all_map (λ (m : ℕ). bound ≤ m) (λ (m : ℕ). x < m) (λ m le. let lt : x < bound = below.0 in let z : x < m = omega (arith, lt, le) in z) ys from),
  up-append bound xs ys up.1 below.1 more from,
)

-- ---- segments

-- The last number that is known of a segment is one of its own.
abbrev AreOwnLasts : (ℕ → Option ℕ) → Type 0
AreOwnLasts lasts = (segment last : ℕ) → lasts segment ≡ Some last → segment_of last ≡ segment

up-segment : (lasts : ℕ → Option ℕ) → AreOwnLasts lasts → (segment : ℕ)
    → GoUp (known_in lasts segment) × AllFrom (8 * segment) (known_in lasts segment) × AllBelow (8 * (1 + segment)) (known_in lasts segment)
up-segment lasts own segment = go (lasts segment) refl
  where
    go : (o : Option ℕ) → lasts segment ≡ o
        → GoUp (unwrap_or (option_map (numbers_in_segment segment) o) [])
        × AllFrom (8 * segment) (unwrap_or (option_map (numbers_in_segment segment) o) [])
        × AllBelow (8 * (1 + segment)) (unwrap_or (option_map (numbers_in_segment segment) o) [])
    go None e = (tt, tt, tt)
    go (Some last) e =
        let is : last / 8 ≡ segment = own segment last e in
        let many : ℕ = 1 + last - 8 * segment in
        let most : 8 * segment + (1 + last - 8 * segment) ≤ 8 * (1 + segment) = omega (arith, is) in (
          from-up (8 * segment) many,
          from-least (8 * segment) (8 * segment) many (let z : 8 * segment ≤ 8 * segment = omega arith in z),
          from-below (8 * (1 + segment)) (8 * segment) many most,
        )

up-segments : (lasts : ℕ → Option ℕ) → AreOwnLasts lasts → (segment many : ℕ)
    → GoUp (flat_map (known_in lasts) (numbers_from segment many)) × AllFrom (8 * segment) (flat_map (known_in lasts) (numbers_from segment many))
up-segments lasts own segment zero = (tt, tt)
up-segments lasts own segment (suc many) =
    let one = up-segment lasts own segment in
    let rest = up-segments lasts own (1 + segment) many in
    let later = flat_map (known_in lasts) (numbers_from (1 + segment) many) in (
      up-append (8 * (1 + segment)) (known_in lasts segment) later one.0 one.2 rest.0 rest.1,
      all_append (λ (m : ℕ). 8 * segment ≤ m) (known_in lasts segment) later one.1
          (all_map (λ (m : ℕ). 8 * (1 + segment) ≤ m) (λ (m : ℕ). 8 * segment ≤ m) (λ m le. let z : 8 * segment ≤ m = omega (arith, le) in z) later rest.1),
    )

-- ---- a run

-- what a section tells is of its own segment
own-last : (number last : ℕ) (told : Option (ℕ × ℕ)) → last_beside number told ≡ Some last → segment_of last ≡ segment_of number
own-last number last None e = cc
own-last number last (Some told) e = go (segment_of told.0 == segment_of number) refl e
  where
    go : (b : Bool) → (segment_of told.0 == segment_of number) ≡ b → (if b then Some told.0 else None) ≡ Some last → segment_of last ≡ segment_of number
    go false f g = cc
    go true f g =
        let same : told.0 ≡ last = cc in
        ap segment_of (sym same) ∙ eqb-true (segment_of told.0) (segment_of number) f

section-last : (s : Counted) (last : ℕ) → segment_last_of s ≡ Some last → segment_of last ≡ segment_of s.number
section-last s last e = go (is_eit s.key.table) e
  where
    go : (b : Bool) → (if b then segment_last_in s.number s.body else None) ≡ Some last → segment_of last ≡ segment_of s.number
    go true f = own-last s.number last (eit_numbers_in s.body) f
    go false f = cc

own_lasts : (run : List Counted) → AreOwnLasts (last_told run)
own_lasts run segment last e = go (latest_section (filter (is_in_segment segment) run)) refl e
  where
    go : (o : Option Counted) → latest_section (filter (is_in_segment segment) run) ≡ o → last_told_by o ≡ Some last → segment_of last ≡ segment
    go None f g = cc
    go (Some s) f g =
        let there = latest-of (λ (x : Counted). Unit {0} × (is_in_segment segment x ≡ true)) (filter (is_in_segment segment) run) s
        (passes (λ (x : Counted). Unit {0}) (is_in_segment segment) run (each_unit run)) f in
        section-last s last g ∙ eqb-true (segment_of s.number) segment there.1

pub known_up : (run : List Counted) (o : Option Counted) → GoUp (known_at run o)
known_up run None = tt
known_up run (Some s) = go (is_eit s.key.table)
  where
    go : (b : Bool) → GoUp (if b then flat_map (known_in (last_told run)) (numbers_from 0 (1 + segment_of s.last)) else numbers_from 0 (1 + s.last))
    go true = (up-segments (last_told run) (own_lasts run) 0 (1 + segment_of s.last)).0
    go false = from-up 0 (1 + s.last)
