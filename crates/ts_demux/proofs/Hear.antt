-- Sections that stand whole, and packets whose counters go on.
use Rattle.std.proofs.Common.{◌≡◌, ℕ, ◌+◌, ◌%◌, List, [], ◌∷◌, ◌++◌, Bool, true, false, ◌&&◌, ◌==◌, Some, length, refl, ap, ◌∙◌, arith, take, drop, map, flat_map, append-nil, length-append, eq-eqb}
use Rattle.std.specs.Prelude.{if◌then◌else◌, nat_le}
use Rattle.std.proofs.lemmas.Bool.Decides.{nat_tests}
use Rattle.std.proofs.lemmas.List.{take-append-le}
use Rattle.std.specs.Prelude.{bytes_eq}
use Rattle.std.proofs.lemmas.Bool.{and_parts, and_from}
use Rattle.ts_demux.specs.Hearing.{size_in, is_whole, begun, heard}
use Rattle.ts_demux.specs.Arrivals.{Arrival, without_repeats, before_stretches, stretches, heard_of, Arrival.Came}
use Rattle.ts_packets.specs.Counting.{Load, Count}
use Rattle.ts_demux.proofs.Deciding.{le_told, le_yes}
use Rattle.si_lists.proofs.Truths.{and_false}
use Rattle.ts_demux.proofs.Heard.{size_in-append}

-- a section that stands whole does so where more follows
pub whole_more : (x y : List ℕ) → is_whole x ≡ true → (is_whole (x ++ y) ≡ true) × (size_in (x ++ y) ≡ size_in x) × (take (size_in x) (x ++ y) ≡ take (size_in x) x)
whole_more x y h =
    let p = and_parts (nat_le 3 (length x)) (nat_le (size_in x) 4096 && nat_le (size_in x) (length x)) h in
    let q = and_parts (nat_le (size_in x) 4096) (nat_le (size_in x) (length x)) p.1 in
    let three = le_told 3 (length x) p.0 in
    let most = le_told (size_in x) 4096 q.0 in
    let fits = le_told (size_in x) (length x) q.1 in
    let n = size_in-append x y three in (
      and_from (nat_le 3 (length (x ++ y))) (nat_le (size_in (x ++ y)) 4096 && nat_le (size_in (x ++ y)) (length (x ++ y)))
          (le_yes 3 (length (x ++ y)) (omega (arith, length-append x y)))
          (and_from (nat_le (size_in (x ++ y)) 4096) (nat_le (size_in (x ++ y)) (length (x ++ y))) (le_yes (size_in (x ++ y)) 4096 (omega arith)) (le_yes (size_in (x ++ y)) (length (x ++ y)) (omega (arith, length-append x y)))),
      n,
      take-append-le (size_in x) x y fits,
    )

abbrev pub pick : Bool → Bool → List (List ℕ) → List (List ℕ)
pick p w x = if p then [] else if w then x else []

pub pick_no : (p w : Bool) (x : List (List ℕ)) → p ≡ true → pick p w x ≡ []
pick_no p w x e = ap (λ (b : Bool). pick b w x) e

pub pick_none : (p w : Bool) (x : List (List ℕ)) → p ≡ false → w ≡ false → pick p w x ≡ []
pick_none p w x e f = ap (λ (b : Bool). pick b w x) e ∙ ap (λ (b : Bool). pick false b x) f

pub pick_yes : (p w : Bool) (x : List (List ℕ)) → p ≡ false → w ≡ true → pick p w x ≡ x
pick_yes p w x e f = ap (λ (b : Bool). pick b w x) e ∙ ap (λ (b : Bool). pick false b x) f

abbrev pub found : ℕ → ℕ → List ℕ → List ℕ → List (List ℕ)
found n b here later = take (size_in (b ∷ here ++ later)) (b ∷ here ++ later) ∷ begun n (drop (size_in (b ∷ here ++ later)) (b ∷ here)) later

-- packets whose counters go on are one stretch, and none is a repeat
next_counter : (m n : ℕ) → m ≡ n % 16 → (1 + n) % 16 ≡ (m + 1) % 16
next_counter m n e = grind arith

no_repeat : (m n l : ℕ) → m ≡ n % 16 → l ≡ (1 + n) % 16 → (m == l) ≡ false
no_repeat m n l e f = grind (arith, nat_tests)

abbrev came : List Load → List Arrival
came ls = map Came ls

counted_after : (n : ℕ) (last : Load) (ls : List Load) → last.counter ≡ n % 16 → Count (1 + n) ls → without_repeats (Some last) (came ls) ≡ came ls
counted_after n last [] e h = refl
counted_after n last (l ∷ ls) e h =
    ap (λ (b : Bool). if b then without_repeats (Some last) (came ls) else Came l ∷ without_repeats (Some l) (came ls))
    (and_false (last.counter == l.counter) (bytes_eq last.piece.payload l.piece.payload) (no_repeat last.counter n l.counter e h.0))
    ∙ ap (λ (x : List Arrival). Came l ∷ x) (counted_after (1 + n) l ls h.0 h.1)

one_stretch : (n : ℕ) (l : Load) (ls : List Load) → Count n (l ∷ ls) → stretches (came (l ∷ ls)) ≡ map (λ (x : Load). x.piece) (l ∷ ls) ∷ []
one_stretch n l [] h = refl
one_stretch n l (m ∷ ls) h =
    ap (before_stretches l (came (m ∷ ls))) (one_stretch (1 + n) m ls h.1)
    ∙ ap (λ (b : Bool). if b then (l.piece ∷ map (λ (x : Load). x.piece) (m ∷ ls)) ∷ [] else (l.piece ∷ []) ∷ map (λ (x : Load). x.piece) (m ∷ ls) ∷ [])
    (eq-eqb m.counter ((l.counter + 1) % 16) (h.1.0 ∙ next_counter l.counter n h.0))

pub heard_of-counting : (n : ℕ) (ls : List Load) → Count n ls → heard_of (came ls) ≡ heard (map (λ (x : Load). x.piece) ls)
heard_of-counting n [] h = refl
heard_of-counting n (l ∷ ls) h =
    ap (λ (x : List Arrival). flat_map heard (stretches (Came l ∷ x))) (counted_after n l ls h.0 h.1)
    ∙ ap (flat_map heard) (one_stretch n l ls h)
    ∙ append-nil (heard (map (λ (x : Load). x.piece) (l ∷ ls)))
