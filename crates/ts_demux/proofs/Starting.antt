-- A packet in which a section begins.
use Rattle.std.proofs.Common.{◌≡◌, ℕ, ◌≤◌, List, [], ◌∷◌, ◌++◌, Bool, Option, None, length, sym, ap, ap₂, ◌∙◌, arith, take, drop, length-drop}
use Rattle.std.specs.Prelude.{if◌then◌else◌}
use Rattle.ts_demux.specs.Hearing.{begun}
use Rattle.ts_demux.specs.Steps.{left_open, finished_with, given_from_start, open_from_start}
use Rattle.ts_demux.proofs.Deciding.{le_yes}
use Rattle.ts_demux.proofs.Beginning.{begun-bound, left_open-bound}

pub start_given : (o : Option (List ℕ)) (payload bytes passed here : List ℕ) (p : ℕ) → payload ≡ p ∷ bytes → p ≤ length bytes → passed ≡ take p bytes → here ≡ drop p bytes →
    given_from_start o payload ≡ finished_with o passed ++ begun (length here) here []
start_given o payload bytes passed here p e h t d =
    let l : length (drop p bytes) ≤ length bytes = omega (arith, length-drop p bytes) in
    let same : length (drop p bytes) ≤ length (drop p bytes) = omega arith in
    ap (given_from_start o) e
    ∙ ap (λ (b : Bool). if b then finished_with o (take p bytes) ++ begun (length bytes) (drop p bytes) [] else []) (le_yes p (length bytes) h)
    ∙ ap (λ (x : List (List ℕ)). finished_with o (take p bytes) ++ x) (begun-bound (length bytes) (length (drop p bytes)) (drop p bytes) [] l same)
    ∙ sym (ap₂ (λ (x y : List ℕ). finished_with o x ++ begun (length y) y []) t d)

pub start_kept : (payload bytes here : List ℕ) (p : ℕ) → payload ≡ p ∷ bytes → p ≤ length bytes → here ≡ drop p bytes → open_from_start payload ≡ left_open (length here) here
start_kept payload bytes here p e h d =
    let l : length (drop p bytes) ≤ length bytes = omega (arith, length-drop p bytes) in
    let same : length (drop p bytes) ≤ length (drop p bytes) = omega arith in
    ap open_from_start e
    ∙ ap (λ (b : Bool). if b then left_open (length bytes) (drop p bytes) else None) (le_yes p (length bytes) h)
    ∙ left_open-bound (length bytes) (length (drop p bytes)) (drop p bytes) l same
    ∙ sym (ap (λ (x : List ℕ). left_open (length x) x) d)
