-- The sections of several sub-tables in turn: of each the first one, then of each the second one,
-- and so on.
use Rattle.std.specs.Prelude.{◌≡◌, ℕ, zero, suc, ◌≤◌, List, [], ◌∷◌, ◌++◌, ◌==◌, length, flat_map}
use Rattle.std.specs.List.{AllByRecursion, filter}

-- of each of these the first section, if it has one,
abbrev pub firsts : List (List ℕ) → List ℕ
firsts [] = []
firsts ([] ∷ groups) = firsts groups
firsts ((x ∷ xs) ∷ groups) = x ∷ firsts groups

-- and what is left of each
abbrev pub rests : List (List ℕ) → List (List ℕ)
rests [] = []
rests ([] ∷ groups) = [] ∷ rests groups
rests ((x ∷ xs) ∷ groups) = xs ∷ rests groups

-- n rounds
abbrev pub spread : ℕ → List (List ℕ) → List ℕ
spread zero groups = []
spread (suc n) groups = firsts groups ++ spread n (rests groups)

-- ---- laws

-- each group has sections of one sub-table,
abbrev pub AllOf : (ℕ → ℕ) → ℕ → List ℕ → Type 0
AllOf table k group = AllByRecursion (λ (x : ℕ). table x ≡ k) group

abbrev pub NoneOf : (ℕ → ℕ) → ℕ → List ℕ → Type 0
NoneOf table k group = AllByRecursion (λ (x : ℕ). table x ≡ k → Prim.⊥) group

-- and no two groups of the same
abbrev pub AreGroups : (ℕ → ℕ) → List (List ℕ) → Type 0
AreGroups table [] = Unit {0}
AreGroups table (group ∷ groups) =
    ((k : ℕ) × AllOf table k group × AllByRecursion (NoneOf table k) groups)
    × AreGroups table groups

-- The same sections, those of each sub-table in the same order.
abbrev pub KeepsOrder : (ℕ → ℕ) → List ℕ → List ℕ → Type 0
KeepsOrder table xs ys =
    (k : ℕ) → filter (λ (x : ℕ). table x == k) xs ≡ filter (λ (x : ℕ). table x == k) ys

-- each group has n sections at most
abbrev pub AreShort : ℕ → List (List ℕ) → Type 0
AreShort n groups = AllByRecursion (λ (group : List ℕ). length group ≤ n) groups

abbrev pub SpreadKeepsOrder : Type 0
SpreadKeepsOrder =
    (table : ℕ → ℕ) (groups : List (List ℕ)) → AreGroups table groups → (n : ℕ) → AreShort n groups
    → KeepsOrder table (spread n groups) (flat_map (λ (group : List ℕ). group) groups)
