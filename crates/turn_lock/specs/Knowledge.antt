-- What contracts see of a pass, a receipt and the turns, and what the calls do to it.
use Rattle.std.specs.Prelude.{◌≡◌, ◌≢◌, ◌⊎◌, ℕ, ◌+◌, ◌-◌, ◌<◌, ◌≤◌, ◌==◌, List, [], ◌∷◌, ◌++◌, Option, Some, None, length, nat_lt, if◌then◌else◌}
use Rattle.std.specs.List.{AllByRecursion}
use mathlib.Core.List.{IsPrefix}
pub use Rattle.atomic_table.specs.Seated.{TableId}
use Rattle.turn_lock.specs.declared.known.Caller.{Caller}
use Rattle.turn_lock.specs.Journal.{entries_of, IsOneOf}

-- Turns: which they are, and how many numbers there are for callers.
pub record Lock : Type 0 where
  pub turns : TableId
  pub callers : ℕ

-- What a pass knows: the turns that it is of, what it has seen of the journal, its own numbers with what it made, the
-- callers that it took in by join, each with its numbers and what it made, and what the state stands on.
pub record Knowledge (E G : Type 0) : Type 0 where
  pub turns : TableId
  pub seen : List E
  pub own : Caller E
  pub finished : List (Caller E)
  pub on : Option G

-- What a receipt tells: the turns that it is of, what was seen, and what the state stands on.
pub record ReceiptTells (E G : Type 0) : Type 0 where
  pub turns : TableId
  pub seen : List E
  pub on : Option G

-- the first of a list
abbrev pub first_of : {X : Type 0} → List X → Option X
first_of [] = None
first_of (x ∷ xs) = Some x

-- the first pass has all numbers, and has seen nothing
abbrev pub first_pass : {E G : Type 0} → TableId → ℕ → G → Knowledge E G
first_pass turns callers base = record { turns = turns; seen = []; own = record { low = 0; span = callers; made = [] }; finished = []; on = Some base }

-- split: the pass keeps its lowest numbers
abbrev pub lower_part : {E G : Type 0} → Knowledge E G → ℕ → Knowledge E G
lower_part v span = record v { own = record v.own { span = v.own.span - span } }

-- and the new one gets the highest; it has seen the same, and made nothing
abbrev pub upper_part : {E G : Type 0} → Knowledge E G → ℕ → Knowledge E G
upper_part v span = record v { own = record { low = v.own.low + (v.own.span - span); span = span; made = [] }; finished = [] }

-- receipt: what the pass has seen
abbrev pub token : {E G : Type 0} → Knowledge E G → ReceiptTells E G
token v = record { turns = v.turns; seen = v.seen; on = v.on }

-- the longer of two lists
abbrev pub longer : {E : Type 0} → List E → List E → List E
longer xs ys = if nat_lt (length xs) (length ys) then ys else xs

-- join: the pass has seen the longer list, and took in the other's numbers and the callers that the other took in
abbrev pub joined : {E G : Type 0} → Knowledge E G → Knowledge E G → Knowledge E G
joined v w = record v { seen = longer v.seen w.seen; finished = v.finished ++ w.own ∷ w.finished }

-- learn: the pass has seen the longer list
abbrev pub having_learnt : {E G : Type 0} → Knowledge E G → ReceiptTells E G → Knowledge E G
having_learnt v w = record v { seen = longer v.seen w.seen }

-- k is a number of the caller
abbrev pub Has : {E : Type 0} → Caller E → ℕ → Type 0
Has c k = (c.low ≤ k) × (k < c.low + c.span)

-- k is a number of one of the callers
abbrev pub HasAny : {E : Type 0} → List (Caller E) → ℕ → Type 0
HasAny [] k = ⊥
HasAny (c ∷ cs) k = Has c k ⊎ HasAny cs k

-- no number is of two of the callers
abbrev pub AreApart : {E : Type 0} → List (Caller E) → Type 0
AreApart [] = Unit {0}
AreApart (c ∷ cs) = ((k : ℕ) → Has c k → HasAny cs k → ⊥) × AreApart cs

-- the callers that a pass knows: itself, and those that it took in
abbrev pub numbers : {E G : Type 0} → Knowledge E G → List (Caller E)
numbers v = v.own ∷ v.finished

-- k is not the number that one of the callers acts under
abbrev pub NotLowest : {E : Type 0} → List (Caller E) → ℕ → Type 0
NotLowest cs k = AllByRecursion (λ c. k ≢ c.low) cs

-- what a caller made under the number k: all of it under its lowest, nothing under the others
abbrev pub made_by : {E : Type 0} → Caller E → ℕ → List E
made_by c k = if k == c.low then c.made else []

module _ {E : Type 0} (caller : E → ℕ) where
  -- under each number of the caller, the journal has exactly what was made under it
  abbrev pub Exact : List E → Caller E → Type 0
  Exact journal c = (k : ℕ) → Has c k → entries_of caller k journal ≡ made_by c k

  -- of each of the callers the journal has exactly what it made, each once and in order, and nothing under its other numbers
  pub record IsExact (journal : List E) (cs : List (Caller E)) : Type 0 where
    pub made : AllByRecursion (λ c. entries_of caller c.low journal ≡ c.made) cs
    pub rest : (k : ℕ) → HasAny cs k → NotLowest cs k → entries_of caller k journal ≡ []

  -- What a turn does to the knowledge v of its pass, which is w behind it. The state stands on what the pass carries. The
  -- journal before the job begins with all that the pass had seen; the journal behind it is what the pass has now seen. The
  -- job's entry, if any, is of the pass's lowest number, and is one more that the pass made. Nothing else of the pass
  -- changes. The journal is exact of all callers that the pass knows.
  pub record Turned {G : Type 0} (ran : G → List E → List E → Type 0) (v w : Knowledge E G) : Type 0 where
    pub base : G
    pub before : List E
    pub added : List E
    pub stands : v.on ≡ Some base
    pub began : IsPrefix v.seen before
    pub job : ran base before w.seen
    pub after : w.seen ≡ before ++ added
    pub one : IsOneOf caller v.own.low added
    pub gained : w ≡ record v { seen = w.seen; own = record v.own { made = v.own.made ++ added } }
    pub exact : IsExact w.seen (numbers w)

  -- What the last pass knows of the journal that is given back: it begins with all that the pass had seen, no number is of
  -- two callers, it is exact of all callers, and it has no entry of any other number.
  pub record Closes {G : Type 0} (v : Knowledge E G) (journal : List E) : Type 0 where
    pub began : IsPrefix v.seen journal
    pub apart : AreApart (numbers v)
    pub exact : IsExact journal (numbers v)
    pub others : (k : ℕ) → NotLowest (numbers v) k → entries_of caller k journal ≡ []
