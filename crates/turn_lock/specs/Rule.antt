-- The rule of the lock, which every kind of step keeps, and what each step tells.
-- Word 0 is 1 while the lock is held, word 1 is the length of the journal, and the one slot holds the state. The journal is
-- that of the state while the lock is free, and what the holder has seen while it is held.
use Rattle.std.specs.Prelude.{◌≡◌, ◌≢◌, ◌⊎◌, ℕ, ◌+◌, ◌-◌, ◌<◌, List, [], ◌∷◌, ◌++◌, length, drop, true, false, Option, Some}
use Rattle.std.specs.List.{AllByRecursion}
use mathlib.Core.Option.{some, none}
use mathlib.Core.Option as maybe
use lib.ListN.{get_elem?}
use mathlib.Core.List.{IsPrefix}
use Rattle.atomic_table.specs.Table.{State, Me, Step}
use Rattle.turn_lock.specs.declared.known.Caller.{Caller}
use Rattle.turn_lock.specs.declared.known.Known.{Known}
use Rattle.turn_lock.specs.Journal.{entries_of}
use Rattle.turn_lock.specs.Knowledge.{HasAny, AreApart, Exact, IsExact, longer}

module _ {E G : Type 0} where
  -- the callers of a view: itself, and those that it took in
  abbrev pub all_of : Known E G → List (Caller E)
  all_of v = v.own ∷ v.finished

  -- no view has the number k
  abbrev pub NotHad : List (Known E G) → ℕ → Type 0
  NotHad views k = (j : ℕ) (v : Known E G) → get_elem? views j ≡ some v → HasAny (all_of v) k → ⊥

  -- the view that a join leaves, which keeps nothing
  abbrev pub blank : Known E G
  blank = record { holder = false; counted = false; seen = []; joined = []; own = record { low = 0; span = 0; made = [] }; finished = []; on = [] }

  -- what the first pass knows
  abbrev pub first_view : ℕ → G → Known E G
  first_view callers base = record { holder = false; counted = false; seen = []; joined = []; own = record { low = 0; span = callers; made = [] }; finished = []; on = base ∷ [] }

  -- with the lock taken, and the journal seen
  abbrev pub holding : Known E G → List E → Known E G
  holding v log = record v { holder = true; counted = false; seen = log }

  -- after the count: what the journal has beyond what was seen is the pass's own
  abbrev pub counted_view : Known E G → List E → Known E G
  counted_view v log = record v { counted = true; seen = log; own = record v.own { made = v.own.made ++ drop (length v.seen) log } }

  -- with the lock let go
  abbrev pub let_go_view : Known E G → Known E G
  let_go_view v = record v { holder = false; counted = false }

  -- a split: the pass keeps its lowest numbers, the new one gets the highest
  abbrev pub kept_part : ℕ → Known E G → Known E G
  kept_part span v = record v { own = record v.own { span = v.own.span - span } }

  abbrev pub new_part : ℕ → Known E G → Known E G
  new_part span v = record blank { seen = v.seen; own = record { low = v.own.low + (v.own.span - span); span = span; made = [] }; on = v.on }

  -- a receipt has what was seen, and no number
  abbrev pub same_view : Known E G → Known E G
  same_view v = v

  abbrev pub receipt_view : Known E G → Known E G
  receipt_view v = record blank { seen = v.seen; on = v.on }

  -- both lists are kept until a load compares them
  abbrev pub learnt : Known E G → Known E G → Known E G
  learnt v w = record v { seen = longer v.seen w.seen; joined = v.seen ∷ w.seen ∷ [] }

  abbrev pub joined_with : Known E G → Known E G → Known E G
  joined_with v w = record v { seen = longer v.seen w.seen; joined = v.seen ∷ w.seen ∷ []; finished = v.finished ++ w.own ∷ w.finished }

module _ {S E G : Type 0} (entries : S → List E) (stands_on : S → G) (caller : E → ℕ) where
  -- nobody holds the lock, and the state in its place has the journal
  pub record IsFree (base : G) (held : ℕ) (homes : List (maybe.Option (Option S))) (views : List (Known E G)) (log : List E) : Type 0 where
    pub open_word : held ≡ 0
    pub state : S
    pub home : homes ≡ some (Some state) ∷ []
    pub journal : entries state ≡ log
    pub stands : stands_on state ≡ base
    pub none_holds : (j : ℕ) (v : Known E G) → get_elem? views j ≡ some v → v.holder ≡ false

  -- one pass holds it, and has seen the journal
  pub record IsTaken (held : ℕ) (homes : List (maybe.Option (Option S))) (views : List (Known E G)) (log : List E) : Type 0 where
    pub shut_word : held ≡ 1
    pub out : homes ≡ none ∷ []
    pub by : ℕ
    pub view : Known E G
    pub there : get_elem? views by ≡ some view
    pub holds : view.holder ≡ true
    pub journal : view.seen ≡ log
    pub number : 0 < view.own.span
    pub alone : (j : ℕ) (v : Known E G) → get_elem? views j ≡ some v → v.holder ≡ true → j ≡ by

  -- what holds of each view: it has seen a beginning of the journal, and so have those that came together in it; of each of its
  -- callers the journal has exactly what was made; its numbers are below `callers`, and none is of two of its callers; a
  -- caller that it took in has a number; what it carries is what the state stands on
  pub record Fits (callers : ℕ) (base : G) (log : List E) (v : Known E G) : Type 0 where
    pub begins : IsPrefix v.seen log
    pub kept : AllByRecursion (λ l. IsPrefix l v.seen) v.joined
    pub exact : AllByRecursion (Exact caller log) (all_of v)
    pub below : (k : ℕ) → HasAny (all_of v) k → k < callers
    pub parted : AreApart (all_of v)
    pub lasting : AllByRecursion (λ c. 0 < c.span) v.finished
    pub stands : (g : G) → v.on ≡ g ∷ [] → g ≡ base

  -- what holds of all views: each fits, and no number is of two of them
  pub record Views (callers : ℕ) (base : G) (log : List E) (views : List (Known E G)) : Type 0 where
    pub fits : (j : ℕ) (v : Known E G) → get_elem? views j ≡ some v → Fits callers base log v
    pub apart : (i j : ℕ) (v w : Known E G) → i ≢ j → get_elem? views i ≡ some v → get_elem? views j ≡ some w → (k : ℕ) → HasAny (all_of v) k → HasAny (all_of w) k → ⊥

  -- The rule.
  pub record Kept (callers : ℕ) (base : G) (s : State (Option S) (Known E G)) : Type 0 where
    pub log : List E
    pub held : ℕ
    pub words : s.words ≡ held ∷ length log ∷ []
    pub place : IsFree base held s.homes s.views log ⊎ IsTaken held s.homes s.views log
    pub views : Views callers base log s.views
    pub others : (k : ℕ) → NotHad s.views k → entries_of caller k log ≡ []

  -- what a try to take the lock tells
  abbrev pub Acquires : Step (Option S) → Me (Option S) (Known E G) → ℕ → Me (Option S) (Known E G) → Type 0
  Acquires st m n m' =
      (n ≡ 0 → (x : S) × (m'.1 ≡ (0, Some x) ∷ []) × (m'.0 ≡ holding m.0 (entries x)) × IsPrefix m.0.seen (entries x) × ((g : G) → m.0.on ≡ g ∷ [] → stands_on x ≡ g))
      × (¬ (n ≡ 0) → m' ≡ m)

  -- the count of the state in the holder's hand is stored, which is named for the proof alone
  abbrev pub Counts : Option S → Step (Option S) → Me (Option S) (Known E G) → ℕ → Me (Option S) (Known E G) → Type 0
  Counts said st m n m' = (m'.1 ≡ m.1) × IsExact caller m'.0.seen (all_of m'.0) × ((y : S) → said ≡ Some y → m'.0 ≡ counted_view m.0 (entries y))

  -- the lock is let go, with the state in its place
  abbrev pub Releases : Step (Option S) → Me (Option S) (Known E G) → ℕ → Me (Option S) (Known E G) → Type 0
  Releases st m n m' = (m'.1 ≡ []) × (m'.0 ≡ let_go_view m.0)

  -- each list that a join kept is a beginning of what is seen now, and no number is of two callers
  abbrev pub Compares : Step (Option S) → Me (Option S) (Known E G) → ℕ → Me (Option S) (Known E G) → Type 0
  Compares st m n m' = (m'.1 ≡ m.1) × (m'.0 ≡ record m.0 { joined = [] }) × AllByRecursion (λ l. IsPrefix l m.0.seen) m.0.joined × AreApart (all_of m.0)
