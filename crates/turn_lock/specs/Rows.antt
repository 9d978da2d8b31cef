-- Worked journals of (caller, number), and what passes know of them.
use Rattle.std.specs.Prelude.{◌≡◌, ℕ, List, [], ◌∷◌, Some, refl}
use Rattle.std.proofs.Common.{inl, inr}
use Rattle.atomic_table.specs.Seated.{TableId}
use Rattle.turn_lock.specs.Journal.{entries_of, Grows}
use Rattle.turn_lock.specs.Knowledge.{Knowledge, first_pass, lower_part, upper_part, token, longer, joined, having_learnt, made_by}

abbrev pub row_journal : List (ℕ × ℕ)
row_journal = (0, 0) ∷ (2, 0) ∷ (0, 1) ∷ (2, 1) ∷ (0, 2) ∷ []

-- the entries of a caller, in order
first_entries : entries_of (λ e. e.0) 0 row_journal ≡ (0, 0) ∷ (0, 1) ∷ (0, 2) ∷ []
first_entries = refl

no_entries : entries_of (λ e. e.0) 1 row_journal ≡ []
no_entries = refl

-- a turn of caller 2 that appends, and one that does not
grows : Grows (λ (e : ℕ × ℕ). e.0) 2 ((0, 0) ∷ []) ((0, 0) ∷ (2, 0) ∷ [])
grows = ((2, 0) ∷ [], refl, inr ((2, 0), refl, refl))

stays : Grows (λ (e : ℕ × ℕ). e.0) 2 ((0, 0) ∷ []) ((0, 0) ∷ [])
stays = ([], refl, inl refl)

-- the longer list; of two of one length the first
longer_row : longer {E = ℕ} (1 ∷ []) (2 ∷ 3 ∷ []) ≡ 2 ∷ 3 ∷ []
longer_row = refl

same_length : longer {E = ℕ} (1 ∷ []) (2 ∷ []) ≡ 1 ∷ []
same_length = refl

module _ (turns : TableId) where
  -- four numbers, of which the highest two go to another
  abbrev first : Knowledge (ℕ × ℕ) ℕ
  first = first_pass turns 4 7

  kept : (lower_part first 2).own ≡ record { low = 0; span = 2; made = [] }
  kept = refl

  new : upper_part first 2 ≡ record { turns = turns; seen = []; own = record { low = 2; span = 2; made = [] }; finished = []; on = Some 7 }
  new = refl

  -- both made entries; the second, which has finished, has seen the whole journal
  abbrev one : Knowledge (ℕ × ℕ) ℕ
  one = record (lower_part first 2) { seen = (0, 0) ∷ (2, 0) ∷ (0, 1) ∷ []; own = record { low = 0; span = 2; made = (0, 0) ∷ (0, 1) ∷ (0, 2) ∷ [] } }

  abbrev two : Knowledge (ℕ × ℕ) ℕ
  two = record (upper_part first 2) { seen = row_journal; own = record { low = 2; span = 2; made = (2, 0) ∷ (2, 1) ∷ [] } }

  taken_in : joined one two ≡ record one { seen = row_journal; finished = record { low = 2; span = 2; made = (2, 0) ∷ (2, 1) ∷ [] } ∷ [] }
  taken_in = refl

  learnt : having_learnt one (token two) ≡ record one { seen = row_journal }
  learnt = refl

  -- what was made under its lowest number, and under another
  lowest : made_by two.own 2 ≡ (2, 0) ∷ (2, 1) ∷ []
  lowest = refl

  other : made_by two.own 3 ≡ []
  other = refl

  both : entries_of (λ e. e.0) 2 (joined one two).seen ≡ (2, 0) ∷ (2, 1) ∷ []
  both = refl
