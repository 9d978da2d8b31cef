-- How far packets of one PID have come with its sections (ISO/IEC 13818-1, 2.4.4).
use Rattle.std.specs.Prelude.{◌≡◌, ◌≢◌, ℕ, List, [], ◌∷◌, ◌++◌, slice_index_or}
use Rattle.ts_packets.specs.Packets.{Piece, piece_of, left_by, pieces, left, HasSectionByte, HaveSectionBytes, all_of}

-- what is still to come on a PID: the rest of the section that is open, and the sections that have not begun
pub record ToCome : Type 0 where
  pub rest : List ℕ
  pub waiting : List (List ℕ)

abbrev pub nothing : ToCome
nothing = record { rest = []; waiting = [] }

-- before the first packet: no section has begun
abbrev pub all_waiting : List (List ℕ) → ToCome
all_waiting ss = record { rest = []; waiting = ss }

-- These packets carry these sections as far as to what is still to come.
pub record CarrySoFar (ps : List Piece) (ss : List (List ℕ)) (t : ToCome) : Type 0 where
  pub groups : List (List (List ℕ))
  pub are : ps ≡ pieces [] groups
  pub have_room : HaveSectionBytes [] groups
  pub sections : ss ≡ all_of groups ++ t.waiting
  pub rest_is : t.rest ≡ left [] groups

-- A packet goes on with what is to come: some of the waiting sections, a group, begin in it.
pub record GoesTo (t : ToCome) (p : Piece) (u : ToCome) : Type 0 where
  pub group : List (List ℕ)
  pub is : p ≡ piece_of t.rest group
  pub has_room : HasSectionByte t.rest group
  pub waiting : t.waiting ≡ group ++ u.waiting
  pub rest_is : u.rest ≡ left_by t.rest group

-- a section that can be told from fill: it has bytes and does not begin with 0xFF
abbrev pub IsApart : List ℕ → Type 0
IsApart [] = Prim.⊥
IsApart (b ∷ bytes) = b ≢ 255

-- what is to come on a PID, of a list that has it for each PID from 0 on; nothing behind its end
abbrev pub to_come_on : List ToCome → ℕ → ToCome
to_come_on ts pid = slice_index_or ts pid nothing
