-- The rule of the published value: each view that names a board names that of the value.
use Rattle.std.specs.Prelude.{◌≡◌, ◌⊎◌, ℕ, List, [], ◌∷◌}
use mathlib.Core.Option.{some}
use lib.ListN.{get_elem?}
use Rattle.logbook.specs.Pages.{Book}
use Rattle.guide_board.specs.declared.note.Known.{Known}
use Rattle.guide_board.specs.Posts.{Sight}

-- which board it is, as numbers
abbrev pub numbers : Book → List ℕ
numbers board = board.number ∷ board.log_name ∷ board.cells_name ∷ []

abbrev pub Names : Book → Known → Type 0
Names board known = (known.named ≡ []) ⊎ (known.named ≡ numbers board)

abbrev pub Agree : Sight → List Known → Type 0
Agree value views = (seat : ℕ) (known : Known) → get_elem? views seat ≡ some known → Names value.board known

-- A read or a post: the view then names the board of the value, and it named no other before.
abbrev pub NamesBoard : Known → Sight → Sight → Known → Type 0
NamesBoard before from to after = (after.named ≡ numbers to.board) × Names to.board before

-- what is published is this, and the view names its board
abbrev pub ShowsAs : Sight → Sight → Known → Type 0
ShowsAs sight shown known = (shown ≡ sight) × (known.named ≡ numbers sight.board)
