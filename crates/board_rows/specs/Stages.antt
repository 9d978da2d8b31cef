-- What the rows know of a board while they go on.
use Rattle.std.specs.Prelude.{◌≡◌, ◌+◌, ℕ, [], ◌∷◌, Option, IfSome}
use Rattle.guide_model.specs.declared.event.Event.{Event}
use Rattle.guide_board.specs.Posts.{Sight, services_in}

-- the event starts at this time of 13 October 1993, and lasts so long
abbrev pub IsAtTime : ℕ → ℕ → Event → Type 0
IsAtTime time seconds event = (event.start.0 ≡ 4257187200 + time) × (event.seconds ≡ seconds)

-- a writer of this viewer's board, whose posts have the services of the rows
abbrev pub IsWriterOf : Sight → Sight → Type 0
IsWriterOf viewer writer = (writer.board ≡ viewer.board) × (services_in writer.posts ≡ 101 ∷ 103 ∷ [])

-- what was told last, if anything, was told of this viewer's board
abbrev pub IsToldOf : Sight → Option Sight → Type 0
IsToldOf viewer told = IfSome told (λ (t : Sight). t.board ≡ viewer.board)
