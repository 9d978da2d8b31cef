-- What sends: a multiplex, its player, its board and its air.
use Rattle.std.specs.Prelude.{◌≡◌, ◌≤◌, ℕ, List, [], ◌∷◌, Option, Some, OnOk, Result}
use Rattle.air_model.specs.Air.{Aired}
use Rattle.mux_model.specs.Sound.{IsSound}
use Rattle.cycle_player.specs.Sending.{AtEnd}
use Rattle.cycle_player.specs.Tally.{no_cycles}
use Rattle.turn_lock.specs.Knowledge.{TableId}
use Rattle.journal_air.specs.declared.send.SendStop.{SendStop}
use Rattle.journal_air.specs.OnAir.{HasAirCause, IsPlayerOf}
use Rattle.desk_hall.specs.Turn.{View}
use Rattle.headend_jobs.specs.declared.sender.Sender.{Sender}
use Rattle.headend_jobs.specs.declared.sender.Swaps.{Swaps}
use Rattle.headend_jobs.specs.Playing.{SwapsPlayed}
use Rattle.headend_jobs.specs.Posting.{HasPosted, HaveServicesOf, KeepsBoard, opening_of}

-- It has sent nothing, and only the opening post was made, which is publication 0 of its multiplex.
pub record IsFresh {A : Type 0} (s : Sender A) : Type 0 where
  pub sound : IsSound s.mux
  pub player_of : IsPlayerOf s.mux s.player
  pub at_start : AtEnd [] s.player
  pub tally : s.player.tally ≡ no_cycles
  pub opening : s.board.posts ≡ opening_of s.mux ∷ []

-- It may send what this pass of these turns swaps.
pub record CanPlay {A : Type 0} (turns : TableId) (pass : View) (s : Sender A) : Type 0 where
  pub turns_are : pass.turns ≡ turns
  pub stands : pass.on ≡ Some s.mux
  pub sound : IsSound s.mux
  pub served : HaveServicesOf s.mux s.board.posts
  pub ready : (xs : List Aired) × AtEnd xs s.player

-- What was sent stopped by a failed write only where one failed (`cause`), and it is the same air.
pub record Wrote {A : Type 0} (faults : A → ℕ) (is_same : A → A → Type 0) (old new : A)
    (result : Result (Unit {0}) SendStop) : Type 0 where
  pub cause : HasAirCause (faults old) (faults new) result
  pub later : faults old ≤ faults new
  pub same : is_same old new

-- The pass made these swaps. Each was posted, and then its cycle was sent.
pub record Played {A : Type 0} (written : A → Option (List ℕ)) (faults : A → ℕ)
    (is_same : A → A → Type 0) (swaps : Swaps) (v w : View) (old new : Sender A)
    (result : Result (Unit {0}) SendStop) : Type 0 where
  pub mux : new.mux ≡ old.mux
  pub played : SwapsPlayed swaps.ticking old.mux swaps.count v w old.player new.player
      (written old.air) (written new.air) result
  pub ready : OnOk result ((xs : List Aired) × AtEnd xs new.player)
  pub posted : OnOk result (HasPosted old.mux v w old.board new.board)
  pub board : KeepsBoard old.board new.board
  pub air : Wrote faults is_same old.air new.air result
