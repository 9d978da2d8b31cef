-- The rule of the history of posts, and what its one step tells.
use Rattle.std.specs.Prelude.{◌≡◌, ◌==◌, ℕ, suc, true, IsTrue, List, [], ◌∷◌, ◌++◌, length}
use Rattle.logbook.specs.Pages.{Book, Cell, Named, Step, View}
use Rattle.guide_board.specs.declared.lines.Line.{Line}
use Rattle.guide_board.specs.declared.post.Post.{Post}
use Rattle.guide_board.specs.Lines.{lines_of}
use Rattle.guide_board.specs.Posts.{EndsWith, services_of, services_in}

-- the one word counts the posts behind the opening one
pub record IsKept (cells : List Cell) (posts : List Post) : Type 0 where
  pub later : ℕ
  pub words : cells ≡ (later, true) ∷ []
  pub size : length posts ≡ suc later

-- the word of a history
abbrev pub word_of : Book → Named
word_of book = record { tracked = true; key = 0; book = book }

-- the post was added behind all that had been seen, if the number found says so
abbrev pub Adds : Step Post → View Post ℕ → ℕ → View Post ℕ → Type 0
Adds step before found after = IsTrue (found == step.old) → after.0 ≡ before.0 ++ step.ask ∷ []

-- these are the number and the lines of the last of the posts, of which so many are behind the opening one, and it has the
-- services of the opening one
pub record IsSheet (later number : ℕ) (lines : List Line) (posts : List Post) : Type 0 where
  pub size : length posts ≡ suc later
  pub last : Post
  pub ends : EndsWith posts last
  pub numbered : number ≡ last.number
  pub lined : lines ≡ lines_of last.guide
  pub served : services_of last.guide ≡ services_in posts
