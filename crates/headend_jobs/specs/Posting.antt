-- What is posted for viewers while the steps of a desk are done.
use Rattle.std.specs.Prelude.{◌≡◌, ℕ, List, [], ◌∷◌, ◌++◌, map}
use mathlib.Core.List.{IsPrefix}
use Rattle.si_time.specs.declared.moment.Moment.{Moment}
use Rattle.mux_model.specs.Fed.{fed_ids}
use Rattle.mux_model.specs.declared.mux.Mux.{Mux}
use Rattle.journal_model.specs.declared.step.Entry.{Entry}
use Rattle.desk_core.specs.Publications.{publication, swaps}
use Rattle.guide_board.specs.declared.post.Post.{Post}
use Rattle.guide_board.specs.Posts.{Sight, post, services_in}
use Rattle.desk_hall.specs.Turn.{View}

-- the post of a swap of the journal: the publication that it put on air, under its number
abbrev pub post_at : Mux → List Entry → ℕ × Moment → Post
post_at mux journal swap = post swap.0 (publication mux journal swap.0)

-- those of these entries of the journal, in order
abbrev pub posts_by : Mux → List Entry → List Entry → List Post
posts_by mux journal entries = map (post_at mux journal) (swaps entries)

-- the opening post is publication 0
abbrev pub opening_of : Mux → Post
opening_of mux = post 0 (publication mux [] 0)

-- The posts of a journal: publication 0, and then what each of its swaps put on air, in order.
abbrev pub posts_of : Mux → List Entry → List Post
posts_of mux journal = opening_of mux ∷ posts_by mux journal journal

-- the posts have the services that feeds edit, in their order
abbrev pub HaveServicesOf : Mux → List Post → Type 0
HaveServicesOf mux posts = services_in posts ≡ fed_ids mux

-- A board with more posts is the same board, and its posts have the services that they had.
pub record KeepsBoard (old new : Sight) : Type 0 where
  pub board : new.board ≡ old.board
  pub services : services_in new.posts ≡ services_in old.posts

-- The pass made these entries more, and what they put on air was posted after what was posted before; so it is in each journal that
-- begins with what the pass has seen.
pub record HasPosted (mux : Mux) (v w : View) (old new : Sight) : Type 0 where
  pub added : List Entry
  pub made : w.own.made ≡ v.own.made ++ added
  pub began : IsPrefix v.seen w.seen
  pub posts : (journal : List Entry) → IsPrefix w.seen journal → new.posts ≡ old.posts ++ posts_by mux journal added

-- The posts are the opening one and those of the entries that the pass made.
pub record HasPostedAll (mux : Mux) (w : View) (board : Sight) : Type 0 where
  pub posts : (journal : List Entry) → IsPrefix w.seen journal → board.posts ≡ opening_of mux ∷ posts_by mux journal w.own.made
