-- What a viewer is answered while others post.
use Rattle.std.specs.Prelude.{◌≡◌, ◌≤◌, ◌<◌, ◌+◌, ℕ, true, List, [], ◌∷◌, ◌++◌, Ok, Some, length, slice_get, slice_index_or, vec_len, vec_capacity}
use mathlib.Core.List.{IsPrefix}
use Rattle.guide_board.specs.declared.lines.NowNext.{NowNext}
use Rattle.guide_board.specs.declared.post.Post.{Post}
use Rattle.guide_board.specs.Posts.{AnswersNewest, Sight, says, serves, services_in}
use Rattle.headend_jobs.specs.declared.views.ViewJob.{ViewJob}

-- the answer is what the post at this place says of the service
abbrev pub IsSaidAt : List Post → ℕ → ℕ → NowNext → Type 0
IsSaidAt posts service place answer = (p : Post) × (slice_get posts place ≡ Some p) × (says p service ≡ Some answer)

-- each answer is of the post at some place, the first at this one or behind it, and none before that of the answer before
abbrev pub AreSaidFrom : List Post → ℕ → ℕ → List NowNext → Type 0
AreSaidFrom posts service from [] = Unit {0}
AreSaidFrom posts service from (answer ∷ answers) = (place : ℕ) × (from ≤ place) × IsSaidAt posts service place answer × AreSaidFrom posts service place answers

-- Each answer is what one of the posts says of the service, and none is of an earlier post than the answer before it.
abbrev pub AreSaid : List Post → ℕ → List NowNext → Type 0
AreSaid posts service answers = AreSaidFrom posts service 0 answers

-- the last answer is what the newest of the posts says
abbrev pub EndWithNewest : List Post → ℕ → List NowNext → Type 0
EndWithNewest posts service answers = (before : List NowNext) × (last : NowNext) × (answers ≡ before ++ last ∷ []) × AnswersNewest posts service (Ok last)

-- Its board has the service, and there is room for its answers, and for one more.
pub record ViewReady (job : ViewJob) : Type 0 where
  pub served : serves (services_in job.viewer.posts) job.service ≡ true
  pub room : vec_len job.answers + job.times + 1 ≤ vec_capacity job.answers
  pub said : AreSaid job.viewer.posts job.service job.answers.items

-- It asked so often: its viewer has seen more of the same board, and each answer is what a post of
-- these says.
pub record Asked (n : ℕ) (old new : ViewJob) : Type 0 where
  pub service : new.service ≡ old.service
  pub times : new.times ≡ old.times
  pub board : new.viewer.board ≡ old.viewer.board
  pub seen : IsPrefix old.viewer.posts new.viewer.posts
  pub services : services_in new.viewer.posts ≡ services_in old.viewer.posts
  pub said : AreSaid new.viewer.posts old.service new.answers.items
  pub count : vec_len new.answers ≡ vec_len old.answers + n
  pub capacity : vec_capacity new.answers ≡ vec_capacity old.answers

-- It asked as often as it was to.
abbrev pub ViewDid : ViewJob → ViewJob → Type 0
ViewDid old new = Asked old.times old new

-- Each of these jobs did what it was to.
pub record ViewsDid (old new : List ViewJob) : Type 0 where
  pub len : length new ≡ length old
  pub each : (i : ℕ) (d : ViewJob) → i < length old → ViewDid (slice_index_or old i d) (slice_index_or new i d)

-- What a view leaves whose viewer learnt of these posts at the end: it has seen them, in order; it was answered so many times, each
-- time from one post that it has seen, never from an older one than before, and at last from the newest.
pub record Viewed (posts : List Post) (count service : ℕ) (viewer : Sight) (answers : List NowNext) : Type 0 where
  pub seen : IsPrefix posts viewer.posts
  pub count_is : length answers ≡ count
  pub said : AreSaid viewer.posts service answers
  pub newest : EndWithNewest viewer.posts service answers
