-- What the views of a run leave.
use Rattle.std.specs.Prelude.{◌≡◌, ◌≤◌, ◌<◌, ◌+◌, ℕ, true, List, [], ◌∷◌, ◌++◌, length, map, vec_len, vec_capacity}
use Rattle.mux_model.specs.Fed.{fed_ids}
use Rattle.mux_model.specs.declared.mux.Mux.{Mux}
use Rattle.guide_board.specs.declared.lines.NowNext.{NowNext}
use Rattle.guide_board.specs.declared.post.Post.{Post}
use Rattle.guide_board.specs.Posts.{Sight, serves, services_in}
use Rattle.headend_jobs.specs.declared.views.ViewJob.{ViewJob}
use Rattle.headend_jobs.specs.Views.{AreSaid, Viewed}
use Rattle.headend_live.specs.declared.views.ViewLine.{ViewLine}

-- feeds edit a service with this number
abbrev pub IsServiceOf : Mux → ℕ → Type 0
IsServiceOf mux service = serves (fed_ids mux) service ≡ true

-- the line of an answer
abbrev pub line_of : ℕ → NowNext → ViewLine
line_of service answer = record { service = service; read = answer }

-- For each of these services, in order, its viewer, and a line for each of so many answers.
abbrev pub AreViewed : List Post → ℕ → List ℕ → List Sight → List ViewLine → Type 0
AreViewed posts count [] viewers lines = (viewers ≡ []) × (lines ≡ [])
AreViewed posts count (service ∷ services) viewers lines =
    (viewer : Sight) × (others : List Sight) × (answers : List NowNext) × (more : List ViewLine)
    × (viewers ≡ viewer ∷ others) × (lines ≡ map (line_of service) answers ++ more)
    × Viewed posts count service viewer answers × AreViewed posts count services others more

-- ---- the jobs

-- A view of this board that was not answered yet, with room for as many answers as it has cycles, and one more.
pub record IsNew (board : Sight) (cycles service : ℕ) (job : ViewJob) : Type 0 where
  pub viewer : job.viewer ≡ board
  pub service_is : job.service ≡ service
  pub times : job.times ≡ cycles
  pub none : job.answers.items ≡ []
  pub room : cycles + 1 ≤ vec_capacity job.answers

-- One that was answered once for each cycle.
pub record IsAsked (board : Sight) (cycles : ℕ) (job : ViewJob) : Type 0 where
  pub board_is : job.viewer.board ≡ board.board
  pub served : serves (services_in job.viewer.posts) job.service ≡ true
  pub said : AreSaid job.viewer.posts job.service job.answers.items
  pub count : length job.answers.items ≡ cycles
  pub room : vec_len job.answers < vec_capacity job.answers

-- the services of jobs
abbrev pub asked_for : List ViewJob → List ℕ
asked_for jobs = map (λ (job : ViewJob). job.service) jobs
