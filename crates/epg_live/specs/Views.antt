-- The views of a run: for which services viewers ask, and the lines of what they were answered.
use Rattle.std.specs.Prelude.{ℕ, Bool, List, [], ◌++◌, codes, decimal, find, flat_map, not, Option, Some, None}
use Rattle.mux_model.specs.Fed.{fed_ids}
use Rattle.mux_model.specs.declared.mux.Mux.{Mux}
use Rattle.guide_board.specs.declared.lines.Slot.{Slot}
use Rattle.guide_board.specs.declared.post.Post.{Post}
use Rattle.guide_board.specs.Posts.{Sight, serves}
use Rattle.command_words.specs.declared.command.LiveWords.{LiveWords}
use Rattle.headend_live.specs.declared.views.ViewLine.{ViewLine}
use Rattle.headend_live.specs.declared.live.LivePlan.{LivePlan}
use Rattle.headend_live.specs.Viewing.{AreViewed}

-- what the words of `live` say of a run, but for its feeds
abbrev pub plan_of : LiveWords → LivePlan
plan_of words = record { cycles = words.cycles; join = words.join; views = words.views }

-- whether feeds edit a service with this number
abbrev pub has_service : Mux → ℕ → Bool
has_service mux service = serves (fed_ids mux) service

-- the first of these services that feeds do not edit
abbrev pub unserved : Mux → List ℕ → Option ℕ
unserved mux views = find (λ (service : ℕ). not (has_service mux service)) views

-- There are viewers of which these lines are what they were answered, over these posts.
abbrev pub HaveViews : List Post → ℕ → List ℕ → List ViewLine → Type 0
HaveViews posts count views lines = (viewers : List Sight) × AreViewed posts count views viewers lines

-- ---- their text

-- the id of an event, or nothing
abbrev pub id_text : Option Slot → List ℕ
id_text None = []
id_text (Some slot) = decimal slot.event

-- `view`, the service, and the number of the publication, with tabs
abbrev pub view_head : ViewLine → List ℕ
view_head line = codes "view\t" ++ decimal line.service ++ codes "\t" ++ decimal line.read.number

-- after it the id of the present event, and of the following one
abbrev pub view_text : ViewLine → List ℕ
view_text line = view_head line ++ codes "\t" ++ id_text line.read.now ++ codes "\t" ++ id_text line.read.next ++ codes "\n"

abbrev pub views_text : List ViewLine → List ℕ
views_text lines = flat_map view_text lines
