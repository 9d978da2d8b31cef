-- The steps of a checkpoint.
use Rattle.std.specs.Prelude.{ℕ, ◌-◌, ◌==◌, List, [], ◌∷◌, ◌++◌, map, if◌then◌else◌}
use Rattle.std.specs.List.{flat_map}
use Rattle.guide_model.specs.declared.guide.ServiceGuide.{ServiceGuide}
use Rattle.guide_model.specs.declared.guide.Guide.{Guide}
use Rattle.mux_model.specs.Fed.{FedService, fed_services, feed_of}
use Rattle.mux_model.specs.declared.mux.Mux.{Mux}
use Rattle.journal_model.specs.declared.edit.Edit.{Edit}
use Rattle.journal_model.specs.declared.step.Step.TheVariants.{Edit as edit, Tick, Publish}
use Rattle.journal_model.specs.declared.step.Entry.{Entry}
use Rattle.journal_model.specs.Steps.{Command}
use Rattle.desk_core.specs.Journal.{publishes, journal_of}
use Rattle.desk_core.specs.Publications.{guide_after, publication}
use Rattle.desk_checkpoint.specs.Items.{filling, refilling}

-- the edits of a service, as of the feed that owns it; caller 0 asks for each step of a checkpoint
abbrev pub service_steps : (ServiceGuide → List Edit) → List FedService → ServiceGuide → List Command
service_steps edits services guide = map (λ (e : Edit). (0, edit (feed_of services guide.service) e)) (edits guide)

-- the edits of each service of a guide, in ascending order of service, and a tick at the guide's moment
abbrev pub guide_steps : (ServiceGuide → List Edit) → Mux → Guide → List Command
guide_steps edits mux guide = flat_map (service_steps edits (fed_services mux)) guide.services ++ (0, Tick guide.moment) ∷ []

-- the latest publication made again, where there is one
abbrev pub publication_steps : Mux → ℕ → Guide → List Command
publication_steps mux count latest = if count == 0 then [] else guide_steps filling mux latest ++ (0, Publish) ∷ []

-- The steps of a checkpoint, from how many publications there are, the latest of them, and the draft: what a publish made now
-- would freeze.
abbrev pub steps_of : Mux → ℕ → Guide → Guide → List Command
steps_of mux count latest draft = publication_steps mux count latest ++ guide_steps refilling mux draft

-- the steps of the checkpoint of a journal
abbrev pub checkpoint_steps : Mux → List Entry → List Command
checkpoint_steps mux journal = steps_of mux (publishes journal) (publication mux journal (publishes journal)) (guide_after mux journal)

-- a journal folded: that of the steps of its checkpoint
abbrev pub folded : Mux → List Entry → List Entry
folded mux journal = journal_of mux (checkpoint_steps mux journal)

-- The shift: by how much the numbers of publications are less after a checkpoint, of a journal with so many publications. It is one
-- less, since the latest is made again, and 0 where there is none.
abbrev pub shift_of : ℕ → ℕ
shift_of count = count - 1
