-- Two journals that go on alike, but for the numbers of their publications.
use Rattle.std.specs.Prelude.{◌≡◌, ℕ, ◌+◌, Bool, true, false, List}
use Rattle.mux_model.specs.declared.mux.Mux.{Mux}
use Rattle.mux_model.specs.Fed.{fed_services}
use Rattle.guide_limits.specs.Guides.{book_after}
use Rattle.feed_book.specs.Accepted.{is_done}
use Rattle.journal_model.specs.declared.step.Outcome.{Outcome}
use Rattle.journal_model.specs.declared.step.Outcome.TheVariants.{Edited, Ticked, Late, Published, Swapped}
use Rattle.journal_model.specs.declared.step.Entry.{Entry}
use Rattle.desk_core.specs.Journal.{accepted, publishes, moment_of}
use Rattle.desk_core.specs.Publications.{publication}

-- an edit was done, a tick taken, or a publication made
abbrev pub is_taken : Outcome → Bool
is_taken (Edited reply) = is_done reply
is_taken Ticked = true
is_taken (Late now) = false
is_taken (Published n) = true
is_taken (Swapped n at) = false

-- What a desk has after the one journal and after the other is equal: the book, the moment and the latest publication. The
-- first journal has more publications, by the shift.
pub record GoOnAlike (mux : Mux) (shift : ℕ) (journal short : List Entry) : Type 0 where
  pub book : book_after (fed_services mux) (accepted journal) ≡ book_after (fed_services mux) (accepted short)
  pub moment : moment_of mux journal ≡ moment_of mux short
  pub count : publishes journal ≡ shift + publishes short
  pub latest : publication mux journal (publishes journal) ≡ publication mux short (publishes short)
