-- What the book of a row stays.
use Rattle.std.specs.Prelude.{List}
use Rattle.mux_model.specs.Fed.{FedService}
use Rattle.journal_model.specs.declared.edit.Edit.{Edit}
use Rattle.guide_limits.specs.KeptService.{KeptService}
use Rattle.feed_book.specs.Books.{IsBookAfter}

-- a book that stands for edits of services stands for more edits of them
abbrev pub KeepsBook : List KeptService → List KeptService → Type 0
KeepsBook old new = (services : List FedService) (past : List Edit) → IsBookAfter services past old → (more : List Edit) × IsBookAfter services more new
