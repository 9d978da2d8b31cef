use Rattle.publication_rows.specs.Books.{KeepsBook}
use Rattle.publication_rows.proofs.guides.do_edits.Given as goal

-- the book stands for edits of its services
abbrev pub invariant-edits : goal.invariant-edits
invariant-edits l = record { keeps : KeepsBook l.initial.book l.book }
