use Rattle.version_book.proofs.KeptEntries.{kept_once}
use Rattle.version_book.proofs.laws.books_keep_the_same.Goals as goal

pub returns : goal.returns
returns c = kept_once
