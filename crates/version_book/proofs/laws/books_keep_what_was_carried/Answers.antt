use Rattle.version_book.proofs.KeptEntries.{kept_was_carried}
use Rattle.version_book.proofs.laws.books_keep_what_was_carried.Goals as goal

pub returns : goal.returns
returns c = kept_was_carried
