-- A book goes on standing for edits of its services.
use Rattle.std.proofs.Common.{List}
use Rattle.guide_limits.specs.KeptService.{KeptService}
use Rattle.publication_rows.specs.Books.{KeepsBook}

pub keeps_same : (book : List KeptService) → KeepsBook book book
keeps_same book services past stands = (past, stands)

pub keeps_more : (old now new : List KeptService) → KeepsBook old now → KeepsBook now new → KeepsBook old new
keeps_more old now new first then services past stands = (let more = first services past stands in then services more.0 more.1)
