use Rattle.journal_air.proofs.Whole.{publication_is_shown}
use Rattle.journal_air.proofs.publication_screen_laws.publications_are_shown.Goals as goal

pub returns : goal.returns
returns c = publication_is_shown c.written_networks_read_back.ensures.nit c.written_networks_read_back.ensures.sdt
