use Rattle.epg_play.proofs.ReportFacts.{reports_tell_journals}
use Rattle.epg_play.proofs.laws.reports_tell_journals.Goals as goal

pub returns : goal.returns
returns c = reports_tell_journals
