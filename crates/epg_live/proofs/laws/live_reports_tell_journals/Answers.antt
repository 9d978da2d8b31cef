use Rattle.epg_live.proofs.ReportFacts.{live_reports_tell_journals}
use Rattle.epg_live.proofs.laws.live_reports_tell_journals.Goals as goal

pub returns : goal.returns
returns c = live_reports_tell_journals
