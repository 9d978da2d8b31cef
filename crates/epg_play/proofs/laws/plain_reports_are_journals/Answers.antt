use Rattle.epg_play.proofs.ReportFacts.{plain_report}
use Rattle.epg_play.proofs.laws.plain_reports_are_journals.Goals as goal

pub returns : goal.returns
returns c = plain_report
