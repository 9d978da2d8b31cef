use Rattle.std.proofs.Common.{◌∙◌, sym, ap, unsigned_abs}
use Rattle.jiff_core.proofs.DateLemmas.{civil}
use Rattle.si_time.proofs.DateFacts.{civil_date-since_min, same_year}
use Rattle.si_time.proofs.dates.date_of.Goals as goal

pub returns-clause-value : goal.returns-clause-value
returns-clause-value c =
    let date = c.from_days_since_min-date.result in
    let year = c.unsigned_abs.ensures.value ∙ ap unsigned_abs (same_year date.year (civil date).0) in
    sym (civil_date-since_min date.year date.month date.day c.args.day c.unsigned_abs.result (civil date) c.from_days_since_min-date.ensures c.ranges.day.fits year)
