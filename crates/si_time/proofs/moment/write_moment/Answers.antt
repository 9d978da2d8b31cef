use Rattle.std.proofs.Common.{◌/◌, arith}
use Rattle.si_time.proofs.AnnexC.{annex_c-is}
use Rattle.si_time.proofs.DateFacts.{civil_date-is_only}
use Rattle.si_time.specs.Moments.{moment_text}
use Rattle.si_time.proofs.moment.write_moment.Goals as goal

pub returns-clause-text : goal.returns-clause-text
unfolding moment_text
returns-clause-text c = rw (← c.date_of-year.ensures.value, c.two_digits.ensures, c.two_digits-2.ensures, c.two_digits-3.ensures, c.two_digits-4.ensures, c.two_digits-5.ensures, c.two_digits-6.ensures, c.two_digits-7.ensures)

pub returns-clause-date : goal.returns-clause-date
returns-clause-date c = civil_date-is_only (c.args.at.0 / 86400) (omega arith)

pub returns-clause-annex_c : goal.returns-clause-annex_c
returns-clause-annex_c c = annex_c-is (c.args.at.0 / 86400) (omega arith)
