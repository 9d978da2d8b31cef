-- A worked row: the text of the first example's journal.
use Rattle.std.specs.Prelude.{◌≡◌, refl, codes}
use Rattle.std.specs.Fmt.{digits}
use Rattle.csv.specs.Writing.{fields_text}
use Rattle.si_time.specs.Moments.{moments_compute}
use Rattle.journal_model.specs.Rows.{row_journal}
use Rattle.journal_text.specs.Entries.{journal_text}

row_text : journal_text row_journal ≡ codes "0,feed,1,name,101,Acme,News\n=,done\n0,publish\n=,published,1\n0,swap\n=,swapped,1,1970-01-01T00:00:00Z\n"
unfolding digits moments_compute fields_text
row_text = refl
