use Rattle.table_bodies.proofs.Programs.{whole_entries}
use Rattle.table_bodies.proofs.pat.is_pat_body.Goals as goal

pub returns : goal.returns
returns c = whole_entries c.args.body.now
