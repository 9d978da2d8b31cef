use Rattle.std.proofs.Common.{refl}
use Rattle.si_causes.proofs.FileFacts.{first_file}
use Rattle.si_causes.proofs.files.bytes_at.Goals as goal

pub returns-in-Some : goal.returns-in-Some
returns-in-Some c = rw (first_file c.args.path.now c.args.files.now, ← c.in-Some.ensures, c.deref.ensures.value) refl

pub returns-in-None : goal.returns-in-None
returns-in-None c = rw (first_file c.args.path.now c.args.files.now, ← c.in-None.ensures) refl
