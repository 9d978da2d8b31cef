use Rattle.epg_play.proofs.RestFacts.{checkpoint_put}
use Rattle.epg_play.proofs.report.put_checkpoint.Goals as goal

pub returns-clause-text : goal.returns-clause-text
returns-clause-text c =
    checkpoint_put c.write_lean_checkpoint.result c.args.out.now.items c.write_lean_checkpoint.new.out.items c.args.course.now c.requires.ready.lean c.write_lean_checkpoint.ensures.text
