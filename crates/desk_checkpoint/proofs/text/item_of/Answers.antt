use Rattle.desk_checkpoint.proofs.TextFacts.{small_kept}
use Rattle.desk_checkpoint.proofs.text.item_of.Goals as goal

pub code_text-requires : goal.code_text-requires
code_text-requires c = small_kept c.args.event.now.language c.requires.language.1
