use Rattle.std.proofs.Common.{rules, ◌≡◌, true, refl}
use Rattle.script_notes.specs.declared.noting.Noting.TheVariants.{Item}
use Rattle.script_lines.specs.declared.script.ScriptItem.TheVariants.{Kept}
use Rattle.script_notes.specs.declared.why.Why.TheVariants.{Disagrees as Differs}
use Rattle.script_notes.specs.Pieces.{Noted}
use Rattle.epg_follow.proofs.ItemFacts.{kept_adds, noted_did}
use Rattle.epg_follow.proofs.item.compare.Goals as goal

pub returns-clause-did : goal.returns-clause-did
returns-clause-did g c = λ journal stands air silent.
    let keeps : c.args.keep ≡ true = search rules in
    noted_did c.args.keep journal c.args.follower.now (Item (Kept c.args.number c.args.kept)) air _ (Noted c.args.number (Differs c.args.kept c.in-Some.found)) c.report_comment.result
    (kept_adds c.args.keep c.args.number c.args.kept c.in-Some.found c.args.follower.now.made (search rules) (search rules) keeps) refl refl stands silent c.report_comment.ensures.writes
