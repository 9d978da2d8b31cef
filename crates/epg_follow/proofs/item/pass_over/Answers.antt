use Rattle.std.proofs.Common.{rules, ◌≡◌, true, refl}
use Rattle.script_notes.specs.declared.noting.Noting.TheVariants.{Bad}
use Rattle.script_notes.specs.Pieces.{Noted}
use Rattle.epg_follow.proofs.ItemFacts.{bad_adds, noted_did}
use Rattle.epg_follow.proofs.item.pass_over.Goals as goal

pub returns-clause-did : goal.returns-clause-did
returns-clause-did g c = λ journal stands air silent.
    let keeps : c.args.keep ≡ true = search rules in
    noted_did c.args.keep journal c.args.follower.now (Bad c.args.number c.args.why) air _ (Noted c.args.number c.args.why) c.report_comment.result
    (bad_adds c.args.keep c.args.number c.args.why keeps) refl refl stands silent c.report_comment.ensures.writes
