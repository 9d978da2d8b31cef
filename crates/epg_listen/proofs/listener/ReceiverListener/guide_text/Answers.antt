use Rattle.std.proofs.Common.{[], ◌≡◌, subst}
use Rattle.std.specs.Prelude.{IfOk}
use Rattle.sub_collect.specs.Marks.{all_took}
use Rattle.guide_receiver.specs.Dones.{counted_heard}
use Rattle.guide_screen.specs.View.{View}
use Rattle.guide_receiver.proofs.Over.{view-free}
use Rattle.command_words.specs.Commands.{options_said}
use Rattle.epg_listen.specs.Lines.{guide_shown}
use Rattle.epg_listen.proofs.listener.ReceiverListener.guide_text.Goals as goal

pub returns : goal.returns
returns c = λ h stands.
    let taken = all_took (counted_heard h.past) in
    subst (λ (V : View). IfOk c.guide_lines.result (λ text. text.items ≡ guide_shown (options_said c.args.words) V taken)) (view-free h.past)
    (c.guide_lines.ensures [] h.past taken stands.1)
