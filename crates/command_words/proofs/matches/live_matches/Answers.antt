use Rattle.std.proofs.Common.{◌∙◌, ap}
use Rattle.clap.specs.Simple.{App, is_simple, matches_of}
use Rattle.clap.specs.Takes.{takes}
use Rattle.clap.specs.Words.{found_of}
use Rattle.command_words.specs.Commands.{texts}
use Rattle.command_words.proofs.Taking.{says, simple, taken}
use Rattle.command_words.proofs.matches.live_matches.Goals as goal

-- clap takes the words, so that only memory was wanting
pub unreachable-requires : goal.unreachable-requires
unreachable-requires c =
    let words = texts c.args.words.now in
    c.in_default.not-OutOfMemory (c.kind.ensures ∙ c.in-Err.ensures.passes (ap (λ (a : App). takes a words) c.in_ok-live_command.ensures ∙ taken words c.requires))

pub returns-in-Ok : goal.returns-in-Ok
returns-in-Ok c = λ line is.
    let words = texts c.args.words.now in
    let rows = (c.in-Ok.ensures.matches (ap is_simple c.in_ok-live_command.ensures ∙ simple)).0 in
    says words line (found_of c.in-Ok.matches) is (rows ∙ ap (λ (a : App). matches_of a words) c.in_ok-live_command.ensures)
