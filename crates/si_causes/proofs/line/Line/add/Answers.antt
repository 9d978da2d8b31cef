use Rattle.std.proofs.Common.{◌++◌, ◌-◌, ◌≤◌, min, take, length, arith, ap, ◌∙◌}
use Rattle.si_causes.proofs.LineFacts.{fill_front}
use Rattle.si_causes.proofs.line.Line.add.Goals as goal

pub returns : goal.returns
returns c =
    let old = c.self.inside.bytes in
    let piece = c.args.piece.now in
    let le : length old.items ≤ 16386 = omega (arith, c.self.invariant.1, old.ok.0) in
    let count = c.min-count.ensures ∙ ap (λ n. min (16386 - n) (length piece)) (c.len.ensures ∙ old.ok.0) in
    let grown = rw c.unwrap.ensures at c.extend_from_slice.ensures.items in
    grown ∙ ap (λ l. old.items ++ l) (c.split_at.ensures.front ∙ ap (λ k. take k piece) count) ∙ fill_front 16386 old.items piece le ∙ ap (λ l. take 16386 (l ++ piece)) c.self.view_is
