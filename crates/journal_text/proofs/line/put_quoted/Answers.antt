use Rattle.std.proofs.Common.{◌∙◌, ◌++◌, ◌∷◌, [], ℕ, List, ap, sym, take, get_or, append_assoc}
use Rattle.std.proofs.lemmas.List.{take_more}
use Rattle.csv.specs.Writing.{default_writer, escaped}
use Rattle.journal_text.proofs.Quoting.{escaped_more, escaped_none}
use Rattle.journal_text.proofs.line.put_quoted.Goals as goal

pub loop-b-init : goal.loop-b-init
loop-b-init c = c.in_ok-push.ensures.items ∙ ap (λ (l : List ℕ). c.args.out.now.items ++ 34 ∷ l) (sym escaped_none)

pub loop-b-preserved : goal.loop-b-preserved
loop-b-preserved c =
    let out = c.args.out.now.items in
    let bytes = c.args.bytes.now in
    let i = c.loop-b.b-index in
    let b = get_or bytes i 0 in
    c.in_ok-put_escaped.ensures ∙ ap (λ (l : List ℕ). l ++ escaped default_writer (b ∷ [])) c.loop-b.invariant
    ∙ append_assoc out (34 ∷ escaped default_writer (take i bytes)) (escaped default_writer (b ∷ []))
    ∙ ap (λ (l : List ℕ). out ++ 34 ∷ l) (sym (escaped_more (take i bytes) b) ∙ ap (escaped default_writer) (sym (take_more bytes i 0 c.loop-b-test.true)))
