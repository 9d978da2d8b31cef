use Rattle.std.proofs.Common.{◌∙◌, ◌++◌, ◌∷◌, [], ℕ, List, ap, sym, append_assoc}
use Rattle.journal_text.proofs.Quoting.{escaped_quote, escaped_other}
use Rattle.journal_text.proofs.line.put_escaped.Goals.{then-b-eq34+in_ok-push, else-b-eq34}
use Rattle.journal_text.proofs.line.put_escaped.Goals as goal

pub returns : goal.returns
returns c =
    let out = c.args.out.now.items in
    let b = c.args.b in
    elim c.if-b-eq34.branch [
      | then-b-eq34+in_ok-push w ↦
          c.in_ok-push-2.ensures.items ∙ ap (λ (l : List ℕ). l ++ b ∷ []) (ap (λ v. v.items) w.out-is ∙ w.in_ok-push.ensures.items) ∙ append_assoc out (34 ∷ []) (b ∷ [])
          ∙ ap (λ (l : List ℕ). out ++ l) (sym (escaped_quote b w.if-b-eq34.true))
      | else-b-eq34 w ↦
          c.in_ok-push-2.ensures.items ∙ ap (λ (l : List ℕ). l ++ b ∷ []) (ap (λ v. v.items) w.out-is) ∙ ap (λ (l : List ℕ). out ++ l) (sym (escaped_other b w.if-b-eq34.false))
    ]
