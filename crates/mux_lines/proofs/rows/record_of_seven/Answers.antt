use Rattle.std.proofs.Common.{◌≡◌, ◌∙◌, subst, sym, ap}
use Rattle.std.specs.Prelude.{IfOk, Option, codes}
use Rattle.input_lines.specs.Numbers.{is_word}
use Rattle.mux_lines.specs.declared.record.RecordFound.{RecordFound}
use Rattle.mux_lines.specs.declared.rows.RemoteNumbers.{RemoteNumbers}
use Rattle.mux_lines.specs.Fields.{remote_of}
use Rattle.mux_lines.proofs.EightFields.{of_eight, third_word}
use Rattle.mux_lines.proofs.rows.record_of_seven.Goals as goal

pub returns-then-is_word-3 : goal.returns-then-is_word-3
returns-then-is_word-3 c =
    subst (λ (o : RecordFound). IfOk c.remote.result (λ found. found ≡ o))
    (ap (λ (n : Option RemoteNumbers). remote_of n c.f-item.result c.g-item.result) c.remote_numbers.ensures
    ∙ third_word c.word-item.result c.a-item.result c.b-item.result c.c-item.result c.d-item.result c.e-item.result c.f-item.result c.g-item.result
    (sym (c.is_word.ensures ∙ ap (is_word (codes "service")) c.as_str.ensures.value) ∙ c.if-is_word.false) (sym (c.is_word-2.ensures ∙ ap (is_word (codes "other")) c.as_str-2.ensures.value) ∙ c.if-is_word-2.false) (sym (c.is_word-3.ensures ∙ ap (is_word (codes "remote")) c.as_str-3.ensures.value) ∙ c.if-is_word-3.true)
    ∙ of_eight c.args.fields.now _ _ _ _ _ _ _ _ c.in-len8.len_at_least c.in-len8.len_below c.word-item.is c.a-item.is c.b-item.is c.c-item.is c.d-item.is c.e-item.is c.f-item.is c.g-item.is)
    c.remote.ensures
