use Rattle.std.proofs.Common.{◌≡◌, ◌∙◌, ap, sym, subst, false, Some}
use Rattle.std.specs.Str.{IsUtf8}
use Rattle.guide_model.specs.Coding.{all_plain}
use Rattle.guide_model.specs.Control.{has_control}
use Rattle.input_lines.specs.Fields.{line_fields}
use Rattle.input_lines.proofs.CleanLines.{line_record_of, no_line_record}
use Rattle.input_lines.proofs.records.fields.Goals as goal

pub returns-in_default-clause-value : goal.returns-in_default-clause-value
returns-in_default-clause-value c = sym (no_line_record c.args.line.now (λ h. c.in_default.ensures.cases.0 h.kept.utf8))

pub is_refused-requires : goal.is_refused-requires
is_refused-requires c known = ap all_plain c.in-Ok.ensures.cases.0 ∙ sym c.is_all_plain-is_plain.ensures ∙ known

pub kept_fields-requires-clause-kept : goal.kept_fields-requires-clause-kept
kept_fields-requires-clause-kept c =
    let text = c.in-Ok.ensures.cases in
    record { utf8 = subst IsUtf8 (sym text.0) text.1; clean = sym c.is_refused.ensures ∙ c.if-is_refused.false }

pub kept_fields-requires-clause-plain : goal.kept_fields-requires-clause-plain
kept_fields-requires-clause-plain c known = ap all_plain c.in-Ok.ensures.cases.0 ∙ sym c.is_all_plain-is_plain.ensures ∙ known

pub returns-clause-value : goal.returns-clause-value
returns-clause-value c =
    let text = c.in-Ok.ensures.cases in
    let clean : has_control c.args.line.now ≡ false = sym (ap has_control text.0) ∙ sym c.is_refused.ensures ∙ c.if-is_refused.false in
    ap Some c.in_ok-kept_fields.ensures ∙ ap (λ l. Some (line_fields l)) text.0
    ∙ sym (line_record_of c.args.line.now (record { short = c.if-line-gt-LONGEST_LINE.false; kept = record { utf8 = text.1; clean = clean } }))
