use Rattle.std.proofs.Common.{◌≡◌, ◌∙◌, ap, sym, subst, ℕ, List}
use Rattle.std.specs.Prelude.{IfOk}
use Rattle.std.specs.List.{AllByRecursion}
use Rattle.guide_model.specs.Decoding.{IsKept}
use Rattle.input_lines.specs.Fields.{line_fields}
use Rattle.input_lines.proofs.CleanLines.{line_kept}
use Rattle.input_lines.proofs.Unquoted.{bare_fields}
use Rattle.input_lines.proofs.PlainParts.{plain_parts}
use Rattle.input_lines.proofs.records.kept_fields.Goals as goal

pub parts-requires-clause-kept : goal.parts-requires-clause-kept
parts-requires-clause-kept c =
    let bare = bare_fields c.args.line.now c.requires.kept (cc) in
    subst (AllByRecursion IsKept) bare (line_kept c.args.line.now c.requires.kept)

pub parts-requires-clause-plain : goal.parts-requires-clause-plain
parts-requires-clause-plain c known = plain_parts c.args.line.now (c.requires.plain known)

pub returns-then-is_bare : goal.returns-then-is_bare
returns-then-is_bare c =
    let bare = bare_fields c.args.line.now c.requires.kept (cc) in
    subst (λ (l : List (List ℕ)). IfOk c.parts.result (λ fields. fields ≡ l)) (sym bare) c.parts.ensures

pub texts-requires : goal.texts-requires
texts-requires c =
    let row = c.in_ok-row.ensures ∙ ap line_fields c.as_bytes-2.ensures.value in
    subst (AllByRecursion IsKept) (sym row) (line_kept c.args.line.now c.requires.kept)
