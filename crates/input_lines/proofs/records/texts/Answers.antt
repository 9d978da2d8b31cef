use Rattle.std.proofs.Common.{arith, ◌≡◌, ◌∙◌, ◌+◌, ◌∷◌, [], ◌++◌, ap, sym, suc, take, Some, None, option_map, ℕ, List, Bor}
use Rattle.csv.specs.Records.{fields_of, field_at}
use Rattle.csv.proofs.RecordFacts.{field-there}
use Rattle.input_lines.proofs.CleanLines.{kept_at, take_more}
use Rattle.input_lines.proofs.records.texts.Goals as goal

pub unreachable-requires : goal.unreachable-requires
unreachable-requires c =
    let at : field_at (fields_of c.args.row.now) c.fields.i ≡ None = sym c.get.ensures.value ∙ ap (option_map (λ (s : Bor (List ℕ)). s.now)) c.in_default.is in
    field-there (fields_of c.args.row.now) c.fields.i (omega (arith, c.fields-test.true, c.len-i-end.ensures)) at

pub of_kept-requires : goal.of_kept-requires
of_kept-requires c =
    let at : field_at (fields_of c.args.row.now) c.fields.i ≡ Some c.in-Some.field.now = sym c.get.ensures.value ∙ ap (option_map (λ (s : Bor (List ℕ)). s.now)) c.in-Some.is in
    (kept_at (fields_of c.args.row.now) c.fields.i c.in-Some.field.now c.requires at).clean

pub fields-preserved : goal.fields-preserved
fields-preserved c =
    let at : field_at (fields_of c.args.row.now) c.fields.i ≡ Some c.in-Some.field.now = sym c.get.ensures.value ∙ ap (option_map (λ (s : Bor (List ℕ)). s.now)) c.in-Some.is in
    let more = take_more (fields_of c.args.row.now) c.fields.i c.in-Some.field.now at in
    let next : suc c.fields.i ≡ c.fields.i + 1 = omega arith in
    let items = c.in_ok-push.ensures.ok in
    items ∙ ap (λ (l : List (List ℕ)). l ++ c.in_ok-of_kept.field-0 ∷ []) c.fields.invariant ∙ ap (λ (t : List ℕ). take c.fields.i (fields_of c.args.row.now) ++ t ∷ []) c.in_ok-of_kept.ensures ∙ sym more
    ∙ ap (λ (k : ℕ). take k (fields_of c.args.row.now)) next
