use Rattle.std.proofs.Common.{◌≡◌, List, ℕ, false, arith, sym, ap, ap₂, ◌∙◌, ◌∷◌}
use Rattle.std.specs.Prelude.{Some, option_map, string_bytes}
use Rattle.std.proofs.lemmas.List.{length-map}
use Rattle.std.proofs.lemmas.Str.Pattern.{split_once_first}
use Rattle.command_words.specs.Commands.{texts}
use Rattle.command_words.specs.Grammar.{front_option, settings_of, setting_of, and_setting, is_dashed}
use Rattle.command_words.proofs.Settings.{in_one, in_two, in_none, front_in_one, front_in_two, front_in_none, front_alone}
use Rattle.command_words.proofs.setting.first_option.Goals as goal

pub returns-then-is_dashed-clause-none : goal.returns-then-is_dashed-clause-none
returns-then-is_dashed-clause-none c =
    let none = rw c.in-None.is at (split_once_first 61 c.as_str.result.now c.split_once.result c.split_once.ensures.cases (omega arith)) in
    let behind = texts c.in_ok-value-in-None.behind.now in
    let all : texts c.args.words.now ≡ c.as_str.result.now ∷ c.as_str-in-None.result.now ∷ behind =
    ap texts c.in_ok-word.ensures.cases.0 ∙ ap (λ l. string_bytes c.in_ok-word.word.now ∷ texts l) c.in_ok-value-in-None.ensures.cases.0
    ∙ ap₂ (λ (x y : List ℕ). x ∷ y ∷ behind) (sym c.as_str.ensures.value) (sym c.as_str-in-None.ensures.value) in
    ap settings_of all ∙ in_none c.as_str.result.now c.as_str-in-None.result.now behind none (sym c.is_dashed.ensures ∙ c.if-is_dashed.true)

pub returns-in-Some-clause-some : goal.returns-in-Some-clause-some
returns-in-Some-clause-some c =
    let found = rw c.in-Some.is at (split_once_first 61 c.as_str.result.now c.split_once.result c.split_once.ensures.cases (omega arith)) in
    let behind = texts c.in_ok-word.behind.now in
    let all : texts c.args.words.now ≡ c.as_str.result.now ∷ behind = ap texts c.in_ok-word.ensures.cases.0 ∙ ap (λ (x : List ℕ). x ∷ behind) (sym c.as_str.ensures.value) in
    ap settings_of all ∙ in_one c.as_str.result.now c.in-Some.name.now c.in-Some.value.now behind found.1 found.2 found.0

pub returns-else-is_dashed-clause-some : goal.returns-else-is_dashed-clause-some
returns-else-is_dashed-clause-some c =
    let none = rw c.in-None.is at (split_once_first 61 c.as_str.result.now c.split_once.result c.split_once.ensures.cases (omega arith)) in
    let behind = texts c.in_ok-value-in-None.behind.now in
    let all : texts c.args.words.now ≡ c.as_str.result.now ∷ c.as_str-in-None-3.result.now ∷ behind =
    ap texts c.in_ok-word.ensures.cases.0 ∙ ap (λ l. string_bytes c.in_ok-word.word.now ∷ texts l) c.in_ok-value-in-None.ensures.cases.0
    ∙ ap₂ (λ (x y : List ℕ). x ∷ y ∷ behind) (sym c.as_str.ensures.value) (sym c.as_str-in-None-3.ensures.value) in
    let apart : is_dashed c.as_str-in-None-3.result.now ≡ false = ap is_dashed (c.as_str-in-None-3.ensures.value ∙ sym c.as_str-in-None.ensures.value) ∙ sym c.is_dashed.ensures ∙ c.if-is_dashed.false in
    ap settings_of all ∙ in_two c.as_str.result.now c.as_str-in-None-3.result.now behind none apart
    ∙ ap (λ (w : List ℕ). and_setting (setting_of w c.as_str-in-None-3.result.now) (settings_of behind)) (c.as_str.ensures.value ∙ sym c.as_str-in-None-2.ensures.value)

pub returns-in_err-value-in-None-clause-front : goal.returns-in_err-value-in-None-clause-front
returns-in_err-value-in-None-clause-front c =
    let none = rw c.in-None.is at (split_once_first 61 c.as_str.result.now c.split_once.result c.split_once.ensures.cases (omega arith)) in
    let behind = texts c.in_ok-word.behind.now in
    let all : texts c.args.words.now ≡ c.as_str.result.now ∷ behind = ap texts c.in_ok-word.ensures.cases.0 ∙ ap (λ (x : List ℕ). x ∷ behind) (sym c.as_str.ensures.value) in
    ap (option_map _) c.from_residual-in_err-value-in-None.ensures ∙ sym (ap front_option all ∙ front_alone c.as_str.result.now behind none (omega (arith, length-map c.in_ok-word.behind.now string_bytes, c.in_err-value-in-None.ensures.cases)))

pub returns-then-is_dashed-clause-front : goal.returns-then-is_dashed-clause-front
returns-then-is_dashed-clause-front c =
    let none = rw c.in-None.is at (split_once_first 61 c.as_str.result.now c.split_once.result c.split_once.ensures.cases (omega arith)) in
    let behind = texts c.in_ok-value-in-None.behind.now in
    let all : texts c.args.words.now ≡ c.as_str.result.now ∷ c.as_str-in-None.result.now ∷ behind =
    ap texts c.in_ok-word.ensures.cases.0 ∙ ap (λ l. string_bytes c.in_ok-word.word.now ∷ texts l) c.in_ok-value-in-None.ensures.cases.0
    ∙ ap₂ (λ (x y : List ℕ). x ∷ y ∷ behind) (sym c.as_str.ensures.value) (sym c.as_str-in-None.ensures.value) in
    sym (ap front_option all ∙ front_in_none c.as_str.result.now c.as_str-in-None.result.now behind none (sym c.is_dashed.ensures ∙ c.if-is_dashed.true))

pub returns-in-Some-clause-front : goal.returns-in-Some-clause-front
returns-in-Some-clause-front c =
    let found = rw c.in-Some.is at (split_once_first 61 c.as_str.result.now c.split_once.result c.split_once.ensures.cases (omega arith)) in
    let behind = texts c.in_ok-word.behind.now in
    let all : texts c.args.words.now ≡ c.as_str.result.now ∷ behind = ap texts c.in_ok-word.ensures.cases.0 ∙ ap (λ (x : List ℕ). x ∷ behind) (sym c.as_str.ensures.value) in
    sym (ap front_option all ∙ front_in_one c.as_str.result.now c.in-Some.name.now c.in-Some.value.now behind found.1 found.2 found.0)

pub returns-else-is_dashed-clause-front : goal.returns-else-is_dashed-clause-front
returns-else-is_dashed-clause-front c =
    let none = rw c.in-None.is at (split_once_first 61 c.as_str.result.now c.split_once.result c.split_once.ensures.cases (omega arith)) in
    let behind = texts c.in_ok-value-in-None.behind.now in
    let all : texts c.args.words.now ≡ c.as_str.result.now ∷ c.as_str-in-None-3.result.now ∷ behind =
    ap texts c.in_ok-word.ensures.cases.0 ∙ ap (λ l. string_bytes c.in_ok-word.word.now ∷ texts l) c.in_ok-value-in-None.ensures.cases.0
    ∙ ap₂ (λ (x y : List ℕ). x ∷ y ∷ behind) (sym c.as_str.ensures.value) (sym c.as_str-in-None-3.ensures.value) in
    let apart : is_dashed c.as_str-in-None-3.result.now ≡ false = ap is_dashed (c.as_str-in-None-3.ensures.value ∙ sym c.as_str-in-None.ensures.value) ∙ sym c.is_dashed.ensures ∙ c.if-is_dashed.false in
    sym (ap front_option all ∙ front_in_two c.as_str.result.now c.as_str-in-None-3.result.now behind none apart
    ∙ ap (λ (w : List ℕ). let q : List ℕ × List ℕ × List (List ℕ) = (w, c.as_str-in-None-3.result.now, behind) in Some q) (c.as_str.ensures.value ∙ sym c.as_str-in-None-2.ensures.value))
