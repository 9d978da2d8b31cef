use Rattle.std.proofs.Common.{◌≡◌, ◌∙◌, ap, refl, sym, ℕ, List, Bor, Some, map}
use Rattle.std.specs.Prelude.{codes, is_some, option_map}
use Rattle.clap.specs.Matches.{matched_of, raw_values}
use Rattle.command_words.specs.Matches.{values_or_none}
use Rattle.clap.specs.Words.{found_of}
use Rattle.input_lines.specs.Numbers.{number_in}
use Rattle.command_words.specs.Commands.{texts}
use Rattle.command_words.proofs.Getting.{all_read, got, mapped, said, views_got}
use Rattle.command_words.proofs.matches.live_words.Goals as goal

pub unwrap-cycles-requires : goal.unwrap-cycles-requires
unwrap-cycles-requires c =
    let s = said (found_of c.in_ok-matches.matches) (texts c.args.words.now) c.requires c.in_ok-matches.ensures in
    mapped (λ (b : Bor (List ℕ)). b.now) c.get_str.result s.cycles_text (c.get_str.ensures ∙ s.cycles_are)

pub unwrap-join-requires : goal.unwrap-join-requires
unwrap-join-requires c =
    let s = said (found_of c.in_ok-matches.matches) (texts c.args.words.now) c.requires c.in_ok-matches.ensures in
    mapped (λ (b : Bor (List ℕ)). b.now) c.get_str-2.result s.join_text (c.get_str-2.ensures ∙ s.join_is)

pub unwrap-requires : goal.unwrap-requires
unwrap-requires c =
    let s = said (found_of c.in_ok-matches.matches) (texts c.args.words.now) c.requires c.in_ok-matches.ensures in
    mapped (λ (b : Bor (List (Bor (List ℕ)))). map (λ (p : Bor (List ℕ)). p.now) b.now) c.get_strs.result s.feeds (c.get_strs.ensures ∙ s.feeds_are)

pub unwrap-requires-2 : goal.unwrap-requires-2
unwrap-requires-2 c =
    let s = said (found_of c.in_ok-matches.matches) (texts c.args.words.now) c.requires c.in_ok-matches.ensures in
    let text = got (λ (b : Bor (List ℕ)). b.now) c.get_str.result c.unwrap-cycles.result s.cycles_text (c.get_str.ensures ∙ s.cycles_are) c.unwrap-cycles.ensures in
    ap is_some (c.number.ensures.value ∙ ap (number_in 1 1000) (sym text) ∙ s.cycles_read)

pub unwrap-requires-3 : goal.unwrap-requires-3
unwrap-requires-3 c =
    let s = said (found_of c.in_ok-matches.matches) (texts c.args.words.now) c.requires c.in_ok-matches.ensures in
    let text = got (λ (b : Bor (List ℕ)). b.now) c.get_str-2.result c.unwrap-join.result s.join_text (c.get_str-2.ensures ∙ s.join_is) c.unwrap-join.ensures in
    ap is_some (c.number-2.ensures.value ∙ ap (number_in 0 999999999) (sym text) ∙ s.join_read)

pub returns : goal.returns
returns c =
    let s = said (found_of c.in_ok-matches.matches) (texts c.args.words.now) c.requires c.in_ok-matches.ensures in
    let now = λ (b : Bor (List ℕ)). b.now in
    let cycles_text = got now c.get_str.result c.unwrap-cycles.result s.cycles_text (c.get_str.ensures ∙ s.cycles_are) c.unwrap-cycles.ensures in
    let join_text = got now c.get_str-2.result c.unwrap-join.result s.join_text (c.get_str-2.ensures ∙ s.join_is) c.unwrap-join.ensures in
    let cycles_are : Some s.cycles ≡ Some c.unwrap-2.result = sym (c.number.ensures.value ∙ ap (number_in 1 1000) (sym cycles_text) ∙ s.cycles_read) ∙ c.unwrap-2.ensures in
    let join_is : Some s.join ≡ Some c.unwrap-3.result = sym (c.number-2.ensures.value ∙ ap (number_in 0 999999999) (sym join_text) ∙ s.join_read) ∙ c.unwrap-3.ensures in
    let feeds : s.feeds ≡ texts c.in_ok-copies.field-0.items =
    got (λ (b : Bor (List (Bor (List ℕ)))). map now b.now) c.get_strs.result c.unwrap.result s.feeds (c.get_strs.ensures ∙ s.feeds_are) c.unwrap.ensures ∙ sym c.in_ok-copies.ensures in
    let cycles : s.cycles ≡ c.from.result = (let same : s.cycles ≡ c.unwrap-2.result = cc cycles_are in same) ∙ sym c.from.ensures in
    let join : s.join ≡ c.from-2.result = (let same : s.join ≡ c.unwrap-3.result = cc join_is in same) ∙ sym c.from-2.ensures in
    let views : s.views ≡ c.in_ok-views.field-0 =
    sym (all_read (number_in 0 65535) (values_or_none (option_map raw_values (matched_of (found_of c.in_ok-matches.matches) (codes "view")))) s.views s.views_read)
    ∙ sym (views_got (number_in 0 65535) (λ (b : Bor (List (Bor (List ℕ)))). map now b.now) c.get_strs-2.result (option_map raw_values (matched_of (found_of c.in_ok-matches.matches) (codes "view"))) c.in_ok-views.field-0
    c.get_strs-2.ensures c.in_ok-views.ensures.some c.in_ok-views.ensures.none) in
    s.line_is ∙ rw (feeds, cycles, join, views) refl
