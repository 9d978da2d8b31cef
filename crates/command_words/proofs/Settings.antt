-- Options of `live`, one more, and those that words spell.
use Rattle.std.proofs.Common.{◌≡◌, ◌<◌, ℕ, ◌+◌, true, false, List, [], ◌∷◌, ◌++◌, length, Option, Some, None, refl, sym, ap, ◌∙◌, arith, append-nil, append_assoc, length-append, inl, inr, ap₂}
use Rattle.std.specs.Prelude.{filter_map, min, option_map}
use Rattle.std.specs.List.{list_any, position_or_len, before_first, after_first}
use Rattle.std.proofs.lemmas.List.Elements.{filter_map-append}
use Rattle.std.proofs.lemmas.Bool.{cases_Bool}
use Rattle.command_words.specs.declared.uses.Uses.{Uses}
use Rattle.command_words.specs.declared.setting.LiveOption.{LiveOption}
use Rattle.command_words.specs.declared.setting.LiveOption.TheVariants as option
use Rattle.command_words.specs.Commands.{option_of}
use Rattle.command_words.specs.Counts.{Counted, counted}
use Rattle.command_words.specs.Grammar.{Setting, Feed, Cycles, Join, View, feed_of, cycles_of, join_of, view_of, settings_of, setting_of, setting_in, is_equals, is_dashed, and_setting, front_option}

-- ---- how often each option came

-- one more
more : {X : Type 0} (f : Setting → Option X) (before : List Setting) (setting : Setting) (x : X) (n : ℕ) → n ≡ counted (filter_map f before) → f setting ≡ Some x → min (n + 1) 255 ≡ counted (filter_map f (before ++ setting ∷ []))
more f before setting x n is some =
    let longer : length (filter_map f (before ++ setting ∷ [])) ≡ length (filter_map f before) + 1 = rw (filter_map-append f before (setting ∷ []), some) (length-append (filter_map f before) (x ∷ [])) in
    omega (arith, is, longer)

-- no more
same : {X : Type 0} (f : Setting → Option X) (before : List Setting) (setting : Setting) (n : ℕ) → n ≡ counted (filter_map f before) → f setting ≡ None → n ≡ counted (filter_map f (before ++ setting ∷ []))
same f before setting n is none = is ∙ ap counted (sym (rw (filter_map-append f before (setting ∷ []), none) (append-nil (filter_map f before))))

pub feed_more : (before : List Setting) (setting : Setting) (old : Uses) → Counted before old → option.Feed ≡ option_of setting → Counted (before ++ setting ∷ []) (record old { feeds = min (old.feeds + 1) 255 })
feed_more before (Feed path) old c e = record {
  feeds = more feed_of before (Feed path) path old.feeds c.feeds refl;
  cycles = same cycles_of before (Feed path) old.cycles c.cycles refl;
  joins = same join_of before (Feed path) old.joins c.joins refl;
  views = same view_of before (Feed path) old.views c.views refl;
}
feed_more before (Cycles n) old c e = cc e
feed_more before (Join j) old c e = cc e
feed_more before (View s) old c e = cc e

pub cycles_more : (before : List Setting) (setting : Setting) (old : Uses) → Counted before old → option.Cycles ≡ option_of setting → Counted (before ++ setting ∷ []) (record old { cycles = min (old.cycles + 1) 255 })
cycles_more before (Feed path) old c e = cc e
cycles_more before (Cycles n) old c e = record {
  feeds = same feed_of before (Cycles n) old.feeds c.feeds refl;
  cycles = more cycles_of before (Cycles n) n old.cycles c.cycles refl;
  joins = same join_of before (Cycles n) old.joins c.joins refl;
  views = same view_of before (Cycles n) old.views c.views refl;
}
cycles_more before (Join j) old c e = cc e
cycles_more before (View s) old c e = cc e

pub join_more : (before : List Setting) (setting : Setting) (old : Uses) → Counted before old → option.Join ≡ option_of setting → Counted (before ++ setting ∷ []) (record old { joins = min (old.joins + 1) 255 })
join_more before (Feed path) old c e = cc e
join_more before (Cycles n) old c e = cc e
join_more before (Join j) old c e = record {
  feeds = same feed_of before (Join j) old.feeds c.feeds refl;
  cycles = same cycles_of before (Join j) old.cycles c.cycles refl;
  joins = more join_of before (Join j) j old.joins c.joins refl;
  views = same view_of before (Join j) old.views c.views refl;
}
join_more before (View s) old c e = cc e

pub view_more : (before : List Setting) (setting : Setting) (old : Uses) → Counted before old → option.View ≡ option_of setting → Counted (before ++ setting ∷ []) (record old { views = min (old.views + 1) 255 })
view_more before (Feed path) old c e = cc e
view_more before (Cycles n) old c e = cc e
view_more before (Join j) old c e = cc e
view_more before (View s) old c e = record {
  feeds = same feed_of before (View s) old.feeds c.feeds refl;
  cycles = same cycles_of before (View s) old.cycles c.cycles refl;
  joins = same join_of before (View s) old.joins c.joins refl;
  views = more view_of before (View s) s old.views c.views refl;
}

-- ---- the option at the front of words

pub with_equals : (word : List ℕ) (words : List (List ℕ)) → list_any is_equals word ≡ true → settings_of (word ∷ words) ≡ and_setting (setting_in word) (settings_of words)
with_equals word [] e = rw e refl
with_equals word (next ∷ words) e = rw e refl

pub name_and_value : (word value : List ℕ) (words : List (List ℕ)) → list_any is_equals word ≡ false → is_dashed value ≡ false → settings_of (word ∷ value ∷ words) ≡ and_setting (setting_of word value) (settings_of words)
name_and_value word value words e d = rw (e, d) refl

pub dashed_value : (word value : List ℕ) (words : List (List ℕ)) → list_any is_equals word ≡ false → is_dashed value ≡ true → settings_of (word ∷ value ∷ words) ≡ None
dashed_value word value words e d = rw (e, d) refl

any_found : (xs : List ℕ) → position_or_len is_equals xs < length xs → list_any is_equals xs ≡ true
any_found [] lt = absurd (omega (arith, lt))
any_found (x ∷ xs) lt = elim (cases_Bool (is_equals x)) [
  | inl e ↦ rw e refl
  | inr e ↦ (let shorter : position_or_len is_equals xs < length xs = omega (arith, rw e at lt) in rw e (any_found xs shorter))
]

none_found : (xs : List ℕ) → position_or_len is_equals xs ≡ length xs → list_any is_equals xs ≡ false
none_found [] is = refl
none_found (x ∷ xs) is = elim (cases_Bool (is_equals x)) [
  | inl e ↦ absurd (omega (arith, rw e at is))
  | inr e ↦ (let rest : position_or_len is_equals xs ≡ length xs = omega (arith, rw e at is) in rw e (none_found xs rest))
]

-- an option in one word
pub in_one : (word name value : List ℕ) (words : List (List ℕ)) → name ≡ before_first is_equals word → value ≡ after_first is_equals word → position_or_len is_equals word < length word
    → settings_of (word ∷ words) ≡ and_setting (setting_of name value) (settings_of words)
in_one word name value words n v found = with_equals word words (any_found word found) ∙ ap (λ (a : List ℕ). and_setting (setting_of a (after_first is_equals word)) (settings_of words)) (sym n) ∙ ap (λ (b : List ℕ). and_setting (setting_of name b) (settings_of words)) (sym v)

-- an option in two
pub in_two : (word value : List ℕ) (words : List (List ℕ)) → position_or_len is_equals word ≡ length word → is_dashed value ≡ false → settings_of (word ∷ value ∷ words) ≡ and_setting (setting_of word value) (settings_of words)
in_two word value words none d = name_and_value word value words (none_found word none) d

pub in_none : (word value : List ℕ) (words : List (List ℕ)) → position_or_len is_equals word ≡ length word → is_dashed value ≡ true → settings_of (word ∷ value ∷ words) ≡ None
in_none word value words none d = dashed_value word value words (none_found word none) d

pub in_alone : (word : List ℕ) → position_or_len is_equals word ≡ length word → settings_of (word ∷ []) ≡ None
in_alone word none = rw (none_found word none) refl

-- the same, apart from what the option is
front_with_equals : (word : List ℕ) (words : List (List ℕ)) → list_any is_equals word ≡ true → front_option (word ∷ words) ≡ Some (before_first is_equals word, after_first is_equals word, words)
front_with_equals word [] e = rw e refl
front_with_equals word (next ∷ words) e = rw e refl

front_name_and_value : (word value : List ℕ) (words : List (List ℕ)) → list_any is_equals word ≡ false → is_dashed value ≡ false → front_option (word ∷ value ∷ words) ≡ Some (word, value, words)
front_name_and_value word value words e d = rw (e, d) refl

front_dashed : (word value : List ℕ) (words : List (List ℕ)) → list_any is_equals word ≡ false → is_dashed value ≡ true → front_option (word ∷ value ∷ words) ≡ None
front_dashed word value words e d = rw (e, d) refl

pub front_in_one : (word name value : List ℕ) (words : List (List ℕ)) → name ≡ before_first is_equals word → value ≡ after_first is_equals word → position_or_len is_equals word < length word
    → front_option (word ∷ words) ≡ Some (name, value, words)
front_in_one word name value words n v found = front_with_equals word words (any_found word found) ∙ ap₂ (λ (a b : List ℕ). let q : List ℕ × List ℕ × List (List ℕ) = (a, b, words) in Some q) (sym n) (sym v)

pub front_in_two : (word value : List ℕ) (words : List (List ℕ)) → position_or_len is_equals word ≡ length word → is_dashed value ≡ false → front_option (word ∷ value ∷ words) ≡ Some (word, value, words)
front_in_two word value words none d = front_name_and_value word value words (none_found word none) d

pub front_in_none : (word value : List ℕ) (words : List (List ℕ)) → position_or_len is_equals word ≡ length word → is_dashed value ≡ true → front_option (word ∷ value ∷ words) ≡ None
front_in_none word value words none d = front_dashed word value words (none_found word none) d

pub front_alone : (word : List ℕ) (words : List (List ℕ)) → position_or_len is_equals word ≡ length word → length words ≡ 0 → front_option (word ∷ words) ≡ None
front_alone word [] none no_more = rw (none_found word none) refl
front_alone word (next ∷ words) none no_more = absurd (omega (arith, no_more))

-- ---- options, one after another

-- The words began with these options, and the others are those of the rest.
pub record Along (words rest : List (List ℕ)) (before : List Setting) : Type 0 where
  pub reads : settings_of words ≡ option_map (λ l. before ++ l) (settings_of rest)

map_same : (o : Option (List Setting)) → o ≡ option_map (λ (l : List Setting). l) o
map_same None = refl
map_same (Some l) = refl

pub along_none : (words : List (List ℕ)) → Along words words []
along_none words = record { reads = map_same (settings_of words) }

push_on : (before : List Setting) (s : Setting) (o : Option (List Setting)) → option_map (λ (l : List Setting). before ++ l) (option_map (λ (l : List Setting). s ∷ l) o) ≡ option_map (λ (l : List Setting). (before ++ s ∷ []) ++ l) o
push_on before s None = refl
push_on before s (Some l) = ap Some (sym (append_assoc before (s ∷ []) l))

pub along_more : (words rest behind : List (List ℕ)) (before : List Setting) (found : Option Setting) (s : Setting) → Along words rest before → settings_of rest ≡ and_setting found (settings_of behind) → found ≡ Some s
    → Along words behind (before ++ s ∷ [])
along_more words rest behind before found s a first some = record {
  reads = a.reads ∙ ap (option_map (λ (l : List Setting). before ++ l)) (first ∙ ap (λ o. and_setting o (settings_of behind)) some) ∙ push_on before s (settings_of behind);
}

-- Of these words the rest is left, and these uses are those of the options before it.
pub record Reads (words rest : List (List ℕ)) (uses : Uses) : Type 0 where
  pub before : List Setting
  pub along : Along words rest before
  pub counts : Counted before uses

pub one_read : (words rest behind : List (List ℕ)) (found : Option Setting) (old : Uses) (o : LiveOption) (new : Uses) → Reads words rest old → settings_of rest ≡ and_setting found (settings_of behind) → Some o ≡ option_map option_of found
    → ((before : List Setting) (setting : Setting) → Counted before old → o ≡ option_of setting → Counted (before ++ setting ∷ []) new) → Reads words behind new
one_read words rest behind None old o new r first e add = cc e
one_read words rest behind (Some setting) old o new r first e add = record {
  before = r.before ++ setting ∷ [];
  along = along_more words rest behind r.before (Some setting) setting r.along first refl;
  counts = add r.before setting r.counts (let is : o ≡ option_of setting = cc e in is);
}
