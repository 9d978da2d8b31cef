-- The limits of what the words of `live` say.
use Rattle.std.proofs.Common.{◌≡◌, ◌≤◌, ℕ, true, false, List, [], ◌∷◌, length, Option, Some, None, refl, subst, arith}
use Rattle.std.specs.Prelude.{Bool, ◌&&◌, nat_le, filter_map, option_map, option_and_then, bytes_eq, codes, string_bytes, if◌then◌else◌}
use Rattle.std.specs.List.{AllByRecursion, list_any, before_first, after_first}
use Rattle.std.proofs.lemmas.Bool.{and_parts}
use Rattle.std.proofs.lemmas.Bool.Decides.{nat_tests}
use Rattle.std.proofs.lemmas.List.{length-map}
use Rattle.input_lines.specs.Numbers.{in_range, is_numeral, number_in, value_from}
use Rattle.command_words.specs.declared.command.LiveWords.{LiveWords}
use Rattle.command_words.specs.Commands.{said_live}
use Rattle.command_words.specs.Grammar.{CommandLine, Play, Listen, Live, Soak, Audit, Setting, Feed, Cycles, Join, View, and_setting, cycles_of, feed_of, join_of, view_of, is_dashed, is_equals, live_of, live_with, path_of, setting_in, setting_in_two, setting_of, settings_of}

-- a number of cycles is at most 1,000
abbrev IsSettingWithin : Setting → Type 0
IsSettingWithin (Feed path) = Unit {0}
IsSettingWithin (Cycles n) = n ≤ 1000
IsSettingWithin (Join j) = Unit {0}
IsSettingWithin (View s) = Unit {0}

abbrev IfSetting : Option Setting → Type 0
IfSetting None = Unit {0}
IfSetting (Some setting) = IsSettingWithin setting

in_range_high : (low high n : ℕ) → in_range low high n ≡ true → n ≤ high
in_range_high low high n e = let b = (and_parts (nat_le low n) (nat_le n high) e).1 in grind (arith, nat_tests)

cycles_if : (n : ℕ) (is : Bool) → (is ≡ true → n ≤ 1000) → IfSetting (option_map Cycles (if is then Some n else None))
cycles_if n true h = h refl
cycles_if n false h = tt

cycles_in : (value : List ℕ) → IfSetting (option_map Cycles (number_in 1 1000 value))
cycles_in value =
    elim (is_numeral value) as (λ is. IfSetting (option_map Cycles (if is then (let n = value_from 0 value in if in_range 1 1000 n then Some n else None) else None))) [
      | true ↦ cycles_if (value_from 0 value) (in_range 1 1000 (value_from 0 value)) (in_range_high 1 1000 (value_from 0 value))
      | false ↦ tt
    ]

path_in : (is : Bool) (value : List ℕ) → IfSetting (if is then None else Some (Feed value))
path_in true value = tt
path_in false value = tt

join_in : (o : Option ℕ) → IfSetting (option_map Join o)
join_in None = tt
join_in (Some j) = tt

view_in : (o : Option ℕ) → IfSetting (option_map View o)
view_in None = tt
view_in (Some s) = tt

by_name : (feed cycles join view : Bool) (a b c d : Option Setting) → IfSetting a → IfSetting b → IfSetting c → IfSetting d
    → IfSetting (if feed then a else if cycles then b else if join then c else if view then d else None)
by_name true cycles join view a b c d p q r s = p
by_name false true join view a b c d p q r s = q
by_name false false true view a b c d p q r s = r
by_name false false false true a b c d p q r s = s
by_name false false false false a b c d p q r s = tt

setting_within : (name value : List ℕ) → IfSetting (setting_of name value)
setting_within name value =
    by_name (bytes_eq name (codes "--feed")) (bytes_eq name (codes "--cycles")) (bytes_eq name (codes "--join")) (bytes_eq name (codes "--view")) (path_of value) (option_map Cycles (number_in 1 1000 value)) (option_map Join (number_in 0 999999999 value)) (option_map View (number_in 0 65535 value))
    (path_in _ value) (cycles_in value) (join_in (number_in 0 999999999 value)) (view_in (number_in 0 65535 value))

two_within : (dashed : Bool) (name value : List ℕ) → IfSetting (if dashed then None else setting_of name value)
two_within true name value = tt
two_within false name value = setting_within name value

-- ---- options

abbrev IfSettings : Option (List Setting) → Type 0
IfSettings None = Unit {0}
IfSettings (Some settings) = AllByRecursion IsSettingWithin settings

and_within : (setting : Option Setting) (others : Option (List Setting)) → IfSetting setting → IfSettings others → IfSettings (and_setting setting others)
and_within None others p q = tt
and_within (Some setting) None p q = tt
and_within (Some setting) (Some settings) p q = (p, q)

one_within : (is : Bool) (a b : Option (List Setting)) → IfSettings a → IfSettings b → IfSettings (if is then a else b)
one_within true a b p q = p
one_within false a b p q = q

settings_within : (words : List (List ℕ)) → IfSettings (settings_of words)
settings_within [] = tt
settings_within (word ∷ []) =
    one_within (list_any is_equals word) (and_setting (setting_in word) (Some [])) None (and_within (setting_in word) (Some []) (setting_within (before_first is_equals word) (after_first is_equals word)) tt) tt
settings_within (word ∷ next ∷ words) =
    one_within (list_any is_equals word) (and_setting (setting_in word) (settings_of (next ∷ words))) (and_setting (setting_in_two word next) (settings_of words))
    (and_within (setting_in word) (settings_of (next ∷ words)) (setting_within (before_first is_equals word) (after_first is_equals word)) (settings_within (next ∷ words)))
    (and_within (setting_in_two word next) (settings_of words) (two_within (is_dashed next) word next) (settings_within words))

-- ---- commands

cycles_all : (settings : List Setting) → AllByRecursion IsSettingWithin settings → AllByRecursion (λ (n : ℕ). n ≤ 1000) (filter_map cycles_of settings)
cycles_all [] all = tt
cycles_all (Feed path ∷ settings) (here, all) = cycles_all settings all
cycles_all (Cycles n ∷ settings) (here, all) = (here, cycles_all settings all)
cycles_all (Join j ∷ settings) (here, all) = cycles_all settings all
cycles_all (View s ∷ settings) (here, all) = cycles_all settings all

abbrev IsLineWithin : CommandLine → Type 0
IsLineWithin (Play fold resume) = Unit {0}
IsLineWithin (Listen options) = Unit {0}
IsLineWithin (Live feeds cycles join views) = (length feeds ≤ 16) × (cycles ≤ 1000) × (length views ≤ 8)
IsLineWithin (Soak number) = Unit {0}
IsLineWithin (Audit path nulls) = Unit {0}

abbrev IfLine : Option CommandLine → Type 0
IfLine None = Unit {0}
IfLine (Some line) = IsLineWithin line

line_if : (feeds : List (List ℕ)) (cycles join : ℕ) (views : List ℕ) (few less : Bool) → (few ≡ true → length feeds ≤ 16) → (less ≡ true → length views ≤ 8) → cycles ≤ 1000
    → IfLine (if few && less then Some (Live feeds cycles join views) else None)
line_if feeds cycles join views true true few less c = (few refl, c, less refl)
line_if feeds cycles join views true false few less c = tt
line_if feeds cycles join views false less few more c = tt

with_within : (feeds : List (List ℕ)) (cycles joins views : List ℕ) → AllByRecursion (λ (n : ℕ). n ≤ 1000) cycles → IfLine (live_with feeds cycles joins views)
with_within feeds [] joins views all = tt
with_within feeds (n ∷ []) [] views all = tt
with_within feeds (n ∷ []) (j ∷ []) views all =
    line_if feeds n j views (in_range 1 16 (length feeds)) (nat_le (length views) 8) (in_range_high 1 16 (length feeds)) (λ (e : nat_le (length views) 8 ≡ true). grind (arith, nat_tests)) all.0
with_within feeds (n ∷ []) (i ∷ j ∷ joins) views all = tt
with_within feeds (m ∷ n ∷ cycles) joins views all = tt

line_within : (settings : Option (List Setting)) → IfSettings settings → IfLine (option_and_then live_of settings)
line_within None all = tt
line_within (Some settings) all = with_within (filter_map feed_of settings) (filter_map cycles_of settings) (filter_map join_of settings) (filter_map view_of settings) (cycles_all settings all)

-- what options say is within its limits
pub live_within : (words : List (List ℕ)) (live : LiveWords) → option_and_then live_of (settings_of words) ≡ Some (said_live live) → (length live.feeds.items ≤ 16) × (live.cycles ≤ 1000) × (length live.views ≤ 8)
live_within words live is =
    let both : IsLineWithin (said_live live) = subst IfLine is (line_within (settings_of words) (settings_within words)) in
    (omega (arith, both.0, length-map live.feeds.items string_bytes), both.1, both.2)
