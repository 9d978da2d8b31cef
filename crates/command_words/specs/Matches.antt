-- What clap is told of the options of `live`, and what its matches say.
use Rattle.std.specs.Prelude.{◌≡◌, ℕ, List, [], map, Option, Some, None, codes, option_and_then, option_map, true}
use Rattle.clap.specs.Matches.{first_value, matched_of, raw_values}
use Rattle.clap.specs.Simple.{App, new_app, new_rule, on_top, with_rule}
use Rattle.clap.specs.Walk.{Rule, Text}
use Rattle.clap.specs.declared.builder.action.ArgAction.{ArgAction}
use Rattle.clap.specs.declared.builder.action.ArgAction.TheVariants.{Append, Set}
use Rattle.clap.specs.declared.parser.matches.Found.{Found}
use Rattle.input_lines.specs.Numbers.{number_in}
use Rattle.command_words.specs.Grammar.{CommandLine, Play, Listen, Live, Soak, Audit}

-- an option that has to stand, and has a value
abbrev pub required : Text → ArgAction → Rule
required name action = record (new_rule name) { long = Some name; action = Some action; required = true }

-- one that need not stand
abbrev pub optional : Text → ArgAction → Rule
optional name action = record (new_rule name) { long = Some name; action = Some action }

-- `live` without its first word and without a word for help
abbrev pub bare : App
bare = on_top (λ s. record s { no_binary_name = true; disable_help_flag = true }) (new_app (codes "live"))

-- with the options that have to stand: `--feed`, often, and `--cycles` and `--join` once
abbrev pub needed : App
needed = with_rule (with_rule (with_rule bare (required (codes "feed") Append)) (required (codes "cycles") Set)) (required (codes "join") Set)

-- and with `--view`, which may stand often
abbrev pub live : App
live = with_rule needed (optional (codes "view") Append)

-- the values of an option that need not stand
abbrev pub values_or_none : Option (List Text) → List Text
values_or_none None = []
values_or_none (Some values) = values

-- the values that were found are those of this `live`
abbrev pub Say : Found → CommandLine → Type 0
Say found (Play options resume) = ⊥
Say found (Listen options) = ⊥
Say found (Soak number) = ⊥
Say found (Audit path nulls) = ⊥
Say found (Live feeds cycles join views) = (option_map raw_values (matched_of found (codes "feed")) ≡ Some feeds)
    × (option_and_then (number_in 1 1000) (first_value found (codes "cycles")) ≡ Some cycles)
    × (option_and_then (number_in 0 999999999) (first_value found (codes "join")) ≡ Some join)
    × (map (number_in 0 65535) (values_or_none (option_map raw_values (matched_of found (codes "view")))) ≡ map (λ (s : ℕ). Some s) views)
