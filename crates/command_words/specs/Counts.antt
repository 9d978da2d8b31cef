-- How often each option of `live` came.
use Rattle.std.specs.Prelude.{◌≡◌, ℕ, List, length, min, Some, filter_map}
use Rattle.command_words.specs.declared.uses.Uses.{Uses}
use Rattle.command_words.specs.Grammar.{Setting, feed_of, cycles_of, join_of, view_of, settings_of}

-- how many there are, and of more than 255 just 255
abbrev pub counted : {X : Type 0} → List X → ℕ
counted xs = min (length xs) 255

-- these options came so often
pub record Counted (settings : List Setting) (uses : Uses) : Type 0 where
  pub feeds : uses.feeds ≡ counted (filter_map feed_of settings)
  pub cycles : uses.cycles ≡ counted (filter_map cycles_of settings)
  pub joins : uses.joins ≡ counted (filter_map join_of settings)
  pub views : uses.views ≡ counted (filter_map view_of settings)

-- the words spell options, and each of them so often
pub record HasUses (words : List (List ℕ)) (uses : Uses) : Type 0 where
  pub settings : List Setting
  pub spelled : settings_of words ≡ Some settings
  pub counts : Counted settings uses
