-- How many keys counted sections have, and how many they may have.
use Rattle.std.specs.Prelude.{ℕ, ◌<◌, ◌≤◌, List, map}
use Rattle.std.specs.Set.{distinct_count}
use Rattle.section_codec.specs.declared.table.Key.{Key}
use Rattle.section_codec.specs.KeyOrder.{is_key}
use Rattle.sub_collect.specs.Runs.{Counted}

-- the key of each of these sections
abbrev pub section_keys : List Counted → List Key
section_keys ss = map (λ (s : Counted). s.key) ss

-- how many keys these sections have, where equal ones count once
abbrev pub key_count : List Counted → ℕ
key_count ss = distinct_count is_key (section_keys ss)

-- They have no more keys than a collector keeps.
abbrev pub HaveFewKeys : List Counted → Type 0
HaveFewKeys ss = key_count ss ≤ 65536

-- They have a key more.
abbrev pub HaveTooManyKeys : List Counted → Type 0
HaveTooManyKeys ss = 65536 < key_count ss
