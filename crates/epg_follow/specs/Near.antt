-- The versions of airings that are near each other (EN 300 468, 5.1.1).
use Rattle.std.specs.Prelude.{◌≡◌, ◌≢◌, ◌+◌, ◌<◌, List, ◌∷◌, ◌++◌, length, Some}
use Rattle.section_codec.specs.Contents.{Content}
use Rattle.section_codec.specs.declared.table.Key.{Key}
use Rattle.version_book.specs.Airings.{AiredTables, content_at}
use Rattle.air_laws.specs.Versions.{version_behind}

-- In this airing list two airings fewer than 32 apart that carry a key with different contents give
-- it different versions.
abbrev pub NearVersionsDiffer : List AiredTables → Type 0
NearVersionsDiffer airings =
    (k : Key) (past between after : List AiredTables) (a b : AiredTables) (one other : Content)
    → airings ≡ past ++ a ∷ (between ++ b ∷ after) → 1 + length between < 32
    → content_at k a ≡ Some one → content_at k b ≡ Some other → one ≢ other
    → version_behind k past a ≢ version_behind k (past ++ a ∷ between) b

abbrev pub VersionsDiffer : Type 0
VersionsDiffer = (airings : List AiredTables) → NearVersionsDiffer airings
