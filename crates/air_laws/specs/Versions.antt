-- What a version_number tells along an airing list (ISO/IEC 13818-1, 2.4.4.5; EN 300 468, 5.1.1).
use Rattle.std.specs.Prelude.{◌≡◌, ◌≢◌, ℕ, List, [], ◌∷◌, ◌++◌, Some}
use Rattle.section_codec.specs.declared.table.Key.{Key}
use Rattle.section_codec.specs.Contents.{Content}
use Rattle.version_book.specs.Airings.{AiredTables, content_at, carried, changes, version_at}

-- the version of a key at an airing behind others
abbrev pub version_behind : Key → List AiredTables → AiredTables → ℕ
version_behind k past a = version_at k (past ++ a ∷ [])

-- how often the content of a key has changed at an airing behind others
abbrev pub changes_behind : Key → List AiredTables → AiredTables → ℕ
changes_behind k past a = changes (carried k (past ++ a ∷ []))

-- Two airings, others between them, carry a key with different contents under one version.
pub record ShareVersion (k : Key) (past : List AiredTables) (a : AiredTables) (between : List AiredTables) (b : AiredTables) : Type 0 where
  pub one : Content
  pub other : Content
  pub first : content_at k a ≡ Some one
  pub second : content_at k b ≡ Some other
  pub differ : one ≢ other
  pub version : version_behind k past a ≡ version_behind k (past ++ a ∷ between) b
