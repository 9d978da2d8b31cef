-- Worked airing lists.
use Rattle.std.specs.Prelude.{◌≡◌, ℕ, zero, suc, ◌%◌, List, [], ◌∷◌, ◌++◌, Some, refl}
use Rattle.section_codec.specs.declared.table.Key.{Key}
use Rattle.section_codec.specs.declared.table.SubTable.{SubTable}
use Rattle.section_codec.specs.declared.table.Tier3.TheVariants.{Fast}
use Rattle.section_codec.specs.Contents.{Content}
use Rattle.version_book.specs.Airings.{AiredTables, version_at, carried}
use Rattle.version_book.specs.Book.{kept_after, versions_of}

abbrev sdt : Key
sdt = record { pid = 17; table = 66; ext = 1; stream = 0; network = 1 }

abbrev schedule : Key
schedule = record { pid = 18; table = 81; ext = 101; stream = 1; network = 1 }

-- one section with one byte
abbrev one : ℕ → Content
one b = record { number = 0; body = b ∷ [] } ∷ []

abbrev of : Key → ℕ → SubTable
of k b = record { key = k; tier = Fast; sections = one b }

abbrev airs : List SubTable → AiredTables
airs tables = record { tables = tables; moment = 0; form = record { quota = 200; offsets = [] } }

-- contents A, B, A have the versions 0, 1, 2
first : version_at sdt (airs (of sdt 1 ∷ []) ∷ []) ≡ 0
first = refl

second : version_at sdt (airs (of sdt 1 ∷ []) ∷ airs (of sdt 2 ∷ []) ∷ []) ≡ 1
second = refl

third : version_at sdt (airs (of sdt 1 ∷ []) ∷ airs (of sdt 2 ∷ []) ∷ airs (of sdt 1 ∷ []) ∷ []) ≡ 2
third = refl

-- the same content keeps its version
again : version_at sdt (airs (of sdt 1 ∷ []) ∷ airs (of sdt 1 ∷ []) ∷ airs (of sdt 1 ∷ []) ∷ []) ≡ 0
again = refl

-- two contents in turn, n airings behind the first
abbrev turns : ℕ → List AiredTables
turns zero = airs (of sdt 0 ∷ []) ∷ []
turns (suc n) = turns n ++ airs (of sdt (suc n % 2) ∷ []) ∷ []

-- 31 changes, and one more, which wraps
highest : version_at sdt (turns 31) ≡ 31
highest = refl

wrapped : version_at sdt (turns 32) ≡ 0
wrapped = refl

-- a key that is missing for 33 airings keeps its version where it returns with the same content, and else goes on
abbrev without : ℕ → List AiredTables
without zero = []
without (suc n) = airs (of sdt (n % 2) ∷ []) ∷ without n

returns_same : version_at schedule (airs (of sdt 7 ∷ of schedule 1 ∷ []) ∷ without 33 ++ airs (of sdt 7 ∷ of schedule 1 ∷ []) ∷ []) ≡ 0
returns_same = refl

returns_changed : version_at schedule (airs (of sdt 7 ∷ of schedule 1 ∷ []) ∷ without 33 ++ airs (of sdt 7 ∷ of schedule 2 ∷ []) ∷ []) ≡ 1
returns_changed = refl

-- a key that was never aired before gets 0 beside one that changes
beside : versions_of (airs (of sdt 1 ∷ []) ∷ []) (of sdt 2 ∷ of schedule 5 ∷ []) 0 (record { quota = 200; offsets = [] }) ≡ 1 ∷ 0 ∷ []
beside = refl

kept : kept_after (carried sdt (airs (of sdt 1 ∷ []) ∷ airs (of sdt 2 ∷ []) ∷ [])) ≡ Some (record { version = 1; content = one 2 })
kept = refl
