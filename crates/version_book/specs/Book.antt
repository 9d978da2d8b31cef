-- What a version book keeps, and the airings that it stands for.
use Rattle.std.specs.Prelude.{◌≡◌, ℕ, ◌%◌, ◌<◌, List, [], ◌∷◌, ◌++◌, if◌then◌else◌, Option, Some, None, map, All}
use Rattle.std.specs.List.Sorted.{IsStrictlySortedBy}
use Rattle.std.specs.Map.{keys_of}
use Rattle.section_codec.specs.declared.table.Key.{Key}
use Rattle.section_codec.specs.declared.table.SubTable.{SubTable}
use Rattle.section_codec.specs.KeyOrder.{is_key, key_cmp}
use Rattle.section_codec.specs.Contents.{Content}
use Rattle.version_book.specs.declared.key_version.KeyVersion.{KeyVersion}
use Rattle.version_book.specs.Airings.{CycleForm, AiredTables, carried, changes_after, version_at}

-- the version and the content that a key was last given
pub record GivenVersion : Type 0 where
  pub version : ℕ
  pub content : Content

-- each key that was ever carried, with what is kept of it
abbrev pub GivenVersions : Type 0
GivenVersions = List (Key × GivenVersion)

-- keys that are handed over, as they are kept
abbrev pub given_entry : KeyVersion → Key × GivenVersion
given_entry k = (k.key, record { version = k.version; content = k.sections })

abbrev pub given_entries : List KeyVersion → GivenVersions
given_entries kept = map given_entry kept

-- the keys stand in their strict order
abbrev pub AreOrdered : GivenVersions → Type 0
AreOrdered entries = IsStrictlySortedBy key_cmp (keys_of entries)

-- What is kept of a book: its keys with what they were last given, in ascending order, as they can be handed in.
pub record AreKeyVersionsOf (book : GivenVersions) (kept : List KeyVersion) : Type 0 where
  pub entries : given_entries kept ≡ book
  pub ascend : IsStrictlySortedBy key_cmp (map (λ (k : KeyVersion). k.key) kept)
  pub small : All (λ (k : KeyVersion). k.version < 32) kept

-- what is kept of a key
abbrev pub given_in : Key → GivenVersions → Option GivenVersion
given_in k [] = None
given_in k (entry ∷ entries) = if is_key k entry.0 then Some entry.1 else given_in k entries

-- the last of c and these contents
abbrev pub last_of : Content → List Content → Content
last_of c [] = c
last_of c (d ∷ ds) = last_of d ds

-- what is to be kept of a key that carried these contents: the last of them, with its version
abbrev pub kept_after : List Content → Option GivenVersion
kept_after [] = None
kept_after (c ∷ cs) = Some (record { version = changes_after c cs % 32; content = last_of c cs })

-- The book stands for these airings: it keeps of each key what they carried last.
abbrev pub BookStandsFor : List AiredTables → GivenVersions → Type 0
BookStandsFor past book = (k : Key) → given_in k book ≡ kept_after (carried k past)

-- these sub-tables, aired at a moment in a cycle of this form
abbrev pub aired : List SubTable → ℕ → CycleForm → AiredTables
aired tables moment form = record { tables = tables; moment = moment; form = form }

-- the version of each of these sub-tables where they are aired behind the past
abbrev pub versions_of : List AiredTables → List SubTable → ℕ → CycleForm → List ℕ
versions_of past tables moment form = map (λ (t : SubTable). version_at t.key (past ++ aired tables moment form ∷ [])) tables
