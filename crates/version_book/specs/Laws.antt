-- What versions tell of contents, and what books keep.
use Rattle.std.specs.Prelude.{◌≡◌, ◌≢◌, ◌%◌, List, [], ◌∷◌, ◌++◌, Some, All}
use Rattle.section_codec.specs.declared.table.Key.{Key}
use Rattle.section_codec.specs.Contents.{Content}
use Rattle.version_book.specs.Airings.{AiredTables, content_at, changes_after}
use Rattle.version_book.specs.Book.{GivenVersion, GivenVersions, BookStandsFor, AreOrdered, last_of}

-- Next to each other, equal versions have equal contents.
abbrev pub NeighboursAgree : Type 0
NeighboursAgree = (c : Content) (cs : List Content) (d : Content) → changes_after c cs % 32 ≡ changes_after c (cs ++ d ∷ []) % 32 → last_of c cs ≡ d

-- Between two contents that differ under one version stands one with another version.
abbrev pub AnotherBetween : Type 0
AnotherBetween =
    (b : Content) (bs cs : List Content) (d : Content) → changes_after b bs % 32 ≡ changes_after b ((bs ++ cs) ++ d ∷ []) % 32 → last_of b bs ≢ d
    → (one two : List Content) × (e : Content) × (cs ≡ one ++ e ∷ two) × (changes_after b ((bs ++ one) ++ e ∷ []) % 32 ≢ changes_after b bs % 32)

-- What is kept in the order of keys is determined by the airings.
abbrev pub KeptOnce : Type 0
KeptOnce =
    (past : List AiredTables) (a b : GivenVersions) → AreOrdered a → AreOrdered b → BookStandsFor past a → BookStandsFor past b → a ≡ b

-- one of these airings carried the key with this content
abbrev pub WasCarried : List AiredTables → Key → Content → Type 0
WasCarried past k content =
    (before : List AiredTables) × (a : AiredTables) × (after : List AiredTables) × (past ≡ before ++ a ∷ after) × (content_at k a ≡ Some content)

-- Each content that is kept in the order of keys is one that an airing carried.
abbrev pub KeptWasCarried : Type 0
KeptWasCarried =
    (past : List AiredTables) (entries : GivenVersions) → AreOrdered entries → BookStandsFor past entries
    → All (λ (e : Key × GivenVersion). WasCarried past e.0 e.1.content) entries
