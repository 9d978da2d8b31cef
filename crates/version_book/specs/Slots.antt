-- The map behind a version book: a slot for each key, which is empty until the key is first given a version.
use Rattle.std.specs.Prelude.{ℕ, ◌+◌, ◌%◌, List, [], ◌∷◌, if◌then◌else◌, Option, Some, None, option_map, IsSome}
use Rattle.std.specs.BTreeMap.{BTreeMap, get}
use Rattle.section_codec.specs.declared.table.Key.{Key}
use Rattle.section_codec.specs.declared.table.SubTable.{SubTable}
use Rattle.section_codec.specs.KeyOrder.{key_cmp, is_key}
use Rattle.section_codec.specs.Contents.{Content, is_content}
use Rattle.version_book.specs.Book.{GivenVersion, GivenVersions}
use Rattle.version_book.specs.declared.last_version.LastVersion.{LastVersion}

-- what is held of a key, as it is kept
abbrev pub kept_by : LastVersion → GivenVersion
kept_by held = record { version = held.version; content = held.content }

abbrev pub with_kept : Key → Option LastVersion → GivenVersions → GivenVersions
with_kept k None rest = rest
with_kept k (Some held) rest = (k, kept_by held) ∷ rest

-- what the slots keep; those that are empty do not show
abbrev pub shown : List (Key × Option LastVersion) → GivenVersions
shown [] = []
shown (entry ∷ entries) = with_kept entry.0 entry.1 (shown entries)

abbrev pub held_in : Option (Option LastVersion) → Option LastVersion
held_in None = None
held_in (Some slot) = slot

-- what is held of a key, and what is kept of it
abbrev pub held_at : BTreeMap Key (Option LastVersion) → Key → Option LastVersion
held_at slots k = held_in (get key_cmp slots k)

abbrev pub kept_at : BTreeMap Key (Option LastVersion) → Key → Option GivenVersion
kept_at slots k = option_map kept_by (held_at slots k)

-- the version of the next content of a key, after what is kept of it
abbrev pub next_version : Option GivenVersion → Content → ℕ
next_version None content = 0
next_version (Some kept) content = if is_content kept.content content then kept.version else (kept.version + 1) % 32

-- the content that is to be kept in place of the last, where it is another one
abbrev pub changed_content : Option GivenVersion → Content → Option Content
changed_content None content = Some content
changed_content (Some kept) content = if is_content kept.content content then None else Some content

-- the version, and the content to be kept instead, of a sub-table that is given to these slots
abbrev pub version_given : BTreeMap Key (Option LastVersion) → SubTable → ℕ
version_given slots t = next_version (kept_at slots t.key) t.sections

abbrev pub content_given : BTreeMap Key (Option LastVersion) → SubTable → Option Content
content_given slots t = changed_content (kept_at slots t.key) t.sections

abbrev pub HasSlot : BTreeMap Key (Option LastVersion) → SubTable → Type 0
HasSlot slots t = IsSome (get key_cmp slots t.key)

-- what is kept of a key once these sub-tables are given, where f was kept before
abbrev pub given_after : (Key → Option GivenVersion) → List SubTable → Key → Option GivenVersion
given_after f [] q = f q
given_after f (t ∷ ts) q =
    if is_key q t.key then Some (record { version = next_version (f t.key) t.sections; content = t.sections }) else given_after f ts q
