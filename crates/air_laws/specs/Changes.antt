-- The version changes of an airing list.
use Rattle.std.specs.Prelude.{List, [], ◌∷◌, ◌++◌, Bool, true, false, not, if◌then◌else◌, Option, Some, None}
use Rattle.section_codec.specs.declared.table.Key.{Key}
use Rattle.section_codec.specs.KeyOrder.{is_key}
use Rattle.section_codec.specs.Contents.{Content, is_content}
use Rattle.version_book.specs.Airings.{AiredTables, carried, content_at, version_at}
use Rattle.version_book.specs.Book.{last_of}
use Rattle.guide_receiver.specs.declared.done.DoneKey.{DoneKey}

-- a content behind others is new: it is the first, or the last of the others is another one
abbrev pub is_new : List Content → Content → Bool
is_new [] content = true
is_new (c ∷ contents) content = not (is_content (last_of c contents) content)

abbrev pub is_new_at : List Content → Option Content → Bool
is_new_at before None = false
is_new_at before (Some content) = is_new before content

-- the version of a key changes with an airing behind others: it carries a new content of the key
abbrev pub is_change : Key → List AiredTables → AiredTables → Bool
is_change k past a = is_new_at (carried k past) (content_at k a)

-- a key, and its version at an airing behind others
abbrev pub version_with : Key → List AiredTables → AiredTables → DoneKey
version_with k past a = record { key = k; version = version_at k (past ++ a ∷ []) }

-- the version changes of a key with these airings behind others, in order
abbrev pub changes_of : Key → List AiredTables → List AiredTables → List DoneKey
changes_of k past [] = []
changes_of k past (a ∷ airings) = (if is_change k past a then version_with k past a ∷ [] else []) ++ changes_of k (past ++ a ∷ []) airings

-- a completion is of this key
abbrev pub is_done_key : Key → DoneKey → Bool
is_done_key k d = is_key d.key k
