-- Laws of completions, for the layers above.
use Rattle.std.specs.Prelude.{◌≡◌, ◌≢◌, ℕ, ◌<◌, List, [], ◌∷◌, ◌++◌, Bool, true, false, if◌then◌else◌, filter, map, length, Some, option_to_list, IsSome}
use Rattle.std.specs.List.{AllByRecursion}
use Rattle.std.specs.Option.{option_or}
use Rattle.section_codec.specs.declared.table.Key.{Key}
use Rattle.section_codec.specs.declared.table.NumberedBody.{NumberedBody}
use Rattle.section_codec.specs.Tables.{is_eit}
use Rattle.section_codec.specs.Contents.{numbers, numbers_from, last_number, Ascend, part_in, Content}
use Rattle.section_codec.specs.Segments.{GoBySegments}
use Rattle.section_codec.specs.KeyOrder.{is_key}
use Rattle.sub_collect.specs.Runs.{Counted, run_of, latest_section, latest_with, needed, completed}
use Rattle.sub_collect.specs.Completions.{is_of, of_key, completion, latest_done, latest_of, shown_at, dones}
use Rattle.sub_collect.specs.declared.completed.Completed.{Completed}

abbrev pub is_done_of : Key → Completed → Bool
is_done_of k d = is_key d.key k

-- The completions that are shown of a key are those that its sections show by themselves.
abbrev pub KeysApart : Type 0
KeysApart = (k : Key) (past ss : List Counted) → filter (is_done_of k) (dones past ss) ≡ dones (of_key k past) (of_key k ss)

-- The latest completion of a key is that of its sections by themselves.
abbrev pub LatestApart : Type 0
LatestApart = (k : Key) (past : List Counted) → latest_of k past ≡ latest_of k (of_key k past)

-- The latest completion of a key is the last one of it that was shown.
abbrev pub LatestIsShown : Type 0
LatestIsShown = (k : Key) (past : List Counted) → latest_of k past ≡ latest_done (filter (is_done_of k) (dones [] past))

-- What sections show is what a front of them shows, and then what the others show behind it.
abbrev pub DonesGoOn : Type 0
DonesGoOn = (past ss more : List Counted) → dones past (ss ++ more) ≡ dones past ss ++ dones (past ++ ss) more

-- One section more.
abbrev pub DonesOneMore : Type 0
DonesOneMore = (past ss : List Counted) (s : Counted) → dones past (ss ++ s ∷ []) ≡ dones past ss ++ option_to_list (shown_at (past ++ ss) s)

-- A section of another version than the one before it begins a run.
abbrev pub VersionBeginsRun : Type 0
VersionBeginsRun = (heard : List Counted) (s t : Counted) → latest_section heard ≡ Some s → s.version ≢ t.version → run_of (heard ++ t ∷ []) ≡ t ∷ []

-- A section of the version of the one before it joins the run.
abbrev pub VersionKeepsRun : Type 0
VersionKeepsRun = (heard : List Counted) (s t : Counted) → latest_section heard ≡ Some s → s.version ≡ t.version → run_of (heard ++ t ∷ []) ≡ run_of heard ++ t ∷ []

-- One section more: a completion of its key is the latest one.
abbrev pub LatestOneMore : Type 0
LatestOneMore = (k : Key) (past : List Counted) (s : Counted)
    → latest_of k (past ++ s ∷ []) ≡ (if is_of k s then option_or (completion (of_key k (past ++ s ∷ []))) (latest_of k past) else latest_of k past)

-- ---- contents

-- the sections in which a key carries a content under a version, in order
abbrev pub section_with : Key → ℕ → ℕ → NumberedBody → Counted
section_with k version last p = record { key = k; version = version; number = p.number; last = last; body = p.body }

abbrev pub sections_with : Key → ℕ → Content → List Counted
sections_with k version content = map (section_with k version (last_number content)) content

-- a section of a content of a key, whatever its version
pub record IsSectionOf (k : Key) (content : Content) (s : Counted) : Type 0 where
  pub key : s.key ≡ k
  pub part : part_in s.number content ≡ Some s.body
  pub last : s.last ≡ last_number content

-- each number of the content is among these sections
abbrev pub HoldAll : Content → List Counted → Type 0
HoldAll content ss = AllByRecursion (λ (p : NumberedBody). IsSome (latest_with p.number ss)) content

-- The content describes itself: of its sections a receiver needs just the numbers that it has, in ascending order.
pub record IsNumbered (k : Key) (content : Content) : Type 0 where
  pub some : 0 < length content
  pub ascending : Ascend content
  -- behind whatever was heard, its sections in order tell its numbers
  pub whole : (version : ℕ) (before : List Counted) → needed (before ++ sections_with k version content) ≡ Some (numbers content)
  -- whichever of its sections were heard, in any order and however often, they tell no others
  pub no_other : (run : List Counted) (ns : List ℕ) → AllByRecursion (IsSectionOf k content) run → needed run ≡ Some ns → ns ≡ numbers content
  -- and once they are heard all, the numbers are known
  pub known : (run : List Counted) → AllByRecursion (IsSectionOf k content) run → HoldAll content run → IsSome (needed run)

-- A content with the numbers from 0 on describes itself, where its table has no event information.
abbrev pub FromZeroIsNumbered : Type 0
FromZeroIsNumbered =
    (k : Key) (content : Content) → is_eit k.table ≡ false → 0 < length content → numbers content ≡ numbers_from 0 (length content) → IsNumbered k content

-- A content of an event information table that goes by segments describes itself.
abbrev pub BySegmentsIsNumbered : Type 0
BySegmentsIsNumbered = (k : Key) (content : Content) → is_eit k.table ≡ true → GoBySegments content → IsNumbered k content

-- Whatever was heard before, the sections of a content in order complete it at the last of them.
abbrev pub WholeCompletes : Type 0
WholeCompletes = (past : List Counted) (k : Key) (version : ℕ) (content : Content) → IsNumbered k content
    → completed (of_key k (past ++ sections_with k version content)) ≡ Some content

-- A run of sections of one content completes nothing but it.
abbrev pub RunCompletesNoOther : Type 0
RunCompletesNoOther = (k : Key) (content : Content) → IsNumbered k content → (heard : List Counted) → AllByRecursion (IsSectionOf k content) (run_of heard)
    → (d : Content) → completed heard ≡ Some d → d ≡ content

-- It completes it where it holds all its numbers, whatever sections of it came first or last.
abbrev pub RunCompletes : Type 0
RunCompletes = (k : Key) (content : Content) → IsNumbered k content → (heard : List Counted) → AllByRecursion (IsSectionOf k content) (run_of heard)
    → HoldAll content (run_of heard) → completed heard ≡ Some content

-- a section of a content of a key, under a version
abbrev pub IsWith : Key → ℕ → Content → Counted → Type 0
IsWith k version content s = IsSectionOf k content s × (s.version ≡ version)

-- the completion of a content under a version
abbrev pub done_with : Key → ℕ → Content → Completed
done_with k version content = record { key = k; version = version; sections = content }

-- what was heard of the key has another version than this, if anything was, and shows no completion under this one
pub record IsFresh (k : Key) (version : ℕ) (past : List Counted) : Type 0 where
  pub latest : (d : Completed) → latest_of k past ≡ Some d → d.version ≢ version
  pub section : (s : Counted) → latest_section (of_key k past) ≡ Some s → s.version ≢ version

-- Under a fresh version the sections of a content, in any order and however often, once they are heard all, show it once.
abbrev pub NewIsShown : Type 0
NewIsShown = (k : Key) (version : ℕ) (content : Content) → IsNumbered k content → (past ss : List Counted) → IsFresh k version past
    → AllByRecursion (IsWith k version content) ss → HoldAll content ss → dones past ss ≡ done_with k version content ∷ []

-- what was heard last of the key are sections of this content under this version, and it is the latest completion
pub record IsHeld (k : Key) (version : ℕ) (content : Content) (past : List Counted) : Type 0 where
  pub latest : latest_of k past ≡ Some (done_with k version content)
  pub section : (s : Counted) × (latest_section (of_key k past) ≡ Some s) × (s.version ≡ version)
  pub run : AllByRecursion (IsSectionOf k content) (run_of (of_key k past))

-- Then further sections of it show nothing.
abbrev pub SameIsQuiet : Type 0
SameIsQuiet = (k : Key) (version : ℕ) (content : Content) → IsNumbered k content → (past ss : List Counted) → IsHeld k version content past
    → AllByRecursion (IsWith k version content) ss → dones past ss ≡ []
