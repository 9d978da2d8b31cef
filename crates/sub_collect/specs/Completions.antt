-- The completions of a list of counted sections of any keys, and those of them that are shown.
use Rattle.std.specs.Prelude.{◌≡◌, List, [], ◌∷◌, ◌++◌, Bool, ◌&&◌, ◌==◌, if◌then◌else◌, filter, Option, Some, None, option_map}
use Rattle.std.specs.List.{cons_option}
use Rattle.section_codec.specs.declared.table.Key.{Key}
use Rattle.section_codec.specs.KeyOrder.{is_key}
use Rattle.section_codec.specs.Contents.{Content, is_content}
use Rattle.sub_collect.specs.Runs.{Counted, latest_section, completed}
use Rattle.sub_collect.specs.declared.completed.Completed.{Completed}

abbrev pub is_of : Key → Counted → Bool
is_of k s = is_key s.key k

abbrev pub IsOfKey : Key → Counted → Type 0
IsOfKey k s = s.key ≡ k

-- the sections of a key among these, in order
abbrev pub of_key : Key → List Counted → List Counted
of_key k ss = filter (is_of k) ss

-- a content completed at a section
abbrev pub done_at : Counted → Content → Completed
done_at s content = record { key = s.key; version = s.version; sections = content }

abbrev pub completion_at : Option Counted → Option Content → Option Completed
completion_at None content = None
completion_at (Some s) content = option_map (done_at s) content

-- the completion that sections of one key, heard in this order, make at the last of them
abbrev pub completion : List Counted → Option Completed
completion heard = completion_at (latest_section heard) (completed heard)

-- the completions at each of these sections of one key, heard behind others of it
abbrev pub completions : List Counted → List Counted → List Completed
completions before [] = []
completions before (s ∷ ss) = cons_option (completion (before ++ s ∷ [])) (completions (before ++ s ∷ []) ss)

-- the last of these completions
abbrev pub latest_done : List Completed → Option Completed
latest_done [] = None
latest_done (d ∷ []) = Some d
latest_done (d ∷ e ∷ ds) = latest_done (e ∷ ds)

-- the latest completion of a key
abbrev pub latest_of : Key → List Counted → Option Completed
latest_of k past = latest_done (completions [] (of_key k past))

-- the same version and the same content
abbrev pub repeats : Completed → Completed → Bool
repeats before d = before.version == d.version && is_content before.sections d.sections

-- a completion, where it differs from the one before it, or there was none
abbrev pub shown_after : Option Completed → Option Completed → Option Completed
shown_after before None = None
shown_after None (Some d) = Some d
shown_after (Some before) (Some d) = if repeats before d then None else Some d

-- the completion that a section shows, heard behind the past
abbrev pub shown_at : List Counted → Counted → Option Completed
shown_at past s = shown_after (latest_of s.key past) (completion (of_key s.key (past ++ s ∷ [])))

-- the completions that these sections show, heard behind the past, in order
abbrev pub dones : List Counted → List Counted → List Completed
dones past [] = []
dones past (s ∷ ss) = cons_option (shown_at past s) (dones (past ++ s ∷ []) ss)
