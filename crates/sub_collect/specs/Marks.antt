-- Sections and marks: what a collector counts that forgets a PID at a break, or every PID at once.
use Rattle.std.specs.Prelude.{ℕ, List, [], ◌∷◌, ◌++◌, ◌==◌, if◌then◌else◌, map, filter_map, Option, Some, None, option_map}
use Rattle.std.specs.List.{cons_option}
use Rattle.section_codec.specs.declared.table.Key.{Key}
use Rattle.section_codec.specs.Contents.{Content}
use Rattle.sub_collect.specs.Runs.{Counted, run_of}
use Rattle.sub_collect.specs.Completions.{is_of, completion, latest_done, shown_after}
use Rattle.sub_collect.specs.declared.completed.Completed.{Completed}

-- a section that counts, or a mark: from it on, what came before on a PID, or on every PID, is forgotten
pub data Taken : Type 0 where
  Took : (section : Counted) → Taken
  Forgot : (pid : ℕ) → Taken
  ForgotAll : Taken

-- the sections of a key since the last mark of its PID or of every PID, with one more section or mark
abbrev pub since_with : Key → List Counted → Taken → List Counted
since_with k since (Took s) = if is_of k s then since ++ s ∷ [] else since
since_with k since (Forgot pid) = if pid == k.pid then [] else since
since_with k since ForgotAll = []

abbrev pub since_from : Key → List Counted → List Taken → List Counted
since_from k since [] = since
since_from k since (x ∷ xs) = since_from k (since_with k since x) xs

-- the sections of a key since the last mark of its PID or of every PID: their run is that of the key
abbrev pub since_mark : Key → List Taken → List Counted
since_mark k past = since_from k [] past

-- the run of a key
abbrev pub run_over : Key → List Taken → List Counted
run_over k past = run_of (since_mark k past)

-- the completion of a key at one more section of it, or none
abbrev pub completion_with : Key → List Counted → Taken → Option Completed
completion_with k since (Took s) = if is_of k s then completion (since ++ s ∷ []) else None
completion_with k since (Forgot pid) = None
completion_with k since ForgotAll = None

-- the completions of a key: each is made of the sections since the last mark; a mark makes none, and takes none away
abbrev pub completions_from : Key → List Counted → List Taken → List Completed
completions_from k since [] = []
completions_from k since (x ∷ xs) = cons_option (completion_with k since x) (completions_from k (since_with k since x) xs)

-- all completions of a key
abbrev pub completions_over : Key → List Taken → List Completed
completions_over k past = completions_from k [] past

-- the latest of them
abbrev pub latest_over : Key → List Taken → Option Completed
latest_over k past = latest_done (completions_over k past)

-- and its content
abbrev pub content_over : List Taken → Key → Option Content
content_over past k = option_map (λ (d : Completed). d.sections) (latest_over k past)

-- the completion that a section shows after sections and marks
abbrev pub shown_over : List Taken → Counted → Option Completed
shown_over past s = shown_after (latest_over s.key past) (completion (since_mark s.key (past ++ Took s ∷ [])))

-- a mark shows none
abbrev pub shown_with : List Taken → Taken → Option Completed
shown_with past (Took s) = shown_over past s
shown_with past (Forgot pid) = None
shown_with past ForgotAll = None

-- the completions that these show after the past, in order
abbrev pub dones_over : List Taken → List Taken → List Completed
dones_over past [] = []
dones_over past (x ∷ xs) = cons_option (shown_with past x) (dones_over (past ++ x ∷ []) xs)

abbrev pub all_took : List Counted → List Taken
all_took ss = map Took ss

-- the sections without the marks
abbrev pub section_in : Taken → Option Counted
section_in (Took s) = Some s
section_in (Forgot pid) = None
section_in ForgotAll = None

abbrev pub sections_taken : List Taken → List Counted
sections_taken past = filter_map section_in past
