-- The words of a command line, without the program's name, each as its bytes, and the command that they spell.
use Rattle.std.specs.Prelude.{ℕ, ◌+◌, ◌==◌, ◌||◌, ◌&&◌, nat_le, not, Bool, true, false, List, [], ◌∷◌, length, Option, Some, None, option_map, option_and_then, count_by, filter_map, codes, bytes_eq, if◌then◌else◌}
use Rattle.std.specs.List.{list_any, before_first, after_first}
use Rattle.input_lines.specs.Numbers.{in_range, number_in}

-- ---- one option of `live`

-- a path, a number of cycles, the number of the packet from which the monitor hears, or the service for which a viewer asks
pub data Setting : Type 0 where
  Feed : List ℕ → Setting
  Cycles : ℕ → Setting
  Join : ℕ → Setting
  View : ℕ → Setting

-- whether a byte is `=`
abbrev pub is_equals : ℕ → Bool
is_equals b = b == 61

abbrev pub is_empty : List ℕ → Bool
is_empty [] = true
is_empty (b ∷ bs) = false

abbrev pub is_none : List (List ℕ) → Bool
is_none [] = true
is_none (word ∷ words) = false

-- whether a word begins with `-`
abbrev pub is_dashed : List ℕ → Bool
is_dashed [] = false
is_dashed (b ∷ bs) = b == 45

-- a path is not empty, and is not `-`
abbrev pub is_path : List ℕ → Bool
is_path value = not (is_empty value || bytes_eq value (codes "-"))

abbrev pub path_of : List ℕ → Option Setting
path_of value = if is_empty value || bytes_eq value (codes "-") then None else Some (Feed value)

-- the option of this name with this value
abbrev pub setting_of : List ℕ → List ℕ → Option Setting
setting_of name value =
    if bytes_eq name (codes "--feed") then path_of value
    else if bytes_eq name (codes "--cycles") then option_map Cycles (number_in 1 1000 value)
    else if bytes_eq name (codes "--join") then option_map Join (number_in 0 999999999 value)
    else if bytes_eq name (codes "--view") then option_map View (number_in 0 65535 value)
    else None

-- an option in one word: its name, `=`, and its value
abbrev pub setting_in : List ℕ → Option Setting
setting_in word = setting_of (before_first is_equals word) (after_first is_equals word)

-- an option in two words, of which the second does not begin with `-`
abbrev pub setting_in_two : List ℕ → List ℕ → Option Setting
setting_in_two name value = if is_dashed value then None else setting_of name value

-- ---- the options of `live`

-- an option before others
abbrev pub and_setting : Option Setting → Option (List Setting) → Option (List Setting)
and_setting None others = None
and_setting (Some setting) others = option_map (λ settings. setting ∷ settings) others

-- The options that these words spell, one behind the other. A word with `=` is an option, and any other is one with the word behind it.
abbrev pub settings_of : List (List ℕ) → Option (List Setting)
settings_of [] = Some []
settings_of (word ∷ []) = if list_any is_equals word then and_setting (setting_in word) (Some []) else None
settings_of (word ∷ next ∷ words) =
    if list_any is_equals word then and_setting (setting_in word) (settings_of (next ∷ words)) else and_setting (setting_in_two word next) (settings_of words)

abbrev pub feed_of : Setting → Option (List ℕ)
feed_of (Feed path) = Some path
feed_of (Cycles n) = None
feed_of (Join j) = None
feed_of (View s) = None

abbrev pub cycles_of : Setting → Option ℕ
cycles_of (Feed path) = None
cycles_of (Cycles n) = Some n
cycles_of (Join j) = None
cycles_of (View s) = None

abbrev pub join_of : Setting → Option ℕ
join_of (Feed path) = None
join_of (Cycles n) = None
join_of (Join j) = Some j
join_of (View s) = None

abbrev pub view_of : Setting → Option ℕ
view_of (Feed path) = None
view_of (Cycles n) = None
view_of (Join j) = None
view_of (View s) = Some s

-- ---- commands

-- how a recording is heard: whether the guide has also the descriptors that no other line shows whole, whether it shows also what is held of
-- tables that are not whole, whether sync is sought again where it is lost, and whether a PID is forgotten at each break of its continuity
-- counters
pub record ListenOptions : Type 0 where
  pub details : Bool
  pub partial : Bool
  pub resync : Bool
  pub strict : Bool

-- how a script is played: whether the report is a checkpoint, whether each entry is reported before the next line is read, whether a line at
-- fault is passed over, and whether the script may have more than 67,108,864 bytes
pub record PlayOptions : Type 0 where
  pub fold : Bool
  pub follow : Bool
  pub keep_going : Bool
  pub long : Bool

-- of a run that is not followed: its report is a checkpoint, or a journal
abbrev pub played : Bool → PlayOptions
played fold = record { fold = fold; follow = false; keep_going = false; long = false }

-- the same where the script may be longer
abbrev pub played_long : Bool → PlayOptions
played_long fold = record { fold = fold; follow = false; keep_going = false; long = true }

-- of a run that is followed: it passes over each line at fault, or ends at the first; its script may be longer
abbrev pub followed : Bool → PlayOptions
followed keep = record { fold = false; follow = true; keep_going = keep; long = true }

pub data CommandLine : Type 0 where
  -- how it plays, and the path of the checkpoint from which it goes on
  Play : PlayOptions → Option (List ℕ) → CommandLine
  -- how it hears
  Listen : ListenOptions → CommandLine
  -- the paths of its feeds, in order, the number of cycles, the first packet that its monitor hears, and the services of its views, in order
  Live : List (List ℕ) → ℕ → ℕ → List ℕ → CommandLine
  -- the number of its load
  Soak : ℕ → CommandLine
  -- the path of its recording, and whether null packets may stand in it
  Audit : List ℕ → Bool → CommandLine

-- 1 to 16 feeds, cycles once, join once, and at most 8 views
abbrev pub live_with : List (List ℕ) → List ℕ → List ℕ → List ℕ → Option CommandLine
live_with feeds (cycles ∷ []) (join ∷ []) views = if in_range 1 16 (length feeds) && nat_le (length views) 8 then Some (Live feeds cycles join views) else None
live_with feeds cycles joins views = None

abbrev pub live_of : List Setting → Option CommandLine
live_of settings = live_with (filter_map feed_of settings) (filter_map cycles_of settings) (filter_map join_of settings) (filter_map view_of settings)

-- how often a word stands among these
abbrev pub times : List ℕ → List (List ℕ) → ℕ
times name words = count_by (λ word. bytes_eq word name) words

-- the options of `listen` by how often each stands: each at most once, and no other word among so many
abbrev pub listen_with : ℕ → ℕ → ℕ → ℕ → ℕ → Option CommandLine
listen_with details partial resync strict all =
    if nat_le details 1 && (nat_le partial 1 && (nat_le resync 1 && (nat_le strict 1 && (details + partial + resync + strict == all))))
    then Some (Listen (record { details = details == 1; partial = partial == 1; resync = resync == 1; strict = strict == 1 }))
    else None

-- `--details`, `--partial`, `--resync` and `--strict`, each at most once, in any order
abbrev pub listen_of : List (List ℕ) → Option CommandLine
listen_of words =
    listen_with (times (codes "--details") words) (times (codes "--partial") words) (times (codes "--resync") words) (times (codes "--strict") words)
    (length words)

-- one word, the number of a load
abbrev pub soak_of : List (List ℕ) → Option CommandLine
soak_of [] = None
soak_of (word ∷ []) = option_map Soak (number_in 0 999999999 word)
soak_of (word ∷ next ∷ words) = None

-- name and value of the option at the front of words, and the words behind it
abbrev pub front_option : List (List ℕ) → Option (List ℕ × List ℕ × List (List ℕ))
front_option [] = None
front_option (word ∷ []) = if list_any is_equals word then Some (before_first is_equals word, after_first is_equals word, []) else None
front_option (word ∷ next ∷ words) =
    if list_any is_equals word then Some (before_first is_equals word, after_first is_equals word, next ∷ words)
    else if is_dashed next then None
    else Some (word, next, words)

-- whether a flag stands at the front of words, and the words behind it
abbrev pub flag_front : List ℕ → List (List ℕ) → Bool × List (List ℕ)
flag_front flag [] = (false, [])
flag_front flag (word ∷ words) = if bytes_eq word flag then (true, words) else (false, word ∷ words)

-- the path of an option of this name, and the words behind it
abbrev pub path_behind : List ℕ → List ℕ × List ℕ × List (List ℕ) → Option (List ℕ × List (List ℕ))
path_behind name (found, value, behind) = if bytes_eq found name && is_path value then Some (value, behind) else None

-- such an option at the front of words
abbrev pub path_front : List ℕ → List (List ℕ) → Option (List ℕ × List (List ℕ))
path_front name words = option_and_then (path_behind name) (front_option words)

-- a path behind which the flag may stand, where it did not stand before, and no other word
abbrev pub flagged_from : List ℕ → Bool → List ℕ × List (List ℕ) → Option (Bool × List ℕ)
flagged_from flag before (path, behind) =
    let last = flag_front flag behind in
    if is_none last.1 && not (before && last.0) then Some (before || last.0, path) else None

-- an option of this name with a path, once, and a flag, at most once, in either order: whether the flag stands, and the path
abbrev pub flagged_path : List ℕ → List ℕ → List (List ℕ) → Option (Bool × List ℕ)
flagged_path flag name words = let first = flag_front flag words in option_and_then (flagged_from flag first.0) (path_front name first.1)

-- `--air` with a path, and `--nulls` at most once
abbrev pub audit_of : List (List ℕ) → Option CommandLine
audit_of words = option_map (λ r. Audit r.1 r.0) (flagged_path (codes "--nulls") (codes "--air") words)

-- whether a word is an option of `play` without a value
abbrev pub is_play_flag : List ℕ → Bool
is_play_flag word =
    bytes_eq word (codes "--fold") || (bytes_eq word (codes "--follow") || (bytes_eq word (codes "--keep-going") || bytes_eq word (codes "--long")))

-- the words from the first on that is none of these
abbrev pub after_flags : List (List ℕ) → List (List ℕ)
after_flags [] = []
after_flags (word ∷ words) = if is_play_flag word then after_flags words else word ∷ words

-- These options by how often each stands: `--fold` or `--follow`, at most once, `--keep-going` at most as often as `--follow`, and `--long`
-- at most once. `--follow` implies `--long`.
abbrev pub play_with : ℕ → ℕ → ℕ → ℕ → Option PlayOptions
play_with fold follow keep_going long =
    if nat_le (fold + follow) 1 && (nat_le keep_going follow && nat_le long 1)
    then Some (record { fold = fold == 1; follow = follow == 1; keep_going = keep_going == 1; long = long == 1 || follow == 1 })
    else None

abbrev pub play_options : List (List ℕ) → Option PlayOptions
play_options words =
    play_with (times (codes "--fold") words) (times (codes "--follow") words) (times (codes "--keep-going") words) (times (codes "--long") words)

-- a path with no other word after it
abbrev pub path_before_flags : List ℕ × List (List ℕ) → Option (Option (List ℕ))
path_before_flags (path, after) = if is_none (after_flags after) then Some (Some path) else None

-- the path of `--resume`, where it stands: no other word is before it or after it
abbrev pub resume_of : List (List ℕ) → Option (Option (List ℕ))
resume_of words =
    let named = after_flags words in
    if is_none named then Some None else option_and_then path_before_flags (path_front (codes "--resume") named)

-- `--fold`, or `--follow` with `--keep-going` or without, `--long`, and `--resume` with a path, each at most once, in any order
abbrev pub play_of : List (List ℕ) → Option CommandLine
play_of words = option_and_then (λ options. option_map (Play options) (resume_of words)) (play_options words)

-- the command that words spell
abbrev pub command_of : List (List ℕ) → Option CommandLine
command_of [] = None
command_of (word ∷ words) =
    if bytes_eq word (codes "play") then play_of words
    else if bytes_eq word (codes "listen") then listen_of words
    else if bytes_eq word (codes "live") then option_and_then live_of (settings_of words)
    else if bytes_eq word (codes "soak") then soak_of words
    else if bytes_eq word (codes "audit") then audit_of words
    else None
