-- Worked rows of the definitions.
use Rattle.std.specs.Prelude.{◌≡◌, [], ◌∷◌, Some, None, true, false, codes, refl}
use Rattle.command_words.specs.Grammar.{command_of, played, played_long, followed, Play, Listen, Live, Soak, Audit}

two_feeds : command_of (codes "live" ∷ codes "--join=0" ∷ codes "--feed" ∷ codes "a" ∷ codes "--cycles" ∷ codes "3" ∷ codes "--feed=b" ∷ []) ≡ Some (Live (codes "a" ∷ codes "b" ∷ []) 3 0 [])
two_feeds = refl

one_word : command_of (codes "play" ∷ []) ≡ Some (Play (played false) None)
one_word = refl

-- the options of `play`, in any order
play_fold : command_of (codes "play" ∷ codes "--fold" ∷ []) ≡ Some (Play (played true) None)
play_fold = refl

play_resume : command_of (codes "play" ∷ codes "--resume" ∷ codes "night.cp" ∷ []) ≡ Some (Play (played false) (Some (codes "night.cp")))
play_resume = refl

play_both : command_of (codes "play" ∷ codes "--fold" ∷ codes "--resume=--fold" ∷ []) ≡ Some (Play (played true) (Some (codes "--fold")))
play_both = refl

play_both_again : command_of (codes "play" ∷ codes "--resume" ∷ codes "a=b" ∷ codes "--fold" ∷ []) ≡ Some (Play (played true) (Some (codes "a=b")))
play_both_again = refl

play_follow : command_of (codes "play" ∷ codes "--follow" ∷ []) ≡ Some (Play (followed false) None)
play_follow = refl

play_keep_going : command_of (codes "play" ∷ codes "--follow" ∷ codes "--keep-going" ∷ []) ≡ Some (Play (followed true) None)
play_keep_going = refl

play_keep_going_first : command_of (codes "play" ∷ codes "--keep-going" ∷ codes "--follow" ∷ []) ≡ Some (Play (followed true) None)
play_keep_going_first = refl

play_follow_resume : command_of (codes "play" ∷ codes "--follow" ∷ codes "--resume" ∷ codes "night.cp" ∷ []) ≡ Some (Play (followed false) (Some (codes "night.cp")))
play_follow_resume = refl

play_resume_between : command_of (codes "play" ∷ codes "--keep-going" ∷ codes "--resume=--fold" ∷ codes "--follow" ∷ []) ≡ Some (Play (followed true) (Some (codes "--fold")))
play_resume_between = refl

play_resume_first : command_of (codes "play" ∷ codes "--resume" ∷ codes "a" ∷ codes "--keep-going" ∷ codes "--follow" ∷ []) ≡ Some (Play (followed true) (Some (codes "a")))
play_resume_first = refl

-- `--long` with each of them; `--follow` implies it
play_only_long : command_of (codes "play" ∷ codes "--long" ∷ []) ≡ Some (Play (played_long false) None)
play_only_long = refl

play_long_fold : command_of (codes "play" ∷ codes "--long" ∷ codes "--fold" ∷ []) ≡ Some (Play (played_long true) None)
play_long_fold = refl

play_resume_long : command_of (codes "play" ∷ codes "--resume=--long" ∷ codes "--long" ∷ []) ≡ Some (Play (played_long false) (Some (codes "--long")))
play_resume_long = refl

play_follow_long : command_of (codes "play" ∷ codes "--follow" ∷ codes "--long" ∷ []) ≡ Some (Play (followed false) None)
play_follow_long = refl

play_long_keep_going : command_of (codes "play" ∷ codes "--long" ∷ codes "--keep-going" ∷ codes "--resume" ∷ codes "a" ∷ codes "--follow" ∷ []) ≡ Some (Play (followed true) (Some (codes "a")))
play_long_keep_going = refl

-- `--follow` with `--fold`, and `--keep-going` without `--follow`
play_fold_follow : command_of (codes "play" ∷ codes "--fold" ∷ codes "--follow" ∷ []) ≡ None
play_fold_follow = refl

play_follow_fold : command_of (codes "play" ∷ codes "--follow" ∷ codes "--resume=a" ∷ codes "--fold" ∷ []) ≡ None
play_follow_fold = refl

play_only_keep_going : command_of (codes "play" ∷ codes "--keep-going" ∷ []) ≡ None
play_only_keep_going = refl

play_fold_keep_going : command_of (codes "play" ∷ codes "--fold" ∷ codes "--keep-going" ∷ []) ≡ None
play_fold_keep_going = refl

-- an option twice, a path that is none, a value of `--fold`
play_fold_twice : command_of (codes "play" ∷ codes "--fold" ∷ codes "--resume=a" ∷ codes "--fold" ∷ []) ≡ None
play_fold_twice = refl

play_folds : command_of (codes "play" ∷ codes "--fold" ∷ codes "--fold" ∷ []) ≡ None
play_folds = refl

play_follows : command_of (codes "play" ∷ codes "--follow" ∷ codes "--follow" ∷ []) ≡ None
play_follows = refl

play_keeps_going : command_of (codes "play" ∷ codes "--keep-going" ∷ codes "--follow" ∷ codes "--keep-going" ∷ []) ≡ None
play_keeps_going = refl

play_longs : command_of (codes "play" ∷ codes "--long" ∷ codes "--fold" ∷ codes "--long" ∷ []) ≡ None
play_longs = refl

play_follow_longs : command_of (codes "play" ∷ codes "--long" ∷ codes "--follow" ∷ codes "--long" ∷ []) ≡ None
play_follow_longs = refl

play_long_keep : command_of (codes "play" ∷ codes "--long" ∷ codes "--keep-going" ∷ []) ≡ None
play_long_keep = refl

play_resumes : command_of (codes "play" ∷ codes "--resume=a" ∷ codes "--resume=a" ∷ []) ≡ None
play_resumes = refl

play_without_path : command_of (codes "play" ∷ codes "--resume" ∷ codes "--fold" ∷ []) ≡ None
play_without_path = refl

-- the path is the word after `--resume`
play_path_apart : command_of (codes "play" ∷ codes "--resume" ∷ codes "--follow" ∷ codes "a" ∷ []) ≡ None
play_path_apart = refl

play_from_nothing : command_of (codes "play" ∷ codes "--resume=" ∷ []) ≡ None
play_from_nothing = refl

play_fold_value : command_of (codes "play" ∷ codes "--fold=1" ∷ []) ≡ None
play_fold_value = refl

-- a word more is none of `play`
word_more : command_of (codes "play" ∷ codes "--join=0" ∷ []) ≡ None
word_more = refl

no_cycles : command_of (codes "live" ∷ codes "--feed" ∷ codes "a" ∷ codes "--cycles" ∷ codes "0" ∷ codes "--join" ∷ codes "0" ∷ []) ≡ None
no_cycles = refl

-- a value of its own does not begin with `-`, and one behind `=` may
dashed : command_of (codes "live" ∷ codes "--feed" ∷ codes "-a" ∷ codes "--cycles=1" ∷ codes "--join=1" ∷ []) ≡ None
dashed = refl

dashed_behind_equals : command_of (codes "live" ∷ codes "--feed=-a" ∷ codes "--cycles=1" ∷ codes "--join=1" ∷ []) ≡ Some (Live (codes "-a" ∷ []) 1 1 [])
dashed_behind_equals = refl

-- a path may have a `=`
equals_in_path : command_of (codes "live" ∷ codes "--feed=a=b" ∷ codes "--cycles=1" ∷ codes "--join=1" ∷ []) ≡ Some (Live (codes "a=b" ∷ []) 1 1 [])
equals_in_path = refl

twice : command_of (codes "live" ∷ codes "--feed=a" ∷ codes "--cycles=1" ∷ codes "--cycles=1" ∷ codes "--join=1" ∷ []) ≡ None
twice = refl

two_views : command_of (codes "live" ∷ codes "--view=101" ∷ codes "--feed=a" ∷ codes "--cycles=1" ∷ codes "--view" ∷ codes "007" ∷ codes "--join=1" ∷ []) ≡ Some (Live (codes "a" ∷ []) 1 1 (101 ∷ 7 ∷ []))
two_views = refl

view_past : command_of (codes "live" ∷ codes "--view=65536" ∷ codes "--feed=a" ∷ codes "--cycles=1" ∷ codes "--join=1" ∷ []) ≡ None
view_past = refl

-- no short spellings, and no words
short : command_of (codes "live" ∷ codes "-f" ∷ codes "a" ∷ codes "--cycles=1" ∷ codes "--join=1" ∷ []) ≡ None
short = refl

no_words : command_of [] ≡ None
no_words = refl

soak : command_of (codes "soak" ∷ codes "012" ∷ []) ≡ Some (Soak 12)
soak = refl

-- a number of ten digits, two numbers, or none
soak_ten : command_of (codes "soak" ∷ codes "1000000000" ∷ []) ≡ None
soak_ten = refl

soak_two : command_of (codes "soak" ∷ codes "1" ∷ codes "1" ∷ []) ≡ None
soak_two = refl

soak_dashes : command_of (codes "soak" ∷ codes "--" ∷ codes "1" ∷ []) ≡ None
soak_dashes = refl

soak_alone : command_of (codes "soak" ∷ []) ≡ None
soak_alone = refl

-- the option `--air` of `audit`, in two words or in one
audit : command_of (codes "audit" ∷ codes "--air" ∷ codes "week.ts" ∷ []) ≡ Some (Audit (codes "week.ts") false)
audit = refl

audit_in_one : command_of (codes "audit" ∷ codes "--air=-a=b" ∷ []) ≡ Some (Audit (codes "-a=b") false)
audit_in_one = refl

audit_alone : command_of (codes "audit" ∷ []) ≡ None
audit_alone = refl

audit_dashed : command_of (codes "audit" ∷ codes "--air" ∷ codes "-a" ∷ []) ≡ None
audit_dashed = refl

audit_twice : command_of (codes "audit" ∷ codes "--air=a" ∷ codes "--air=a" ∷ []) ≡ None
audit_twice = refl

audit_of_nothing : command_of (codes "audit" ∷ codes "--air=" ∷ []) ≡ None
audit_of_nothing = refl

-- with `--nulls`, before it or after it
audit_nulls : command_of (codes "audit" ∷ codes "--nulls" ∷ codes "--air" ∷ codes "week.ts" ∷ []) ≡ Some (Audit (codes "week.ts") true)
audit_nulls = refl

audit_nulls_last : command_of (codes "audit" ∷ codes "--air=--nulls" ∷ codes "--nulls" ∷ []) ≡ Some (Audit (codes "--nulls") true)
audit_nulls_last = refl

-- twice, with a value, or in place of the path
audit_nulls_twice : command_of (codes "audit" ∷ codes "--nulls" ∷ codes "--air=a" ∷ codes "--nulls" ∷ []) ≡ None
audit_nulls_twice = refl

audit_nulls_behind : command_of (codes "audit" ∷ codes "--air=a" ∷ codes "--nulls" ∷ codes "--nulls" ∷ []) ≡ None
audit_nulls_behind = refl

audit_nulls_value : command_of (codes "audit" ∷ codes "--air=a" ∷ codes "--nulls=1" ∷ []) ≡ None
audit_nulls_value = refl

audit_nulls_alone : command_of (codes "audit" ∷ codes "--nulls" ∷ []) ≡ None
audit_nulls_alone = refl

audit_without_path : command_of (codes "audit" ∷ codes "--air" ∷ codes "--nulls" ∷ []) ≡ None
audit_without_path = refl

-- the options of `listen`, in any order, each at most once
listen : command_of (codes "listen" ∷ []) ≡ Some (Listen (record { details = false; partial = false; resync = false; strict = false }))
listen = refl

listen_both : command_of (codes "listen" ∷ codes "--strict" ∷ codes "--resync" ∷ []) ≡ Some (Listen (record { details = false; partial = false; resync = true; strict = true }))
listen_both = refl

listen_partial : command_of (codes "listen" ∷ codes "--partial" ∷ []) ≡ Some (Listen (record { details = false; partial = true; resync = false; strict = false }))
listen_partial = refl

listen_all : command_of (codes "listen" ∷ codes "--resync" ∷ codes "--strict" ∷ codes "--partial" ∷ []) ≡ Some (Listen (record { details = false; partial = true; resync = true; strict = true }))
listen_all = refl

listen_details : command_of (codes "listen" ∷ codes "--strict" ∷ codes "--details" ∷ []) ≡ Some (Listen (record { details = true; partial = false; resync = false; strict = true }))
listen_details = refl

listen_details_twice : command_of (codes "listen" ∷ codes "--details" ∷ codes "--details" ∷ []) ≡ None
listen_details_twice = refl

listen_twice : command_of (codes "listen" ∷ codes "--strict" ∷ codes "--strict" ∷ []) ≡ None
listen_twice = refl

listen_partial_twice : command_of (codes "listen" ∷ codes "--partial" ∷ codes "--strict" ∷ codes "--partial" ∷ []) ≡ None
listen_partial_twice = refl

listen_other : command_of (codes "listen" ∷ codes "--strict" ∷ codes "week.ts" ∷ []) ≡ None
listen_other = refl
