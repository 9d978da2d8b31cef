-- Worked lists of sections.
use Rattle.std.specs.Prelude.{◌≡◌, ℕ, zero, suc, ◌%◌, List, [], ◌∷◌, ◌++◌, Some, None, map, length, refl}
use Rattle.section_codec.specs.declared.table.Key.{Key}
use Rattle.section_codec.specs.declared.table.NumberedBody.{NumberedBody}
use Rattle.section_codec.specs.Contents.{Content}
use Rattle.sub_collect.specs.Runs.{Counted, run_of, needed}
use Rattle.sub_collect.specs.KeyCounts.{key_count}
use Rattle.sub_collect.specs.Completions.{latest_of, dones}
use Rattle.sub_collect.specs.declared.completed.Completed.{Completed}

abbrev sdt : Key
sdt = record { pid = 17; table = 66; ext = 1; stream = 0; network = 1 }

abbrev nit : Key
nit = record { pid = 16; table = 64; ext = 1; stream = 0; network = 0 }

-- a section of a key with version_number v, section_number n of last, and one byte
abbrev of : Key → ℕ → ℕ → ℕ → ℕ → Counted
of k v n last b = record { key = k; version = v; number = n; last = last; body = b ∷ [] }

-- of the SDT
abbrev s : ℕ → ℕ → ℕ → ℕ → Counted
s v n last b = of sdt v n last b

-- contents of one, two and three sections with one byte each
abbrev part : ℕ → ℕ → NumberedBody
part n b = record { number = n; body = b ∷ [] }

abbrev one : ℕ → Content
one a = part 0 a ∷ []

abbrev two : ℕ → ℕ → Content
two a b = part 0 a ∷ part 1 b ∷ []

abbrev three : ℕ → ℕ → ℕ → Content
three a b c = part 0 a ∷ part 1 b ∷ part 2 c ∷ []

abbrev done : Key → ℕ → Content → Completed
done k v content = record { key = k; version = v; sections = content }

-- the contents that an SDT's sections show, with their versions
abbrev shows : List Counted → List Completed
shows ss = dones [] ss

nothing : shows [] ≡ []
nothing = refl

-- one section of one
single : shows (s 3 0 0 7 ∷ []) ≡ done sdt 3 (one 7) ∷ []
single = refl

-- the same again shows nothing
repeated : shows (s 3 0 0 7 ∷ s 3 0 0 7 ∷ s 3 0 0 7 ∷ []) ≡ done sdt 3 (one 7) ∷ []
repeated = refl

-- two sections, in either order
in_order : shows (s 0 0 1 7 ∷ s 0 1 1 8 ∷ []) ≡ done sdt 0 (two 7 8) ∷ []
in_order = refl

turned : shows (s 0 1 1 8 ∷ s 0 0 1 7 ∷ []) ≡ done sdt 0 (two 7 8) ∷ []
turned = refl

missing : shows (s 0 0 2 7 ∷ s 0 2 2 9 ∷ s 0 0 2 7 ∷ []) ≡ []
missing = refl

-- a change of version drops what was held, also where the version returns
dropped : shows (s 0 0 1 7 ∷ s 1 1 1 8 ∷ []) ≡ []
dropped = refl

dropped_twice : shows (s 0 0 1 7 ∷ s 1 1 1 8 ∷ s 0 1 1 8 ∷ []) ≡ []
dropped_twice = refl

run_of_returned : run_of (s 0 0 1 7 ∷ s 1 1 1 8 ∷ s 0 1 1 8 ∷ s 0 0 1 9 ∷ []) ≡ s 0 1 1 8 ∷ s 0 0 1 9 ∷ []
run_of_returned = refl

-- the later of two bodies of one number counts
later : shows (s 0 0 1 7 ∷ s 0 0 1 9 ∷ s 0 1 1 8 ∷ []) ≡ done sdt 0 (two 9 8) ∷ []
later = refl

-- one version with another content
another : shows (s 0 0 1 7 ∷ s 0 1 1 8 ∷ s 0 0 1 9 ∷ []) ≡ done sdt 0 (two 7 8) ∷ done sdt 0 (two 9 8) ∷ []
another = refl

-- another version with the same content
renumbered : shows (s 0 0 0 7 ∷ s 1 0 0 7 ∷ []) ≡ done sdt 0 (one 7) ∷ done sdt 1 (one 7) ∷ []
renumbered = refl

-- contents A, B, A show three; A, an incomplete B and A show one
a_b_a : shows (s 0 0 0 7 ∷ s 1 0 0 8 ∷ s 0 0 0 7 ∷ []) ≡ done sdt 0 (one 7) ∷ done sdt 1 (one 8) ∷ done sdt 0 (one 7) ∷ []
a_b_a = refl

a_incomplete_a : shows (s 0 0 0 7 ∷ s 1 1 1 8 ∷ s 0 0 0 7 ∷ []) ≡ done sdt 0 (one 7) ∷ []
a_incomplete_a = refl

-- last_section_number falls: fewer numbers are needed; it rises: a number that was not needed counts again
falls : shows (s 0 0 2 7 ∷ s 0 2 2 9 ∷ s 0 0 0 7 ∷ []) ≡ done sdt 0 (one 7) ∷ []
falls = refl

rises : shows (s 0 0 2 7 ∷ s 0 2 2 9 ∷ s 0 0 0 7 ∷ s 0 1 1 8 ∷ s 0 1 2 8 ∷ []) ≡ done sdt 0 (one 7) ∷ done sdt 0 (two 7 8) ∷ done sdt 0 (three 7 8 9) ∷ []
rises = refl

-- it alone, with the numbers and bodies that were complete before, shows nothing
rises_and_falls : shows (s 0 0 0 7 ∷ s 0 0 1 7 ∷ s 0 0 0 7 ∷ []) ≡ done sdt 0 (one 7) ∷ []
rises_and_falls = refl

-- keys do not disturb each other
interleaved : shows (s 0 0 1 7 ∷ of nit 5 0 1 1 ∷ s 0 1 1 8 ∷ of nit 5 1 1 2 ∷ []) ≡ done sdt 0 (two 7 8) ∷ done nit 5 (two 1 2) ∷ []
interleaved = refl

latest_of_key : latest_of sdt (s 0 0 0 7 ∷ of nit 5 0 0 1 ∷ s 1 0 1 8 ∷ []) ≡ Some (done sdt 0 (one 7))
latest_of_key = refl

latest_of_none : latest_of nit (s 0 0 0 7 ∷ of nit 5 0 1 1 ∷ []) ≡ None
latest_of_none = refl

-- a version that returns after 32 changes shows each of them
abbrev changing : ℕ → List Counted
changing zero = s 0 0 0 0 ∷ []
changing (suc n) = changing n ++ s (suc n % 32) 0 0 (suc n) ∷ []

returning : map (λ (d : Completed). d.version) (shows (changing 5)) ≡ 0 ∷ 1 ∷ 2 ∷ 3 ∷ 4 ∷ 5 ∷ []
returning = refl

returned : length (shows (changing 32)) ≡ 33
returned = refl

-- the numbers that a run needs
needs : needed (s 0 4 2 7 ∷ s 0 0 1 7 ∷ []) ≡ Some (0 ∷ 1 ∷ [])
needs = refl

needs_none : needed [] ≡ None
needs_none = refl

-- ---- a schedule, whose sections tell the last number of their segment

abbrev schedule : Key
schedule = record { pid = 18; table = 80; ext = 101; stream = 1; network = 1 }

-- the body of an event information section with this segment_last_section_number, and one byte behind its head
abbrev body_with : ℕ → ℕ → List ℕ
body_with segment_last b = 0 ∷ 1 ∷ 0 ∷ 1 ∷ segment_last ∷ 80 ∷ b ∷ []

-- a section with section_number n of last, segment_last_section_number m, and one byte behind the body's head
abbrev e : ℕ → ℕ → ℕ → ℕ → Counted
e n last m b = record { key = schedule; version = 0; number = n; last = last; body = body_with m b }

abbrev event_part : ℕ → ℕ → ℕ → NumberedBody
event_part n m b = record { number = n; body = body_with m b }

-- nothing is waited for between the last number of a segment and the next segment
by_segments : shows (e 0 8 0 7 ∷ e 8 8 8 9 ∷ []) ≡ done schedule 0 (event_part 0 0 7 ∷ event_part 8 8 9 ∷ []) ∷ []
by_segments = refl

-- a segment short of one
short_of_one : shows (e 0 8 1 7 ∷ e 8 8 8 9 ∷ e 0 8 1 7 ∷ []) ≡ []
short_of_one = refl

and_then_whole : shows (e 0 8 1 7 ∷ e 8 8 8 9 ∷ e 1 8 1 8 ∷ []) ≡ done schedule 0 (event_part 0 1 7 ∷ event_part 1 1 8 ∷ event_part 8 8 9 ∷ []) ∷ []
and_then_whole = refl

-- a segment that was not met
not_met : needed (e 0 16 0 7 ∷ e 16 16 16 9 ∷ []) ≡ None
not_met = refl

-- last_section_number falls within a version: the segments above it are not needed
last_falls : shows (e 0 16 0 7 ∷ e 16 16 16 9 ∷ e 0 0 0 7 ∷ []) ≡ done schedule 0 (event_part 0 0 7 ∷ []) ∷ []
last_falls = refl

-- the latest section of a segment decides on its last number: section 0 again makes section 1 needed, which is held
segment_tells_again : shows (e 0 1 1 7 ∷ e 1 1 0 8 ∷ e 0 1 1 7 ∷ []) ≡ done schedule 0 (event_part 0 1 7 ∷ []) ∷ done schedule 0 (event_part 0 1 7 ∷ event_part 1 0 8 ∷ []) ∷ []
segment_tells_again = refl

-- a body without a segment_last_section_number tells none
tells_none : needed (record { key = schedule; version = 0; number = 0; last = 0; body = 0 ∷ 1 ∷ [] } ∷ []) ≡ None
tells_none = refl

-- ---- keys

-- a key counts once, however many sections, versions and contents of it were heard
two_keys : key_count (s 0 0 1 7 ∷ of nit 5 0 0 1 ∷ s 0 1 1 8 ∷ s 1 0 0 9 ∷ of nit 6 0 0 1 ∷ []) ≡ 2
two_keys = refl

no_key : key_count [] ≡ 0
no_key = refl
