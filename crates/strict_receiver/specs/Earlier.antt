-- A receiver that starts afresh where a part of a recording could not be read: what came before and what comes then are
-- heard as recordings of their own, and the completions are kept.
use Rattle.std.specs.Prelude.{ℕ, List, [], ◌∷◌, ◌++◌, flat_map, map}
use Rattle.ts_demux.specs.declared.section.RawSection.{RawSection}
use Rattle.ts_demux.specs.Sections.{heard_all}
use Rattle.sub_collect.specs.Runs.{Counted}
use Rattle.sub_collect.specs.Marks.{Taken, Taken.ForgotAll, dones_over}
use Rattle.guide_receiver.specs.declared.done.DoneKey.{DoneKey}
use Rattle.guide_receiver.specs.Dones.{counted_heard, done_key}
use Rattle.guide_receiver.specs.Guides.{view_after}
use Rattle.guide_screen.specs.View.{View}
use Rattle.guide_screen.specs.Screen.{heard_of}
use Rattle.guide_screen.specs.declared.need.Heard.{Heard}
use Rattle.strict_receiver.specs.Strict.{taken_by, taken_of}

-- the sections of earlier recordings, each heard by itself
abbrev pub sections_in : List (List (List ℕ)) → List RawSection
sections_in earlier = flat_map (heard_all []) earlier

-- what earlier recordings add, with a mark of every PID after each
abbrev pub taken_in : List (List (List ℕ)) → List Taken
taken_in earlier = flat_map (λ packets. taken_of packets ++ ForgotAll ∷ []) earlier

-- and then what the packets since add
abbrev pub taken_after : List (List (List ℕ)) → List (List ℕ) → List Taken
taken_after earlier packets = taken_in earlier ++ taken_of packets

-- the sections of all that count
abbrev pub counted_after : List (List (List ℕ)) → List (List ℕ) → List Counted
counted_after earlier packets = flat_map counted_heard earlier ++ counted_heard packets

-- the completions that a packet shows after earlier recordings and the packets since
abbrev pub strict_dones_after : List (List (List ℕ)) → List (List ℕ) → List ℕ → List DoneKey
strict_dones_after earlier past packet = map done_key (dones_over (taken_after earlier past) (taken_by past packet))

-- what is heard of them, and what is shown of it
abbrev pub strict_view_after : List (List (List ℕ)) → List (List ℕ) → View
strict_view_after earlier packets = view_after (sections_in earlier) packets (taken_after earlier packets)

abbrev pub strict_guide_after : List (List (List ℕ)) → List (List ℕ) → Heard
strict_guide_after earlier packets = heard_of (strict_view_after earlier packets)
