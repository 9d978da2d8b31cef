-- The sources of a load: its input, and the files of its two feeds.
use Rattle.std.specs.Prelude.{ℕ, List, [], ◌∷◌, codes}
use Rattle.si_causes.specs.Opening.{Files}
use Rattle.si_workload.specs.Texts.{feed_text}
use Rattle.epg_soak.specs.declared.feed_texts.FeedTexts.{FeedTexts}

-- the files of two texts, and their paths
abbrev pub two_files : List ℕ → List ℕ → Files
two_files first second = (codes "1", first) ∷ (codes "2", second) ∷ []

abbrev pub soak_paths : List (List ℕ)
soak_paths = codes "1" ∷ codes "2" ∷ []

-- those of the load with this number
abbrev pub soak_files : ℕ → Files
soak_files number = two_files (feed_text number 1) (feed_text number 2)

abbrev pub files_of : FeedTexts → Files
files_of texts = two_files texts.first.items texts.second.items
