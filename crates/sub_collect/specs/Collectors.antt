-- What a collector keeps, and the counted sections that it stands for.
use Rattle.std.specs.Prelude.{◌≡◌, ◌≢◌, ℕ, ◌<◌, List, [], ◌∷◌, ◌++◌, Bool, true, ◌==◌, if◌then◌else◌, replicate, Option, Some, None, option_map, is_some, slice_index_or}
use Rattle.std.specs.Option.{option_or}
use Rattle.std.specs.List.{AllByRecursion}
use Rattle.section_codec.specs.declared.table.Key.{Key}
use Rattle.section_codec.specs.KeyOrder.{is_key}
use Rattle.section_codec.specs.Segments.{segment_of}
use Rattle.sub_collect.specs.Runs.{Counted, all_of_version, run_of, latest_section, latest_with, segment_last_of, last_told}
use Rattle.sub_collect.specs.KeyCounts.{HaveFewKeys}
use Rattle.sub_collect.specs.Completions.{IsOfKey, of_key, completion, shown_after}
use Rattle.sub_collect.specs.Marks.{Taken, Taken.Took, since_mark, latest_over, shown_over, all_took, sections_taken}
use Rattle.sub_collect.specs.declared.completed.Completed.{Completed}

-- what is kept of a run: its version, the last_section_number of its latest section, the latest body of each number that it holds, how many numbers it holds from 0 on, and of each of
-- 32 segments the last number that its latest section tells
pub record KeptRun : Type 0 where
  pub version : ℕ
  pub last : ℕ
  pub held : List (ℕ × List ℕ)
  pub front : ℕ
  pub lasts : List (Option ℕ)

-- what is kept of a key: its run and its latest completion
pub record KeyHeard : Type 0 where
  pub run : KeptRun
  pub latest : Option Completed

-- each key that had a section, with what is kept of it
abbrev pub KeysHeard : Type 0
KeysHeard = List (Key × KeyHeard)

-- what is kept of a key
abbrev pub kept_in : Key → KeysHeard → Option KeyHeard
kept_in k [] = None
kept_in k (entry ∷ entries) = if is_key k entry.0 then Some entry.1 else kept_in k entries

-- the body that is held of a number
abbrev pub body_in : ℕ → List (ℕ × List ℕ) → Option (List ℕ)
body_in n [] = None
body_in n (entry ∷ entries) = if n == entry.0 then Some entry.1 else body_in n entries

-- the last number that is kept of a segment
abbrev pub last_in : List (Option ℕ) → ℕ → Option ℕ
last_in lasts segment = slice_index_or lasts segment None

abbrev pub body_of : Option Counted → Option (List ℕ)
body_of s = option_map (λ (x : Counted). x.body) s

-- all numbers below the front are held, and the front itself is not, or is above all numbers
pub record IsFront (held : ℕ → Option (List ℕ)) (front : ℕ) : Type 0 where
  pub below : (n : ℕ) → n < front → is_some (held n) ≡ true
  pub gap : front < 256 → held front ≡ None

-- A kept run stands for a run.
pub record StandsForRun (run : List Counted) (kept : KeptRun) : Type 0 where
  pub version : all_of_version kept.version run ≡ true
  pub last : (s : Counted) → latest_section run ≡ Some s → kept.last ≡ s.last
  pub held : (n : ℕ) → body_in n kept.held ≡ body_of (latest_with n run)
  pub front : IsFront (λ n. body_in n kept.held) kept.front
  pub lasts : (segment : ℕ) → last_in kept.lasts segment ≡ last_told run segment

-- What is kept of a key stands for these sections of it since a mark, and this latest completion of all.
pub record IsKeptOf (heard : List Counted) (latest : Option Completed) (kept : KeyHeard) : Type 0 where
  pub run : StandsForRun (run_of heard) kept.run
  pub latest_is : kept.latest ≡ latest

-- Of a key without a section nothing is kept, and of each other key something is.
abbrev pub StandsFor : Key → List Taken → Option KeyHeard → Type 0
StandsFor k past None = of_key k (sections_taken past) ≡ []
StandsFor k past (Some kept) = (of_key k (sections_taken past) ≢ []) × IsKeptOf (since_mark k past) (latest_over k past) kept

-- What is kept of each key stands for its sections among these sections and marks.
abbrev pub EachStandsFor : List Taken → KeysHeard → Type 0
EachStandsFor past collector = (k : Key) → StandsFor k past (kept_in k collector)

-- The collector stands for these counted sections, in the order in which they ended, and the marks between them.
-- They have no more keys than it keeps.
pub record CollectorStandsOver (past : List Taken) (collector : KeysHeard) : Type 0 where
  pub each : EachStandsFor past collector
  pub few : HaveFewKeys (sections_taken past)

-- It stands for these counted sections, without a mark.
abbrev pub CollectorStandsFor : List Counted → KeysHeard → Type 0
CollectorStandsFor past collector = CollectorStandsOver (all_took past) collector

-- ---- a mark

-- a run of which all sections are forgotten
abbrev pub cleared : KeptRun → KeptRun
cleared run = record { version = run.version; last = 0; held = []; front = 0; lasts = replicate 32 None }

-- what is kept of a key after a mark of its PID: no section, and the same completion
abbrev pub forgotten : KeyHeard → KeyHeard
forgotten kept = record { run = cleared kept.run; latest = kept.latest }

abbrev pub forgotten_if : Bool → Option KeyHeard → Option KeyHeard
forgotten_if here None = None
forgotten_if here (Some kept) = Some (if here then forgotten kept else kept)

-- ---- a section that is held already

-- A run holds this section: its latest section has the version_number and the last_section_number, the latest of the same segment
-- tells the same last number of it, and the latest with the same number has the body.
pub record IsHeldIn (run : List Counted) (s : Counted) : Type 0 where
  pub version : option_map (λ (latest : Counted). latest.version) (latest_section run) ≡ Some s.version
  pub last : option_map (λ (latest : Counted). latest.last) (latest_section run) ≡ Some s.last
  pub told : last_told run (segment_of s.number) ≡ segment_last_of s
  pub body : body_of (latest_with s.number run) ≡ Some s.body

-- These are sections of a key, of which all make this completion the latest.
pub record AreOfKey (k : Key) (heard : List Counted) (latest : Option Completed) : Type 0 where
  pub each : AllByRecursion (IsOfKey k) heard
  pub key : (d : Completed) → latest ≡ Some d → d.key ≡ k
  pub whole : (d : Completed) → completion heard ≡ Some d → latest ≡ Some d

-- One section more of a key of which this is kept shows nothing, and the same is kept of it.
pub record IsRepeatedOf (kept : KeyHeard) (s : Counted) : Type 0 where
  pub quiet : (heard : List Counted) (latest : Option Completed) → IsKeptOf heard latest kept → AreOfKey s.key heard latest
      → shown_after latest (completion (heard ++ s ∷ [])) ≡ None
  pub stands : (heard : List Counted) (latest : Option Completed) → IsKeptOf heard latest kept → AreOfKey s.key heard latest
      → IsKeptOf (heard ++ s ∷ []) (option_or (completion (heard ++ s ∷ [])) latest) kept

-- One section more shows nothing, and the collector stands for it too.
pub record IsRepeated (collector : KeysHeard) (s : Counted) : Type 0 where
  pub quiet : (past : List Taken) → CollectorStandsOver past collector → shown_over past s ≡ None
  pub stands : (past : List Taken) → CollectorStandsOver past collector
      → CollectorStandsOver (past ++ Took s ∷ []) collector
