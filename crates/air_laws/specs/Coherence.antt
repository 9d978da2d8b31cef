-- Whether what is completed of an air is of one airing (ISO/IEC 13818-1, 2.4.4; EN 300 468, 5.1.1).
use Rattle.std.specs.Prelude.{◌≡◌, ℕ, ◌≤◌, List, [], ◌∷◌, ◌++◌, length, slice_range, Some}
use Rattle.std.specs.List.{AllByRecursion}
use Rattle.section_codec.specs.declared.table.Key.{Key}
use Rattle.version_book.specs.Airings.{content_at}
use Rattle.sub_collect.specs.Completions.{of_key, completions}
use Rattle.sub_collect.specs.declared.completed.Completed.{Completed}
use Rattle.guide_receiver.specs.Dones.{counted_heard}
use Rattle.air_model.specs.Air.{Aired, air, airings_of}
use Rattle.air_laws.specs.Versions.{version_behind}
use Rattle.air_laws.specs.Joining.{HasPacketIn}

-- what is completed of a key, at each of its sections that count
abbrev pub completed_of : Key → List (List ℕ) → List Completed
completed_of k packets = completions [] (of_key k (counted_heard packets))

-- An airing whose cycle has a packet from the place join on and before the place end carries this content, under this version.
pub record IsAiredIn (join end : ℕ) (xs : List Aired) (d : Completed) : Type 0 where
  pub before : List Aired
  pub cycle : Aired
  pub after : List Aired
  pub cut : xs ≡ before ++ cycle ∷ after
  pub there : HasPacketIn join end (length (air before)) cycle
  pub content : content_at d.key cycle.airing ≡ Some d.sections
  pub version : version_behind d.key (airings_of before) cycle.airing ≡ d.version

-- Of these packets, which are an air of these cycles or a front of one, a receiver hears those from the place join on and before the
-- place end: whatever it completes is the content of one airing that it heard a packet of.
abbrev pub IsCoherentIn : ℕ → ℕ → List Aired → List (List ℕ) → Type 0
IsCoherentIn join end xs packets = (k : Key) → AllByRecursion (IsAiredIn join end xs) (completed_of k (slice_range packets join end))

-- so wherever it joins, and wherever it ends
abbrev pub IsCoherent : List Aired → List (List ℕ) → Type 0
IsCoherent xs packets = (join end : ℕ) → end ≤ length packets → IsCoherentIn join end xs packets
