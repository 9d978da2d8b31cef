-- Whether what is held of an air, whole or not, is of one airing (ISO/IEC 13818-1, 2.4.4; EN 300 468, 5.1.1).
use Rattle.std.specs.Prelude.{◌≡◌, ◌≢◌, ℕ, ◌≤◌, List, [], ◌∷◌, ◌++◌, length, slice_range, Some}
use Rattle.std.specs.List.{AllByRecursion, Contains}
use Rattle.section_codec.specs.declared.table.Key.{Key}
use Rattle.section_codec.specs.Contents.{Ascend, Content}
use Rattle.version_book.specs.Airings.{content_at}
use Rattle.sub_collect.specs.Marks.{all_took}
use Rattle.sub_collect.specs.Parts.{part_of}
use Rattle.guide_receiver.specs.Dones.{counted_heard}
use Rattle.air_model.specs.Air.{Aired, air}
use Rattle.air_laws.specs.Joining.{HasPacketIn}
use Rattle.loss_laws.specs.Thinned.{Fate, SomeCame}

-- These sections are some of a content, each once, by ascending number.
pub record AreSomeOf (content part : Content) : Type 0 where
  pub each : AllByRecursion (Contains content) part
  pub ascend : Ascend part

-- ---- a part of an air

-- An airing whose cycle has a packet from the place join on and before the place end carries this key, and these are some sections of the
-- content that it has there.
pub record IsPartAiredIn (join end : ℕ) (xs : List Aired) (k : Key) (part : Content) : Type 0 where
  pub before : List Aired
  pub cycle : Aired
  pub after : List Aired
  pub content : Content
  pub cut : xs ≡ before ++ cycle ∷ after
  pub there : HasPacketIn join end (length (air before)) cycle
  pub carries : content_at k cycle.airing ≡ Some content
  pub some : AreSomeOf content part

-- what any receiver holds of a key of packets
abbrev pub part_heard : Key → List (List ℕ) → Content
part_heard k packets = part_of k (all_took (counted_heard packets))

-- Of these packets, which are an air of these cycles or a front of one, a receiver hears those from the place join on and before the
-- place end: what it holds of a key, if anything, is of one airing that it heard a packet of.
abbrev pub HasCoherentPartsIn : ℕ → ℕ → List Aired → List (List ℕ) → Type 0
HasCoherentPartsIn join end xs packets =
    (k : Key) → part_heard k (slice_range packets join end) ≢ [] → IsPartAiredIn join end xs k (part_heard k (slice_range packets join end))

-- so wherever it joins, and wherever it ends
abbrev pub HasCoherentParts : List Aired → List (List ℕ) → Type 0
HasCoherentParts xs packets = (join end : ℕ) → end ≤ length packets → HasCoherentPartsIn join end xs packets

-- ---- an air from which packets were lost

-- An airing, of whose cycle a packet came, carries this key, and these are some sections of the content that it has there.
pub record IsPartAiredAmong (fates : List Fate) (xs : List Aired) (k : Key) (part : Content) : Type 0 where
  pub before : List Aired
  pub cycle : Aired
  pub after : List Aired
  pub content : Content
  pub cut : xs ≡ before ++ cycle ∷ after
  pub there : SomeCame fates before cycle
  pub carries : content_at k cycle.airing ≡ Some content
  pub some : AreSomeOf content part
