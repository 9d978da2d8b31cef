-- Whether a receiver has what is on air (EN 300 468, 5.1.1).
use Rattle.std.specs.Prelude.{◌≡◌, ℕ, ◌+◌, ◌≤◌, List, ◌∷◌, ◌++◌, length, Bool, true, Some, IsSome}
use Rattle.std.specs.List.{AllByRecursion, Contains}
use Rattle.std.specs.List.Sorted.{IsStrictlySortedBy}
use Rattle.section_codec.specs.declared.table.Key.{Key}
use Rattle.section_codec.specs.declared.table.SubTable.{SubTable}
use Rattle.section_codec.specs.Contents.{Content}
use Rattle.section_codec.specs.KeyOrder.{key_cmp}
use Rattle.version_book.specs.Airings.{AiredTables, content_at}
use Rattle.section_codec.specs.Tables.{is_counted}
use Rattle.guide_receiver.specs.Latest.{is_pat_key, is_nit_key, is_sdt_key, is_other_sdt_key}
use Rattle.guide_screen.specs.View.{View}
use Rattle.air_model.specs.Air.{Aired, air}
use Rattle.air_laws.specs.Joining.{HasPacketIn}

-- Of the cycles of an air a receiver hears the packets from the place join on and before the place end: all packets of this one, behind these
-- cycles, and behind it packets alone of cycles with the same sub-tables.
pub record StaysOnAir (join end : ℕ) (before : List Aired) (x : Aired) (after : List Aired) : Type 0 where
  pub joined : join ≤ length (air before)
  pub whole : length (air before) + length x.packets ≤ end
  pub same : (one two : List Aired) (y : Aired) → after ≡ one ++ y ∷ two → HasPacketIn join end (length (air (before ++ x ∷ one))) y → y.airing.tables ≡ x.airing.tables

-- each key of these airings that passes the test is this one
abbrev pub IsOnlyKey : (Key → Bool) → Key → List AiredTables → Type 0
IsOnlyKey test k airings = AllByRecursion (λ (a : AiredTables). AllByRecursion (λ (t : SubTable). test t.key ≡ true → t.key ≡ k) a.tables) airings

-- an airing carries this key, which receivers count and which passes the test
pub record IsCarried (test : Key → Bool) (k : Key) (a : AiredTables) : Type 0 where
  pub passes : test k ≡ true
  pub counted : is_counted k.pid k.table ≡ true
  pub some : IsSome (content_at k a)

-- where the key of a sub-table passes the test, it is one of these
abbrev pub IsOneOf : (Key → Bool) → List Key → SubTable → Type 0
IsOneOf test ks t = test t.key ≡ true → Contains ks t.key

-- each key of these airings that passes the test is one of these
abbrev pub AreOnlyKeys : (Key → Bool) → List Key → List AiredTables → Type 0
AreOnlyKeys test ks airings =
    AllByRecursion (λ (a : AiredTables). AllByRecursion (IsOneOf test ks) a.tables) airings

-- Of the tables that come once, and of the SDTs of other streams, these airings have no others than these, and this airing has them.
pub record HaveOneEach (airings : List AiredTables) (a : AiredTables) (pat nit sdt : Key) (others : List Key) : Type 0 where
  pub pats : IsOnlyKey is_pat_key pat airings
  pub nits : IsOnlyKey is_nit_key nit airings
  pub sdts : IsOnlyKey (is_sdt_key sdt.ext) sdt airings
  pub others_only : AreOnlyKeys is_other_sdt_key others airings
  pub others_ascend : IsStrictlySortedBy key_cmp others
  pub pat_is : IsCarried is_pat_key pat a
  pub nit_is : IsCarried is_nit_key nit a
  pub sdt_is : IsCarried (is_sdt_key sdt.ext) sdt a
  pub others_are : AllByRecursion (λ (k : Key). IsCarried is_other_sdt_key k a) others

-- these airings tell the offsets of this one
abbrev pub TellOffsetsOf : AiredTables → List AiredTables → Type 0
TellOffsetsOf a airings = AllByRecursion (λ (b : AiredTables). b.form.offsets ≡ a.form.offsets) airings

-- What was heard is what this airing sends: the contents of its sub-tables, whatever else was heard; of the tables that come once their keys,
-- and those of the SDTs of other streams; a moment, and its offsets.
pub record HasOnAir (a : AiredTables) (pat nit sdt : Key) (others : List Key) (V : View) : Type 0 where
  pub content : (k : Key) (c : Content) → is_counted k.pid k.table ≡ true → content_at k a ≡ Some c → V.content k ≡ Some c
  pub pat_is : V.pat ≡ Some pat
  pub nit_is : V.nit ≡ Some nit
  pub sdt_is : V.sdt sdt.ext ≡ Some sdt
  pub others_are : V.others ≡ others
  pub clock : IsSome V.clock
  pub offsets : V.offsets ≡ a.form.offsets
