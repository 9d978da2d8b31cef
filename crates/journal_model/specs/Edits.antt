-- Edits as lines give them: the shapes of their texts, the width of their numbers, and the size of a day.
use Rattle.std.specs.Prelude.{◌≡◌, ◌≢◌, ◌≤◌, true, List, [], length, IfSome, codes}
use Rattle.std.specs.List.{All, AllByRecursion}
use Rattle.guide_model.specs.Decoding.{IsKept}
use Rattle.si_time.specs.Readings.{has_shape}
use Rattle.guide_model.specs.declared.event.Genre.{Genre}
use Rattle.guide_model.specs.Descriptors.{FitsDescriptor, IsOfBytes}
use Rattle.journal_model.specs.declared.edit.DayText.{DayText}
use Rattle.journal_model.specs.declared.edit.RawRating.{RawRating}
use Rattle.journal_model.specs.declared.edit.Item.{Item}
use Rattle.journal_model.specs.declared.edit.Edit.{Edit}
use Rattle.journal_model.specs.declared.edit.Edit.TheVariants.{Put, Withdraw, Clear, Name, Day}

-- ---- shapes of texts

-- an item as a line can give it
pub record IsShapedItem (item : Item) : Type 0 where
  pub start : has_shape (codes "dddd-dd-ddTdd:dd:ddZ") item.start.0 ≡ true
  pub length : has_shape (codes "dd:dd:dd") item.length.0 ≡ true
  pub country : IfSome item.rating (λ rating. rating.country ≢ [])
  pub descriptors : AllByRecursion FitsDescriptor item.descriptors

-- a day as lines can give it
pub record IsShapedDay (date : DayText) (listed : List Item) : Type 0 where
  pub day : has_shape (codes "dddd-dd-dd") date.0 ≡ true
  pub count : length listed ≤ 2000
  pub items : All IsShapedItem listed

-- an edit as lines can give it
abbrev pub IsShaped : Edit → Type 0
IsShaped (Put service item) = IsShapedItem item
IsShaped (Withdraw service event) = Unit {0}
IsShaped (Clear service) = Unit {0}
IsShaped (Name service provider name) = Unit {0}
IsShaped (Day service day items) = IsShapedDay day items

-- ---- numbers as wide as their fields

-- numbers of 8 and of 16 bits
pub record HasGenreNumbers (g : Genre) : Type 0 where
  pub level1 : g.level1 ≤ 255
  pub level2 : g.level2 ≤ 255
  pub user : g.user ≤ 255

pub record HasItemNumbers (item : Item) : Type 0 where
  pub id : item.id ≤ 65535
  pub rating : IfSome item.rating (λ rating. rating.value ≤ 255)
  pub genres : AllByRecursion HasGenreNumbers item.genres
  pub descriptors : AllByRecursion IsOfBytes item.descriptors

abbrev pub HasNumbers : Edit → Type 0
HasNumbers (Put service item) = (service ≤ 65535) × HasItemNumbers item
HasNumbers (Withdraw service event) = (service ≤ 65535) × (event ≤ 65535)
HasNumbers (Clear service) = service ≤ 65535
HasNumbers (Name service provider name) = service ≤ 65535
HasNumbers (Day service date items) = (service ≤ 65535) × AllByRecursion HasItemNumbers items

-- ---- texts that may be kept

-- an item whose numbers are as wide as their fields, and whose texts may be kept
pub record IsTypedItem (item : Item) : Type 0 where
  pub numbers : HasItemNumbers item
  pub language : IsKept item.language
  pub name : IsKept item.name
  pub short : IsKept item.short
  pub extended : IsKept item.extended
  pub country : IfSome item.rating (λ (rating : RawRating). IsKept rating.country)

-- and an edit
abbrev pub IsTypedEdit : Edit → Type 0
IsTypedEdit (Put service item) = (service ≤ 65535) × IsTypedItem item
IsTypedEdit (Withdraw service event) = (service ≤ 65535) × (event ≤ 65535)
IsTypedEdit (Clear service) = service ≤ 65535
IsTypedEdit (Name service provider name) = (service ≤ 65535) × IsKept provider × IsKept name
IsTypedEdit (Day service date items) = (service ≤ 65535) × AllByRecursion IsTypedItem items

-- ---- the size of a day

-- an edit of a day has at most 2,000 items
abbrev pub IsDayWithin : Edit → Type 0
IsDayWithin (Put service item) = Unit {0}
IsDayWithin (Withdraw service id) = Unit {0}
IsDayWithin (Clear service) = Unit {0}
IsDayWithin (Name service provider name) = Unit {0}
IsDayWithin (Day service day items) = length items ≤ 2000
