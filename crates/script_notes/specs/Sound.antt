-- What is read has its shapes, and a desk may be asked it; why a line is at fault can be said.
use Rattle.journal_model.specs.Edits.{IsShapedItem}
use Rattle.script_lines.specs.Script.{IsRead}
use Rattle.script_notes.specs.declared.day.ItemRead.{ItemRead}
use Rattle.script_notes.specs.declared.day.ItemRead.TheVariants as read
use Rattle.script_notes.specs.declared.noting.Held.{Held}
use Rattle.script_notes.specs.declared.noting.Noting.{Noting}
use Rattle.script_notes.specs.declared.noting.Noting.TheVariants.{Item, Bad}
use Rattle.script_notes.specs.Held.{IsSoundNoting}

-- a noting that stands on lines
abbrev pub IsReadNoting : Noting → Type 0
IsReadNoting (Item item) = IsRead item
IsReadNoting (Bad n why) = Unit {0}

abbrev pub IsSoundNoted : Noting × Held → Type 0
IsSoundNoted noted = IsReadNoting noted.0 × IsSoundNoting noted.0

abbrev pub IsSoundRead : ItemRead → Type 0
IsSoundRead (read.Item item) = IsShapedItem item
IsSoundRead (read.Bad noting held) = IsReadNoting noting × IsSoundNoting noting
