-- What is stored of a text.
use Rattle.std.specs.Prelude.{ℕ, Bool, List, string_bytes}
use Rattle.std.specs.Arc.{arc_value}
use Rattle.guide_model.specs.declared.stored.Stored.{Stored}
use Rattle.guide_model.specs.declared.stored.Stored.TheVariants.{Short, Own, Shared}

-- its bytes
abbrev pub stored_bytes : Stored → List ℕ
stored_bytes (Short plain text) = text.bytes
stored_bytes (Own plain text) = string_bytes text
stored_bytes (Shared plain text) = string_bytes (arc_value text)

-- whether it was stored as one that is all of the plain set
abbrev pub stored_plain : Stored → Bool
stored_plain (Short plain text) = plain
stored_plain (Own plain text) = plain
stored_plain (Shared plain text) = plain
