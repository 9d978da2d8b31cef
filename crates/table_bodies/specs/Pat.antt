-- The body of a section of the program association table, both ways (ISO/IEC 13818-1, 2.4.4.3).
use Rattle.std.specs.Prelude.{◌≡◌, ℕ, ◌+◌, ◌*◌, ◌%◌, ◌<◌, List, [], ◌∷◌, ◌++◌, Option, Some, None, Bool, true, is_some}
use Rattle.std.specs.Option.{option_map}
use Rattle.std.specs.List.{flat_map, AllByRecursion}
use Rattle.si_base.specs.Fields.{two}
use Rattle.table_bodies.specs.declared.pat.PatEntry.{PatEntry}

-- ---- written

-- an entry: program_number 16, reserved 3, all 1, PID 13
abbrev pub program_bytes : PatEntry → List ℕ
program_bytes e = two e.program ++ two (0xE000 + e.pid)

-- the PID fits its 13 bits
abbrev pub HasPid : PatEntry → Type 0
HasPid e = e.pid < 8192

abbrev pub pat_body : List PatEntry → List ℕ
pat_body entries = flat_map program_bytes entries

-- ---- read

abbrev pub program_of : ℕ → ℕ → ℕ → ℕ → PatEntry
program_of a b c d = record { program = 256 * a + b; pid = (256 * c + d) % 8192 }

-- the entries that a body is, whatever their reserved bits; there are none where it ends within one
abbrev pub pat_in : List ℕ → Option (List PatEntry)
pat_in [] = Some []
pat_in (a ∷ []) = None
pat_in (a ∷ b ∷ []) = None
pat_in (a ∷ b ∷ c ∷ []) = None
pat_in (a ∷ b ∷ c ∷ d ∷ rest) = option_map (λ entries. program_of a b c d ∷ entries) (pat_in rest)

-- whether bytes are such a body
abbrev pub is_pat_body : List ℕ → Bool
is_pat_body body = is_some (pat_in body)

-- ---- laws

-- each field has its width
pub record FitsProgram (e : PatEntry) : Type 0 where
  pub program : e.program < 65536
  pub pid : HasPid e

-- Reading written entries gives them back.
abbrev pub PatReadsBack : Type 0
PatReadsBack = (entries : List PatEntry) → AllByRecursion FitsProgram entries → pat_in (pat_body entries) ≡ Some entries

-- And each written body is read, whatever its fields.
abbrev pub WrittenPatsAreRead : Type 0
WrittenPatsAreRead = (entries : List PatEntry) → is_pat_body (pat_body entries) ≡ true
