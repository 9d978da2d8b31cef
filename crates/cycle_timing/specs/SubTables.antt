-- Sub-tables as the spacing of sections names them: 25 ms lie between two sections with the same
-- PID, table_id and table_id_extension (EN 300 468, 5.1.4).
use Rattle.std.specs.Prelude.{ℕ, List, [], ◌∷◌, Bool, not, ◌==◌, ◌&&◌, if◌then◌else◌, map, filter, slice_index}
use Rattle.std.specs.List.{prefix_len}
use Rattle.si_base.specs.Fields.{two_at}
use Rattle.section_codec.specs.Tables.{has_short_form}
use Rattle.air_model.specs.Air.{Sent}

pub record TableName : Type 0 where
  pub pid : ℕ
  pub table : ℕ
  pub ext : ℕ

-- of a section, as its bytes say; TDT and TOT, of the short form, have no table_id_extension
abbrev pub name_of : Sent → TableName
name_of s = record {
  pid = s.pid;
  table = slice_index s.bytes 0;
  ext = if has_short_form (slice_index s.bytes 0) then 0 else two_at 3 s.bytes;
}

abbrev pub is_name : TableName → TableName → Bool
is_name a b = a.pid == b.pid && a.table == b.table && a.ext == b.ext

-- Among these sections a sub-table is numbered by the place of its first one.
abbrev pub number_of : List Sent → Sent → ℕ
number_of ss s = prefix_len (λ (other : Sent). not (is_name (name_of s) (name_of other))) ss

-- ---- sections named by numbers, by their sub-tables

-- each of these numbers once
abbrev pub distinct : List ℕ → List ℕ
distinct [] = []
distinct (n ∷ ns) = n ∷ filter (λ (m : ℕ). not (m == n)) (distinct ns)

-- of sections of which each has a sub-table: those of each sub-table, in the order of their first
-- ones
abbrev pub groups : (ℕ → ℕ) → List ℕ → List (List ℕ)
groups table xs = map (λ (k : ℕ). filter (λ (x : ℕ). table x == k) xs) (distinct (map table xs))
