-- How long the lines of rows are.
use Rattle.std.proofs.Common.{◌≡◌, ◌<◌, ◌≤◌, ◌+◌, ◌*◌, ◌^◌, ◌++◌, ◌∷◌, [], ℕ, List, refl, arith, length, inl, inr, lit<, lit≤}
use Rattle.std.specs.Prelude.{decimal, ◌==◌}
use Rattle.std.specs.List.{list_any, AllByRecursion}
use Rattle.std.proofs.lemmas.Bool.{cases_Bool}
use Rattle.std.proofs.lemmas.List.{length-append}
use Rattle.std.proofs.lemmas.Fmt.{length-decimal-le}
use Rattle.csv.specs.Writing.{default_writer, escaped, field_text, fields_text, needs_byte}
use Rattle.guide_model.specs.declared.event.Genre.{Genre}
use Rattle.journal_model.specs.Edits.{HasGenreNumbers}
use Rattle.guide_model.specs.Genres.{genre_text, genres_text}
use Rattle.si_time.specs.Moments.{moment_text, duration_text}
use Rattle.journal_text.specs.CommandBack.{row_line}
use Rattle.script_lines.proofs.NumberBack.{low}

-- ---- rows

-- twice each field, its quotes and a comma
abbrev pub most : List (List ℕ) → ℕ
most [] = 0
most (field ∷ fields) = 2 * length field + 3 + most fields

escaped_size : (xs : List ℕ) → length (escaped default_writer xs) ≤ 2 * length xs
unfolding escaped
escaped_size [] = omega arith
escaped_size (x ∷ xs) = elim (cases_Bool (x == 34)) [
  | inl e ↦ rw e (omega (arith, escaped_size xs))
  | inr e ↦ rw e (omega (arith, escaped_size xs))
]

field_size : (xs : List ℕ) → length (field_text default_writer xs) ≤ 2 * length xs + 2
field_size xs = elim (cases_Bool (list_any (needs_byte default_writer) xs)) [
  | inl e ↦ rw e (omega (arith, escaped_size xs, length-append (escaped default_writer xs) (34 ∷ [])))
  | inr e ↦ rw e (omega arith)
]

fields_size : (fields : List (List ℕ)) → length (fields_text default_writer fields) ≤ most fields
unfolding fields_text
fields_size [] = omega arith
fields_size (field ∷ fields) =
    omega (arith, field_size field, fields_size fields, length-append (field_text default_writer field) (fields_text default_writer fields))

pub row_size : (fields : List (List ℕ)) → length (row_line fields) ≤ most fields
row_size [] = omega arith
row_size (field ∷ fields) =
    omega (arith, field_size field, fields_size fields, length-append (field_text default_writer field) (fields_text default_writer fields))

-- ---- fields

-- a number of at most nine digits
pub number_size : (n : ℕ) → n ≤ 999999999 → length (decimal n) ≤ 9
number_size n le =
    length-decimal-le 9 n (lit< tt) (let k : n < 1000000000 = omega arith in let b : 1000000000 ≤ 10 ^ 9 = lit≤ tt in omega (arith, k, b)) (low n le)

pub small_size : (n : ℕ) → n ≤ 65535 → length (decimal n) ≤ 9
small_size n le = number_size n (omega arith)

pub moment_size : (t : ℕ) → length (moment_text t) ≡ 20
unfolding moment_text
moment_size t = refl

pub duration_size : (t : ℕ) → length (duration_text t) ≡ 8
unfolding duration_text
duration_size t = refl

genre_size : (g : Genre) → HasGenreNumbers g → length (genre_text g) ≤ 29
genre_size g h =
    let a = small_size g.level1 (let k = h.level1 in omega arith) in
    let b = small_size g.level2 (let k = h.level2 in omega arith) in
    let c = small_size g.user (let k = h.user in omega arith) in
    omega (arith, a, b, c, length-append (decimal g.level1) (46 ∷ (decimal g.level2 ++ 46 ∷ decimal g.user)), length-append (decimal g.level2) (46 ∷ decimal g.user))

pub genres_size : (gs : List Genre) → AllByRecursion HasGenreNumbers gs → length (genres_text gs) ≤ 30 * length gs
genres_size [] h = omega arith
genres_size (g ∷ []) h = let k = genre_size g h.0 in omega (arith, k)
genres_size (g ∷ f ∷ gs) h =
    omega (arith, genre_size g h.0, genres_size (f ∷ gs) h.1, length-append (genre_text g) (32 ∷ genres_text (f ∷ gs)))
