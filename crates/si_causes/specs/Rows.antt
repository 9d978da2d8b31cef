-- Worked rows of the definitions.
use Rattle.std.specs.Prelude.{◌≡◌, ℕ, List, [], ◌∷◌, ◌++◌, length, codes, replicate, Some, None, Ok, Err, refl}
use Rattle.si_causes.specs.Lines.{shown}
use Rattle.si_causes.specs.Text.{AtEnd, PastLimit, lines_left, text_lines}
use Rattle.si_causes.specs.Opening.{file_at}
use Rattle.si_causes.specs.Refilling.{ReadOn}
use Rattle.si_causes.specs.Memory.{Supply, read_answer, read_after}

-- a, CR, LF; LF; b, CR, c, CR, CR, LF; CR: one CR goes off each line, and a lone CR is an empty line
some_lines : text_lines (97 ∷ 13 ∷ 10 ∷ 10 ∷ 98 ∷ 13 ∷ 99 ∷ 13 ∷ 13 ∷ 10 ∷ 13 ∷ [])
    ≡ ((97 ∷ []) ∷ [] ∷ (98 ∷ 13 ∷ 99 ∷ 13 ∷ []) ∷ [] ∷ [], AtEnd)
some_lines = refl

-- behind an LF at the end there is no further line
no_further_line : text_lines (97 ∷ 10 ∷ []) ≡ ((97 ∷ []) ∷ [], AtEnd)
no_further_line = refl

no_final_end : text_lines (10 ∷ 97 ∷ []) ≡ ([] ∷ (97 ∷ []) ∷ [], AtEnd)
no_final_end = refl

no_lines : text_lines [] ≡ ([], AtEnd)
no_lines = refl

-- a text of three bytes, and a byte more, where three may be taken
whole_at_limit : lines_left 3 (97 ∷ 10 ∷ 98 ∷ []) ≡ ((97 ∷ []) ∷ (98 ∷ []) ∷ [], AtEnd)
whole_at_limit = refl

whole_with_end : lines_left 3 (97 ∷ 98 ∷ 10 ∷ []) ≡ ((97 ∷ 98 ∷ []) ∷ [], AtEnd)
whole_with_end = refl

past_in_line : lines_left 3 (97 ∷ 10 ∷ 98 ∷ 99 ∷ []) ≡ ((97 ∷ []) ∷ [], PastLimit)
past_in_line = refl

past_at_end : lines_left 3 (97 ∷ 98 ∷ 99 ∷ 10 ∷ []) ≡ ([], PastLimit)
past_at_end = refl

past_behind_end : lines_left 3 (97 ∷ 98 ∷ 10 ∷ 99 ∷ []) ≡ ((97 ∷ 98 ∷ []) ∷ [], PastLimit)
past_behind_end = refl

nothing_taken : lines_left 0 (10 ∷ []) ≡ ([], PastLimit)
nothing_taken = refl

-- a line of 16,384 bytes and a CR, of 16,385 bytes and a CR, of 16,386 bytes
longest_line : length (shown (replicate 16384 97 ++ 13 ∷ [])) ≡ 16384
longest_line = refl

longer_line : length (shown (replicate 16385 97 ++ 13 ∷ [])) ≡ 16385
longer_line = refl

much_longer_line : length (shown (replicate 16387 97)) ≡ 16385
much_longer_line = refl

-- the first file with a path
first_file : file_at (codes "b") ((codes "a", codes "x") ∷ (codes "b", codes "y") ∷ (codes "b", codes "z") ∷ []) ≡ Some (codes "y")
first_file = refl

no_file : file_at (codes "b") ((codes "a", codes "x") ∷ []) ≡ None
no_file = refl

-- a supply of three bytes, at most two by a call, whose second call fails
abbrev supply : ℕ → List ℕ → ℕ → ℕ → Supply
supply piece left calls faults = record { left = left; piece = piece; calls = record { fail_at = 1 ∷ []; calls = calls; faults = faults } }

first_read : read_answer (supply 2 (7 ∷ 8 ∷ 9 ∷ []) 0 0) 5 ≡ Ok 2
first_read = refl

after_first : read_after (supply 2 (7 ∷ 8 ∷ 9 ∷ []) 0 0) 5 ≡ supply 2 (9 ∷ []) 1 0
after_first = refl

second_read : read_answer (supply 2 (9 ∷ []) 1 0) 5 ≡ Err (record {})
second_read = refl

after_second : read_after (supply 2 (9 ∷ []) 1 0) 5 ≡ supply 2 (9 ∷ []) 2 1
after_second = refl

third_read : read_answer (supply 2 (9 ∷ []) 2 1) 5 ≡ Ok 1
third_read = refl

-- two of the three bytes of a source come behind the byte that was held
two_more : ReadOn (Some (2 ∷ 3 ∷ 4 ∷ [])) (Some (4 ∷ [])) (1 ∷ []) (1 ∷ 2 ∷ 3 ∷ []) 2
two_more = (2 ∷ 3 ∷ [], refl, refl, refl)
