-- Worked plans. The values are those of a walk that lays sections into packets a byte at a time
-- (it knows the rules of a lead, of turns and of frames, and has no arithmetic of packings).
use Rattle.std.specs.Prelude.{◌≡◌, ℕ, ◌-◌, suc, List, [], ◌∷◌, ◌++◌, map, replicate, refl}
use Rattle.section_codec.specs.declared.table.NumberedBody.{NumberedBody}
use Rattle.section_codec.specs.declared.table.SubTable.{SubTable}
use Rattle.section_codec.specs.declared.table.Tier3.{Tier3}
use Rattle.section_codec.specs.declared.table.Tier3.TheVariants.{Fast, Near, Far}
use Rattle.air_timing.specs.declared.pace.Paced.{Paced}
use Rattle.air_timing.specs.declared.timing.Timing.{Timing}
use Rattle.cycle_timing.specs.Listing.{listed_under, paced_under}
use Rattle.cycle_timing.specs.Plans.{plan_under, timings_with}

-- sections of so many bytes, from a number on
abbrev sections_from : ℕ → List ℕ → List NumberedBody
sections_from n [] = []
sections_from n (len ∷ lens) =
    record { number = n; body = replicate (len - 12) 0 } ∷ sections_from (suc n) lens

-- a sub-table of a stream
abbrev table_of : ℕ → ℕ → ℕ → ℕ → Tier3 → List ℕ → SubTable
table_of stream pid table ext tier lens = record {
  key = record { pid = pid; table = table; ext = ext; stream = stream; network = 1 };
  tier = tier;
  sections = sections_from 0 lens;
}

-- ---- numbers

-- present and following of one service_id in two other streams are one sub-table where sections are
-- spaced
abbrev two_streams : List SubTable
two_streams =
    table_of 0 0 0x00 1 Fast (20 ∷ []) ∷ table_of 2 18 0x4F 258 Near (100 ∷ 100 ∷ [])
    ∷ table_of 3 18 0x4F 259 Near (100 ∷ []) ∷ table_of 3 18 0x4F 258 Near (100 ∷ []) ∷ []

row_numbers : map (λ (s : Paced). s.table) (paced_under (listed_under two_streams [])) ≡ 0 ∷ 1 ∷ 2 ∷ 2 ∷ 4 ∷ 2 ∷ []
row_numbers = refl

-- ---- three services

-- PAT, a PMT of each, NIT and SDT; present and following; two schedules of each, of the first days
-- and later
abbrev three : List SubTable
three =
    table_of 0 0 0x00 1 Fast (20 ∷ []) ∷ table_of 0 256 0x02 1 Fast (40 ∷ []) ∷ table_of 0 257 0x02 2 Fast (40 ∷ [])
    ∷ table_of 0 258 0x02 3 Fast (40 ∷ []) ∷ table_of 0 16 0x40 1 Fast (60 ∷ []) ∷ table_of 0 17 0x42 1 Fast (150 ∷ [])
    ∷ table_of 1 18 0x4E 1 Fast (100 ∷ 110 ∷ []) ∷ table_of 1 18 0x4E 2 Fast (100 ∷ 110 ∷ []) ∷ table_of 1 18 0x4E 3 Fast (100 ∷ 110 ∷ [])
    ∷ table_of 1 18 0x50 1 Near (170 ∷ 180 ∷ []) ∷ table_of 1 18 0x50 2 Near (170 ∷ 180 ∷ []) ∷ table_of 1 18 0x50 3 Near (170 ∷ 180 ∷ [])
    ∷ table_of 1 18 0x52 1 Far (400 ∷ []) ∷ table_of 1 18 0x52 2 Far (400 ∷ []) ∷ table_of 1 18 0x52 3 Far (400 ∷ []) ∷ []

abbrev at : ℕ → ℕ → ℕ → Timing
at section first last = record { section = section; first = first; last = last }

-- at 500 kbit/s, with a gap of nine packets: two chunks, and two frames with a lead
row_three : timings_with 500000 (plan_under 500000 (listed_under three [])) ≡
    (at 0 9 9 ∷ at 1 10 10 ∷ at 2 11 11 ∷ at 3 12 12 ∷ at 4 13 13 ∷ at 5 14 14 ∷ at 6 15 15 ∷ [])
    ++ (at 7 16 16 ∷ at 9 16 17 ∷ at 11 17 17 ∷ at 13 18 18 ∷ at 15 18 19 ∷ at 17 19 20 ∷ [])
    ++ (at 14 28 28 ∷ at 16 29 29 ∷ at 18 30 30 ∷ at 19 31 33 ∷ at 20 33 35 ∷ [])
    ++ (at 13 38 38 ∷ at 15 39 39 ∷ at 17 40 40 ∷ at 14 48 48 ∷ at 16 49 49 ∷ at 18 50 50 ∷ at 21 51 53 ∷ [])
    ++ (at 0 54 54 ∷ at 1 55 55 ∷ at 2 56 56 ∷ at 3 57 57 ∷ at 4 58 58 ∷ at 5 59 59 ∷ at 6 60 60 ∷ [])
    ++ (at 8 61 61 ∷ at 10 61 62 ∷ at 12 62 62 ∷ [])
row_three = refl
