-- Worked cycles.
use Rattle.std.specs.Prelude.{◌≡◌, ℕ, List, [], ◌∷◌, ◌++◌, slice_index, length, map, refl}
use Rattle.section_codec.specs.Contents.{numbers_from}
use Rattle.section_codec.specs.declared.table.Tier3.TheVariants.{Fast, Near, Far}
use Rattle.air_model.specs.Cutting.{packets_in}
use Rattle.air_model.specs.Cycle.{Planned, cycle_of, chunks_of, runs_of}
use Rattle.air_model.specs.Sections.{planned}
use Rattle.air_model.specs.Packing.{Start, begun_at, packed_all, packets_so_far, starts_dense, starts_of_cycles}
use Rattle.air_model.specs.Spacing.{fast_bound, near_bound}

-- three Fast sections of a packet, two Near of five, four Far of four; a run has the packets of the quota, 6, or more
abbrev row : Planned
row = planned (
    (Fast, 1) ∷ (Fast, 1) ∷ (Fast, 1)
    ∷ (Near, 5) ∷ (Near, 5)
    ∷ (Far, 4) ∷ (Far, 4) ∷ (Far, 4) ∷ (Far, 4) ∷ []
    ) 6

-- Near has ten packets, so a chunk takes three Far sections
row_chunks : chunks_of row ≡ (5 ∷ 6 ∷ 7 ∷ []) ∷ (8 ∷ []) ∷ []
row_chunks = refl

row_runs : runs_of row ≡ (3 ∷ 4 ∷ []) ∷ (5 ∷ 6 ∷ []) ∷ (7 ∷ 3 ∷ []) ∷ (4 ∷ 8 ∷ []) ∷ []
row_runs = refl

row_cycle : cycle_of row ≡
    (0 ∷ 1 ∷ 2 ∷ 3 ∷ 4 ∷ [])
    ++ (0 ∷ 1 ∷ 2 ∷ 5 ∷ 6 ∷ [])
    ++ (0 ∷ 1 ∷ 2 ∷ 7 ∷ 3 ∷ [])
    ++ (0 ∷ 1 ∷ 2 ∷ 4 ∷ 8 ∷ [])
row_cycle = refl

row_packets : packets_in row.size (cycle_of row) ≡ 48
row_packets = refl

-- without Far: Near once
without_far : cycle_of (planned ((Fast, 1) ∷ (Near, 5) ∷ (Near, 5) ∷ []) 6) ≡ 0 ∷ 1 ∷ 2 ∷ []
without_far = refl

-- and in runs
without_far_runs : cycle_of (planned ((Fast, 1) ∷ (Near, 5) ∷ (Near, 5) ∷ []) 1) ≡ 0 ∷ 1 ∷ 0 ∷ 2 ∷ []
without_far_runs = refl

-- one of each
one_of_each : cycle_of (planned ((Fast, 1) ∷ (Near, 5) ∷ (Far, 4) ∷ []) 6) ≡ 0 ∷ 1 ∷ 2 ∷ []
one_of_each = refl

-- a run ends where it has just the quota
just_the_quota : cycle_of (planned ((Fast, 1) ∷ (Near, 6) ∷ (Far, 4) ∷ []) 6) ≡ 0 ∷ 1 ∷ 0 ∷ 2 ∷ []
just_the_quota = refl

-- with a quota of 10,000: one run, in which Near stands for each chunk
large_quota : cycle_of (planned ((Fast, 1) ∷ (Fast, 23) ∷ (Near, 5) ∷ (Far, 5) ∷ (Far, 4) ∷ (Far, 1) ∷ (Far, 23) ∷ []) 10000)
    ≡ 0 ∷ 1 ∷ 2 ∷ 3 ∷ 2 ∷ 4 ∷ 5 ∷ 2 ∷ 6 ∷ []
large_quota = refl

-- Fast alone: once
fast_alone : cycle_of (planned ((Fast, 1) ∷ (Fast, 2) ∷ []) 6) ≡ 0 ∷ 1 ∷ []
fast_alone = refl

-- without Near each Far section is a chunk
without_near : cycle_of (planned ((Fast, 1) ∷ (Far, 4) ∷ (Far, 4) ∷ (Far, 4) ∷ []) 6) ≡ 0 ∷ 1 ∷ 2 ∷ 0 ∷ 3 ∷ []
without_near = refl

-- ---- spacing

-- the bounds of the first row: 3 + 6 + 22; and 43 packets with nine times Fast
row_fast : fast_bound row ≡ 31
row_fast = refl

row_near : near_bound row ≡ 70
row_near = refl

-- the packets in which these sections begin, where none was begun before
abbrev packets_of_starts : List Start → List ℕ
packets_of_starts starts = map (λ (s : Start). s.packet) starts

-- sections of one PID with so many bytes
abbrev stretch : List ℕ → List ℕ
stretch lens = packets_of_starts (starts_dense (λ i. 18) (slice_index lens) (begun_at 0) (numbers_from 0 (length lens)))

abbrev stretch_packets : List ℕ → ℕ
stretch_packets lens = packets_so_far (packed_all (λ i. 18) (slice_index lens) (begun_at 0) (numbers_from 0 (length lens)))

-- one that fills its packet is followed by none in it
stretch_filled : stretch (183 ∷ 183 ∷ 18 ∷ []) ≡ 0 ∷ 1 ∷ 2 ∷ []
stretch_filled = refl

-- 83 bytes begin behind 100, and 182 go on, so that no pointer_field fits behind these
stretch_shared : stretch (100 ∷ 265 ∷ []) ≡ 0 ∷ 0 ∷ []
stretch_shared = refl

stretch_shared_packets : stretch_packets (100 ∷ 265 ∷ []) ≡ 2
stretch_shared_packets = refl

-- a pointer_field and one byte of the third section
stretch_pointed : stretch (100 ∷ 265 ∷ 18 ∷ []) ≡ 0 ∷ 0 ∷ 1 ∷ []
stretch_pointed = refl

stretch_pointed_packets : stretch_packets (100 ∷ 265 ∷ 18 ∷ []) ≡ 3
stretch_pointed_packets = refl

-- Fast on a PID of its own, in two cycles in which it repeats at its bound, 1 + 6 + 22 packets
longest : Planned
longest = planned ((Fast, 1) ∷ (Near, 5) ∷ (Near, 23) ∷ []) 6

longest_bound : fast_bound longest ≡ 29
unfolding longest
longest_bound = refl

abbrev start : ℕ → ℕ → Start
start packet section = record { packet = packet; section = section }

longest_starts : starts_of_cycles (slice_index (0 ∷ 17 ∷ 18 ∷ [])) (slice_index (16 ∷ 736 ∷ 4096 ∷ [])) 0 (cycle_of longest ∷ cycle_of longest ∷ []) ≡
    start 0 0 ∷ start 1 1 ∷ start 6 2 ∷ start 29 0 ∷ start 30 1 ∷ start 35 2 ∷ []
unfolding longest
longest_starts = refl

-- Without `ends` the bound fails: an SDT of 183 bytes and a TDT, and in Near an SDT of another stream, 100 bytes, and an EIT of 4,096.
-- The SDT begins behind the other stream's, in packet 2, and then in packet 28.
shared : Planned
shared = planned ((Fast, 1) ∷ (Fast, 1) ∷ (Near, 1) ∷ (Near, 23) ∷ []) 1

shared_bound : fast_bound shared ≡ 25
unfolding shared
shared_bound = refl

shared_starts : starts_of_cycles (slice_index (17 ∷ 20 ∷ 17 ∷ 18 ∷ [])) (slice_index (183 ∷ 8 ∷ 100 ∷ 4096 ∷ [])) 0 (cycle_of shared ∷ cycle_of shared ∷ []) ≡
    (start 0 0 ∷ start 1 1 ∷ start 2 2 ∷ start 2 0 ∷ start 4 1 ∷ start 5 3 ∷ [])
    ++ (start 28 0 ∷ start 29 1 ∷ start 30 2 ∷ start 30 0 ∷ start 32 1 ∷ start 33 3 ∷ [])
unfolding shared
shared_starts = refl
