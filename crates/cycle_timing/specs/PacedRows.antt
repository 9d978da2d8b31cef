-- Worked plans and clocks. The values are those of a walk that lays sections into packets a byte at a
-- time (it knows the rules of a lead, of turns and of frames, and has no arithmetic of packings).
use Rattle.std.specs.Prelude.{◌≡◌, ℕ, List, [], ◌∷◌, ◌++◌, map, take, drop, replicate, refl, slice_index}
use Rattle.si_base.specs.Crc.{crc_of, crc_from}
use Rattle.si_time.specs.Moments.{moments_compute}
use Rattle.section_codec.specs.declared.table.SubTable.{SubTable}
use Rattle.section_codec.specs.declared.table.Tier3.{Tier3}
use Rattle.section_codec.specs.declared.table.Tier3.TheVariants.{Fast, Near, Far}
use Rattle.version_book.specs.Airings.{AiredTables}
use Rattle.ts_packets.specs.Bytes.{bytes_of_packet}
use Rattle.ts_packets.specs.Packets.{packets_of}
use Rattle.air_model.specs.Cycle.{Planned as Tiers}
use Rattle.air_model.specs.Sections.{planned}
use Rattle.air_timing.specs.declared.pace.Paced.{Paced}
use Rattle.air_timing.specs.declared.timing.Timing.{Timing}
use Rattle.air_timing.specs.Pacing.{place_at, timings}
use Rattle.air_timing.specs.Plan.{Planned, timed_of, order_in}
use Rattle.air_timing.specs.Rate.{gap_at}
use Rattle.air_model.specs.Air.{Sent, Aired}
use Rattle.cycle_timing.specs.SubTables.{TableName, name_of, number_of, groups}
use Rattle.cycle_timing.specs.Leads.{leads_of, measure}
use Rattle.cycle_timing.specs.Planning.{body_of, fast_groups, plan_at}
use Rattle.cycle_timing.specs.Clock.{Clock, later, at_swap, told_at}
use Rattle.cycle_timing.specs.Cycle.{Run, runs_of, cycle_timed, clock_of}

-- ---- names

abbrev sent : ℕ → List ℕ → Sent
sent pid bytes = record { pid = pid; bytes = bytes }

-- an EIT of service 258, and a TDT, up to their sixth byte
abbrev named : List Sent
named = sent 18 (0x4E ∷ 0xF0 ∷ 0x0F ∷ 0x01 ∷ 0x02 ∷ 0xC1 ∷ []) ∷ sent 20 (0x70 ∷ 0x70 ∷ 0x05 ∷ 0xC0 ∷ 0x79 ∷ 0x12 ∷ [])
    ∷ sent 18 (0x4E ∷ 0xF0 ∷ 0x20 ∷ 0x01 ∷ 0x02 ∷ 0xC3 ∷ []) ∷ sent 20 (0x70 ∷ 0x70 ∷ 0x05 ∷ 0xC0 ∷ 0x79 ∷ 0x23 ∷ []) ∷ []

abbrev name : ℕ → ℕ → ℕ → TableName
name pid table ext = record { pid = pid; table = table; ext = ext }

row_names : map name_of named ≡ name 18 0x4E 258 ∷ name 20 0x70 0 ∷ name 18 0x4E 258 ∷ name 20 0x70 0 ∷ []
row_names = refl

row_numbers : map (number_of named) named ≡ 0 ∷ 1 ∷ 0 ∷ 1 ∷ []
row_numbers = refl

row_groups : groups (slice_index (0 ∷ 1 ∷ 0 ∷ 3 ∷ 1 ∷ 0 ∷ [])) (0 ∷ 1 ∷ 2 ∷ 3 ∷ 4 ∷ 5 ∷ []) ≡ (0 ∷ 2 ∷ 5 ∷ []) ∷ (1 ∷ 4 ∷ []) ∷ (3 ∷ []) ∷ []
row_groups = refl

-- ---- a clock

abbrev clock : ℕ → ℕ → Clock
clock moment bits = record { moment = moment; bits = bits }

-- at 500 kbit/s 332 packets last 499,328 bits, and 333 a second and 832 bits
row_later : map (λ (n : ℕ). later 500000 n (clock 100 0)) (332 ∷ 333 ∷ []) ≡ clock 100 499328 ∷ clock 101 832 ∷ []
row_later = refl

-- so do 332 and one more
row_later_still : later 500000 1 (later 500000 332 (clock 100 0)) ≡ clock 101 832
row_later_still = refl

row_swap : at_swap 101 (clock 100 499999) ∷ at_swap 100 (clock 100 499999) ∷ [] ≡ clock 101 0 ∷ clock 100 499999 ∷ []
row_swap = refl

-- the last moment that is told is 2038-04-22T23:59:59
row_last : map (told_at 500000 (clock 5662310398 0)) (0 ∷ 333 ∷ 666 ∷ []) ≡ 5662310398 ∷ 5662310399 ∷ 5662310399 ∷ []
row_last = refl

-- ---- a plan

abbrev paced : ℕ → Tier3 → ℕ → ℕ → Paced
paced pid tier len table = record { pid = pid; tier = tier; len = len; table = table }

-- PAT and PMT; two sections of an SDT; the TDT; present and following; two schedules of the first
-- days, of two sections and of one; and two later ones
abbrev sections : List Paced
sections =
    paced 0 Fast 20 0 ∷ paced 256 Fast 40 1 ∷ paced 17 Fast 300 2 ∷ paced 17 Fast 300 2
    ∷ paced 20 Fast 8 4 ∷ paced 18 Fast 100 5 ∷ paced 18 Fast 100 5 ∷ paced 18 Near 170 7
    ∷ paced 18 Near 170 7 ∷ paced 18 Near 180 9 ∷ paced 18 Far 400 10 ∷ paced 18 Far 400 10
    ∷ paced 18 Far 500 12 ∷ []

abbrev weighed : Paced → Tier3 × ℕ
weighed s = (s.tier, packets_of s.len)

abbrev tiers : Tiers
tiers = planned (map weighed sections) 200

-- PAT, PMT and TDT stand in each lead; the SDT, and present and following, in turn
row_leads : leads_of (fast_groups sections tiers) ≡ (0 ∷ 1 ∷ 2 ∷ 4 ∷ 5 ∷ []) ∷ (0 ∷ 1 ∷ 3 ∷ 4 ∷ 6 ∷ []) ∷ []
row_leads = refl

-- five packets stand before present and following, and six in all
row_measure : measure sections (fast_groups sections tiers) ≡ record { first = 5; most = 6; often = 1; round = 2 }
row_measure = refl

-- Near has three packets, so a chunk has one later section
row_body : body_of sections tiers ≡ 7 ∷ 9 ∷ 8 ∷ 10 ∷ 7 ∷ 9 ∷ 8 ∷ 11 ∷ 7 ∷ 9 ∷ 8 ∷ 12 ∷ []
row_body = refl

abbrev plan : ℕ → Planned
plan rate = plan_at rate sections tiers

-- at 100 kbit/s no span is right, and at 500 kbit/s one of 142 packets is
row_spans : (plan 100000).span ∷ (plan 500000).span ∷ [] ≡ 36 ∷ 142 ∷ []
row_spans = refl

abbrev timings_at : ℕ → List Timing
timings_at rate = timings (timed_of (plan rate)) (place_at (gap_at rate)) (order_in (plan rate) (place_at (gap_at rate)))

abbrev at : ℕ → ℕ → ℕ → Timing
at section first last = record { section = section; first = first; last = last }

-- with a gap of two packets
row_timings : timings_at 100000 ≡
    (at 0 2 2 ∷ at 1 3 3 ∷ at 2 4 5 ∷ at 4 6 6 ∷ at 5 7 7 ∷ [])
    ++ (at 7 8 8 ∷ at 9 8 9 ∷ at 8 11 11 ∷ at 10 12 14 ∷ [])
    ++ (at 7 15 15 ∷ at 9 15 16 ∷ at 8 18 18 ∷ at 11 19 21 ∷ [])
    ++ (at 7 22 22 ∷ at 9 22 23 ∷ at 8 25 25 ∷ at 12 26 28 ∷ [])
    ++ (at 0 29 29 ∷ at 1 30 30 ∷ at 3 31 32 ∷ at 4 33 33 ∷ at 6 34 34 ∷ [])
row_timings = refl

-- null packets, and the sections that share packets after them
abbrev shown : Run → ℕ × List ℕ
shown r = (r.nulls, map (λ (t : Timing). t.section) r.part)

-- with a gap of nine packets
row_runs : map shown (runs_of (timings_at 500000)) ≡
    ((9, 0 ∷ []) ∷ (0, 1 ∷ []) ∷ (0, 2 ∷ []) ∷ (0, 4 ∷ []) ∷ (0, 5 ∷ []) ∷ (0, 7 ∷ 9 ∷ []) ∷ [])
    ++ ((8, 8 ∷ []) ∷ (0, 10 ∷ []) ∷ (6, 7 ∷ 9 ∷ []) ∷ (8, 8 ∷ []) ∷ (0, 11 ∷ []) ∷ [])
    ++ ((6, 7 ∷ 9 ∷ []) ∷ (8, 8 ∷ []) ∷ (0, 12 ∷ []) ∷ [])
    ++ ((0, 0 ∷ []) ∷ (0, 1 ∷ []) ∷ (0, 3 ∷ []) ∷ (0, 4 ∷ []) ∷ (0, 6 ∷ []) ∷ [])
row_runs = refl

-- an SDT of nine sections has one in each lead; PAT, and present and following, in each second one
row_turns : leads_of ((0 ∷ []) ∷ (1 ∷ 2 ∷ 3 ∷ 4 ∷ 5 ∷ 6 ∷ 7 ∷ 8 ∷ 9 ∷ []) ∷ (10 ∷ 11 ∷ []) ∷ []) ≡
    ((0 ∷ 1 ∷ 10 ∷ []) ∷ (2 ∷ []) ∷ (0 ∷ 3 ∷ 11 ∷ []) ∷ (4 ∷ []) ∷ (0 ∷ 5 ∷ 10 ∷ []) ∷ [])
    ++ ((6 ∷ []) ∷ (0 ∷ 7 ∷ 11 ∷ []) ∷ (8 ∷ []) ∷ (0 ∷ 9 ∷ 10 ∷ []) ∷ (1 ∷ []) ∷ [])
row_turns = refl

-- ---- a cycle of bytes, at 1,504 bit/s: each packet lasts a second

abbrev sdt_section : List ℕ
sdt_section =
    (0x42 ∷ 0xF0 ∷ 0x1E ∷ 0x00 ∷ 0x01 ∷ 0xC1 ∷ 0x00 ∷ 0x00 ∷ 0x00 ∷ 0x01 ∷ 0xFF ∷ 0x00 ∷ 0x65 ∷ 0xFF ∷ 0x80 ∷ 0x0D ∷ [])
    ++ (0x48 ∷ 0x0B ∷ 0x01 ∷ 0x04 ∷ 0x41 ∷ 0x63 ∷ 0x6D ∷ 0x65 ∷ 0x04 ∷ 0x4E ∷ 0x65 ∷ 0x77 ∷ 0x73 ∷ 0xB5 ∷ 0x82 ∷ 0xAF ∷ 0xDD ∷ [])

abbrev sdt : SubTable
sdt = record {
  key = record { pid = 17; table = 66; ext = 1; stream = 0; network = 1 };
  tier = Fast;
  sections = record { number = 0; body = take 21 (drop 8 sdt_section) } ∷ [];
}

-- an SDT at 1993-10-13T12:45:00Z
abbrev airing : AiredTables
airing = record { tables = sdt ∷ []; moment = 4257233100; form = record { quota = 200; offsets = [] } }

abbrev first : Aired
first = record { airing = airing; packets = cycle_timed 1504 [] [] (clock_of 1504 [] airing) airing }

-- one null packet, the SDT, and the TDT, which tells 12:45:02
row_cycle : map bytes_of_packet first.packets ≡
    (0x47 ∷ 0x1F ∷ 0xFF ∷ 0x10 ∷ replicate 184 0xFF)
    ∷ (0x47 ∷ 0x40 ∷ 0x11 ∷ 0x10 ∷ 0x00 ∷ sdt_section ++ replicate 150 0xFF)
    ∷ (0x47 ∷ 0x40 ∷ 0x14 ∷ 0x10 ∷ 0x00 ∷ 0x70 ∷ 0x70 ∷ 0x05 ∷ 0xC0 ∷ 0x79 ∷ 0x12 ∷ 0x45 ∷ 0x02 ∷ replicate 175 0xFF) ∷ []
unfolding crc_of crc_from moments_compute
row_cycle = refl

-- the same again: the clock goes on, and the TDT tells 12:45:05
row_next : map bytes_of_packet (cycle_timed 1504 (airing ∷ []) first.packets (clock_of 1504 (first ∷ []) airing) airing) ≡
    (0x47 ∷ 0x1F ∷ 0xFF ∷ 0x11 ∷ replicate 184 0xFF)
    ∷ (0x47 ∷ 0x40 ∷ 0x11 ∷ 0x11 ∷ 0x00 ∷ sdt_section ++ replicate 150 0xFF)
    ∷ (0x47 ∷ 0x40 ∷ 0x14 ∷ 0x11 ∷ 0x00 ∷ 0x70 ∷ 0x70 ∷ 0x05 ∷ 0xC0 ∷ 0x79 ∷ 0x12 ∷ 0x45 ∷ 0x05 ∷ replicate 175 0xFF) ∷ []
unfolding crc_of crc_from moments_compute
row_next = refl
