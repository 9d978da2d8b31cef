-- Worked timings, frames, rates and spans. The packets of the timings and frames are those of a
-- walk that lays the bytes of these sections into packets one at a time; it has no arithmetic of
-- packings.
use Rattle.std.specs.Prelude.{◌≡◌, ℕ, zero, suc, List, [], ◌∷◌, ◌++◌, Bool, true, false, Option, None, Some, slice_index, map, nat_le, refl}
use Rattle.section_codec.specs.declared.table.Tier3.TheVariants.{Fast, Near}
use Rattle.air_timing.specs.declared.pace.Paced.{Paced}
use Rattle.air_timing.specs.declared.span.Leads.{Leads}
use Rattle.air_timing.specs.declared.timing.Timing.{Timing}
use Rattle.air_timing.specs.Pacing.{Timed, place_at, timings, nulls_in}
use Rattle.air_timing.specs.Spreading.{spread}
use Rattle.air_timing.specs.Frames.{Framed, frames_of, begin_of, order_of}
use Rattle.air_timing.specs.Turns.{often_of, round_of, turn_of}
use Rattle.air_timing.specs.PaceView.{lane_of}
use Rattle.air_timing.specs.Plan.{Planned, plan_of}
use Rattle.air_timing.specs.Rate.{gap_at, half_second, seconds_of, least_span, largest_span, span_at}

-- PAT; present and following of a service; and one section of a schedule: on PIDs 0 and 18, with a
-- gap of two packets
abbrev row : Timed
row = record {
  lane = slice_index (0 ∷ 18 ∷ 18 ∷ 18 ∷ []);
  len = slice_index (16 ∷ 100 ∷ 100 ∷ 200 ∷ []);
  table = slice_index (0 ∷ 1 ∷ 1 ∷ 2 ∷ []);
  gap = 2;
  least = 1;
}

abbrev at : ℕ → ℕ → ℕ → Timing
at section first last = record { section = section; first = first; last = last }

-- following waits for two null packets after present; the schedule shares its packet
row_timings : timings row (place_at 2) (0 ∷ 1 ∷ 2 ∷ 3 ∷ []) ≡ at 0 2 2 ∷ at 1 3 3 ∷ at 2 6 6 ∷ at 3 6 7 ∷ []
row_timings = refl

row_nulls : nulls_in row (place_at 2) (0 ∷ 1 ∷ 2 ∷ 3 ∷ []) ≡ 2
row_nulls = refl

-- in another order one of the two packets that are wanted is no null packet
row_spread : timings row (place_at 2) (0 ∷ 1 ∷ 3 ∷ 2 ∷ []) ≡ at 0 2 2 ∷ at 1 3 3 ∷ at 3 3 4 ∷ at 2 6 6 ∷ []
row_spread = refl

row_fewer : nulls_in row (place_at 2) (0 ∷ 1 ∷ 3 ∷ 2 ∷ []) ≡ 1
row_fewer = refl

-- ---- bytes in the packet in which a section begins

-- two sections on one PID, of two sub-tables and of these bytes, where so many bytes are wanted
abbrev pair : ℕ → ℕ → ℕ → Timed
pair least one two = record {
  lane = λ x. 18;
  len = slice_index (one ∷ two ∷ []);
  table = slice_index (0 ∷ 1 ∷ []);
  gap = 2;
  least = least;
}

abbrev pair_timings : ℕ → ℕ → ℕ → List Timing
pair_timings least one two = timings (pair least one two) (place_at 0) (0 ∷ 1 ∷ [])

-- after 175 bytes there is room for eight,
eight_bytes : pair_timings 8 175 100 ≡ at 0 0 0 ∷ at 1 0 1 ∷ []
eight_bytes = refl

-- after 176 for seven, so where eight are wanted the next packet is taken,
seven_bytes : pair_timings 8 176 100 ≡ at 0 0 0 ∷ at 1 1 1 ∷ []
seven_bytes = refl

-- and where one is wanted this one,
one_byte : pair_timings 1 182 100 ≡ at 0 0 0 ∷ at 1 0 1 ∷ []
one_byte = refl

no_byte : pair_timings 1 183 100 ≡ at 0 0 0 ∷ at 1 1 1 ∷ []
no_byte = refl

-- and a section of five bytes needs room for five
five_bytes : pair_timings 8 178 5 ≡ at 0 0 0 ∷ at 1 0 0 ∷ []
five_bytes = refl

four_bytes : pair_timings 8 179 5 ≡ at 0 0 0 ∷ at 1 1 1 ∷ []
four_bytes = refl

-- ---- lanes

abbrev paced : ℕ → ℕ → ℕ → Paced
paced pid len table = record { pid = pid; tier = Fast; len = len; table = table }

-- A section shares the packet of one of its lane, and begins a packet after one of another lane.
abbrev lanes : ℕ → ℕ → Timed
lanes one two = record {
  lane = slice_index (one ∷ two ∷ []);
  len = λ x. 60;
  table = slice_index (0 ∷ 1 ∷ []);
  gap = 2;
  least = 8;
}

one_lane : timings (lanes 72 72) (place_at 0) (0 ∷ 1 ∷ []) ≡ at 0 0 0 ∷ at 1 0 0 ∷ []
one_lane = refl

two_lanes : timings (lanes 72 73) (place_at 0) (0 ∷ 1 ∷ []) ≡ at 0 0 0 ∷ at 1 1 1 ∷ []
two_lanes = refl

-- Fast and Near sections of PID 18
row_lanes : map lane_of (paced 18 60 0 ∷ record { pid = 18; tier = Near; len = 60; table = 1 } ∷ []) ≡ 72 ∷ 73 ∷ []
row_lanes = refl

-- ---- turns and frames

-- sub-tables of three, one and two sections
row_turns : spread 3 ((0 ∷ 1 ∷ 2 ∷ []) ∷ (3 ∷ []) ∷ (4 ∷ 5 ∷ []) ∷ []) ≡ 0 ∷ 3 ∷ 4 ∷ 1 ∷ 5 ∷ 2 ∷ []
row_turns = refl

abbrev even : ℕ → List ℕ
even zero = 0 ∷ 1 ∷ []
even (suc zero) = 0 ∷ 2 ∷ []
even (suc (suc n)) = even n

-- PAT in each lead, present and following in turn; and of a body of four sections of a packet each,
-- of four sub-tables, what ends within four packets
abbrev framed : Framed
framed = record {
  timed = record {
    lane = slice_index (0 ∷ 18 ∷ 18 ∷ 17 ∷ 16 ∷ 17 ∷ 16 ∷ []);
    len = slice_index (16 ∷ 100 ∷ 100 ∷ 170 ∷ 170 ∷ 170 ∷ 170 ∷ []);
    table = slice_index (0 ∷ 1 ∷ 1 ∷ 2 ∷ 3 ∷ 4 ∷ 5 ∷ []);
    gap = 1;
    least = 1;
  };
  lead = even;
  span = 4;
  more = λ j. 0;
}

row_order : order_of framed (frames_of framed 0 (place_at 1) (3 ∷ 4 ∷ 5 ∷ 6 ∷ [])) ≡ 0 ∷ 1 ∷ 3 ∷ 4 ∷ 0 ∷ 2 ∷ 5 ∷ 6 ∷ []
row_order = refl

row_begins : map (begin_of framed) (frames_of framed 0 (place_at 1) (3 ∷ 4 ∷ 5 ∷ 6 ∷ [])) ≡ 1 ∷ 5 ∷ []
row_begins = refl

-- ---- rates: 25 ms of packets of 1,504 bits, rounded up

row_gaps : map gap_at (100000 ∷ 500000 ∷ 2000000 ∷ 10000000 ∷ 60160 ∷ 60161 ∷ []) ≡ 2 ∷ 9 ∷ 34 ∷ 167 ∷ 1 ∷ 2 ∷ []
row_gaps = refl

row_halves : map half_second (100000 ∷ 500000 ∷ 2000000 ∷ 10000000 ∷ []) ≡ 33 ∷ 166 ∷ 664 ∷ 3324 ∷ []
row_halves = refl

-- packet 332 is sent 0.998 seconds after packet 0 at 500 kbit/s, and packet 333 1.001 seconds
row_seconds : map (seconds_of 500000) (332 ∷ 333 ∷ []) ≡ 0 ∷ 1 ∷ []
row_seconds = refl

-- ---- spans, found by a trial of each span; at 100,000 bit/s and more

-- The leads of 3 services, of which PAT and PMTs have 4 packets; of 20, and of 64. PAT and PMTs
-- stand in each lead, present and following in each second one.
abbrev leads_of : ℕ → ℕ → Leads
leads_of first most = record { first = first; most = most; often = 1; round = 2 }

abbrev spans : Leads → List ℕ
spans l = map (λ (rate : ℕ). span_at rate l) (100000 ∷ 500000 ∷ 2000000 ∷ 10000000 ∷ [])

row_3_services : spans (leads_of 4 13) ≡ 43 ∷ 143 ∷ 591 ∷ 2985 ∷ []
row_3_services = refl

row_20_services : spans (leads_of 21 66) ≡ 96 ∷ 126 ∷ 574 ∷ 2968 ∷ []
row_20_services = refl

row_64_services : spans (leads_of 66 203) ≡ 233 ∷ 247 ∷ 529 ∷ 2923 ∷ []
row_64_services = refl

-- with an SDT of 16 sections: PAT and PMTs stand in each fourth lead
row_long_names : span_at 3000000 (record { first = 17; most = 55; often = 4; round = 16 }) ≡ 182
row_long_names = refl

-- whether a span is right
abbrev some_is_right : ℕ → Leads → Bool
some_is_right rate l = nat_le (least_span l (gap_at rate)) (largest_span rate l)

row_rights : map (λ (rate : ℕ). some_is_right rate (leads_of 21 66)) (430000 ∷ 440000 ∷ []) ≡ false ∷ true ∷ []
row_rights = refl

row_rights_64 : map (λ (rate : ℕ). some_is_right rate (leads_of 66 203)) (1110000 ∷ 1120000 ∷ []) ≡ false ∷ true ∷ []
row_rights_64 = refl

-- ---- turns in leads, by hand

-- the largest Fast sub-table has 2, 5, 9 and 16 sections
row_often : map often_of (2 ∷ 5 ∷ 9 ∷ 16 ∷ []) ≡ 1 ∷ 1 ∷ 2 ∷ 4 ∷ []
row_often = refl

row_rounds : map round_of (2 ∷ 5 ∷ 9 ∷ 16 ∷ []) ≡ 2 ∷ 5 ∷ 10 ∷ 16 ∷ []
row_rounds = refl

-- in leads 0, 1, 3, 5, 7 and 15 of 16: a PMT that is the second of all, present and following of a
-- service that is the fourth, and an SDT of 16 sections
abbrev turns : ℕ → ℕ → List (Option ℕ)
turns place sections = map (λ (i : ℕ). turn_of 4 place i sections) (0 ∷ 1 ∷ 3 ∷ 5 ∷ 7 ∷ 15 ∷ [])

row_pmt : turns 1 1 ≡ None ∷ Some 0 ∷ None ∷ Some 0 ∷ None ∷ None ∷ []
row_pmt = refl

row_events : turns 3 2 ≡ None ∷ None ∷ Some 0 ∷ None ∷ Some 1 ∷ Some 1 ∷ []
row_events = refl

row_sdt : turns 2 16 ≡ Some 0 ∷ Some 1 ∷ Some 3 ∷ Some 5 ∷ Some 7 ∷ Some 15 ∷ []
row_sdt = refl

-- ---- plans, of the sections of the frames above

abbrev planned_row : ℕ → ℕ → List ℕ → Planned
planned_row gap span body = record {
  sections = paced 0 16 0 ∷ paced 18 100 1 ∷ paced 18 100 1 ∷ paced 17 170 2 ∷ paced 16 170 3
      ∷ paced 17 170 4 ∷ paced 16 170 5 ∷ [];
  leads = (0 ∷ 1 ∷ []) ∷ (0 ∷ 2 ∷ []) ∷ [];
  body = body;
  spacing = record { gap = gap; least = 1 };
  span = span;
}

-- with a gap of four packets the second PAT waits for one null packet
row_plan : plan_of (planned_row 4 4 (3 ∷ 4 ∷ 5 ∷ 6 ∷ [])) (place_at 4)
    ≡ (at 0 4 4 ∷ at 1 5 5 ∷ at 3 6 6 ∷ at 4 7 7 ∷ [])
    ++ (at 0 9 9 ∷ at 2 10 10 ∷ at 5 11 11 ∷ at 6 12 12 ∷ [])
row_plan = refl

-- a body that ends in the first frame is followed by the other lead
row_closed : plan_of (planned_row 4 40 (3 ∷ [])) (place_at 4)
    ≡ at 0 4 4 ∷ at 1 5 5 ∷ at 3 6 6 ∷ at 0 9 9 ∷ at 2 10 10 ∷ []
row_closed = refl
