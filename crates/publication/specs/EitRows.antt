-- Worked tables of event information.
use Rattle.std.specs.Prelude.{◌≡◌, ℕ, ◌+◌, ◌*◌, List, [], ◌∷◌, ◌++◌, codes, map, None, refl}
use Rattle.guide_model.specs.Cutting.{pieces, first_pieces}
use Rattle.si_time.specs.Moments.{moment_bcd, duration_bcd}
use Rattle.guide_model.specs.declared.event.Event.{Event}
use Rattle.guide_model.specs.declared.guide.ServiceGuide.{ServiceGuide}
use Rattle.mux_model.specs.declared.mux.MuxService.{MuxService}
use Rattle.mux_model.specs.declared.mux.Mux.{Mux}
use Rattle.mux_model.specs.Muxes.{mux_of}
use Rattle.section_codec.specs.declared.table.NumberedBody.{NumberedBody}
use Rattle.section_codec.specs.declared.table.SubTable.{SubTable}
use Rattle.section_codec.specs.declared.table.Tier3.{Tier3}
use Rattle.section_codec.specs.declared.table.Tier3.TheVariants.{Near, Far}
use Rattle.publication.specs.Eit.{own, another}
use Rattle.publication.specs.Present.{present_sections, present_of}
use Rattle.publication.specs.Schedule.{schedule_table, near_tables, far_tables, remote_tables}

abbrev mux_with : List MuxService → Mux
mux_with = mux_of 40 (codes "Demo") 2 1 (record { 0 = 0 }) 200

abbrev eit : ℕ → ℕ → Tier3 → List NumberedBody → SubTable
eit service table tier sections = record { key = record { pid = 18; table = table; ext = service; stream = 2; network = 1 }; tier = tier; sections = sections }

-- what the body of a section begins with: transport_stream_id 2, original_network_id 1, segment_last_section_number and last_table_id
abbrev head : ℕ → ℕ → List ℕ
head segment_last last_table = 0x00 ∷ 0x02 ∷ 0x00 ∷ 0x01 ∷ segment_last ∷ last_table ∷ []

-- ---- events of 1993-10-13, whose midnight is the moment 4257187200 and whose day has the number 0xC079

abbrev news : ℕ → ℕ → ℕ → Event
news id start seconds = record {
  id = id;
  start = record { 0 = 4257187200 + start };
  seconds = seconds;
  language = codes "eng";
  name = codes "News";
  short = [];
  extended = [];
  rating = None;
  genres = [];
  descriptors = [];
}

abbrev with_events : List Event → ServiceGuide
with_events events = record { service = 101; provider = codes "Acme"; name = codes "News"; events = events }

-- ---- nothing published: present and following without an event, and one empty section of table 0x50

nothing_present : present_sections (own (mux_with [])) 4257187200 [] ≡ record { number = 0; body = head 1 0x4E } ∷ record { number = 1; body = head 1 0x4E } ∷ []
nothing_present = refl

nothing_scheduled : near_tables (mux_with []) 4257187200 (with_events []) ≡ eit 101 0x50 Near (record { number = 0; body = head 0 0x50 } ∷ []) ∷ []
nothing_scheduled = refl

nothing_later : far_tables (mux_with []) 4257187200 (with_events []) ≡ []
nothing_later = refl

-- the entry of such an event, after event_id and start_time: duration, running_status with descriptors_loop_length, and a short_event
abbrev entry : ℕ → List ℕ → List ℕ → ℕ → List ℕ
entry id start duration status =
    0x00 ∷ id ∷ 0xC0 ∷ 0x79 ∷ start ++ duration ++ 32 * status ∷ 0x0B
    ∷ 0x4D ∷ 0x09 ∷ 0x65 ∷ 0x6E ∷ 0x67 ∷ 0x04 ∷ 0x4E ∷ 0x65 ∷ 0x77 ∷ 0x73 ∷ 0x00 ∷ []

abbrev bodies : List ℕ → List (List ℕ) → List NumberedBody
bodies [] bs = []
bodies (n ∷ ns) [] = []
bodies (n ∷ ns) (b ∷ bs) = record { number = n; body = b } ∷ bodies ns bs

-- at 13:00:00 for half an hour: section 32 of table 0x50, after four empty ones
at_one : schedule_table (mux_with []) 4257187200 (with_events (news 7 46800 1800 ∷ [])) 0x50
    ≡ eit 101 0x50 Near (bodies (0 ∷ 8 ∷ 16 ∷ 24 ∷ 32 ∷ [])
    (head 0 0x50 ∷ head 8 0x50 ∷ head 16 0x50 ∷ head 24 0x50
    ∷ (head 32 0x50 ++ entry 7 (0x13 ∷ 0x00 ∷ 0x00 ∷ []) (0x00 ∷ 0x30 ∷ 0x00 ∷ []) 0) ∷ []))
unfolding moment_bcd duration_bcd pieces first_pieces
at_one = refl

-- over midnight, at a quarter past: present with running_status 4, and none follows; the day's table is empty
over_midnight : present_sections (own (mux_with [])) 4257274500 (news 9 84600 3600 ∷ [])
    ≡ bodies (0 ∷ 1 ∷ []) ((head 1 0x4E ++ entry 9 (0x23 ∷ 0x30 ∷ 0x00 ∷ []) (0x01 ∷ 0x00 ∷ 0x00 ∷ []) 4) ∷ head 1 0x4E ∷ [])
unfolding moment_bcd duration_bcd pieces first_pieces
over_midnight = refl

day_after : near_tables (mux_with []) 4257273600 (with_events (news 9 84600 3600 ∷ [])) ≡ eit 101 0x50 Near (bodies (0 ∷ []) (head 0 0x50 ∷ [])) ∷ []
unfolding moment_bcd duration_bcd pieces first_pieces
day_after = refl

-- before it begins: none is present, and it follows with running_status 1
follows : present_sections (own (mux_with [])) 4257271799 (news 9 84600 3600 ∷ [])
    ≡ bodies (0 ∷ 1 ∷ []) (head 1 0x4E ∷ (head 1 0x4E ++ entry 9 (0x23 ∷ 0x30 ∷ 0x00 ∷ []) (0x01 ∷ 0x00 ∷ 0x00 ∷ []) 1) ∷ [])
unfolding moment_bcd duration_bcd pieces first_pieces
follows = refl

-- one event eight days later: tables 0x50 and 0x51 have none, and all name the last table 0x52
eight_days_later : near_tables (mux_with []) 4256496000 (with_events (news 9 84600 3600 ∷ []))
    ≡ eit 101 0x50 Near (bodies (0 ∷ []) (head 0 0x52 ∷ [])) ∷ eit 101 0x51 Near (bodies (0 ∷ []) (head 0 0x52 ∷ [])) ∷ []
unfolding moment_bcd duration_bcd pieces first_pieces
eight_days_later = refl

abbrev later_tables : List SubTable
later_tables = far_tables (mux_with []) 4256496000 (with_events (news 9 84600 3600 ∷ []))

later_keys : map (λ (t : SubTable). t.key.table) later_tables ≡ 0x52 ∷ []
later_keys = refl

later_tiers : map (λ (t : SubTable). t.tier) later_tables ≡ Far ∷ []
later_tiers = refl

later_numbers : map (λ (t : SubTable). map (λ (s : NumberedBody). s.number) t.sections) later_tables ≡ (0 ∷ 8 ∷ 16 ∷ 24 ∷ 32 ∷ 40 ∷ 48 ∷ 56 ∷ []) ∷ []
unfolding moment_bcd duration_bcd pieces first_pieces
later_numbers = refl

-- ---- a service of another stream, 3 of network 4: the same sections under the table_ids of other streams

abbrev other_head : ℕ → ℕ → List ℕ
other_head segment_last last_table = 0x00 ∷ 0x03 ∷ 0x00 ∷ 0x04 ∷ segment_last ∷ last_table ∷ []

abbrev other_eit : ℕ → Tier3 → List NumberedBody → SubTable
other_eit table tier sections = record { key = record { pid = 18; table = table; ext = 101; stream = 3; network = 4 }; tier = tier; sections = sections }

other_present : present_of (another 3 4) 4257187200 (with_events []) ≡ other_eit 0x4F Near (bodies (0 ∷ 1 ∷ []) (other_head 1 0x4F ∷ other_head 1 0x4F ∷ []))
other_present = refl

other_scheduled : remote_tables (another 3 4) 4257187200 (with_events []) ≡ other_eit 0x60 Far (bodies (0 ∷ []) (other_head 0 0x60 ∷ [])) ∷ []
other_scheduled = refl

-- one event eight days later: tables 0x60 to 0x62, all Far, which all name the last table 0x62
other_later : map (λ (t : SubTable). t.key.table) (remote_tables (another 3 4) 4256496000 (with_events (news 9 84600 3600 ∷ []))) ≡ 0x60 ∷ 0x61 ∷ 0x62 ∷ []
other_later = refl
