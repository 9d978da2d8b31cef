-- Where the sections of a worked cycle begin, and the bounds within which they repeat.
use Rattle.std.specs.Prelude.{◌≡◌, ℕ, List, [], ◌∷◌, refl}
use Rattle.si_time.specs.Moments.{moments_compute}
use Rattle.section_codec.specs.declared.table.NumberedBody.{NumberedBody}
use Rattle.section_codec.specs.declared.table.SubTable.{SubTable}
use Rattle.section_codec.specs.declared.table.Tier3.{Tier3}
use Rattle.section_codec.specs.declared.table.Tier3.TheVariants.{Fast, Near, Far}
use Rattle.air_model.specs.Packing.{Start}
use Rattle.air_model.specs.Spacing.{fast_bound, near_bound}
use Rattle.version_book.specs.Airings.{AiredTables}
use Rattle.air_model.specs.Air.{weights_once}
use Rattle.carousel_player.specs.Spacing.{plan_of, starts_of}

abbrev of_sections : ℕ → Tier3 → List NumberedBody → SubTable
of_sections table tier sections = record { key = record { pid = 18; table = table; ext = 1; stream = 1; network = 1 }; tier = tier; sections = sections }

-- a Near section and two Far ones, each of one packet, at 1993-10-13T12:45:00Z, and a quota of three packets
abbrev airing : AiredTables
airing = record {
  tables = of_sections 0x50 Near (record { number = 0; body = [] } ∷ []) ∷ of_sections 0x58 Far (record { number = 0; body = [] } ∷ record { number = 8; body = [] } ∷ []) ∷ [];
  moment = 4257233100;
  form = record { quota = 3; offsets = [] };
}

-- section 0 is the TDT
row_weights : weights_once [] airing ≡ (Fast, 1) ∷ (Near, 1) ∷ (Far, 1) ∷ (Far, 1) ∷ []
unfolding moments_compute
row_weights = refl

abbrev start : ℕ → ℕ → Start
start packet section = record { packet = packet; section = section }

-- in a cycle that begins with packet 100: a Near section and Far ones of a run have one PID, and share a packet
row_starts : starts_of 100 [] airing ≡ start 100 0 ∷ start 101 1 ∷ start 101 2 ∷ start 101 1 ∷ start 102 0 ∷ start 103 3 ∷ []
unfolding moments_compute
row_starts = refl

-- 1 + 3 + 22; and 25 packets with 25 div 3 + 2 times Fast
row_fast : fast_bound (plan_of [] airing) ≡ 26
unfolding moments_compute
row_fast = refl

row_near : near_bound (plan_of [] airing) ≡ 35
unfolding moments_compute
row_near = refl
