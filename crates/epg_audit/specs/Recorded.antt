-- What a recording has to do with the air of a journal.
use Rattle.std.specs.Prelude.{◌≡◌, ◌≤◌, ◌<◌, ◌+◌, ◌*◌, ◌&&◌, ℕ, suc, Bool, true, false, List, [], length, take, get_or, count_by, Option, Some, None}
use Rattle.packet_reader.specs.Recordings.{packet_limit}
use Rattle.mux_model.specs.declared.mux.Mux.{Mux}
use Rattle.journal_model.specs.declared.step.Entry.{Entry}
use Rattle.journal_air.specs.Air.{airings}
use Rattle.version_book.specs.Airings.{AiredTables}
use Rattle.ts_packets.specs.WholePackets.{whole_packets}
use Rattle.air_audit.specs.Passing.{is_null}
use Rattle.air_audit.specs.TimedAirs.{seen}
use Rattle.air_audit.specs.CycleAirs.{AreAirAt, BeginAirAt}
use Rattle.air_audit.specs.Breaking.{BreaksAt}
use Rattle.epg_report.specs.declared.status.Status.{Status}
use Rattle.epg_report.specs.declared.status.Status.TheVariants.{BadStream, NotAir, ReadFault, Short, TooLong}
use Rattle.epg_report.specs.declared.status.Origin.TheVariants.{Recording}
use Rattle.epg_play.specs.Script.{Script}
use Rattle.epg_play.specs.Leaves.{whole_journal}

-- what the commands of a script put on air
abbrev pub airings_for : Option Mux → List Entry → List AiredTables
airings_for None journal = []
airings_for (Some mux) journal = airings mux journal

abbrev pub script_airings : Script → List AiredTables
script_airings script = airings_for script.mux (whole_journal script)

-- the bit rate of a multiplex that is described, where it has one
abbrev pub rate_in : Option Mux → Option ℕ
rate_in None = None
rate_in (Some mux) = mux.rate

-- ---- null packets (ISO/IEC 13818-1, 2.4.3.3)

-- whether a packet is passed over: a null packet, where null packets may stand
abbrev pub is_passed : Bool → List ℕ → Bool
is_passed nulls packet = nulls && is_null packet

-- how many are passed over, where null packets may stand
abbrev pub passed_over : Bool → List (List ℕ) → Option ℕ
passed_over false packets = None
passed_over true packets = Some (count_by is_null packets)

-- ---- differences

-- The first difference of packets from an airing list: the first n of them are a prefix of an air of it, and the first n + 1 are none.
pub record FirstDifference (rate : Option ℕ) (nulls : Bool) (airings : List AiredTables)
    (packets : List (List ℕ)) (n : ℕ) : Type 0 where
  pub within : n < length packets
  pub begins : BeginAirAt rate nulls airings (seen nulls (take n packets))
  pub differs : ¬ (BeginAirAt rate nulls airings (seen nulls (take (suc n) packets)))

-- ---- recordings, by their bytes

-- A recording is an air of the airing list: its pieces of 188 bytes are, and it has no other bytes. It is within its limit.
pub record IsRecordedAir (rate : Option ℕ) (nulls : Bool) (airings : List AiredTables)
    (bytes : List ℕ) : Type 0 where
  pub air : AreAirAt rate nulls airings (seen nulls (whole_packets bytes))
  pub whole : length bytes ≡ 188 * length (whole_packets bytes)
  pub limit : length (whole_packets bytes) ≤ packet_limit

-- the first pieces of a recording are an air of the airing list
pub record BeginsWithAir (rate : Option ℕ) (nulls : Bool) (airings : List AiredTables)
    (bytes : List ℕ) : Type 0 where
  pub n : ℕ
  pub within : n ≤ length (whole_packets bytes)
  pub air : AreAirAt rate nulls airings (seen nulls (take n (whole_packets bytes)))

-- A recording ends after n pieces, which are a prefix of an air and no whole one.
pub record IsShort (rate : Option ℕ) (nulls : Bool) (airings : List AiredTables) (bytes : List ℕ)
    (n : ℕ) : Type 0 where
  pub whole : length bytes ≡ 188 * n
  pub begins : BeginAirAt rate nulls airings (seen nulls (whole_packets bytes))
  pub no_air : ¬ (AreAirAt rate nulls airings (seen nulls (whole_packets bytes)))

-- A recording goes on after n pieces, which are a prefix of an air, with less than a packet.
pub record IsCut (rate : Option ℕ) (nulls : Bool) (airings : List AiredTables) (bytes : List ℕ)
    (n : ℕ) : Type 0 where
  pub more : 188 * n < length bytes
  pub less : length bytes < 188 * n + 188
  pub begins : BeginAirAt rate nulls airings (seen nulls (whole_packets bytes))

-- A recording goes on after as many pieces as it may have, which are a prefix of an air.
pub record IsPastLimit (rate : Option ℕ) (nulls : Bool) (airings : List AiredTables)
    (bytes : List ℕ) : Type 0 where
  pub more : 188 * packet_limit < length bytes
  pub begins : BeginAirAt rate nulls airings (seen nulls (take packet_limit (whole_packets bytes)))

-- A recording is no air of the airing list, as the status says.
abbrev pub IsFaulty : Option ℕ → Bool → List AiredTables → List ℕ → Status → Type 0
IsFaulty rate nulls airings bytes (NotAir n rule) =
    FirstDifference rate nulls airings (whole_packets bytes) n
    × BreaksAt rate nulls airings (seen nulls (take n (whole_packets bytes)))
    (get_or (whole_packets bytes) n []) rule
IsFaulty rate nulls airings bytes (Short n) = IsShort rate nulls airings bytes n
IsFaulty rate nulls airings bytes (BadStream n) = IsCut rate nulls airings bytes n
IsFaulty rate nulls airings bytes (TooLong Recording) = IsPastLimit rate nulls airings bytes
IsFaulty rate nulls airings bytes (ReadFault Recording) = Unit {0}
IsFaulty rate nulls airings bytes status = ⊥
