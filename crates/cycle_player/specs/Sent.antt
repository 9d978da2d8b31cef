-- What was sent of an air.
use Rattle.std.specs.Prelude.{◌≡◌, ℕ, List, [], ◌++◌, length, take, Option}
use Rattle.std.specs.Io.KnownBytes.{Appends}
use Rattle.version_book.specs.Airings.{AiredTables}
use Rattle.ts_packets.specs.WholePackets.{whole_packets}
use Rattle.air_model.specs.Air.{Aired, airings_of, air_bytes}
use Rattle.cycle_player.specs.Airs.{AreMadeAt, IsAirAt}

-- What was sent, from before to now, are the first bytes of an air of the first of these airings, at
-- this bit rate, or without one with neighbours of one PID in packets that they share.
pub record SentOf (rate : Option ℕ) (airings : List AiredTables) (before now : Option (List ℕ)) :
    Type 0 where
  pub cycles : List Aired
  pub others : List AiredTables
  pub airings_are : airings ≡ airings_of cycles ++ others
  pub is_air : IsAirAt rate (airings_of cycles) cycles
  pub made : AreMadeAt rate [] cycles
  pub size : ℕ
  pub bytes : Appends before now (take size (air_bytes cycles))

-- its whole packets
abbrev pub packets_sent : {rate : Option ℕ} {airings : List AiredTables}
    {before now : Option (List ℕ)} → SentOf rate airings before now → List (List ℕ)
packets_sent sent = whole_packets (take sent.size (air_bytes sent.cycles))

-- it is a whole air of all these airings
abbrev pub IsSentWhole : {rate : Option ℕ} {airings : List AiredTables}
    {before now : Option (List ℕ)} → SentOf rate airings before now → Type 0
IsSentWhole sent = (sent.others ≡ []) × (sent.size ≡ length (air_bytes sent.cycles))
