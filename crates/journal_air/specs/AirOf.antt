-- What the air has of a journal.
use Rattle.std.specs.Prelude.{◌≡◌, ℕ, ◌<◌, List, [], ◌∷◌, ◌++◌, length, take, Option, Ok, Err, Result}
use Rattle.std.specs.Io.KnownBytes.{Appends}
use Rattle.version_book.specs.Airings.{AiredTables}
use Rattle.air_model.specs.Air.{Aired, airings_of, air_bytes}
use Rattle.cycle_player.specs.Airs.{AreMadeAt, IsAirAt}
use Rattle.mux_model.specs.declared.mux.Mux.{Mux}
use Rattle.journal_model.specs.declared.step.Entry.{Entry}
use Rattle.journal_air.specs.Air.{airings}
use Rattle.journal_air.specs.declared.send.SendStop.{SendStop}
use Rattle.journal_air.specs.declared.send.SendStop.TheVariants.{Air, Memory}
use Rattle.journal_air.specs.OnAir.{cycle_bytes}

-- The air of a journal: all cycles, from before to now.
pub record AirOf (mux : Mux) (journal : List Entry) (before now : Option (List ℕ)) : Type 0 where
  pub cycles : List Aired
  pub is_air : IsAirAt mux.rate (airings mux journal) cycles
  pub made : AreMadeAt mux.rate [] cycles
  pub bytes : Appends before now (air_bytes cycles)

-- All cycles but the last, and a proper front of that.
pub record CutAirOf (mux : Mux) (journal : List Entry) (before now : Option (List ℕ)) : Type 0 where
  pub whole : List Aired
  pub cut : Aired
  pub is_air : IsAirAt mux.rate (airings mux journal) (whole ++ cut ∷ [])
  pub made : AreMadeAt mux.rate [] (whole ++ cut ∷ [])
  pub taken : ℕ
  pub proper : taken < length (cycle_bytes cut)
  pub bytes : Appends before now (air_bytes whole ++ take taken (cycle_bytes cut))

-- Whole cycles of the first airings.
pub record SomeAirOf (mux : Mux) (journal : List Entry) (before now : Option (List ℕ)) : Type 0 where
  pub cycles : List Aired
  pub is_air : IsAirAt mux.rate (airings_of cycles) cycles
  pub made : AreMadeAt mux.rate [] cycles
  pub left : List AiredTables
  pub airings_are : airings mux journal ≡ airings_of cycles ++ left
  pub bytes : Appends before now (air_bytes cycles)

abbrev pub AirDid : Mux → List Entry → Option (List ℕ) → Option (List ℕ) → Result (Unit {0}) SendStop → Type 0
AirDid mux journal before now (Ok u) = AirOf mux journal before now
AirDid mux journal before now (Err Air) = CutAirOf mux journal before now
AirDid mux journal before now (Err Memory) = SomeAirOf mux journal before now
