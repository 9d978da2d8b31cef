-- What is on air while the steps of a desk are done: which cycles the player has sent, and what the air took of them.
use Rattle.std.specs.Prelude.{◌≡◌, ℕ, ◌<◌, Bool, true, false, List, [], ◌∷◌, ◌++◌, length, take, flat_map, Option, Ok, Err, Result}
use Rattle.std.specs.Io.KnownBytes.{Appends}
use Rattle.si_causes.specs.Causes.{Rose}
use Rattle.ts_packets.specs.Bytes.{bytes_of_packet}
use Rattle.version_book.specs.Book.{aired}
use Rattle.version_book.specs.Airings.{CycleForm, AiredTables}
use Rattle.air_model.specs.Air.{Aired, airings_of, air_bytes}
use Rattle.mux_model.specs.declared.mux.Mux.{Mux}
use Rattle.cycle_player.specs.Airs.{cycle_at, AreMadeAt, IsAirAt}
use Rattle.cycle_player.specs.Sending.{Sending, AtEnd}
use Rattle.publication.specs.Tables.{tables_of}
use Rattle.desk_core.specs.declared.airing.Airing.{Airing}
use Rattle.journal_model.specs.declared.step.Step.{Step}
use Rattle.journal_model.specs.declared.step.Step.TheVariants.{Edit as edit, Tick, Publish, Swap}
use Rattle.journal_model.specs.declared.step.Entry.{Entry}
use Rattle.desk_core.specs.Journal.{outcome_of}
use Rattle.desk_core.specs.Desks.{DeskState, and_entry, on_air_of}
use Rattle.journal_air.specs.declared.send.SendStop.{SendStop}
use Rattle.journal_air.specs.declared.send.SendStop.TheVariants.{Air, Memory}
use Rattle.journal_air.specs.Air.{airings, mux_form}

-- the bytes of one cycle
abbrev pub cycle_bytes : Aired → List ℕ
cycle_bytes x = flat_map bytes_of_packet x.packets

-- the airing of a publication that a multiplex puts on air, in a cycle of this form
abbrev pub airing_by : Mux → CycleForm → Airing → AiredTables
airing_by mux form on = aired (tables_of mux on.guide) on.moment.0 form

-- the airing of what is on air at a desk, in a cycle of this form
abbrev pub airing_on : DeskState → CycleForm → AiredTables
airing_on desk form = airing_by desk.mux form (on_air_of desk)

-- A player of this multiplex: its cycles have the multiplex's form, and it has the multiplex's bit rate.
pub record IsPlayerOf (mux : Mux) (player : Sending) : Type 0 where
  pub form : player.form ≡ mux_form mux
  pub rate : player.rate ≡ mux.rate

-- the cycles of two players have one form and one bit rate
pub record AreAlike (one other : Sending) : Type 0 where
  pub form : other.form ≡ one.form
  pub rate : other.rate ≡ one.rate

-- After earlier cycles the player of the desk's multiplex has sent these, those of the desk's journal, and is at its end.
pub record HasSentAll (earlier : List Aired) (desk : DeskState) (player : Sending) (xs : List Aired) : Type 0 where
  pub at_end : AtEnd (earlier ++ xs) player
  pub airings_are : airings_of xs ≡ airings desk.mux desk.entries
  pub made : AreMadeAt desk.mux.rate earlier xs
  pub player_of : IsPlayerOf desk.mux player

-- and the air took them, from `before` to `now`
abbrev pub HasAired : List Aired → DeskState → Sending → Option (List ℕ) → Option (List ℕ) → Type 0
HasAired earlier desk player before now = (xs : List Aired) × HasSentAll earlier desk player xs × Appends before now (air_bytes xs)

-- After earlier cycles the air took whole ones for all swaps but the last, which is the last entry, and a proper front of its cycle.
pub record HasAiredFront (earlier : List Aired) (desk : DeskState) (before now : Option (List ℕ)) : Type 0 where
  pub front : List Entry
  pub last : Entry
  pub entries : desk.entries ≡ front ++ last ∷ []
  pub is_swap : last.step ≡ Swap
  pub whole : List Aired
  pub cut : Aired
  pub is_air : IsAirAt desk.mux.rate (airings_of earlier ++ airings desk.mux desk.entries) (earlier ++ (whole ++ cut ∷ []))
  pub made : AreMadeAt desk.mux.rate earlier (whole ++ cut ∷ [])
  pub taken : ℕ
  pub proper : taken < length (cycle_bytes cut)
  pub bytes : Appends before now (air_bytes whole ++ take taken (cycle_bytes cut))

-- What sending the cycle of an airing leaves: the whole cycle, or a proper front of it.
abbrev pub SentCycle : List Aired → AiredTables → Sending → Option (List ℕ) → Option (List ℕ) → Result (Unit {0}) SendStop → Type 0
SentCycle xs a player old new (Ok u) = (x : Aired) × (x.airing ≡ a) × (x.packets ≡ cycle_at player.rate xs a) × AtEnd (xs ++ x ∷ []) player × Appends old new (cycle_bytes x)
SentCycle xs a player old new (Err Air) =
    (x : Aired) × (x.airing ≡ a) × (x.packets ≡ cycle_at player.rate xs a) × IsAirAt player.rate (airings_of (xs ++ x ∷ [])) (xs ++ x ∷ []) × ((n : ℕ) × (n < length (cycle_bytes x)) × Appends old new (take n (cycle_bytes x)))
SentCycle xs a player old new (Err Memory) = Unit {0}

-- the desk with one more step of a caller
abbrev pub and_step : DeskState → ℕ → Step → DeskState
and_step desk who step = and_entry desk who step (outcome_of desk.mux desk.entries step)

abbrev pub is_swap : Step → Bool
is_swap Swap = true
is_swap Publish = false
is_swap (edit feed e) = false
is_swap (Tick at) = false

-- what is on air once steps are done as far as this
abbrev pub AiredTo : List Aired → DeskState → Sending → Option (List ℕ) → Option (List ℕ) → Result (Unit {0}) SendStop → Type 0
AiredTo earlier desk player before now (Ok u) = HasAired earlier desk player before now
AiredTo earlier desk player before now (Err Air) = HasAiredFront earlier desk before now
AiredTo earlier desk player before now (Err Memory) = Unit {0}

-- a stop by a failed write has its cause
abbrev pub HasAirCause : ℕ → ℕ → Result (Unit {0}) SendStop → Type 0
HasAirCause before now (Err Air) = Rose before now
HasAirCause before now result = Unit {0}
