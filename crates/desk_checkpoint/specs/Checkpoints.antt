-- What stands in a checkpoint, and in which order its parts come.
use Rattle.std.specs.Prelude.{ℕ, ◌+◌, ◌==◌, ◌&&◌, nat_le, Bool, true, false, List, [], ◌∷◌, ◌++◌, Option, Some, None, option_map, if◌then◌else◌}
use Rattle.std.specs.declared.cmp.Ordering.{Ordering}
use Rattle.std.specs.declared.cmp.Ordering.TheVariants.{Less, Equal, Greater}
use Rattle.section_codec.specs.declared.table.Key.{Key}
use Rattle.section_codec.specs.declared.table.NumberedBody.{NumberedBody}
use Rattle.section_codec.specs.KeyOrder.{key_cmp}
use Rattle.version_book.specs.declared.key_version.KeyVersion.{KeyVersion}
use Rattle.ts_packets.specs.declared.pid_counter.PidCounter.{PidCounter}
use Rattle.cycle_player.specs.declared.clock.Clock.{Clock}
use Rattle.mux_model.specs.declared.mux.Mux.{Mux}
use Rattle.journal_model.specs.declared.step.Step.{Step}
use Rattle.journal_model.specs.declared.step.Outcome.{Outcome}
use Rattle.journal_model.specs.declared.step.Outcome.TheVariants.{Published}
use Rattle.desk_core.specs.Journal.{outcome_of, publishes}
use Rattle.desk_core.specs.Desks.{DeskState, fresh, and_entry}
use Rattle.desk_checkpoint.specs.Going.{is_taken}
use Rattle.desk_checkpoint.specs.declared.part.Part.{Part}
use Rattle.desk_checkpoint.specs.declared.part.Part.TheVariants.{Step as step, Version, Section, Counter, End}

-- What was read of a checkpoint: how many publications there were, the desk after its steps, the keys that were read whole, the key whose
-- sections are being read with the lowest number that the next of them may have, the counters with the lowest PID that the next of
-- them may have, and the clock, which stands at 0 where there is no bit rate.
pub record Checkpoint : Type 0 where
  pub count : ℕ
  pub desk : DeskState
  pub keys : List KeyVersion
  pub current : Option KeyVersion
  pub number : ℕ
  pub counters : List PidCounter
  pub pid : ℕ
  pub clock : Clock

-- before any part
abbrev pub counted : Mux → ℕ → Clock → Checkpoint
counted mux count clock = record {
  count = count;
  desk = fresh mux;
  keys = [];
  current = None;
  number = 0;
  counters = [];
  pid = 0;
  clock = clock;
}

abbrev pub is_none : {A : Type 0} → Option A → Bool
is_none None = true
is_none (Some x) = false

abbrev pub is_nil : {A : Type 0} → List A → Bool
is_nil [] = true
is_nil (x ∷ xs) = false

-- ---- where a part may stand

-- just one publish, and none where there were no publications
abbrev pub has_publish : Checkpoint → Bool
has_publish cp = publishes cp.desk.entries == (if cp.count == 0 then 0 else 1)

-- these keys with one more, which has a section
abbrev pub and_current : List KeyVersion → Option KeyVersion → Option (List KeyVersion)
and_current keys None = Some keys
and_current keys (Some key) = if is_nil key.sections then None else Some (keys ++ key ∷ [])

-- the steps and all keys are whole
abbrev pub whole : Checkpoint → Option Checkpoint
whole cp = if has_publish cp then option_map (λ keys. record cp { keys = keys; current = None }) (and_current cp.keys cp.current) else None

-- how many publications there are behind an outcome, where there were so many before it
abbrev pub published_by : ℕ → Outcome → ℕ
published_by count (Published n) = n
published_by count other = count

-- ---- one part more

-- a step may come: neither a key nor a counter did
abbrev pub steps_may_come : Checkpoint → Bool
steps_may_come cp = is_none cp.current && is_nil cp.counters

-- steps come first, and the desk takes each
abbrev pub with_step : Checkpoint → Step → Option Checkpoint
with_step cp s =
    let outcome = outcome_of cp.desk.mux cp.desk.entries s in
    if steps_may_come cp && is_taken outcome then Some (record cp { desk = and_entry cp.desk 0 s outcome }) else None

abbrev is_less : Ordering → Bool
is_less Less = true
is_less Equal = false
is_less Greater = false

abbrev pub comes_behind : Key → Option KeyVersion → Bool
comes_behind key None = true
comes_behind key (Some last) = is_less (key_cmp last.key key)

-- keys ascend, behind the steps
abbrev pub with_version : Checkpoint → Key → ℕ → Option Checkpoint
with_version cp key version =
    let begun : Checkpoint → Checkpoint = λ before. record before { current = Some (record { key = key; version = version; sections = [] }); number = 0 } in
    if is_nil cp.counters && comes_behind key cp.current then option_map begun (whole cp) else None

-- the sections of a key ascend
abbrev pub and_section : Checkpoint → NumberedBody → Option KeyVersion → Option Checkpoint
and_section cp section None = None
and_section cp section (Some key) =
    if nat_le cp.number section.number then
    Some (record cp { current = Some (record key { sections = key.sections ++ section ∷ [] }); number = section.number + 1 })
    else None

abbrev pub with_section : Checkpoint → NumberedBody → Option Checkpoint
with_section cp section = and_section cp section cp.current

-- The last PID that may have a counter. Null packets have PID 8191 (ISO/IEC 13818-1, 2.4.3.3), and
-- are sent only at a bit rate.
abbrev pub last_pid : Option ℕ → ℕ
last_pid None = 8190
last_pid (Some rate) = 8191

abbrev pub may_count : Checkpoint → PidCounter → Bool
may_count cp counter = nat_le cp.pid counter.pid && nat_le counter.pid (last_pid cp.desk.mux.rate)

-- counters ascend, behind the keys
abbrev pub with_counter : Checkpoint → PidCounter → Option Checkpoint
with_counter cp counter =
    let and_counter : Checkpoint → Checkpoint = λ before. record before { counters = before.counters ++ counter ∷ []; pid = counter.pid + 1 } in
    if may_count cp counter then option_map and_counter (whole cp) else None

-- with one more part, where it may stand there; the end stands behind what is whole
abbrev pub with_part : Checkpoint → Part → Option Checkpoint
with_part cp (step s) = with_step cp s
with_part cp (Version key version) = with_version cp key version
with_part cp (Section section) = with_section cp section
with_part cp (Counter counter) = with_counter cp counter
with_part cp End = whole cp

abbrev pub is_end : Part → Bool
is_end End = true
is_end part = false
