-- What is kept of the PIDs of an air can be written.
use Rattle.std.proofs.Common.{◌≡◌, ◌≢◌, Bool, true, false, ℕ, ◌<◌, ◌≤◌, ◌==◌, List, [], ◌∷◌, length, map, refl, sym, ap, ◌∙◌, arith, eqb-true, eq-eqb}
use Rattle.std.specs.Prelude.{if◌then◌else◌, Some, None}
use Rattle.std.specs.List.{AllByRecursion, cons_option}
use Rattle.std.proofs.lemmas.List.Elements.{recursion_from_All}
use Rattle.si_lists.proofs.Lists.{all_map, all_two}
use Rattle.ts_packets.specs.declared.pid_counter.PidCounter.{PidCounter}
use Rattle.ts_packets.specs.Bytes.{Packet, bytes_of_packet}
use Rattle.ts_packets.specs.Counting.{Load, loads_on, count_on, next_after}
use Rattle.ts_packets.specs.PidCounters.{IsPidCounter, counter_in}
use Rattle.ts_packets.proofs.Stamps.{count_on-written}
use Rattle.version_book.specs.Airings.{AiredTables}
use Rattle.air_model.specs.Air.{Aired, HasNoNull, air, IsAirOf}
use Rattle.desk_checkpoint.specs.Laws.{IsCounterWritten}
use Rattle.epg_play.specs.NeverRefused.{CountersAreWritten}

-- ---- packets

no_load : (ps : List Packet) → HasNoNull ps → loads_on 8191 ps ≡ []
no_load [] none = refl
no_load (p ∷ ps) none = go (p.pid == 8191) refl (no_load ps none.1)
  where
    load : Load
    load = record { counter = p.counter; piece = p.piece }

    go : (b : Bool) → (p.pid == 8191) ≡ b → loads_on 8191 ps ≡ [] → cons_option (if b then Some load else None) (loads_on 8191 ps) ≡ []
    go true is rest = absurd (omega (arith, none.0, eqb-true p.pid 8191 is))
    go false is rest = rest

none_counted : (airings : List AiredTables) (xs : List Aired) → IsAirOf airings xs → HasNoNull (air xs) → count_on 8191 (map bytes_of_packet (air xs)) ≡ 0
none_counted airings xs is none = count_on-written 8191 (air xs) is.fields ∙ ap length (no_load (air xs) none)

-- ---- counters

-- no counter is of a PID that has none
none_of : (pid : ℕ) (cs : List PidCounter) → counter_in pid cs ≡ None → AllByRecursion (λ (c : PidCounter). c.pid ≢ pid) cs
none_of pid [] e = tt
none_of pid (c ∷ cs) e = go (c.pid == pid) refl e (none_of pid cs)
  where
    go : (b : Bool) → (c.pid == pid) ≡ b → (if b then Some c.next else counter_in pid cs) ≡ None → (counter_in pid cs ≡ None → AllByRecursion (λ (d : PidCounter). d.pid ≢ pid) cs)
        → AllByRecursion (λ (d : PidCounter). d.pid ≢ pid) (c ∷ cs)
    go true is f rest = absurd cc
    go false is f rest = (λ e. absurd (let no : true ≡ false = sym (eq-eqb c.pid pid e) ∙ is in cc), rest f)

each_written : (cs : List PidCounter) → AllByRecursion IsPidCounter cs → AllByRecursion (λ (c : PidCounter). c.pid ≢ 8191) cs → AllByRecursion (IsCounterWritten None) cs
each_written = all_two IsPidCounter (λ (c : PidCounter). c.pid ≢ 8191) (IsCounterWritten None) (λ c fit other. record { pid = below c.pid fit.0 other; next = fit.1 })
  where
    below : (pid : ℕ) → pid < 8192 → pid ≢ 8191 → pid ≤ 8190
    below pid lt other = omega (arith, lt, other)

-- at a bit rate a PID has 13 bits
each_timed : (rate : ℕ) (cs : List PidCounter) → AllByRecursion IsPidCounter cs → AllByRecursion (IsCounterWritten (Some rate)) cs
each_timed rate = all_map IsPidCounter (IsCounterWritten (Some rate)) (λ c fit. record { pid = omega (arith, fit.0); next = fit.1 })

pub counters_written : CountersAreWritten
counters_written None airings xs pids is no_null are ascend fit =
    let none : counter_in 8191 pids ≡ None = are 8191 (omega arith) ∙ ap next_after (none_counted airings xs is no_null) in
    record { ascend = ascend; each = each_written pids (recursion_from_All IsPidCounter pids fit) (none_of 8191 pids none) }
counters_written (Some rate) airings xs pids is no_null are ascend fit =
    record { ascend = ascend; each = each_timed rate pids (recursion_from_All IsPidCounter pids fit) }
