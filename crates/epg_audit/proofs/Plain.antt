-- What an air that was recorded is to receivers, with its null packets or without them.
use Rattle.std.proofs.Common.{◌≡◌, ℕ, List, [], ◌∷◌, Bool, true, false, Option, Some, None, not, refl, sym, ap, ap₂, ◌∙◌, subst, map}
use Rattle.std.specs.Prelude.{◌==◌, ◌&&◌, cond}
use Rattle.std.specs.List.{AllByRecursion}
use Rattle.version_book.specs.Airings.{AiredTables}
use Rattle.ts_packets.specs.Bytes.{Packet, HasFields, bytes_of_packet}
use Rattle.ts_packets.proofs.Headers.{pid_in-bytes}
use Rattle.air_model.specs.Air.{Aired, air, airings_of}
use Rattle.air_model.specs.Nulls.{without_nulls, plain}
use Rattle.air_model.specs.Repeating.{IsRepeatingAirOf}
use Rattle.air_model.proofs.Nulls.{air_left, plain_repeats}
use Rattle.cycle_timing.specs.Airs.{CanBeTimed}
use Rattle.cycle_timing.proofs.Airs.{timed_airs_are_airs}
use Rattle.air_audit.specs.Passing.{is_null, past_nulls}
use Rattle.air_audit.proofs.Checks.{shape_of_written}
use Rattle.air_audit.specs.TimedAirs.{seen_of}
use Rattle.cycle_player.specs.Airs.{IsAirAt}
use Rattle.air_audit.specs.CycleAirs.{AreAirAt}

-- a null packet that is written
null_written : (p : Packet) → HasFields p → is_null (bytes_of_packet p) ≡ (p.pid == 8191)
null_written p h =
    ap₂ (λ (b : Bool) (n : ℕ). b && n == 8191) (shape_of_written p h) (pid_in-bytes p h.pid)

past_written : (ps : List Packet) → AllByRecursion HasFields ps
    → past_nulls (map bytes_of_packet ps) ≡ map bytes_of_packet (without_nulls ps)
past_written [] h = refl
past_written (p ∷ ps) h =
    ap₂ (λ (b : Bool) (l : List (List ℕ)). cond (not b) (bytes_of_packet p ∷ l) l)
    (null_written p h.0)
    (past_written ps h.1)
    ∙ go (p.pid == 8191)
  where
    go : (b : Bool) → cond (not b) (bytes_of_packet p ∷ map bytes_of_packet (without_nulls ps))
        (map bytes_of_packet (without_nulls ps))
        ≡ map bytes_of_packet (cond (not b) (p ∷ without_nulls ps) (without_nulls ps))
    go true = refl
    go false = refl

each_cycle : (xs : List Aired) → AllByRecursion CanBeTimed (airings_of xs)
    → AllByRecursion (λ (x : Aired). CanBeTimed x.airing) xs
each_cycle [] all = tt
each_cycle (x ∷ xs) all = (all.0, each_cycle xs all.1)

-- these packets are an air to receivers
abbrev IsHeardIn : Option ℕ → List AiredTables → List (List ℕ) → Type 0
IsHeardIn rate aired packets =
    (xs : List Aired) × IsAirAt rate aired xs × (map bytes_of_packet (air xs) ≡ packets)

seen_heard : (nulls : Bool) (rate : ℕ) (aired : List AiredTables) (xs : List Aired)
    (packets : List (List ℕ)) → IsRepeatingAirOf aired xs → seen_of nulls (air xs) ≡ packets
    → IsHeardIn (Some rate) aired packets
seen_heard false rate aired xs packets is are = (xs, is, are)
seen_heard true rate aired xs packets is are = (
  plain xs,
  plain_repeats aired xs is,
  ap (map bytes_of_packet) (air_left xs) ∙ sym (past_written (air xs) is.fields) ∙ are,
)

pub heard_in : (rate : Option ℕ) (nulls : Bool) (aired : List AiredTables)
    (packets : List (List ℕ)) → AllByRecursion CanBeTimed aired → AreAirAt rate nulls aired packets
    → IsHeardIn rate aired packets
heard_in None nulls aired packets can is = (is.xs, is.is_air, is.packets_are)
heard_in (Some rate) nulls aired packets can is =
    let own = subst (AllByRecursion CanBeTimed) (sym is.airings_are) can in
    let repeats = timed_airs_are_airs rate is.xs is.timed (each_cycle is.xs own) in
    seen_heard nulls rate aired is.xs packets
    (subst (λ (l : List AiredTables). IsRepeatingAirOf l is.xs) is.airings_are repeats)
    is.packets_are
