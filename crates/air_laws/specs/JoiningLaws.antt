-- Laws of joining an air, and of versions along it.
use Rattle.std.specs.Prelude.{◌≡◌, ◌≢◌, ℕ, ◌+◌, ◌<◌, ◌≤◌, List, [], ◌∷◌, ◌++◌, IsSome, length, filter_map}
use Rattle.std.specs.List.{AllByRecursion, Contains}
use Rattle.section_codec.specs.declared.table.Key.{Key}
use Rattle.version_book.specs.Airings.{AiredTables, content_at}
use Rattle.ts_packets.specs.Packets.{Carries}
use Rattle.ts_packets.specs.Counting.{of_pid}
use Rattle.air_model.specs.Air.{Sent, Aired, tdt, tot, sent_on, air, airings_of, IsAirOf, CanBeSent}
use Rattle.air_model.specs.Repeating.{IsTimeFrom, IsOfTable, IsRepeatingAirOf, sent_by}
use Rattle.air_laws.specs.Sending.{sections_sent}
use Rattle.air_laws.specs.Versions.{version_behind, changes_behind, ShareVersion}
use Rattle.air_laws.specs.Joining.{heard_between, PartsAreHeard, IsOfCycleIn}

-- Where two airings carry a key with different contents under one version, an airing between them carries it with another version,
abbrev pub AnotherVersionBetween : Type 0
AnotherVersionBetween =
    (k : Key) (past : List AiredTables) (a : AiredTables) (between : List AiredTables) (b : AiredTables) → ShareVersion k past a between b
    → (one two : List AiredTables) × (e : AiredTables) × (between ≡ one ++ e ∷ two) × IsSome (content_at k e)
    × (version_behind k (past ++ a ∷ one) e ≢ version_behind k past a)

-- and the content has changed at least 32 times from the one to the other.
abbrev pub ChangesBetween : Type 0
ChangesBetween =
    (k : Key) (past : List AiredTables) (a : AiredTables) (between : List AiredTables) (b : AiredTables) → ShareVersion k past a between b
    → changes_behind k past a + 32 ≤ changes_behind k (past ++ a ∷ between) b

-- On each PID the packets of an air carry the sections of its cycles, cycle by cycle: in groups, one for each packet of the PID,
abbrev pub AirCarries : Type 0
AirCarries =
    (airings : List AiredTables) (xs : List Aired) → IsAirOf airings xs → (pid : ℕ) → pid < 8191
    → Carries (of_pid pid (air xs)) (filter_map (sent_on pid) (sections_sent [] airings))

-- and whoever joins it hears those of them that begin and end in the packets heard.
abbrev pub JoinedIsHeard : Type 0
JoinedIsHeard =
    (airings : List AiredTables) (xs : List Aired) → IsAirOf airings xs → CanBeSent airings → (pid : ℕ) → pid < 8191
    → (carries : Carries (of_pid pid (air xs)) (filter_map (sent_on pid) (sections_sent [] airings)))
    → PartsAreHeard pid (air xs) carries.groups

-- The same of an air whose cycles repeat sections as they like.
abbrev pub RepeatingAirCarries : Type 0
RepeatingAirCarries =
    (airings : List AiredTables) (xs : List Aired) (is : IsRepeatingAirOf airings xs) (pid : ℕ) → pid < 8191
    → Carries (of_pid pid (air xs)) (filter_map (sent_on pid) (sent_by [] xs is.cycles))

abbrev pub RepeatingJoinedIsHeard : Type 0
RepeatingJoinedIsHeard =
    (airings : List AiredTables) (xs : List Aired) (is : IsRepeatingAirOf airings xs) → CanBeSent airings → (pid : ℕ) → pid < 8191
    → (carries : Carries (of_pid pid (air xs)) (filter_map (sent_on pid) (sent_by [] xs is.cycles)))
    → PartsAreHeard pid (air xs) carries.groups

-- Each section heard is one of an airing whose cycle has a packet among those heard.
abbrev pub HeardIsSent : Type 0
HeardIsSent =
    (airings : List AiredTables) (xs : List Aired) → IsRepeatingAirOf airings xs → CanBeSent airings → (pid : ℕ) → pid < 8191
    → (join end : ℕ) → AllByRecursion (IsOfCycleIn join end pid xs) (heard_between join end pid (air xs))

-- Where all packets of the cycle of an airing are heard, each section of its sub-tables is,
abbrev pub CycleIsHeard : Type 0
CycleIsHeard =
    (airings : List AiredTables) (before after : List Aired) (x : Aired) → IsRepeatingAirOf airings (before ++ x ∷ after) → CanBeSent airings
    → (join end : ℕ) → join ≤ length (air before) → length (air before) + length x.packets ≤ end
    → (s : Sent) → IsOfTable (airings_of before) x.airing s → s.pid < 8191
    → Contains (heard_between join end s.pid (air (before ++ x ∷ after))) s.bytes

-- a TDT of its moment or of a later one,
abbrev pub CycleTellsTime : Type 0
CycleTellsTime =
    (airings : List AiredTables) (before after : List Aired) (x : Aired) → IsRepeatingAirOf airings (before ++ x ∷ after) → CanBeSent airings
    → (join end : ℕ) → join ≤ length (air before) → length (air before) + length x.packets ≤ end
    → (at : ℕ) × IsTimeFrom x.airing at × Contains (heard_between join end 0x0014 (air (before ++ x ∷ after))) (tdt at).bytes

-- and where its form has offsets such a TOT.
abbrev pub CycleTellsLocalTime : Type 0
CycleTellsLocalTime =
    (airings : List AiredTables) (before after : List Aired) (x : Aired) → IsRepeatingAirOf airings (before ++ x ∷ after) → CanBeSent airings
    → (join end : ℕ) → join ≤ length (air before) → length (air before) + length x.packets ≤ end
    → (at : ℕ) × IsTimeFrom x.airing at
    × AllByRecursion (λ (s : Sent). Contains (heard_between join end 0x0014 (air (before ++ x ∷ after))) s.bytes) (tot at x.airing.form.offsets)
