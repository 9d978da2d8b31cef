-- What is heard of a part of an air.
use Rattle.std.proofs.Common.{◌≡◌, ℕ, ◌+◌, ◌-◌, ◌<◌, ◌≤◌, ◌⊎◌, inl, inr, List, [], ◌∷◌, ◌++◌, length, take, drop, map, refl, sym, ap, ap₂}
use Rattle.std.proofs.Common.{◌∙◌, subst, arith}
use Rattle.std.specs.Prelude.{filter_map, slice_range}
use Rattle.std.specs.List.{AllByRecursion}
use Rattle.std.proofs.lemmas.List.{take-append-drop, length-append}
use Rattle.std.proofs.lemmas.List.Concat.{flat_map-append}
use Rattle.std.proofs.lemmas.List.Folds.{drop_split}
use Rattle.std.proofs.lemmas.List.Elements.{filter_map-append}
use Rattle.si_lists.proofs.Lists.{all_append}
use Rattle.version_book.specs.Airings.{AiredTables}
use Rattle.ts_packets.specs.Packets.{Piece, pieces, left, HaveSectionBytes, all_of, Carries}
use Rattle.ts_packets.specs.Bytes.{Packet, bytes_of_packet}
use Rattle.ts_packets.specs.Counting.{piece_on, of_pid}
use Rattle.ts_packets.proofs.Carrying.{pieces-append, left-append, HaveRoom-append}
use Rattle.ts_packets.proofs.Stamps.{of_pid-append}
use Rattle.ts_demux.specs.Hearing.{IsSection}
use Rattle.ts_demux.specs.Sections.{sections_on}
use Rattle.ts_demux.specs.Laws.{GoOn, within}
use Rattle.ts_demux.proofs.Written.{part_goes_on, part_is_heard}
use Rattle.air_model.specs.Air.{Sent, Aired, sent_on, air, airings_of, CanBeSent}
use Rattle.air_model.specs.Repeating.{RepeatingCycles, IsRepeatingAirOf, sent_by}
use Rattle.air_laws.specs.Sending.{sections_sent}
use Rattle.air_laws.proofs.Sections.{each_section, each_on, sections-each, GoOn-air}
use Rattle.air_laws.specs.Joining.{count_before, heard_between, PartsAreHeard}
use Rattle.air_laws.specs.JoiningLaws.{JoinedIsHeard, RepeatingAirCarries, RepeatingJoinedIsHeard}
use Rattle.si_lists.proofs.Parts.{le_either, take-further, chosen-before}
use Rattle.ts_demux.proofs.Parts.{within-none}

-- ---- the cycles, joined

-- the groups of the cycles, one after the other: a group for each packet of a PID, the sections that begin in it
abbrev pub groups_by : (pid : ℕ) → pid < 8191 → (past : List AiredTables) (xs : List Aired) → RepeatingCycles past xs → List (List (List ℕ))
groups_by pid lt past [] h = []
groups_by pid lt past (x ∷ xs) h = (h.0.carried pid lt).groups ++ groups_by pid lt (past ++ x.airing ∷ []) xs h.1

pub pieces_by : (pid : ℕ) (lt : pid < 8191) (past : List AiredTables) (xs : List Aired) (h : RepeatingCycles past xs)
    → of_pid pid (air xs) ≡ pieces [] (groups_by pid lt past xs h)
pieces_by pid lt past [] h = refl
pieces_by pid lt past (x ∷ xs) h =
    let own : Carries (of_pid pid x.packets) (filter_map (sent_on pid) h.0.sections) = h.0.carried pid lt in
    let rest : List (List (List ℕ)) = groups_by pid lt (past ++ x.airing ∷ []) xs h.1 in
    let later : of_pid pid (air xs) ≡ pieces (left [] own.groups) rest =
    pieces_by pid lt (past ++ x.airing ∷ []) xs h.1 ∙ ap (λ (r : List ℕ). pieces r rest) (sym own.ended) in
    of_pid-append pid x.packets (air xs) ∙ ap₂ (λ (ps qs : List Piece). ps ++ qs) own.are later ∙ sym (pieces-append [] own.groups rest)

pub room_by : (pid : ℕ) (lt : pid < 8191) (past : List AiredTables) (xs : List Aired) (h : RepeatingCycles past xs) → HaveSectionBytes [] (groups_by pid lt past xs h)
room_by pid lt past [] h = tt
room_by pid lt past (x ∷ xs) h =
    let own : Carries (of_pid pid x.packets) (filter_map (sent_on pid) h.0.sections) = h.0.carried pid lt in
    let rest : List (List (List ℕ)) = groups_by pid lt (past ++ x.airing ∷ []) xs h.1 in
    HaveRoom-append [] own.groups rest own.have_room
    (subst (λ (r : List ℕ). HaveSectionBytes r rest) (sym own.ended) (room_by pid lt (past ++ x.airing ∷ []) xs h.1))

pub sections_by : (pid : ℕ) (lt : pid < 8191) (past : List AiredTables) (xs : List Aired) (h : RepeatingCycles past xs)
    → filter_map (sent_on pid) (sent_by past xs h) ≡ all_of (groups_by pid lt past xs h)
sections_by pid lt past [] h = refl
sections_by pid lt past (x ∷ xs) h =
    let own : Carries (of_pid pid x.packets) (filter_map (sent_on pid) h.0.sections) = h.0.carried pid lt in
    let rest : List (List (List ℕ)) = groups_by pid lt (past ++ x.airing ∷ []) xs h.1 in
    filter_map-append (sent_on pid) h.0.sections (sent_by (past ++ x.airing ∷ []) xs h.1)
    ∙ ap₂ (λ (ss ts : List (List ℕ)). ss ++ ts) own.sections (sections_by pid lt (past ++ x.airing ∷ []) xs h.1)
    ∙ sym (flat_map-append (λ (g : List (List ℕ)). g) own.groups rest)

ended_by : (pid : ℕ) (lt : pid < 8191) (past : List AiredTables) (xs : List Aired) (h : RepeatingCycles past xs) → left [] (groups_by pid lt past xs h) ≡ []
ended_by pid lt past [] h = refl
ended_by pid lt past (x ∷ xs) h =
    let own : Carries (of_pid pid x.packets) (filter_map (sent_on pid) h.0.sections) = h.0.carried pid lt in
    let rest : List (List (List ℕ)) = groups_by pid lt (past ++ x.airing ∷ []) xs h.1 in
    left-append [] own.groups rest ∙ ap (λ (r : List ℕ). left r rest) own.ended ∙ ended_by pid lt (past ++ x.airing ∷ []) xs h.1

abbrev carried_by : (pid : ℕ) → pid < 8191 → (past : List AiredTables) (xs : List Aired) (h : RepeatingCycles past xs)
    → Carries (of_pid pid (air xs)) (filter_map (sent_on pid) (sent_by past xs h))
carried_by pid lt past xs h = record {
  groups = groups_by pid lt past xs h;
  are = pieces_by pid lt past xs h;
  have_room = room_by pid lt past xs h;
  sections = sections_by pid lt past xs h;
  ended = ended_by pid lt past xs h;
}

pub repeating_carries : RepeatingAirCarries
repeating_carries airings xs is pid lt = carried_by pid lt [] xs is.cycles

pub sent_each : (past : List AiredTables) (xs : List Aired) (h : RepeatingCycles past xs) → CanBeSent (airings_of xs)
    → AllByRecursion (λ (x : Sent). IsSection x.bytes) (sent_by past xs h)
sent_each past [] h fit = tt
sent_each past (x ∷ xs) h fit =
    all_append (λ (s : Sent). IsSection s.bytes) h.0.sections (sent_by (past ++ x.airing ∷ []) xs h.1)
    (each_section past x.airing h.0.sections fit.0 h.0.are.each) (sent_each (past ++ x.airing ∷ []) xs h.1 fit.1)

-- ---- a part

-- the packets of a PID before a place are those before another place, and those between
count-between : (pid : ℕ) (ps : List Packet) (join end : ℕ) → join ≤ end
    → count_before pid ps end ≡ count_before pid ps join + length (of_pid pid (slice_range ps join end))
count-between pid ps join end le =
    let sum : end ≡ join + (end - join) = omega (arith, le) in
    ap (λ (k : ℕ). count_before pid ps k) sum ∙ ap (λ (l : List Packet). length (of_pid pid l)) (take-further join (end - join) ps)
    ∙ ap length (of_pid-append pid (take join ps) (slice_range ps join end))
    ∙ length-append (of_pid pid (take join ps)) (of_pid pid (slice_range ps join end))

-- of packets that carry sections, whose counters go on
part_of_packets : (pid : ℕ) → pid < 8191 → (all : List Packet) (ss : List (List ℕ)) (carries : Carries (of_pid pid all) ss)
    → AllByRecursion IsSection ss
    → GoOn pid all → PartsAreHeard pid all carries.groups
part_of_packets pid lt all ss carries each whole join end = go (le_either join end)
  where
    go : (join ≤ end) ⊎ (end ≤ join)
        → heard_between join end pid all ≡ within (count_before pid all join) (count_before pid all end) carries.groups
    go (inr le) =
        ap (λ (k : ℕ). sections_on pid (map bytes_of_packet (take k (drop join all))))
        (let none : end - join ≡ 0 = omega (arith, le) in none)
        ∙ sym (within-none (count_before pid all join) (count_before pid all end) carries.groups
        (inl (chosen-before (piece_on pid) end join all le)))
    go (inl le) =
        let part = slice_range all join end in
        let cut : take join all ++ (part ++ drop end all) ≡ all =
        ap (λ (l : List Packet). take join all ++ l) (sym (drop_split all join end le)) ∙ take-append-drop join all in
        let parts : of_pid pid (take join all) ++ (of_pid pid part ++ of_pid pid (drop end all)) ≡ pieces [] carries.groups =
        ap (λ (l : List Piece). of_pid pid (take join all) ++ l) (sym (of_pid-append pid part (drop end all)))
        ∙ sym (of_pid-append pid (take join all) (part ++ drop end all)) ∙ ap (of_pid pid) cut ∙ carries.are in
        let goes_on = part_goes_on pid (take join all) part (drop end all) (subst (GoOn pid) (sym cut) whole) in
        part_is_heard pid lt carries.groups carries.have_room (subst (AllByRecursion IsSection) carries.sections each)
        (of_pid pid (take join all)) (of_pid pid (drop end all)) part parts goes_on
        ∙ ap (λ (k : ℕ). within (count_before pid all join) k carries.groups) (sym (count-between pid all join end le))

pub joined_is_heard : JoinedIsHeard
joined_is_heard airings xs is fit pid lt carries =
    part_of_packets pid lt (air xs) (filter_map (sent_on pid) (sections_sent [] airings)) carries (sections-each pid [] airings fit)
    (GoOn-air airings xs is pid)

pub repeating_is_heard : RepeatingJoinedIsHeard
repeating_is_heard airings xs is fit pid lt carries =
    let sent : List Sent = sent_by [] xs is.cycles in
    part_of_packets pid lt (air xs) (filter_map (sent_on pid) sent) carries
    (each_on pid sent (sent_each [] xs is.cycles (subst CanBeSent (sym is.airings_are) fit)))
    (record { fields = is.fields; counted = (0, is.counted pid) })

-- by the groups of the cycles
pub joined_by : (airings : List AiredTables) (xs : List Aired) (is : IsRepeatingAirOf airings xs) → CanBeSent airings → (pid : ℕ) (lt : pid < 8191)
    → (join end : ℕ)
    → heard_between join end pid (air xs)
    ≡ within (count_before pid (air xs) join) (count_before pid (air xs) end) (groups_by pid lt [] xs is.cycles)
joined_by airings xs is fit pid lt join end = repeating_is_heard airings xs is fit pid lt (carried_by pid lt [] xs is.cycles) join end
