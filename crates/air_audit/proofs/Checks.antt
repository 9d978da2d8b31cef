-- A packet that is checked.
use Rattle.std.proofs.Common.{◌≡◌, ℕ, ◌%◌, ◌<◌, List, [], ◌∷◌, ◌++◌, Bool, true, false, Option, Some, None, length, refl, sym, ap, ap₂, ◌∙◌, subst, arith, drop, eq-eqb, length-drop}
use Rattle.std.specs.Prelude.{◌==◌, ◌&&◌, ◌||◌, ◌↔◌, not, if◌then◌else◌, slice_index, IsNone, Result, Ok, Err}
use Rattle.std.specs.List.{AllByRecursion}
use Rattle.std.proofs.lemmas.Bool.{eqb-true}
use Rattle.std.proofs.lemmas.List.{map-append}
use Rattle.version_book.specs.Airings.{AiredTables}
use Rattle.version_book.specs.Book.{BookStandsFor}
use Rattle.ts_packets.specs.Packets.{Piece, all_of}
use Rattle.ts_packets.specs.Bytes.{Packet, HasFields, HasWrittenHeader, bytes_of_packet, packet_in, pid_in, payload_unit_start_indicator, continuity_counter, transport_error_indicator, transport_priority, transport_scrambling_control, adaptation_field_control}
use Rattle.ts_packets.specs.Counting.{StandFor, count_on, loads_on, of_pid}
use Rattle.ts_packets.proofs.Headers.{packet_in-bytes, bytes-packet_in, fixed-written}
use Rattle.ts_packets.proofs.Stamps.{count_on-written}
use Rattle.air_model.specs.Air.{airings_of, cycle_sections}
use Rattle.air_model.specs.declared.rule.Rule.{Rule}
use Rattle.air_model.specs.declared.rule.Rule.TheVariants.{Shape, Pid, Counter, Pointer, Bytes}
use Rattle.air_audit.specs.Fronts.{ToCome, nothing, CarrySoFar, GoesTo, IsApart, all_waiting, to_come_on}
use Rattle.air_audit.specs.Telling.{is_none, is_front, is_fill, is_pointer, begins_in, begun_in, told_start, told_further, told}
use Rattle.air_audit.specs.Audits.{AreAnAir, BeginAnAir, SoFar, on_pid, last_cycle, and_last}
use Rattle.air_audit.specs.Progress.{HasMoved}
use Rattle.air_audit.specs.Checking.{Checking, StandsFor, IsAtEnd, has_shape, is_nothing, is_misplaced, rule_broken}
use Rattle.si_lists.proofs.Lists.{all_behind, all_append}
use Rattle.air_audit.proofs.Telling.{goes-told, told-goes}
use Rattle.air_audit.proofs.Runs.{nothing_goes}
use Rattle.air_audit.proofs.Cycles.{AiringFits, cycle_apart}
use Rattle.air_audit.proofs.Airs.{GoesOn, begins-goes, goes-packet, so_far-begins, so_far-air, air-nothing, next_airing, none_aired}
use Rattle.air_audit.proofs.Ways.{is_nothing-is}

-- ---- the header

all_five : (a b c d : Bool) → a ≡ false → b ≡ false → c ≡ true → d ≡ true → (true && not a && not b && c && d) ≡ true
all_five true b c d p q r s = cc
all_five false true c d p q r s = cc
all_five false false false d p q r s = cc
all_five false false true false p q r s = cc
all_five false false true true p q r s = refl

-- the header of a packet that is written
pub shape_of_written : (p : Packet) → HasFields p → has_shape (bytes_of_packet p) ≡ true
shape_of_written p h =
    let bytes = bytes_of_packet p in
    let f = fixed-written p h in
    all_five (transport_error_indicator bytes) (transport_priority bytes) (transport_scrambling_control bytes == 0) (adaptation_field_control bytes == 1)
    f.sound f.no_priority (eq-eqb (transport_scrambling_control bytes) 0 f.clear) (eq-eqb (adaptation_field_control bytes) 1 f.payload_alone)

five_parts : (z a b c d : Bool) → (z && not a && not b && c && d) ≡ true → (z ≡ true) × (a ≡ false) × (b ≡ false) × (c ≡ true) × (d ≡ true)
five_parts false a b c d h = cc
five_parts true true b c d h = cc
five_parts true false true c d h = cc
five_parts true false false false d h = cc
five_parts true false false true false h = cc
five_parts true false false true true h = (refl, refl, refl, refl, refl)

pub shape_is_written : (bytes : List ℕ) → length bytes ≡ 188 → slice_index bytes 1 < 256 → slice_index bytes 2 < 256 → has_shape bytes ≡ true → HasWrittenHeader bytes
shape_is_written bytes size b c h =
    let all = five_parts (slice_index bytes 0 == 71) (transport_error_indicator bytes) (transport_priority bytes) (transport_scrambling_control bytes == 0) (adaptation_field_control bytes == 1) h in
    record {
      size = size;
      sync = eqb-true (slice_index bytes 0) 71 all.0;
      sound = all.1;
      no_priority = all.2;
      clear = eqb-true (transport_scrambling_control bytes) 0 all.3;
      payload_alone = eqb-true (adaptation_field_control bytes) 1 all.4;
      second_byte = b;
      third_byte = c;
    }

-- ---- refused

abbrev pub Exactly : List AiredTables → List (List ℕ) → List ℕ → Option Rule → Type 0
Exactly airings accepted bytes o = IsNone o ↔ BeginAnAir airings (accepted ++ bytes ∷ [])

-- where nothing goes on so, the packets are no prefix of an air
unless_goes : (airings : List AiredTables) (accepted : List (List ℕ)) (c : Checking) (bytes : List ℕ) (rule : Rule) (s : StandsFor airings accepted c) → (GoesOn s.packets (to_come_on c.on_pids) bytes → ⊥) → Exactly airings accepted bytes (Some rule)
unless_goes airings accepted c bytes rule s none = (
  λ e. cc,
  λ b. absurd (none (begins-goes airings s.packets (to_come_on c.on_pids) bytes s.can_be_sent s.so_far (subst (λ (l : List (List ℕ)). BeginAnAir airings (l ++ bytes ∷ [])) s.accepted_are b))),
)

pub wrong_shape : (airings : List AiredTables) (accepted : List (List ℕ)) (c : Checking) (bytes : List ℕ) → StandsFor airings accepted c → has_shape bytes ≡ false → Exactly airings accepted bytes (Some Shape)
wrong_shape airings accepted c bytes s e = unless_goes airings accepted c bytes Shape s wrong
  where
    wrong : GoesOn s.packets (to_come_on c.on_pids) bytes → ⊥
    wrong g = let written : has_shape bytes ≡ true = ap has_shape g.bytes_are ∙ shape_of_written g.packet g.fields in cc

-- the packet that goes on is the one that is read
is_read : (packets : List Packet) (f : ℕ → ToCome) (bytes : List ℕ) → (g : GoesOn packets f bytes) → g.packet ≡ packet_in bytes
is_read packets f bytes g = sym (ap packet_in g.bytes_are ∙ packet_in-bytes g.packet g.fields)

pub wrong_pid : (airings : List AiredTables) (accepted : List (List ℕ)) (c : Checking) (bytes : List ℕ) → StandsFor airings accepted c → is_nothing (to_come_on c.on_pids (pid_in bytes)) ≡ true → Exactly airings accepted bytes (Some Pid)
wrong_pid airings accepted c bytes s e = unless_goes airings accepted c bytes Pid s wrong
  where
    wrong : GoesOn s.packets (to_come_on c.on_pids) bytes → ⊥
    wrong g =
        let same : g.packet.pid ≡ pid_in bytes = ap (λ (p : Packet). p.pid) (is_read s.packets (to_come_on c.on_pids) bytes g) in
        let none : to_come_on c.on_pids g.packet.pid ≡ nothing = ap (to_come_on c.on_pids) same ∙ is_nothing-is (to_come_on c.on_pids (pid_in bytes)) e in
        nothing_goes g.packet.piece g.behind (subst (λ (t : ToCome). GoesTo t g.packet.piece g.behind) none g.goes)

-- the next counter of a PID, by the packets accepted
next_counter : (airings : List AiredTables) (accepted : List (List ℕ)) (c : Checking) (s : StandsFor airings accepted c) (pid : ℕ) → count_on pid accepted % 16 ≡ length (loads_on pid s.packets) % 16
next_counter airings accepted c s pid = ap (λ (n : ℕ). n % 16) (ap (count_on pid) s.accepted_are ∙ count_on-written pid s.packets s.so_far.fields)

pub wrong_counter : (airings : List AiredTables) (accepted : List (List ℕ)) (c : Checking) (bytes : List ℕ) → StandsFor airings accepted c → (continuity_counter bytes ≡ count_on (pid_in bytes) accepted % 16 → ⊥) → Exactly airings accepted bytes (Some Counter)
wrong_counter airings accepted c bytes s apart = unless_goes airings accepted c bytes Counter s wrong
  where
    wrong : GoesOn s.packets (to_come_on c.on_pids) bytes → ⊥
    wrong g =
        let same = is_read s.packets (to_come_on c.on_pids) bytes g in
        let counter : (packet_in bytes).counter ≡ length (loads_on (packet_in bytes).pid s.packets) % 16 = subst (λ (p : Packet). p.counter ≡ length (loads_on p.pid s.packets) % 16) same g.counter in
        apart (counter ∙ sym (next_counter airings accepted c s (pid_in bytes)))

-- the sections that wait can be told from fill
waiting_apart : (airings : List AiredTables) (packets : List Packet) (f : ℕ → ToCome) → AllByRecursion AiringFits airings → SoFar airings packets f → (pid : ℕ) → AllByRecursion IsApart (f pid).waiting
waiting_apart airings packets f told_all h pid = go h.last h.airings_are (h.carried pid)
  where
    go : (last : Option AiredTables) → airings ≡ and_last (airings_of h.xs) last → CarrySoFar (of_pid pid h.handed) (on_pid pid (last_cycle (airings_of h.xs) last)) (f pid) → AllByRecursion IsApart (f pid).waiting
    go None e c = all_behind IsApart (all_of c.groups) (f pid).waiting (subst (AllByRecursion IsApart) c.sections tt)
    go (Some a) e c =
        let last_told : AiringFits a = (all_behind AiringFits (airings_of h.xs) (a ∷ []) (subst (AllByRecursion AiringFits) e told_all)).0 in
        all_behind IsApart (all_of c.groups) (f pid).waiting (subst (AllByRecursion IsApart) c.sections (cycle_apart pid (airings_of h.xs) a last_told))

pub wrong_told : (airings : List AiredTables) (accepted : List (List ℕ)) (c : Checking) (bytes : List ℕ) (rule : Rule) → StandsFor airings accepted c → told (to_come_on c.on_pids (pid_in bytes)) (packet_in bytes).piece ≡ Err rule → Exactly airings accepted bytes (Some rule)
wrong_told airings accepted c bytes rule s e = unless_goes airings accepted c bytes rule s wrong
  where
    f : ℕ → ToCome
    f = to_come_on c.on_pids

    wrong : GoesOn s.packets (to_come_on c.on_pids) bytes → ⊥
    wrong g =
        let same = is_read s.packets (to_come_on c.on_pids) bytes g in
        let ok : told (to_come_on c.on_pids g.packet.pid) g.packet.piece ≡ Ok g.behind = goes-told (to_come_on c.on_pids g.packet.pid) g.behind g.packet.piece g.goes (waiting_apart airings s.packets (to_come_on c.on_pids) s.can_be_sent s.so_far g.packet.pid) in
        let read : told (to_come_on c.on_pids (pid_in bytes)) (packet_in bytes).piece ≡ Ok g.behind = subst (λ (p : Packet). told (to_come_on c.on_pids p.pid) p.piece ≡ Ok g.behind) same ok in
        let both : (let x : Result ToCome Rule = Err rule in x) ≡ Ok g.behind = sym e ∙ read in
        cc

-- ---- the rule of a payload

begun_rule : (ss : List (List ℕ)) (rest bytes : List ℕ) (rule : Rule) → begun_in rest bytes ss ≡ Err rule → rule ≡ Bytes
begun_rule [] rest bytes rule e = go (is_fill bytes) e
  where
    go : (b : Bool) → (if b then Ok (let t : ToCome = record { rest = rest; waiting = [] } in t) else Err Bytes) ≡ Err rule → rule ≡ Bytes
    go true e = cc
    go false e = cc
begun_rule (s ∷ ss) rest [] rule e = cc
begun_rule (s ∷ ss) rest (b ∷ bytes) rule e = go (b == 255) (is_fill (b ∷ bytes)) (is_front s (b ∷ bytes)) (begun_rule ss (drop (length (b ∷ bytes)) s) (drop (length s) (b ∷ bytes)) rule) e
  where
    go : (x y z : Bool) → (begun_in (drop (length (b ∷ bytes)) s) (drop (length s) (b ∷ bytes)) ss ≡ Err rule → rule ≡ Bytes)
        → (if x then (if y then Ok (let t : ToCome = record { rest = rest; waiting = s ∷ ss } in t) else Err Bytes) else if z then begun_in (drop (length (b ∷ bytes)) s) (drop (length s) (b ∷ bytes)) ss else Err Bytes) ≡ Err rule → rule ≡ Bytes
    go true true z rec e = cc
    go true false z rec e = cc
    go false y true rec e = rec e
    go false y false rec e = cc

begins_rule : (bytes : List ℕ) (ss : List (List ℕ)) (rule : Rule) → begins_in bytes ss ≡ Err rule → rule ≡ Bytes
begins_rule [] ss rule e = cc
begins_rule (b ∷ bytes) ss rule e = go (b == 255) (begun_rule ss [] (b ∷ bytes) rule) e
  where
    go : (x : Bool) → (begun_in [] (b ∷ bytes) ss ≡ Err rule → rule ≡ Bytes) → (if x then Err Bytes else begun_in [] (b ∷ bytes) ss) ≡ Err rule → rule ≡ Bytes
    go true rec e = cc
    go false rec e = rec e

start_rule : (t : ToCome) (pointer : ℕ) (bytes : List ℕ) (rule : Rule) → told_start t (pointer ∷ bytes) ≡ Err rule → rule ≡ (if is_none t.waiting || not (is_pointer pointer t.rest) then Pointer else Bytes)
start_rule t pointer bytes rule e = go (is_none t.waiting || not (is_pointer pointer t.rest)) (is_front t.rest bytes) e
  where
    go : (x y : Bool) → (if x then Err Pointer else if y then begins_in (drop (length t.rest) bytes) t.waiting else Err Bytes) ≡ Err rule → rule ≡ (if x then Pointer else Bytes)
    go true y e = cc
    go false true e = begins_rule (drop (length t.rest) bytes) t.waiting rule e
    go false false e = cc

further_rule : (t : ToCome) (payload : List ℕ) (rule : Rule) → told_further t payload ≡ Err rule → rule ≡ (if is_none t.rest then Pointer else Bytes)
further_rule t payload rule e = go (is_none t.rest) (is_front t.rest payload && is_fill (drop (length t.rest) payload)) e
  where
    go : (x y : Bool) → (if x then Err Pointer else if y then Ok (let u : ToCome = record { rest = drop (length payload) t.rest; waiting = t.waiting } in u) else Err Bytes) ≡ Err rule → rule ≡ (if x then Pointer else Bytes)
    go true y e = cc
    go false true e = cc
    go false false e = cc

told_rule : (t : ToCome) (bytes : List ℕ) (rule : Rule) → length bytes ≡ 188 → told t (packet_in bytes).piece ≡ Err rule → rule ≡ (if is_misplaced t bytes then Pointer else Bytes)
told_rule t [] rule size e = absurd (omega arith)
told_rule t (a ∷ []) rule size e = absurd (omega arith)
told_rule t (a ∷ b ∷ []) rule size e = absurd (omega arith)
told_rule t (a ∷ b ∷ c ∷ []) rule size e = absurd (omega arith)
told_rule t (a ∷ b ∷ c ∷ d ∷ []) rule size e = absurd (omega arith)
told_rule t (a ∷ b ∷ c ∷ d ∷ p ∷ body) rule size e = go (payload_unit_start_indicator (a ∷ b ∷ c ∷ d ∷ p ∷ body)) e
  where
    go : (start : Bool) → (if start then told_start t (p ∷ body) else told_further t (p ∷ body)) ≡ Err rule → rule ≡ (if (if start then is_none t.waiting || not (is_pointer p t.rest) else is_none t.rest) then Pointer else Bytes)
    go true e = start_rule t p body rule e
    go false e = further_rule t (p ∷ body) rule e

-- the rule of a packet whose shape, PID and counter are right
pub last_rule : (t : ToCome) (next : ℕ) (bytes : List ℕ) (rule : Rule) → length bytes ≡ 188 → has_shape bytes ≡ true → is_nothing t ≡ false → continuity_counter bytes ≡ next → told t (packet_in bytes).piece ≡ Err rule
    → rule ≡ rule_broken t next bytes
last_rule t next bytes rule size shape some counter e =
    told_rule t bytes rule size e
    ∙ sym (ap (λ (b : Bool). if not b then Shape else if is_nothing t then Pid else if not (continuity_counter bytes == next) then Counter else if is_misplaced t bytes then Pointer else Bytes) shape
    ∙ ap (λ (b : Bool). if b then Pid else if not (continuity_counter bytes == next) then Counter else if is_misplaced t bytes then Pointer else Bytes) some
    ∙ ap (λ (b : Bool). if not b then Counter else if is_misplaced t bytes then Pointer else Bytes) (eq-eqb (continuity_counter bytes) next counter))

-- ---- accepted

-- a move on the PID and with the payload of a packet
pub moved_at : (os new : List ToCome) (pid : ℕ) (start : Bool) (payload bytes : List ℕ) (o : Option Rule) → pid ≡ pid_in bytes → start ≡ payload_unit_start_indicator bytes → payload ≡ drop 4 bytes
    → HasMoved (told (to_come_on os pid) (record { start = start; payload = payload })) pid os new o → HasMoved (told (to_come_on os (pid_in bytes)) (packet_in bytes).piece) (pid_in bytes) os new o
moved_at os new pid start payload bytes o a b d h =
    subst (λ (l : List ℕ). HasMoved (told (to_come_on os (pid_in bytes)) (record { start = payload_unit_start_indicator bytes; payload = l })) (pid_in bytes) os new o) d
    (subst (λ (x : Bool). HasMoved (told (to_come_on os (pid_in bytes)) (record { start = x; payload = payload })) (pid_in bytes) os new o) b
    (subst (λ (n : ℕ). HasMoved (told (to_come_on os n) (record { start = start; payload = payload })) n os new o) a h))

pub moved_rule : (r : Result ToCome Rule) (pid : ℕ) (old new : List ToCome) (rule : Rule) → HasMoved r pid old new (Some rule) → r ≡ Err rule
moved_rule (Ok t) pid old new rule h = absurd h
moved_rule (Err x) pid old new rule h = ap Err (sym h)

record GoesNow (t : ToCome) (pid : ℕ) (old new : List ToCome) (piece : Piece) : Type 0 where
  told_is : told t piece ≡ Ok (to_come_on new pid)
  others : (q : ℕ) → (pid ≡ q → ⊥) → to_come_on new q ≡ to_come_on old q

moved_now : (t : ToCome) (pid : ℕ) (old new : List ToCome) (piece : Piece) → HasMoved (told t piece) pid old new None → GoesNow t pid old new piece
moved_now t pid old new piece h = go (told t piece) refl h
  where
    go : (r : Result ToCome Rule) → told t piece ≡ r → HasMoved r pid old new None → GoesNow t pid old new piece
    go (Ok u) e h = record { told_is = e ∙ ap Ok (sym h.0); others = h.1 }
    go (Err x) e h = absurd h

-- a packet whose header is right and that moved is accepted
pub accept : (airings : List AiredTables) (accepted : List (List ℕ)) (c new : Checking) (bytes : List ℕ) → StandsFor airings accepted c → HasWrittenHeader bytes → pid_in bytes < 8192 → continuity_counter bytes ≡ count_on (pid_in bytes) accepted % 16
    → new.book ≡ c.book → StandFor (accepted ++ bytes ∷ []) new.counters → HasMoved (told (to_come_on c.on_pids (pid_in bytes)) (packet_in bytes).piece) (pid_in bytes) c.on_pids new.on_pids None
    → StandsFor airings (accepted ++ bytes ∷ []) new
accept airings accepted c new bytes s header small counter book counters h =
    let p = packet_in bytes in
    let back : bytes_of_packet p ≡ bytes = bytes-packet_in bytes header in
    let g = moved_now (to_come_on c.on_pids (pid_in bytes)) (pid_in bytes) c.on_pids new.on_pids p.piece h in
    let size : length p.piece.payload ≡ 184 = omega (arith, length-drop 4 bytes, header.size) in
    let goes = told-goes (to_come_on c.on_pids (pid_in bytes)) (to_come_on new.on_pids (pid_in bytes)) p.piece.start p.piece.payload size g.told_is in
    let fields : HasFields p = record { pid = small; counter = omega arith } in
    record {
      can_be_sent = s.can_be_sent;
      versions = subst (BookStandsFor airings) (sym book) s.versions;
      counters = counters;
      packets = s.packets ++ p ∷ [];
      accepted_are = ap₂ (λ (l : List (List ℕ)) (b : List ℕ). l ++ b ∷ []) s.accepted_are (sym back) ∙ sym (map-append bytes_of_packet s.packets (p ∷ []));
      so_far = goes-packet airings s.packets (to_come_on c.on_pids) (to_come_on new.on_pids) p s.so_far fields (counter ∙ next_counter airings accepted c s (pid_in bytes)) goes g.others;
    }

-- what an auditor stands for is a prefix of an air
pub stands_begins : (airings : List AiredTables) (accepted : List (List ℕ)) (c : Checking) → StandsFor airings accepted c → BeginAnAir airings accepted
stands_begins airings accepted c s = subst (BeginAnAir airings) (sym s.accepted_are) (so_far-begins airings s.packets (to_come_on c.on_pids) s.can_be_sent s.so_far)

-- ---- airings

pub first_stands : (c : Checking) → c.on_pids ≡ [] → BookStandsFor [] c.book → StandFor [] c.counters → StandsFor [] [] c
first_stands c none book counters = record {
  can_be_sent = tt;
  versions = book;
  counters = counters;
  packets = [];
  accepted_are = refl;
  so_far = subst (λ (l : List ToCome). SoFar [] [] (to_come_on l)) (sym none) none_aired;
}

pub next_stands : (airings : List AiredTables) (accepted : List (List ℕ)) (c new : Checking) (a : AiredTables) → StandsFor airings accepted c → IsAtEnd c → AiringFits a → BookStandsFor (airings ++ a ∷ []) new.book → new.counters ≡ c.counters
    → ((pid : ℕ) → to_come_on new.on_pids pid ≡ all_waiting (on_pid pid (cycle_sections airings a))) → StandsFor (airings ++ a ∷ []) accepted new
next_stands airings accepted c new a s end told_last book counters begins = record {
  can_be_sent = all_append AiringFits airings (a ∷ []) s.can_be_sent (told_last, tt);
  versions = book;
  counters = subst (StandFor accepted) (sym counters) s.counters;
  packets = s.packets;
  accepted_are = s.accepted_are;
  so_far = next_airing airings s.packets (to_come_on c.on_pids) (to_come_on new.on_pids) a s.can_be_sent s.so_far end begins;
}

pub end_is_air : (airings : List AiredTables) (accepted : List (List ℕ)) (c : Checking) → StandsFor airings accepted c → IsAtEnd c ↔ AreAnAir airings accepted
end_is_air airings accepted c s = (
  λ end. subst (AreAnAir airings) (sym s.accepted_are) (so_far-air airings s.packets (to_come_on c.on_pids) s.can_be_sent s.so_far end),
  λ is. air-nothing airings s.packets (to_come_on c.on_pids) s.can_be_sent s.so_far (subst (AreAnAir airings) s.accepted_are is),
)
