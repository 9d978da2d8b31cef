-- Packets handed out, piece by piece.
use Rattle.std.proofs.Common.{◌≡◌, ℕ, suc, ◌+◌, ◌*◌, ◌/◌, ◌%◌, ◌<◌, List, [], ◌∷◌, ◌++◌, length, refl, sym, ap, ap₂, ◌∙◌, subst, arith, map, take, append_assoc, append-nil}
use Rattle.std.specs.Prelude.{flat_map, if◌then◌else◌, Option}
use Rattle.std.specs.List.{AllByRecursion}
use Rattle.std.proofs.lemmas.List.{map-append}
use Rattle.std.proofs.Math.Seq.{take-append-add, take-append_seam}
use Rattle.std.proofs.lemmas.List.Concat.{flat_map-append}
use Rattle.si_lists.proofs.Lists.{all_append}
use Rattle.ts_packets.specs.Bytes.{Packet, HasFields, bytes_of_packet, pid_in, with_counter}
use Rattle.ts_packets.specs.Counting.{StandFor, count_on, loads_on}
use Rattle.ts_packets.proofs.Headers.{pid_in-bytes}
use Rattle.ts_packets.proofs.Stamps.{count_on-written}
use Rattle.air_model.specs.Making.{count_behind, counted}
use Rattle.air_model.proofs.Counted.{PidsFit, counted-append, fields-counted}
use Rattle.carousel_player.specs.Sending.{IsUncounted, PutsFirst, Sends}

pids_fit : (ps : List Packet) → AllByRecursion IsUncounted ps → PidsFit ps
pids_fit [] h = tt
pids_fit (p ∷ ps) h = (h.0.pid, pids_fit ps h.1)

-- nothing
pub Sends-none : (left : List Packet) (counters : List (Option ℕ)) → Sends left left counters counters []
Sends-none left counters = record {
  front = [];
  cut = refl;
  fit = tt;
  bytes_are = λ past fields s. refl;
  count = λ past fields s. subst (λ (l : List Packet). StandFor (map bytes_of_packet l) counters) (sym (append-nil past)) s;
}

-- a packet whose counter is set after the past
stamped_bytes : (past : List Packet) (p : Packet) → AllByRecursion HasFields past → IsUncounted p →
    with_counter (count_on (pid_in (bytes_of_packet p)) (map bytes_of_packet past) % 16) (bytes_of_packet p) ≡ bytes_of_packet (count_behind past p)
stamped_bytes past p fields h =
    let told : pid_in (bytes_of_packet p) ≡ p.pid = pid_in-bytes p h.pid in
    let count : count_on (pid_in (bytes_of_packet p)) (map bytes_of_packet past) % 16 ≡ length (loads_on p.pid past) % 16 =
    ap (λ (n : ℕ). n % 16) (ap (λ (q : ℕ). count_on q (map bytes_of_packet past)) told ∙ count_on-written p.pid past fields) in
    ap (λ (n : ℕ). 71 ∷ ((if p.piece.start then 64 else 0) + p.pid / 256) ∷ (p.pid % 256) ∷ n ∷ p.piece.payload)
    (let e : 16 * ((16 + p.counter) / 16) + count_on (pid_in (bytes_of_packet p)) (map bytes_of_packet past) % 16 ≡ 16 + length (loads_on p.pid past) % 16 = omega (arith, count, h.counter) in e)

-- one packet
pub Sends-one : (old new : List Packet) (counters counters_new : List (Option ℕ)) (unit bytes : List ℕ) → 0 < length old → PutsFirst old new unit
    → ((past : List (List ℕ)) → StandFor past counters → bytes ≡ with_counter (count_on (pid_in unit) past % 16) unit)
    → ((past : List (List ℕ)) → StandFor past counters → StandFor (past ++ bytes ∷ []) counters_new)
    → Sends old new counters counters_new bytes
Sends-one [] new counters counters_new unit bytes some put stamped count = absurd (omega arith)
Sends-one (p ∷ ps) new counters counters_new unit bytes some put stamped count = record {
  front = p ∷ [];
  cut = ap (λ (l : List Packet). p ∷ l) (sym put.0);
  fit = (put.2, tt);
  bytes_are = λ past fields s. is past fields s ∙ sym (append-nil (bytes_of_packet (count_behind past p)));
  count = λ past fields s. subst (λ (l : List (List ℕ)). StandFor l counters_new)
      (ap (λ (b : List ℕ). map bytes_of_packet past ++ b ∷ []) (is past fields s) ∙ sym (map-append bytes_of_packet past (count_behind past p ∷ [])))
      (count (map bytes_of_packet past) s);
}
  where
    is : (past : List Packet) → AllByRecursion HasFields past → StandFor (map bytes_of_packet past) counters → bytes ≡ bytes_of_packet (count_behind past p)
    is past fields s =
        stamped (map bytes_of_packet past) s ∙ ap (λ (b : List ℕ). with_counter (count_on (pid_in b) (map bytes_of_packet past) % 16) b) put.1 ∙ stamped_bytes past p fields put.2

-- one packet fewer is to come
pub puts-length : (old new : List Packet) (bytes : List ℕ) → 0 < length old → PutsFirst old new bytes → length old ≡ suc (length new)
puts-length [] new bytes some put = absurd (omega arith)
puts-length (p ∷ ps) new bytes some put = ap (λ (l : List Packet). suc (length l)) (sym put.0)

-- one list after the other
pub Sends-trans : (a b c : List Packet) (one two three : List (Option ℕ)) (first second : List ℕ) → Sends a b one two first → Sends b c two three second → Sends a c one three (first ++ second)
Sends-trans a b c one two three first second s t = record {
  front = s.front ++ t.front;
  cut = s.cut ∙ ap (λ (l : List Packet). s.front ++ l) t.cut ∙ sym (append_assoc s.front t.front c);
  fit = all_append IsUncounted s.front t.front s.fit t.fit;
  bytes_are = λ past fields stand.
      ap₂ (λ (x y : List ℕ). x ++ y) (s.bytes_are past fields stand) (t.bytes_are (past ++ counted past s.front) (behind past fields) (s.count past fields stand))
      ∙ sym (flat_map-append bytes_of_packet (counted past s.front) (counted (past ++ counted past s.front) t.front))
      ∙ ap (flat_map bytes_of_packet) (sym (counted-append past s.front t.front));
  count = λ past fields stand. subst (λ (l : List Packet). StandFor (map bytes_of_packet l) three)
      (append_assoc past (counted past s.front) (counted (past ++ counted past s.front) t.front) ∙ ap (λ (l : List Packet). past ++ l) (sym (counted-append past s.front t.front)))
      (t.count (past ++ counted past s.front) (behind past fields) (s.count past fields stand));
}
  where
    behind : (past : List Packet) → AllByRecursion HasFields past → AllByRecursion HasFields (past ++ counted past s.front)
    behind past fields = all_append HasFields past (counted past s.front) fields (fields-counted past s.front (pids_fit s.front s.fit))

-- one more packet in the buffer
pub take_packet : (n : ℕ) (front packet rest : List ℕ) → length front ≡ n → length packet ≡ 188 → take (n + 188) (front ++ (packet ++ rest)) ≡ front ++ packet
take_packet n front packet rest size one =
    ap₂ (λ (a b : ℕ). take (a + b) (front ++ (packet ++ rest))) (sym size) (sym one) ∙ take-append-add front (packet ++ rest) (length packet) ∙ ap (λ (l : List ℕ). front ++ l) (take-append_seam packet rest)
