-- Between the bytes of a packet and its record.
use Rattle.std.proofs.Common.{◌≡◌, ℕ, zero, suc, ◌+◌, ◌-◌, ◌*◌, ◌/◌, ◌%◌, ◌<◌, ◌≢◌, List, [], ◌∷◌, Bool, true, false, Some, length, refl, sym, ap, ap₂, ◌∙◌, arith, drop, map}
use Rattle.std.specs.Prelude.{◌==◌, ◌||◌, nat_lt, if◌then◌else◌, slice_get, option_map, Ok}
use Rattle.std.proofs.lemmas.Bool.Decides.{nat_tests}
use Rattle.std.proofs.lemmas.Bool.{eqb-true}
use Rattle.std.proofs.lemmas.Option.{slice_get-map}
use Rattle.ts_packets.specs.declared.shape.Shape.{Shape}
use Rattle.ts_packets.specs.declared.shape.Shape.TheVariants.{Pass, Gap, Load}
use Rattle.ts_packets.specs.Packets.{Piece, piece_of, pieces, alone, packets_of}
use Rattle.ts_packets.specs.Bytes.{Packet, bytes_of_packet, HasFields, HasWrittenHeader, packet_on, packets_alone, pid_in, payload_unit_start_indicator, continuity_counter, adaptation_field_control, transport_error_indicator, transport_priority, transport_scrambling_control, adaptation_field_length, shape_in, load_at, packet_in, with_counter}
use Rattle.ts_packets.proofs.Carrying.{at_alone, piece_at}

-- the bytes of the packet at a place among those of a section alone
pub bytes_at : (pid : ℕ) (s : List ℕ) (i : ℕ) → i < packets_of (length s) → slice_get (map bytes_of_packet (packets_alone pid s)) i ≡ Some (bytes_of_packet (packet_on pid (piece_at s i)))
bytes_at pid s i lt =
    slice_get-map bytes_of_packet (packets_alone pid s) i
    ∙ ap (option_map bytes_of_packet) (slice_get-map (packet_on pid) (pieces [] (alone s)) i ∙ ap (option_map (packet_on pid)) (at_alone s i lt))

-- a packet that goes on with a section, by the place of its first byte
pub further_bytes : (pid : ℕ) (s : List ℕ) (i : ℕ) → 0 < i → i < packets_of (length s) → slice_get (map bytes_of_packet (packets_alone pid s)) i ≡ Some (bytes_of_packet (packet_on pid (piece_of (drop (184 * i - 1) s) [])))
further_bytes pid s zero some lt = absurd (omega arith)
further_bytes pid s (suc i) some lt = bytes_at pid s (suc i) lt ∙ ap (λ (k : ℕ). Some (bytes_of_packet (packet_on pid (piece_of (drop k s) [])))) (let e : 183 + 184 * i ≡ 184 * suc i - 1 = omega arith in e)

-- the second byte of a written packet, by its start indicator
second : Bool → ℕ → ℕ
second start pid = (if start then 64 else 0) + pid / 256

no_error : (start : Bool) (pid : ℕ) → pid < 8192 → (second start pid / 128 == 1) ≡ false
unfolding second
no_error true pid lt = grind (arith, nat_tests)
no_error false pid lt = grind (arith, nat_tests)

told_start : (start : Bool) (pid : ℕ) → pid < 8192 → ((second start pid / 64) % 2 == 1) ≡ start
unfolding second
told_start true pid lt = grind (arith, nat_tests)
told_start false pid lt = grind (arith, nat_tests)

told_pid : (start : Bool) (pid : ℕ) → pid < 8192 → (second start pid % 32) * 256 + pid % 256 ≡ pid
unfolding second
told_pid true pid lt = omega arith
told_pid false pid lt = omega arith

not_null : (pid : ℕ) → pid < 8191 → (pid == 8191) ≡ false
not_null pid lt = grind (arith, nat_tests)

not_scrambled : (counter : ℕ) → counter < 16 → nat_lt 0 ((16 + counter) / 64) ≡ false
not_scrambled counter lt = grind (arith, nat_tests)

has_payload : (counter : ℕ) → counter < 16 → ((16 + counter) / 16) % 4 ≡ 1
has_payload counter lt = omega arith

told_counter : (counter : ℕ) → counter < 16 → (16 + counter) % 16 ≡ counter
told_counter counter lt = omega arith

-- the third of the cases of a packet with the sync byte
third_case : (error scrambled null : Bool) (control : ℕ) (long : Bool) (gap skip at_four too_long behind : Shape) → error ≡ false → scrambled ≡ false → null ≡ false → control ≡ 1 →
    (if error || scrambled then gap else if null || (control == 0) || (control == 2) then skip else if control == 1 then at_four else if long then too_long else behind) ≡ at_four
third_case true scrambled null control long gap skip at_four too_long behind e s n c = cc
third_case false true null control long gap skip at_four too_long behind e s n c = cc
third_case false false true control long gap skip at_four too_long behind e s n c = cc
third_case false false false control long gap skip at_four too_long behind e s n c =
    ap (λ (k : ℕ). if false || (k == 0) || (k == 2) then skip else if k == 1 then at_four else if long then too_long else behind) c

-- A written packet of a PID that is not the null packets' reads as a load with its fields and the payload behind the header.
pub reads-written : (p : Packet) → p.pid < 8191 → p.counter < 16 → shape_in (bytes_of_packet p) ≡ Ok (Load p.pid p.piece.start p.counter 4)
unfolding second
reads-written p pid counter =
    let bytes = bytes_of_packet p in
    let told = told_pid p.piece.start p.pid (omega arith) in
    let null : (pid_in bytes == 8191) ≡ false = ap (λ (n : ℕ). n == 8191) told ∙ not_null p.pid pid in
    let case = third_case (transport_error_indicator bytes) (nat_lt 0 (transport_scrambling_control bytes)) (pid_in bytes == 8191) (adaptation_field_control bytes) (nat_lt 182 (adaptation_field_length bytes))
    (Gap (pid_in bytes)) Pass (load_at bytes 4) (Gap (pid_in bytes)) (load_at bytes (5 + adaptation_field_length bytes))
    (no_error p.piece.start p.pid (omega arith)) (not_scrambled p.counter counter) null (has_payload p.counter counter) in
    let load : load_at bytes 4 ≡ Load p.pid p.piece.start p.counter 4 =
    ap₂ (λ (n : ℕ) (b : Bool). Load n b (continuity_counter bytes) 4) told (told_start p.piece.start p.pid (omega arith)) ∙ ap (λ (n : ℕ). Load p.pid p.piece.start n 4) (told_counter p.counter counter) in
    ap Ok (case ∙ load)

no_priority : (start : Bool) (pid : ℕ) → pid < 8192 → ((second start pid / 32) % 2 == 1) ≡ false
unfolding second
no_priority true pid lt = grind (arith, nat_tests)
no_priority false pid lt = grind (arith, nat_tests)

-- The fixed fields of a header that is written.
pub record HasFixedFields (bytes : List ℕ) : Type 0 where
  pub sound : transport_error_indicator bytes ≡ false
  pub no_priority : transport_priority bytes ≡ false
  pub clear : transport_scrambling_control bytes ≡ 0
  pub payload_alone : adaptation_field_control bytes ≡ 1

pub fixed-written : (p : Packet) → HasFields p → HasFixedFields (bytes_of_packet p)
unfolding second
fixed-written p h = record {
  sound = no_error p.piece.start p.pid h.pid;
  no_priority = no_priority p.piece.start p.pid h.pid;
  clear = let lt = h.counter in omega arith;
  payload_alone = has_payload p.counter h.counter;
}

-- A packet is what its bytes read as, so its bytes determine it.
pub packet_in-bytes : (p : Packet) → HasFields p → packet_in (bytes_of_packet p) ≡ p
unfolding second
packet_in-bytes p h =
    let make = λ (n : ℕ) (c : ℕ) (b : Bool). let q : Packet = record { pid = n; counter = c; piece = record { start = b; payload = p.piece.payload } } in q in
    ap₂ (λ (n c : ℕ). make n c (payload_unit_start_indicator (bytes_of_packet p))) (told_pid p.piece.start p.pid h.pid) (told_counter p.counter h.counter)
    ∙ ap (make p.pid p.counter) (told_start p.piece.start p.pid h.pid)

other_told : (a b : ℕ) → (a == b) ≡ false → a ≢ b
other_told a b h e = grind (arith, nat_tests)

second_is : (b c : ℕ) (start : Bool) → b < 256 → c < 256 → b / 128 ≢ 1 → (b / 32) % 2 ≢ 1 → ((b / 64) % 2 == 1) ≡ start → second start ((b % 32) * 256 + c) ≡ b
unfolding second
second_is b c true b_lt c_lt error priority start = let one : (b / 64) % 2 ≡ 1 = eqb-true ((b / 64) % 2) 1 start in omega arith
second_is b c false b_lt c_lt error priority start = let zero_ : (b / 64) % 2 ≢ 1 = other_told ((b / 64) % 2) 1 start in omega arith

-- Bytes with a written header are those of the packet that they read as.
pub bytes-packet_in : (bytes : List ℕ) → HasWrittenHeader bytes → bytes_of_packet (packet_in bytes) ≡ bytes
unfolding second
bytes-packet_in [] h = absurd (let e = h.sync in cc)
bytes-packet_in (a ∷ []) h = absurd (omega (arith, h.size))
bytes-packet_in (a ∷ b ∷ []) h = absurd (omega (arith, h.size))
bytes-packet_in (a ∷ b ∷ c ∷ []) h = absurd (omega (arith, h.size))
bytes-packet_in (a ∷ b ∷ c ∷ d ∷ payload) h =
    let start = payload_unit_start_indicator (a ∷ b ∷ c ∷ d ∷ payload) in
    let one = second_is b c start h.second_byte h.third_byte (other_told (b / 128) 1 h.sound) (other_told ((b / 32) % 2) 1 h.no_priority) refl in
    let two : ((b % 32) * 256 + c) % 256 ≡ c = omega (arith, h.third_byte) in
    let three : 16 + d % 16 ≡ d = omega (arith, h.clear, h.payload_alone) in
    ap₂ (λ (x y : ℕ). x ∷ y ∷ ((b % 32) * 256 + c) % 256 ∷ (16 + d % 16) ∷ payload) (sym h.sync) one ∙ ap₂ (λ (x y : ℕ). a ∷ b ∷ x ∷ y ∷ payload) two three

-- the PID of a written packet stands in its bytes
pub pid_in-bytes : (p : Packet) → p.pid < 8192 → pid_in (bytes_of_packet p) ≡ p.pid
unfolding second
pid_in-bytes p h = told_pid p.piece.start p.pid h

-- another counter is another record
pub with_counter-bytes : (n pid : ℕ) (piece : Piece) → with_counter n (bytes_of_packet (packet_on pid piece)) ≡ bytes_of_packet (record { pid = pid; counter = n; piece = piece })
with_counter-bytes n pid piece = refl

pub length-bytes : (p : Packet) → length (bytes_of_packet p) ≡ 4 + length p.piece.payload
length-bytes p = omega arith
