use Rattle.std.proofs.Common.{◌≡◌, ◌≤◌, ◌+◌, ◌-◌, ◌<◌, ◌∙◌, ◌==◌, ℕ, List, length, take, drop, slice_index, false, nat_le, sym, ap, arith, length-drop}
use Rattle.std.proofs.lemmas.List.{get_or-drop}
use Rattle.std.proofs.lemmas.Bool.Decides.{nat_tests}
use Rattle.packet_reader.specs.Recordings.{is_packet}
use Rattle.packet_reader.proofs.RecordingFacts.{whole_piece, short_piece}
use Rattle.packet_finder.proofs.rows.is_packet_at.Goals as goal

whole : (bytes : List ℕ) (place : ℕ) → 188 ≤ length bytes - place → (slice_index bytes place == 0x47) ≡ is_packet (take 188 (drop place bytes))
whole bytes place enough =
    ap (λ k. slice_index bytes k == 0x47) (let e : place ≡ place + 0 = omega arith in e) ∙ ap (λ b. b == 0x47) (sym (get_or-drop place bytes 0 0))
    ∙ sym (whole_piece (drop place bytes) (omega (arith, enough, length-drop place bytes)))

short : (bytes : List ℕ) (place : ℕ) → length bytes - place < 188 → false ≡ is_packet (take 188 (drop place bytes))
short bytes place few = sym (short_piece (drop place bytes) (omega (arith, few, length-drop place bytes)))

pub returns-then-bytes-place-ge-PACKET : goal.returns-then-bytes-place-ge-PACKET
returns-then-bytes-place-ge-PACKET c = whole c.args.bytes.now c.args.place c.if-bytes-place-ge-PACKET.true

pub returns-else-bytes-place-ge-PACKET : goal.returns-else-bytes-place-ge-PACKET
returns-else-bytes-place-ge-PACKET c =
    let few : nat_le 188 (length c.args.bytes.now - c.args.place) ≡ false = grind (arith, nat_tests, c.if-bytes-place-ge-PACKET.false) in
    few ∙ short c.args.bytes.now c.args.place c.if-bytes-place-ge-PACKET.false
