use Rattle.std.proofs.Common.{◌≡◌, ◌<◌, ◌∙◌, ℕ, List, length, take, false, nat_le, sym, arith}
use Rattle.std.proofs.lemmas.Bool.Decides.{nat_tests}
use Rattle.packet_reader.specs.Recordings.{is_packet}
use Rattle.packet_reader.proofs.RecordingFacts.{whole_piece, short_piece}
use Rattle.packet_reader.proofs.reader.begins_with_packet.Goals as goal

below : (bytes : List ℕ) → length bytes < 188 → nat_le 188 (length bytes) ≡ is_packet (take 188 bytes)
below bytes lt =
    let short : nat_le 188 (length bytes) ≡ false = grind (arith, nat_tests) in
    short ∙ sym (short_piece bytes lt)

pub returns-then-bytes-ge188 : goal.returns-then-bytes-ge188
returns-then-bytes-ge188 c = sym (whole_piece c.args.bytes.now c.if-bytes-ge188.true)

pub returns-else-bytes-ge188 : goal.returns-else-bytes-ge188
returns-else-bytes-ge188 c = below c.args.bytes.now c.if-bytes-ge188.false
