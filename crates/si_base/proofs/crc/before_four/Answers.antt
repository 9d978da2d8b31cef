use Rattle.std.proofs.Common.{◌≡◌, ◌*◌, ◌/◌, ◌%◌, sym, ap, ◌∙◌, arith}
use Rattle.si_base.proofs.Linear.{zero_bytes, crc_from-zeros}
use Rattle.si_base.proofs.ZeroTables.{zeros_3_at, zeros_2_at, zeros_1_at, zeros_0_at}
use Rattle.si_base.proofs.Remainder.{word, word_moved}
use Rattle.si_base.proofs.crc.before_four.Goals as goal

pub returns : goal.returns
returns c = let w = c.args.word in
    let a = w / 16777216 % 256 in let b = w / 65536 % 256 in let d = w / 256 % 256 in let e = w % 256 in
    let whole : word a b d e ≡ w = omega arith in
    let first : c.zeros_3.result ≡ zero_bytes 4 (a * 16777216) = c.zeros_3.ensures ∙ rw c.to_be_bytes.ensures (zeros_3_at a (omega arith)) in
    let second : c.zeros_2.result ≡ zero_bytes 3 (b * 16777216) = c.zeros_2.ensures ∙ rw c.to_be_bytes.ensures (zeros_2_at b (omega arith)) in
    let third : c.zeros_1.result ≡ zero_bytes 2 (d * 16777216) = c.zeros_1.ensures ∙ rw c.to_be_bytes.ensures (zeros_1_at d (omega arith)) in
    let fourth : c.zeros_0.result ≡ zero_bytes 1 (e * 16777216) = c.zeros_0.ensures ∙ rw c.to_be_bytes.ensures (zeros_0_at e (omega arith)) in
    rw (first, second, third, fourth) (word_moved 1 a b d e (omega arith) (omega arith) (omega arith) ∙ ap (zero_bytes 4) whole ∙ sym (crc_from-zeros 4 w))
