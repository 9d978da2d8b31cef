use Rattle.std.proofs.Common.{◌≡◌, ◌*◌, ◌/◌, ◌%◌, sym, ap, ◌∙◌, arith}
use Rattle.si_base.proofs.Linear.{zero_bytes, crc_from-zeros}
use Rattle.si_base.proofs.ZeroTables.{zeros_7_at, zeros_6_at, zeros_5_at, zeros_4_at}
use Rattle.si_base.proofs.Remainder.{word, word_moved}
use Rattle.si_base.proofs.crc.before_eight.Goals as goal

pub returns : goal.returns
returns c = let w = c.args.word in
    let a = w / 16777216 % 256 in let b = w / 65536 % 256 in let d = w / 256 % 256 in let e = w % 256 in
    let whole : word a b d e ≡ w = omega arith in
    let first : c.zeros_7.result ≡ zero_bytes 8 (a * 16777216) = c.zeros_7.ensures ∙ rw c.to_be_bytes.ensures (zeros_7_at a (omega arith)) in
    let second : c.zeros_6.result ≡ zero_bytes 7 (b * 16777216) = c.zeros_6.ensures ∙ rw c.to_be_bytes.ensures (zeros_6_at b (omega arith)) in
    let third : c.zeros_5.result ≡ zero_bytes 6 (d * 16777216) = c.zeros_5.ensures ∙ rw c.to_be_bytes.ensures (zeros_5_at d (omega arith)) in
    let fourth : c.zeros_4.result ≡ zero_bytes 5 (e * 16777216) = c.zeros_4.ensures ∙ rw c.to_be_bytes.ensures (zeros_4_at e (omega arith)) in
    rw (first, second, third, fourth) (word_moved 5 a b d e (omega arith) (omega arith) (omega arith) ∙ ap (zero_bytes 8) whole ∙ sym (crc_from-zeros 8 w))
