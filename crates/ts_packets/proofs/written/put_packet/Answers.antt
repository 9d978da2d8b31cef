use Rattle.std.proofs.Common.{◌≡◌, ◌-◌, ◌*◌, ◌<◌, ◌++◌, List, ℕ, Some, length, drop, sym, ap, ap₂, ◌∙◌, arith}
use Rattle.ts_packets.specs.Packets.{filled}
use Rattle.ts_packets.proofs.Headers.{further_bytes}
use Rattle.ts_packets.proofs.written.put_packet.Goals as goal

pub returns-else-index-eq0 : goal.returns-else-index-eq0
returns-else-index-eq0 c =
    let some : 0 < c.args.index = omega arith in
    let room : length c.split_at_mut-header.result.1.now ≡ 184 = omega arith in
    let load : c.put_load-else-index-eq0.new.payload ≡ filled 184 (drop (184 * c.args.index - 1) c.args.section.now) =
    c.put_load-else-index-eq0.ensures ∙ ap₂ (λ (n : ℕ) (s : List ℕ). filled n s) room c.split_at.ensures.back in
    further_bytes c.args.pid c.args.section.now c.args.index some c.requires.index
    ∙ ap Some (sym (ap₂ (λ (a b : List ℕ). a ++ b) c.put_header-else-index-eq0.ensures load))
