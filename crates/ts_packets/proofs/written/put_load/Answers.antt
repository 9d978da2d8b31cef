use Rattle.std.proofs.Common.{◌≡◌, ◌++◌, ◌-◌, length, take, replicate, ap, ap₂, ◌∙◌, List, ℕ, arith}
use Rattle.ts_packets.proofs.Filling.{filled-parts}
use Rattle.ts_packets.proofs.written.put_load.Goals as goal

pub returns : goal.returns
returns c =
    let rest : length c.split_at_mut-place.result.1.now ≡ length c.args.payload.now - c.min-count.result = omega arith in
    let front : c.copy_from_slice.new.self ≡ take c.min-count.result c.args.load.now = cc in
    let fill : c.fill.new.self ≡ replicate (length c.args.payload.now - c.min-count.result) 255 =
    c.fill.ensures.after (λ y e. e) ∙ ap (λ (k : ℕ). replicate k 255) rest in
    ap₂ (λ (a b : List ℕ). a ++ b) front fill ∙ filled-parts (length c.args.payload.now) c.min-count.result c.args.load.now c.min-count.ensures
