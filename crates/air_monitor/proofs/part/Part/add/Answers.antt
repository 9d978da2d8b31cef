use Rattle.std.proofs.Common.{◌≡◌, ◌+◌, ◌++◌, ℕ, List, length, take, sym, ap, ap₂, ◌∙◌}
use Rattle.air_monitor.proofs.part.Part.add.Goals as goal

pub returns-clause-bytes : goal.returns-clause-bytes
returns-clause-bytes c =
    let size : length c.split_at.result.0.now ≡ c.min-count.result = c.split_at.ensures.front_len in
    ap (λ n. take (c.self.inside.filled + n) c.put_at.new.bytes) (sym size) ∙ c.put_at.ensures
    ∙ ap₂ (λ (x y : List ℕ). x ++ y) c.self.view_is c.split_at.ensures.front
