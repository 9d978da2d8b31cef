use Rattle.std.proofs.Common.{◌≡◌, ◌==◌, ℕ, List, subst}
use Rattle.std.specs.Prelude.{◌↔◌, IsTrue}
use Rattle.air_audit.specs.Fronts.{ToCome, nothing, to_come_on}
use Rattle.air_audit.proofs.Ways.{idle_is_end}
use Rattle.air_audit.proofs.progress.Progress.is_ended.Goals as goal

pub returns : goal.returns
returns c =
    let f = c.self.inside in
    subst (λ (l : List ToCome). IsTrue (f.busy == 0) ↔ ((pid : ℕ) → to_come_on l pid ≡ nothing)) c.self.view_is
    (idle_is_end f.bytes.items f.placed.items f.lanes.items f.busy c.self.invariant.each c.self.invariant.count)
