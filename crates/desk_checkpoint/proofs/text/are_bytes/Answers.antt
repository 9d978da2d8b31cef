use Rattle.std.proofs.Common.{ℕ, suc, ◌<◌, List, [], ◌∷◌, get_or, arith}
use Rattle.desk_checkpoint.specs.Text.{AreBytes}
use Rattle.desk_checkpoint.proofs.text.are_bytes.Goals as goal

each : (numbers : List ℕ) → ((i : ℕ) → get_or numbers i 0 < 256) → AreBytes numbers
each [] at = tt
each (n ∷ numbers) at = (at 0, each numbers (λ i. at (suc i)))

pub returns : goal.returns
returns c = each c.args.bytes.now (λ i. omega (arith, c.type_inv.bytes i))
