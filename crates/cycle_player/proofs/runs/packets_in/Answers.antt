use Rattle.std.proofs.Common.{◌≡◌, ℕ, suc, ◌+◌, ◌-◌, List, [], ◌∷◌, Some, length, sym, ap, ◌∙◌, arith}
use Rattle.std.specs.Prelude.{slice_get}
use Rattle.std.specs.Option.{option_copied}
use Rattle.air_timing.specs.declared.timing.Timing.{Timing}
use Rattle.cycle_player.specs.Running.{after}
use Rattle.cycle_player.proofs.runs.packets_in.Goals as goal

after_last : (n : ℕ) (ts : List Timing) (t : Timing) → slice_get ts (length ts - 1) ≡ Some t → t.last + 1 ≡ after n ts
after_last n [] t e = cc
after_last n (u ∷ []) t e = let same : u ≡ t = cc in ap (λ (x : Timing). x.last + 1) (sym same)
after_last n (u ∷ v ∷ ts) t e = after_last (u.last + 1) (v ∷ ts) t (ap (slice_get (u ∷ v ∷ ts)) (let f : suc (length (v ∷ ts) - 1) ≡ length (u ∷ v ∷ ts) - 1 = omega arith in f) ∙ e)

pub returns-in-Some : goal.returns-in-Some
returns-in-Some c = after_last 0 c.args.timings.now c.in-Some.timing.now (sym c.last.ensures.value ∙ ap option_copied c.in-Some.is)
