use Rattle.std.proofs.Common.{◌≡◌, ◌<◌, ◌==◌, ℕ, List, Option, Some, length, map, sym, ap, ◌∙◌, arith}
use Rattle.std.specs.Prelude.{if◌then◌else◌, option_map}
use Rattle.ts_demux.specs.Keeping.{PidState, kept_on}
use Rattle.ts_demux.proofs.Placing.{placed, length-mapped}
use Rattle.ts_demux.proofs.places.Places.put_slot.Goals as goal

pub returns : goal.returns
returns c q =
    let items = c.self.inside.slots.items in
    let same : length c.args.self.now ≡ length items = ap length (sym c.self.view_is) ∙ length-mapped (option_map (λ slot. slot.value)) items in
    let fits : c.from.result < length items = grind arith in
    placed (λ slot. slot.value) q c.from.result items (Some c.args.slot) fits
    ∙ ap (λ (n : ℕ). if n == q then c.args.slot.value else kept_on q (map (option_map (λ slot. slot.value)) items)) c.from.ensures
    ∙ ap (λ (x : List (Option PidState)). if c.args.pid == q then c.args.slot.value else kept_on q x) c.self.view_is
