use Rattle.std.proofs.Common.{◌≡◌, ◌<◌, ◌≤◌, ◌==◌, ℕ, List, Option, Some, length, map, sym, ap, ◌∙◌, arith}
use Rattle.std.specs.Prelude.{if◌then◌else◌, option_map}
use Rattle.ts_demux.specs.Keeping.{PidState, nothing, kept_in, kept_on}
use Rattle.ts_demux.proofs.Placing.{placed, no_place, length-mapped}
use Rattle.ts_demux.proofs.places.Places.forget.Goals as goal

pub returns-then-place-len : goal.returns-then-place-len
returns-then-place-len c q =
    let items = c.self.inside.slots.items in
    let fits : c.from-place.result < length items = grind arith in
    placed (λ slot. slot.value) q c.from-place.result items c.take.new.self fits
    ∙ ap (λ o. if c.from-place.result == q then kept_in (Some (option_map (λ slot. slot.value) o)) else kept_on q (map (option_map (λ slot. slot.value)) items)) c.take.ensures.after
    ∙ ap (λ (n : ℕ). if n == q then nothing else kept_on q (map (option_map (λ slot. slot.value)) items)) c.from-place.ensures
    ∙ ap (λ (x : List (Option PidState)). if c.args.pid == q then nothing else kept_on q x) c.self.view_is

pub returns-else-place-len : goal.returns-else-place-len
returns-else-place-len c q =
    let items = c.self.inside.slots.items in
    let same : length c.args.self.now ≡ length items = ap length (sym c.self.view_is) ∙ length-mapped (option_map (λ slot. slot.value)) items in
    let past : length c.args.self.now ≤ c.args.pid = grind arith in
    no_place q c.args.pid c.args.self.now past
