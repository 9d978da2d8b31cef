use Rattle.std.proofs.Common.{◌≡◌, ◌<◌, ◌==◌, ℕ, List, Option, Some, length, map, sym, ap, ◌∙◌, arith}
use Rattle.std.specs.Prelude.{if◌then◌else◌, option_map}
use Rattle.si_lists.proofs.Outcomes.{on_ok}
use Rattle.ts_demux.specs.Keeping.{PidState, nothing, kept_in, kept_on}
use Rattle.ts_demux.proofs.Placing.{placed, length-mapped}
use Rattle.ts_demux.proofs.places.Places.take_slot.Goals as goal

pub returns-clause-taken : goal.returns-clause-taken
returns-clause-taken c = on_ok c.match-take.result _ (λ q.
    let items = c.self.inside.slots.items in
    let same : length c.args.self.now ≡ length items = ap length (sym c.self.view_is) ∙ length-mapped (option_map (λ slot. slot.value)) items in
    let fits : c.from.result < length items = grind arith in
    placed (λ slot. slot.value) q c.from.result items c.take.new.self fits
    ∙ ap (λ o. if c.from.result == q then kept_in (Some (option_map (λ slot. slot.value) o)) else kept_on q (map (option_map (λ slot. slot.value)) items)) c.take.ensures.after
    ∙ ap (λ (n : ℕ). if n == q then nothing else kept_on q (map (option_map (λ slot. slot.value)) items)) c.from.ensures
    ∙ ap (λ (x : List (Option PidState)). if c.args.pid == q then nothing else kept_on q x) c.self.view_is)
