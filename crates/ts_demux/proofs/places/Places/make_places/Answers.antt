use Rattle.std.proofs.Common.{ap, ◌∙◌, map}
use Rattle.std.specs.Prelude.{option_map}
use Rattle.ts_demux.specs.Keeping.{kept_on}
use Rattle.ts_demux.proofs.Placing.{one_more}
use Rattle.ts_demux.proofs.places.Places.make_places.Goals as goal

pub places-preserved : goal.places-preserved
places-preserved c q =
    ap (λ items. kept_on q (map (option_map (λ slot. slot.value)) items)) c.in_ok-push.ensures.items
    ∙ one_more (λ slot. slot.value) q c.places.self-inside.slots.items ∙ c.places.invariant q
