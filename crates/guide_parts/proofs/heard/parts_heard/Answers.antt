use Rattle.std.proofs.Common.{◌≡◌, refl, sym, ◌∙◌}
use Rattle.guide_parts.specs.Parts.{keys_over, parts_over}
use Rattle.guide_parts.specs.Holding.{KeepsParts}
use Rattle.guide_parts.proofs.KeyLists.{one_list}
use Rattle.guide_parts.proofs.KeysOver.{keys_are_over}
use Rattle.guide_parts.proofs.heard.parts_heard.Goals as goal

pub returns : goal.returns
returns c V taken holds stands offsets others =
    let P = parts_over V taken in
    let had = c.in_ok-keys.ensures taken stands in
    let keys : keys_over taken ≡ c.in_ok-keys.keys.items = one_list taken (keys_over taken) c.in_ok-keys.keys.items (keys_are_over taken) had in
    let keeps : KeepsParts c.args.contents.now P.part = record { past = taken; stands = stands; each = λ k. refl } in
    let wanting = c.in_ok-wanting.ensures V holds in
    let shown = c.in_ok-shown.ensures P holds keeps (keys ∙ sym c.deref.ensures.value) offsets others in
    λ i. record { wanting = wanting i; shown = shown i }
