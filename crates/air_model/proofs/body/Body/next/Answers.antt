use Rattle.std.proofs.Common.{◌<◌, ◌+◌, ap, sym, ◌∙◌, arith, length}
use Rattle.std.specs.Prelude.{slice_index}
use Rattle.std.proofs.lemmas.List.{get_or_default}
use Rattle.air_model.specs.Cursor.{Rest, upto}
use Rattle.air_model.proofs.Cursors.{lead-step, part-less, part-full}
use Rattle.air_model.proofs.body.Body.next.Goals as goal

pub returns-then-self-clause-some : goal.returns-then-self-clause-some
returns-then-self-clause-some c = lead-step _ _ _ _ (ap (λ (r : Rest). r.items) (sym c.self.view_is)) c.if-self.true

pub returns-then-size-self-clause-some : goal.returns-then-size-self-clause-some
returns-then-size-self-clause-some c =
    let b = c.self.inside in
    let bound : b.far_at < length b.sizes.items = omega arith in
    part-less c.args.self.now.items (slice_index b.sizes.items) (upto b.near_from b.far_from) b.near_packets b.wants b.near_at b.far_from b.far_at (length b.sizes.items) c.from-size.result
    (ap (λ (r : Rest). r.items) (sym c.self.view_is)) c.if-self.false bound (c.from-size.ensures ∙ c.index.ensures ∙ get_or_default b.sizes.items b.far_at c.index.result.now 0 bound) c.if-size-self.true

pub returns-then-self-len-2-clause-some : goal.returns-then-self-len-2-clause-some
returns-then-self-len-2-clause-some c =
    let b = c.self.inside in
    let more : b.far_at + 1 < length b.sizes.items = omega arith in
    let bound : b.far_at < length b.sizes.items = omega arith in
    part-full c.args.self.now.items (slice_index b.sizes.items) (upto b.near_from b.far_from) b.near_packets b.wants b.near_at b.far_from b.far_at (length b.sizes.items) c.from-size.result
    (ap (λ (r : Rest). r.items) (sym c.self.view_is)) c.if-self.false more (c.from-size.ensures ∙ c.index.ensures ∙ get_or_default b.sizes.items b.far_at c.index.result.now 0 bound) c.if-size-self.false
