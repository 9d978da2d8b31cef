-- What contracts see of a plan: the sections still to come in the cycle.
use Rattle.std.specs.Prelude.{ℕ, List, ◌++◌, slice_index}
use Rattle.air_model.specs.Cursor.{upto, threaded}
use Rattle.air_model.specs.declared.cycle.CyclePlan.TheInside.{Inside}

abbrev pub left_of : Inside → List ℕ
left_of c = upto c.fast_at c.fasts ++ threaded (slice_index c.body.sizes) (upto 0 c.fasts) c.quota c.wants c.body.items
