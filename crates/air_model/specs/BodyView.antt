-- What contracts see of a body: what is still to come of it.
use Rattle.std.specs.Prelude.{◌≤◌, ◌++◌, slice_index, length}
use Rattle.air_model.specs.Cursor.{upto, threaded, Rest}
use Rattle.air_model.specs.declared.body.Body.TheInside.{Inside}

abbrev pub rest_of : Inside → Rest
rest_of b = record {
  items = upto b.near_at b.far_from
      ++ threaded (slice_index b.sizes.items) (upto b.near_from b.far_from) b.near_packets b.wants (upto b.far_at (length b.sizes.items));
  sizes = b.sizes.items;
}

pub record IsBody (b : Inside) : Type 0 where
  pub tiers : b.near_from ≤ b.far_from
  pub near_at : b.near_at ≤ b.far_from
  pub far_from : b.far_from ≤ b.far_at
  pub far_at : b.far_at ≤ length b.sizes.items
